-- These are the numbers that the code's constants must be, in the order in which src/limits.rt has them.
use Rattle.std.specs.Prelude.{ℕ, List, [], ◌∷◌, ℤ}
use Rattle.rules.specs.Limits.{least_horizon, most_horizon, quarter_seconds, most_quarters, most_id, most_text, configuration_width, most_configurations, least_travel, most_travel, leg_width, most_legs, least_listed, most_listed, profile_width, most_profiles, least_sampled, most_sampled, most_samples, most_kw, constraint_width, most_constraints, most_seconds, most_subnets, track_width, most_tracks, most_events, most_nodes, node_width, least_name, most_name, most_time, day_seconds, hour_seconds, minute_seconds, unsigned_fill, byte_fill, most_kj, kj_a_mwh, kj_a_mw, signed_fill}
use Rattle.rules.specs.Answers.{bad_horizon, too_long, bad_header, bad_row, out_of_range, too_many, already_seen, nominal_not_listed, bad_json, unknown_name, repeated_or_missing, not_there, wrong_samples, differs, no_subnet, no_room, unequal_travel, no_solution, unknown_edition, no_file, timetable_file, profiles_file, constraints_file, solution_file, second_file, duties_file}
use Rattle.rules.specs.Kinds.{not_offered, headway, single_track, dwell, turnaround, connection, unknown, subnets, first_leg, second_leg, min_headway, min_dwell, min_turnaround, min_connection, max_connection, connection_type, subnet_id, track_ids, table_edition, example_edition, anchor_number, no_anchor, by_d, by_d_t, by_x, latest, no_type, by_arrival, by_departure}
use Rattle.rules.specs.Constraints.{all_lists}
use Rattle.rules.specs.Duties.{duty_column, seq_column, start_column, start_text_column, end_column, end_text_column, from_column, to_column, type_column, course_column, columns, later_rule, stays_rule, together_rule, sequence_rule, meets_rule, texts_rule, first_byte, last_byte}

abbrev pub limits : List ℕ
limits =
    least_horizon
    ∷ most_horizon
    ∷ quarter_seconds
    ∷ most_quarters
    ∷ most_id
    ∷ most_text
    ∷ configuration_width
    ∷ most_configurations
    ∷ least_travel
    ∷ most_travel
    ∷ configuration_width
    ∷ leg_width
    ∷ most_legs
    ∷ least_listed
    ∷ most_listed
    ∷ profile_width
    ∷ most_profiles
    ∷ least_sampled
    ∷ most_sampled
    ∷ most_samples
    ∷ most_kw
    ∷ constraint_width
    ∷ most_constraints
    ∷ most_seconds
    ∷ most_subnets
    ∷ track_width
    ∷ most_tracks
    ∷ most_events
    ∷ most_nodes
    ∷ node_width
    ∷ least_name
    ∷ most_name
    ∷ most_time
    ∷ day_seconds
    ∷ hour_seconds
    ∷ minute_seconds
    ∷ unsigned_fill
    ∷ byte_fill
    ∷ most_kj
    ∷ kj_a_mwh
    ∷ kj_a_mw
    ∷ []

abbrev pub signed_fills : List ℤ
signed_fills = signed_fill ∷ []

abbrev pub numbers : List ℕ
numbers =
    bad_horizon
    ∷ too_long
    ∷ bad_header
    ∷ bad_row
    ∷ out_of_range
    ∷ too_many
    ∷ already_seen
    ∷ nominal_not_listed
    ∷ bad_json
    ∷ unknown_name
    ∷ repeated_or_missing
    ∷ not_there
    ∷ wrong_samples
    ∷ differs
    ∷ no_subnet
    ∷ no_room
    ∷ unequal_travel
    ∷ no_solution
    ∷ unknown_edition
    ∷ no_file
    ∷ timetable_file
    ∷ profiles_file
    ∷ constraints_file
    ∷ solution_file
    ∷ second_file
    ∷ duties_file
    ∷ []

abbrev pub names : List ℕ
names =
    not_offered
    ∷ headway
    ∷ single_track
    ∷ dwell
    ∷ turnaround
    ∷ connection
    ∷ unknown
    ∷ subnets
    ∷ all_lists
    ∷ unknown
    ∷ first_leg
    ∷ second_leg
    ∷ min_headway
    ∷ min_dwell
    ∷ min_turnaround
    ∷ min_connection
    ∷ max_connection
    ∷ connection_type
    ∷ subnet_id
    ∷ track_ids
    ∷ table_edition
    ∷ example_edition
    ∷ anchor_number no_anchor
    ∷ anchor_number by_d
    ∷ anchor_number by_d_t
    ∷ anchor_number by_x
    ∷ anchor_number latest
    ∷ no_type
    ∷ by_arrival
    ∷ by_departure
    ∷ duty_column
    ∷ seq_column
    ∷ start_column
    ∷ start_text_column
    ∷ end_column
    ∷ end_text_column
    ∷ from_column
    ∷ to_column
    ∷ type_column
    ∷ course_column
    ∷ columns
    ∷ later_rule
    ∷ stays_rule
    ∷ together_rule
    ∷ sequence_rule
    ∷ meets_rule
    ∷ texts_rule
    ∷ first_byte
    ∷ last_byte
    ∷ []

-- Each number of document 01's "Sizes", and each width of "The tables", stands here once. `limits_are_the_laws` ties the code's constants to them.
use Rattle.std.specs.Prelude.{ℕ, ℤ, negsuc}

-- H, in seconds; a quarter hour, and how many the greatest H has
abbrev pub least_horizon : ℕ
least_horizon = 1

abbrev pub most_horizon : ℕ
most_horizon = 176_400

abbrev pub quarter_seconds : ℕ
quarter_seconds = 900

abbrev pub most_quarters : ℕ
most_quarters = 196

-- the bytes of a text, and the greatest id
abbrev pub most_text : ℕ
most_text = 67_108_864

abbrev pub most_id : ℕ
most_id = 999_999_999

-- legs: in all, and the numbers of a table's entry
abbrev pub most_legs : ℕ
most_legs = 32_768

abbrev pub leg_width : ℕ
leg_width = 8

-- configurations: of a leg, in all, and the numbers of an entry; a choice has as many
abbrev pub least_listed : ℕ
least_listed = 1

abbrev pub most_listed : ℕ
most_listed = 64

abbrev pub most_configurations : ℕ
most_configurations = 1_048_576

abbrev pub configuration_width : ℕ
configuration_width = 3

-- travel times, in seconds
abbrev pub least_travel : ℕ
least_travel = 1

abbrev pub most_travel : ℕ
most_travel = 3_600

-- profiles: in all, and the numbers of an entry
abbrev pub most_profiles : ℕ
most_profiles = 16_384

abbrev pub profile_width : ℕ
profile_width = 3

-- samples: of a profile, in all, and the greatest size in kilowatts
abbrev pub least_sampled : ℕ
least_sampled = 1

abbrev pub most_sampled : ℕ
most_sampled = 3_600

abbrev pub most_samples : ℕ
most_samples = 1_048_576

abbrev pub most_kw : ℕ
most_kw = 20_000

-- constraints: in all, the numbers of an entry, the greatest seconds that a record may carry
abbrev pub most_constraints : ℕ
most_constraints = 65_536

abbrev pub constraint_width : ℕ
constraint_width = 6

abbrev pub most_seconds : ℕ
most_seconds = 86_400

-- subnets and tracks, and the numbers of a track's entry
abbrev pub most_subnets : ℕ
most_subnets = 8

abbrev pub most_tracks : ℕ
most_tracks = 4_096

abbrev pub track_width : ℕ
track_width = 2

-- rolling stock duties (document 02, E13): rows, nodes and the numbers of a node's entry, the bytes of a name, the greatest SEQ and time
abbrev pub most_events : ℕ
most_events = 8_192

abbrev pub most_nodes : ℕ
most_nodes = 1_024

abbrev pub node_width : ℕ
node_width = 2

abbrev pub least_name : ℕ
least_name = 1

abbrev pub most_name : ℕ
most_name = 32

abbrev pub most_time : ℕ
most_time = 863_999

-- the seconds of a day, an hour and a minute
abbrev pub day_seconds : ℕ
day_seconds = 86_400

abbrev pub hour_seconds : ℕ
hour_seconds = 3_600

abbrev pub minute_seconds : ℕ
minute_seconds = 60

-- what a lent table or text holds after a refusal
abbrev pub unsigned_fill : ℕ
unsigned_fill = 4_294_967_295

-- -2,147,483,648
abbrev pub signed_fill : ℤ
signed_fill = negsuc 2_147_483_647

abbrev pub byte_fill : ℕ
byte_fill = 0

-- the greatest energy, and what turns kilojoules into megawatt hours and a quarter's into megawatts
abbrev pub most_kj : ℕ
most_kj = 2_359_296_000_000

abbrev pub kj_a_mwh : ℕ
kj_a_mwh = 3_600_000

abbrev pub kj_a_mw : ℕ
kj_a_mw = 900_000

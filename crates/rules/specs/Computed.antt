-- One name for all definitions that a worked example computes with: an example says `unfolding computed`.
use Rattle.rules.specs.Lists.{over}
use Rattle.rules.specs.Rows.{csv_of}
use Rattle.rules.specs.Timetable.{timetable_of, solution_of}
use Rattle.rules.specs.Profiles.{profiles_of}
use Rattle.rules.specs.Kinds.{list_named, key_named, key_in, type_named, rule_of}
use Rattle.rules.specs.Tokens.{tokens_of}
use Rattle.rules.specs.Constraints.{action_of, keys_of, list_name, document_ends, record_opens, key_name, record_ends, string_value, string_cut, leg_value, subnet_value, seconds_value, number_value, tracks_open, track_number, act, turn_of, run, constraints_of, ordered}
use Rattle.rules.specs.Stated.{known}
use Rattle.rules.specs.Reading.{files_of, choices_read}
use Rattle.rules.specs.Verdict.{tests, verdict}
use Rattle.rules.specs.Energy.{figures_of, curves_of, desk_of}
use Rattle.rules.specs.Merge.{text_of}
use Rattle.rules.specs.Earliest.{raised, earliest}
use Rattle.rules.specs.Display.{row_in, row_at}
use Rattle.rules.specs.Entries.{all_read, checked, reported, both_read, merged, proposed}
use Rattle.rules.specs.Duties.{events_of, duties_checked}

unfoldable pub computed : Unit {0}
unfolding over csv_of timetable_of solution_of profiles_of list_named key_named key_in type_named rule_of tokens_of action_of keys_of list_name document_ends record_opens key_name record_ends string_value string_cut leg_value subnet_value seconds_value number_value tracks_open track_number act turn_of run constraints_of ordered known files_of choices_read tests verdict figures_of curves_of desk_of text_of raised earliest row_in row_at all_read checked reported both_read merged proposed events_of duties_checked
computed = tt

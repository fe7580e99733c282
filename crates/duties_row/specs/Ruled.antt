-- The rules of a row by its line and the line before it. Its numbers are held at a greatest value, as they are read.
use Rattle.std.specs.Prelude.{ℕ, ◌+◌, Bool, true, cond, ◌&&◌, ◌||◌, List, ltb, eqb}
use Rattle.rules.specs.Lists.{same_list}
use Rattle.rules.specs.Duties.{duty_column, seq_column, start_column, start_text_column, end_column, end_text_column, from_column, to_column, type_column, later_rule, stays_rule, together_rule, sequence_rule, meets_rule, texts_rule, is_train}
use Rattle.duties_fields.specs.Fields.{content_in, time_is}
use Rattle.duties_row.specs.Rowed.{held_in, or_fault}

unfoldable pub follows_in : (before line : List ℕ) → Bool
follows_in before line = same_list (content_in duty_column before) (content_in duty_column line)

unfoldable pub later_in : List ℕ → Bool
later_in line = ltb (held_in start_column line) (held_in end_column line)

unfoldable pub stays_in : List ℕ → Bool
stays_in line = is_train (content_in type_column line) || same_list (content_in from_column line) (content_in to_column line)

unfoldable pub sequence_in : (before line : List ℕ) → Bool
sequence_in before line = eqb (held_in seq_column line) (cond (follows_in before line) (held_in seq_column before + 1) 1)

unfoldable pub meets_in : (before line : List ℕ) → Bool
meets_in before line =
    cond (follows_in before line)
    (eqb (held_in start_column line) (held_in end_column before) && same_list (content_in to_column before) (content_in from_column line))
    true

unfoldable pub texts_in : List ℕ → Bool
texts_in line = time_is (held_in start_column line) (content_in start_text_column line) && time_is (held_in end_column line) (content_in end_text_column line)

-- the lowest that is broken, or 0; new says that its duty was not seen before
abbrev pub first_rules : (new : Bool) (before line : List ℕ) → ℕ
first_rules new before line = cond (later_in line) (cond (stays_in line) (cond (follows_in before line || new) 0 together_rule) stays_rule) later_rule

abbrev pub later_rules : (before line : List ℕ) → ℕ
later_rules before line = cond (sequence_in before line) (cond (meets_in before line) (cond (texts_in line) 0 texts_rule) meets_rule) sequence_rule

abbrev pub rule_in : (new : Bool) (before line : List ℕ) → ℕ
rule_in new before line = or_fault (first_rules new before line) (later_rules before line)

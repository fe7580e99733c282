-- What a caller states beside the texts, H and the edition of constraints.json, is tested before any of them: 1, then 21 (document 02, E4).
use Rattle.std.specs.Prelude.{ℕ, cond, ◌&&◌, ◌||◌, leb, eqb, Result, Ok, Err}
use Rattle.rules.specs.Limits.{least_horizon, most_horizon}
use Rattle.rules.specs.Answers.{refusal, bad_horizon, unknown_edition, no_file, Reading, refused, good, ◌>>=◌}
use Rattle.rules.specs.Kinds.{table_edition, example_edition}
use Rattle.rules.specs.Constraints.{rules_in}
use Rattle.rules.specs.declared.tokens.Rules.{Rules}
use Rattle.rules.specs.declared.stated.Stated.{Stated}
use Rattle.rules.specs.declared.answers.Refusal.{Refusal}

abbrev pub stated : (horizon edition : ℕ) → Stated
stated horizon edition = record { horizon = horizon; edition = edition }

-- how constraints.json is read
abbrev pub rules_by : Stated → Rules
rules_by s = rules_in s.edition

-- ---- tested in order

abbrev pub horizon_of : ℕ → Reading ℕ
horizon_of H = cond (leb least_horizon H && leb H most_horizon) (good H) (refused (refusal bad_horizon no_file 0))

abbrev pub edition_of : ℕ → Reading ℕ
edition_of e = cond (eqb e table_edition || eqb e example_edition) (good e) (refused (refusal unknown_edition no_file 0))

unfoldable pub known : Stated → Reading Stated
known s = do
  horizon ← horizon_of s.horizon
  edition ← edition_of s.edition
  good s

-- as the code answers it
abbrev pub known_of : Reading Stated → Result (Unit {0}) Refusal
known_of (refused r) = Err r
known_of (good s) = Ok tt

-- What the code answers for a text, and what it leaves in the lent tables.
use Rattle.std.specs.Prelude.{ℕ, ◌/◌, ◌≡◌, List, length, ℤ, Result, Ok, Err}
use Rattle.rules.specs.Limits.{profile_width}
use Rattle.rules.specs.Lists.{over}
use Rattle.rules.specs.Answers.{Reading, refused, good}
use Rattle.rules.specs.Profiles.{Curve, sampled, profiles_of, sample_table}
use Rattle.csv_machine.specs.Machine.{begun}
use Rattle.profiles.specs.declared.reader.Reader.{Reader}
use Rattle.profiles.specs.declared.reader.Rows.{Rows}
use Rattle.rules.specs.declared.answers.Refusal.{Refusal}
use Rattle.profiles_state.specs.Open.{Read, machine, read_end}
use Rattle.profiles_row.specs.Row.{profile_table}
use Rattle.profiles.specs.Feeds.{Held}

-- the refusal, or the counts
abbrev pub rows_of : Reading (List Curve) → Result Rows Refusal
rows_of (refused f) = Err f
rows_of (good curves) = Ok (record { profiles = length curves; samples = sampled curves })

-- nothing is read, and the tables are as they were lent
pub record Starts (r : Reader) : Type 0 where
  pub place : r.next ≡ 0
  pub no_head : r.head ≡ 0
  pub nothing : (profiles : List ℕ) (samples : List ℤ) → Held profiles samples r.next r.head r.mark r.state profiles samples (begun (machine (length profiles / profile_width) (length samples)))

abbrev pub Finishes : Reader → Result Rows Refusal → Type 0
Finishes reader r =
    (profiles₀ profiles : List ℕ) (samples₀ samples : List ℤ) (text : Read) → Held profiles₀ samples₀ reader.next reader.head reader.mark reader.state profiles samples text
    → r ≡ rows_of (read_end (length profiles₀ / profile_width) (length samples₀) text)

-- a text, and the tables before and after
pub record Reads (text profiles₀ : List ℕ) (samples₀ : List ℤ) (r : Result Rows Refusal) (profiles : List ℕ) (samples : List ℤ) : Type 0 where
  pub answer : r ≡ rows_of (profiles_of (length profiles₀ / profile_width) (length samples₀) text)
  pub profile_table_lem : (curves : List Curve) → profiles_of (length profiles₀ / profile_width) (length samples₀) text ≡ good curves → profiles ≡ over (profile_table curves) profiles₀
  pub sample_table_lem : (curves : List Curve) → profiles_of (length profiles₀ / profile_width) (length samples₀) text ≡ good curves → samples ≡ over (sample_table curves) samples₀

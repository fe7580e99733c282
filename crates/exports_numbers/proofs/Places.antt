-- Each answer's values are read back at their places. Assumes nothing.
use Prim.Native.Nat.{ℕ, suc, ◌+◌, ◌≤◌, ◌<◌}
use native.Mathlib.Omega.{arith}
use mathlib.Core.Path.{◌≡◌, refl, ◌∙◌}
use mathlib.Core.List.{List, [], ◌∷◌}
use lib.ListN.{length, drop, get_or, replicate, drop_of_length-le}
use lib.Seq.{drop-cons, get_or-append-add}
use mir.Syntax.{w64}
use mir.Val.{SFits, of_z}
use mir.Facts.{to_z-of_z}
use Rattle.rules.specs.Lists.{over}
use Rattle.rules.specs.Tally.{kind_count, no_tests}
use Rattle.rules.proofs.Lists.{over-length}
use Rattle.rules.specs.declared.answers.Tally.{Tally}
use Rattle.rules.specs.declared.answers.Answer.TheVariants.{Violated, Refused}
use Rattle.rules.specs.declared.answers.Violation.{Violation}
use Rattle.rules.specs.declared.answers.Refusal.{Refusal}
use Rattle.rules.specs.declared.figures.Figures.{Figures}
use Rattle.energy_parts.specs.declared.desk.Bits.{Bits}
use Rattle.exports_numbers.specs.Numbers.{accepted_code, lent_values, lent_tests, padded, tally_numbers, told, answer_numbers, energy_numbers, row_numbers}
use Rattle.exports_numbers.specs.Places.{violation_at, refusal_at, figures_at, bits_at, length_at, row_start_at, row_length_at, tally_at}

module _ (accepted : List ℕ) (t : Tally) where
  pub violation-read : (v : Violation) → violation_at (answer_numbers accepted t (Violated v)) ≡ v
  unfolding over
  violation-read v = refl

  pub refusal-read : (f : Refusal) → refusal_at (answer_numbers accepted t (Refused f)) ≡ f
  unfolding over
  refusal-read f = refl

module _ (g : Figures) (bits : Bits) (t : Tally) where
  abbrev energies : List ℕ
  energies = told (accepted_code ∷ energy_numbers g (of_z w64 g.fluctuation) bits) t

  pub figures-read : SFits w64 g.fluctuation → figures_at energies ≡ g
  unfolding over
  figures-read fits = λ j. record { before = g.before; drawn = g.drawn; lost = g.lost; fluctuation = to_z-of_z fits j; peaks = g.peaks }

  pub bits_read : bits_at energies ≡ bits
  unfolding over
  bits_read = refl

pub length-read : (length : ℕ) (t : Tally) → length_at (told (accepted_code ∷ length ∷ []) t) ≡ length
unfolding over
length-read length t = refl

pub row_read : (start length : ℕ) → (row_start_at (row_numbers start length) ≡ start) × (row_length_at (row_numbers start length) ≡ length)
unfolding over
row_read start length = (refl, refl)

-- ---- how much was tested

six-counts : (l : List ℕ) → length l ≡ kind_count → get_or l 0 0 ∷ get_or l 1 0 ∷ get_or l 2 0 ∷ get_or l 3 0 ∷ get_or l 4 0 ∷ get_or l 5 0 ∷ [] ≡ l
six-counts l six =
    let next : (k : ℕ) → k < kind_count → drop k l ≡ get_or l k 0 ∷ drop (suc k) l = λ k h. drop-cons l k 0 (omega arith) in
    let end : drop kind_count l ≡ [] = drop_of_length-le l {i = kind_count} (omega arith) in
    rw (← end, ← next 5 (omega arith), ← next 4 (omega arith), ← next 3 (omega arith), ← next 2 (omega arith), ← next 1 (omega arith), ← next 0 (omega arith))

module _ (values : List ℕ) (fit : length values ≤ lent_values) (t : Tally) where
  behind : (k : ℕ) → get_or (told values t) (lent_values + k) 0 ≡ get_or (padded lent_tests (tally_numbers t)) k 0
  behind k = rw (over-length values (replicate lent_values 0) fit) at (get_or-append-add (padded lent_values values) (padded lent_tests (tally_numbers t)) k 0)

  pub tally-read : length t.kinds ≡ kind_count → tally_at (told values t) ≡ t
  unfolding over
  tally-read six =
      (λ j. record { kinds = behind 1 j ∷ behind 2 j ∷ behind 3 j ∷ behind 4 j ∷ behind 5 j ∷ behind 6 j ∷ []; total = behind 0 j })
      ∙ (λ j. record { kinds = six-counts t.kinds six j; total = t.total })

-- a refusal and a row have none
pub refusal-untested : (accepted : List ℕ) (t : Tally) (f : Refusal) → tally_at (answer_numbers accepted t (Refused f)) ≡ no_tests
unfolding over
refusal-untested accepted t f = refl

pub row-untested : (start length : ℕ) → tally_at (row_numbers start length) ≡ no_tests
unfolding over
row-untested start length = refl

-- What the code's state and the lent tables say of a text's rows that are read so far.
use Rattle.std.specs.Prelude.{ℕ, suc, ◌+◌, ◌/◌, ◌≤◌, ◌≡◌, Bool, true, false, cond, List, eqb, length, drop, ℤ, Some}
use Rattle.rules.specs.Limits.{profile_width}
use Rattle.rules.specs.Lists.{over}
use Rattle.rules.specs.Answers.{bad_row}
use Rattle.rules.specs.Profiles.{judge_form, Curve, sample_table}
use Rattle.csv_machine.specs.Number.{Number as Whole}
use Rattle.csv_machine.specs.Fold.{fold}
use Rattle.csv_machine.specs.Machine.{in_row as row_at, Faulty}
use Rattle.csv_marks.specs.declared.Mark.{Mark}
use Rattle.csv_marks.specs.Turns.{marked, takes, plain_under}
use Rattle.profiles_row.specs.declared.number.Number.{Number}
use Rattle.profiles_row.specs.declared.number.Number.TheVariants.{Empty, Zero, Digits as InDigits}
use Rattle.profiles_row.specs.declared.row.Past.{Past}
use Rattle.profiles_row.specs.declared.row.Listed.{Listed}
use Rattle.profiles_row.specs.declared.sample.Tail.{Tail}
use Rattle.profiles_state.specs.declared.state.State.{State}
use Rattle.profiles_state.specs.declared.state.State.TheVariants.{Id, Whole as InWhole, Fraction, Stopped}
use Rattle.profiles_state.specs.declared.marked.Passed.{Passed}
use Rattle.profiles_row.specs.Near.{Near}
use Rattle.profiles_row.specs.Sample.{whole, fraction}
use Rattle.profiles_row.specs.Row.{curve, Closed, Going, Digits}
use Rattle.profiles_state.specs.Open.{in_id, in_list, Reached, in_row, stopped, on_line, reach, Read, read}

-- the tables as they were lent
module _ (profiles₀ : List ℕ) (samples₀ : List ℤ) where
  pub data Holds (next : ℕ) : State → List ℕ → List ℤ → Reached → Type 0 where
    in_id_lem : {past : Past} {n : Number} {profiles : List ℕ} {samples : List ℤ} {before : List Curve} {m : Whole}
        → past.place ≤ next → Closed profiles₀ samples₀ past profiles before → samples ≡ over (sample_table before) samples₀ → Near n m
        → Holds next (Id past n) profiles samples (in_row past.place next before (in_id m))
    in_whole : {past : Past} {l : Listed} {negative : Bool} {n : Number} {profiles : List ℕ} {samples : List ℤ} {before : List Curve} {id : ℕ} {done : List ℤ} {m : Whole}
        → Closed profiles₀ samples₀ past profiles before → Going profiles₀ samples₀ past l next samples before id done → Near n m
        → Holds next (InWhole past l negative n) profiles samples (in_row past.place next before (in_list id done (whole negative m)))
    in_fraction : {past : Past} {l : Listed} {t : Tail} {profiles : List ℕ} {samples : List ℤ} {before : List Curve} {id : ℕ} {done : List ℤ} {n count value : ℕ}
        → Closed profiles₀ samples₀ past profiles before → Going profiles₀ samples₀ past l next samples before id done → Digits t n count value
        → Holds next (Fraction past l t) profiles samples (in_row past.place next before (in_list id done (fraction t.negative n count value)))
    at_stop : {number place : ℕ} {profiles : List ℕ} {samples : List ℤ} → Holds next (Stopped number place) profiles samples (stopped number place)

-- so much of some text stands behind a state
pub record Live (next : ℕ) (state : State) (profiles : List ℕ) (samples : List ℤ) : Type 0 where
  pub profiles₀ : List ℕ
  pub samples₀ : List ℤ
  pub reached : Reached
  pub holds : Holds profiles₀ samples₀ next state profiles samples reached

-- ---- a byte

abbrev pub Steps : (at : ℕ) → State → List ℕ → List ℤ → ℕ → State → List ℕ → List ℤ → Type 0
Steps at state profiles samples b state' profiles' samples' =
    (profiles₀ : List ℕ) (samples₀ : List ℤ) (reached : Reached) → Holds profiles₀ samples₀ at state profiles samples reached
    → Holds profiles₀ samples₀ (suc at) state' profiles' samples' (reach (length profiles₀ / profile_width) (length samples₀) reached b)

-- one that leaves the tables alone
abbrev pub Free : (at : ℕ) → State → ℕ → State → Type 0
Free at state b state' = (profiles : List ℕ) (samples : List ℤ) → Steps at state profiles samples b state' profiles samples

-- ---- a row

-- a row ends at a byte
abbrev pub Ends : (at : ℕ) → Past → Listed → List ℕ → (room : ℕ) → State → List ℕ → Type 0
Ends at past l profiles room state profiles' =
    (profiles₀ : List ℕ) (samples₀ samples : List ℤ) (before : List Curve) (id : ℕ) (done : List ℤ)
    → room ≡ length samples₀ → Closed profiles₀ samples₀ past profiles before → Going profiles₀ samples₀ past l (suc at) samples before id done
    → Holds profiles₀ samples₀ (suc at) state profiles' samples
    (on_line past.place at before
    (judge_form (length profiles₀ / profile_width) (length samples₀) before (Some (curve id done))))

-- ---- a text

-- a text whose rows have come to these contents, under a mark
abbrev pub Under : Mark → Reached → Read → Type 0
Under mark (in_row place next before o) r = r ≡ row_at place next before (marked mark o)
Under mark (stopped k place) r = Faulty k place r

-- the state and the tables stand for a text in its rows
pub record Stands (profiles₀ : List ℕ) (samples₀ : List ℤ) (next : ℕ) (mark : Mark) (state : State) (profiles : List ℕ) (samples : List ℤ) (r : Read) : Type 0 where
  pub contents : Reached
  pub holds : Holds profiles₀ samples₀ next state profiles samples contents
  pub under : Under mark contents r

-- nothing of the open field is read
abbrev pub is_empty : Number → Bool
is_empty Empty = true
is_empty Zero = false
is_empty (InDigits n) = false

abbrev pub list_begins : (count : ℕ) (negative : Bool) → Number → Bool
list_begins count negative n = cond (eqb count 0) (cond negative false (is_empty n)) false

abbrev pub begins : State → Bool
begins (Id past n) = is_empty n
begins (InWhole past l negative n) = list_begins l.count negative n
begins (Fraction past l t) = false
begins (Stopped number place) = false

-- the open row is none
abbrev pub broken_at : State → State
broken_at (Id past n) = Stopped bad_row past.place
broken_at (InWhole past l negative n) = Stopped bad_row past.place
broken_at (Fraction past l t) = Stopped bad_row past.place
broken_at (Stopped number place) = Stopped number place

-- a byte of the text: a state and a mark after it
abbrev pub Turns : (at : ℕ) → State → Mark → List ℕ → List ℤ → ℕ → State → Mark → List ℕ → List ℤ → Type 0
Turns at state mark profiles samples b state' mark' profiles' samples' =
    (profiles₀ : List ℕ) (samples₀ : List ℤ) (text : Read) → Stands profiles₀ samples₀ at mark state profiles samples text
    → Stands profiles₀ samples₀ (suc at) mark' state' profiles' samples' (read (length profiles₀ / profile_width) (length samples₀) text b)

-- the same text under another mark, from which the byte leads where it led
pub record Leaves (profiles₀ : List ℕ) (samples₀ : List ℤ) (at : ℕ) (mark : Mark) (state : State) (profiles : List ℕ) (samples : List ℤ) (b : ℕ) (result : Read) : Type 0 where
  pub other : Read
  pub stands : Stands profiles₀ samples₀ at mark state profiles samples other
  pub leads : read (length profiles₀ / profile_width) (length samples₀) other b ≡ result

-- a byte that is not plain is taken, or left under a mark that takes contents
pub data Passes (state : State) (mark : Mark) (b : ℕ) (r : Passed) : Type 0 where
  passed : r.step ≡ 1 → ((at : ℕ) (profiles : List ℕ) (samples : List ℤ) → Turns at state mark profiles samples b r.state r.mark profiles samples) → Passes state mark b r
  leaves : r.step ≡ 0 → takes r.mark ≡ true → (plain_under mark b ≡ false → takes mark ≡ false)
      → ((at : ℕ) (profiles : List ℕ) (samples : List ℤ) (profiles₀ : List ℕ) (samples₀ : List ℤ) (text : Read) → Stands profiles₀ samples₀ at mark state profiles samples text
      → Leaves profiles₀ samples₀ at r.mark r.state profiles samples b (read (length profiles₀ / profile_width) (length samples₀) text b))
      → Passes state mark b r

-- ---- a run of bytes

abbrev pub reading : List ℕ → List ℤ → Read → List ℕ → Read
reading profiles₀ samples₀ = fold (read (length profiles₀ / profile_width) (length samples₀))

-- the state stands for a reading from which the bytes left lead to a result
pub record Leads (profiles₀ : List ℕ) (samples₀ : List ℤ) (at : ℕ) (mark : Mark) (state : State) (profiles : List ℕ) (samples : List ℤ) (left : List ℕ) (result : Read) : Type 0 where
  pub midway : Read
  pub stands : Stands profiles₀ samples₀ at mark state profiles samples midway
  pub leads : reading profiles₀ samples₀ midway left ≡ result

-- from byte i of a part to byte j under one mark, wherever the part begins
pub record Leap (part : List ℕ) (mark : Mark) (i : ℕ) (state : State) (profiles : List ℕ) (samples : List ℤ) (j : ℕ) (state' : State) (profiles' : List ℕ) (samples' : List ℤ) : Type 0 where
  pub onward : i ≤ j
  pub inside : j ≤ length part
  pub leaps : (base : ℕ) (profiles₀ : List ℕ) (samples₀ : List ℤ) (text : Read) → Stands profiles₀ samples₀ (base + i) mark state profiles samples text
      → Leads profiles₀ samples₀ (base + j) mark state' profiles' samples' (drop j part) (reading profiles₀ samples₀ text (drop i part))

-- one that leaves the tables alone, under each mark that takes contents
abbrev pub Jump : List ℕ → ℕ → State → ℕ → State → Type 0
Jump part i state j state' =
    (mark : Mark) → takes mark ≡ true → (profiles : List ℕ) (samples : List ℤ) → Leap part mark i state profiles samples j state' profiles samples

-- A whole sample at once: its bytes one after the other, up to the space behind it. Assumes nothing.
use Rattle.std.specs.Prelude.{Option, Some}
use Prim.Native.Nat.{ℕ, ◌+◌, ◌*◌, ◌-◌, ◌≤◌, ◌<◌, min}
use mathlib.Core.Path.{◌≡◌, refl, sym}
use mathlib.Core.Bool.{Bool, true, false}
use mathlib.Core.List.{List}
use native.Mathlib.Omega.{arith}
use lib.ListN.{length, get_or}
use Rattle.rules.specs.Bytes.{digit_zero, digit_nine, point, minus}
use Rattle.profiles_row.specs.declared.number.Number.{Number}
use Rattle.profiles_row.specs.declared.number.Number.TheVariants.{Empty, Zero, Digits}
use Rattle.profiles_sample.specs.declared.Run.{Run}
use Rattle.profiles_sample.specs.declared.Pointed.{Pointed}
use Rattle.profiles_sample.specs.declared.Sign.{Sign}
use Rattle.profiles_sample.specs.declared.Spaced.{Spaced}
use Rattle.profiles_row.specs.declared.row.Past.{Past}
use Rattle.profiles_row.specs.declared.row.Listed.{Listed}
use Rattle.profiles_state.specs.declared.state.State.TheVariants.{Id, Whole, Fraction}
use Rattle.profiles_row.specs.Sample.{most_digits}
use Rattle.profiles_row.specs.Near.{cap, Ends}
use Rattle.profiles_state.specs.Holds.{Jump}
use Rattle.profiles_sample.specs.Quick.{Runs, tail, Points, missed, pointed, Spaces, unspaced, spaced, unlasting, lasting, Fractions, Signs, signed, unsigned, Samples}
use Rattle.profiles_row.proofs.Near.{pushes_zero, pushes_first, pushes_next}
use Rattle.profiles_state.proofs.Steps.{id_digits_lem, whole_digits, point_value, minus-first}
use Rattle.profiles_state.proofs.Fraction.{fraction_digits}
use Rattle.profiles_state.proofs.Marking.{other_digit, other_point, other_minus}
use Rattle.profiles_state.proofs.Leaps.{leap_none, leap_then, jump_step}

-- ---- more digits of the whole part

pub record Running (part : List ℕ) (from value v i : ℕ) : Type 0 where
  pub inside : i ≤ length part
  pub ids : (past : Past) → Jump part from (Id past (Digits value)) i (Id past (Digits v))
  pub jumps : (past : Past) (l : Listed) (negative : Bool) → Jump part from (Whole past l negative (Digits value)) i (Whole past l negative (Digits v))

pub running_none : {part : List ℕ} {from : ℕ} (value : ℕ) → from ≤ length part → Running part from value value from
running_none value h =
    record { inside = h; ids = λ past mark t profiles samples. leap_none h; jumps = λ past l negative mark t profiles samples. leap_none h }

module _ {part : List ℕ} {from value v i : ℕ} (r : Running part from value v i) where
  pub running_next : {w : ℕ} → i < length part → digit_zero ≤ get_or part i 0 → get_or part i 0 ≤ digit_nine → w ≡ min (v * 10 + (get_or part i 0 - digit_zero)) cap
      → Running part from value w (i + 1)
  running_next {w} h low high e =
      record {
        inside = omega arith;
        ids =
            λ past mark t profiles samples. leap_then (r.ids past mark t profiles samples)
            (jump_step (get_or part i 0) (other_digit low high) h refl
            (id_digits_lem past (Digits v) (get_or part i 0) low high (Some (Digits w)) (pushes_next (get_or part i 0) v w refl low high e) (Digits w) refl)
            mark t profiles samples);
        jumps =
            λ past l negative mark t profiles samples. leap_then (r.jumps past l negative mark t profiles samples)
            (jump_step (get_or part i 0) (other_digit low high) h refl
            (whole_digits past l negative (Digits v) (get_or part i 0) low high (Some (Digits w)) (pushes_next (get_or part i 0) v w refl low high e) (Digits w) refl)
            mark t profiles samples);
      }

  pub running-end : Runs part from value (record { value = v; next = i })
  running-end = record { of_an_id = r.ids; of_a_sample = r.jumps }

-- ---- the point

pub points_at : {part : List ℕ} {from v : ℕ} {n : Number} {x : Option ℕ} → from < length part → get_or part from 0 ≡ point → Ends n x → x ≡ Some v → Points part from n (Some (record { whole = v; next = from + 1 }))
points_at {part} {from} {v} {n} {x} h e ends q =
    pointed {p = record { whole = v; next = from + 1 }} (omega arith) (λ past l negative. jump_step point other_point h (sym e) (point_value past l negative n x ends v q))

-- a first digit, and what stands behind it
module _ {part : List ℕ} {from : ℕ} (h : from < length part) (low : digit_zero ≤ get_or part from 0) (high : get_or part from 0 ≤ digit_nine) where
  pub points_zero : {r : Option Pointed} → get_or part from 0 ≡ digit_zero → Points part (from + 1) Zero r → Points part from Empty r
  points_zero z missed = missed
  points_zero z (pointed k f) =
      pointed k
      (λ past l negative mark t profiles samples. leap_then
      (jump_step (get_or part from 0) (other_digit low high) h refl (whole_digits past l negative Empty (get_or part from 0) low high (Some Zero) (pushes_zero (get_or part from 0) refl low high z) Zero refl) mark t profiles samples)
      (f past l negative mark t profiles samples))

  pub points_digits : {run : Run} {r : Option Pointed} → (get_or part from 0 ≡ digit_zero → ⊥) → Runs part (from + 1) (get_or part from 0 - digit_zero) run
      → Points part run.next (Digits run.value) r → Points part from Empty r
  points_digits z runs missed = missed
  points_digits z runs (pointed k f) =
      pointed k
      (λ past l negative mark t profiles samples. leap_then
      (leap_then
      (jump_step (get_or part from 0) (other_digit low high) h refl
      (whole_digits past l negative Empty (get_or part from 0) low high (Some (Digits (get_or part from 0 - digit_zero))) (pushes_first (get_or part from 0) refl low high z) (Digits (get_or part from 0 - digit_zero)) refl)
      mark t profiles samples)
      (runs.of_a_sample past l negative mark t profiles samples))
      (f past l negative mark t profiles samples))

-- ---- digits past the point

pub record Fractioning (part : List ℕ) (from : ℕ) (negative : Bool) (whole digits value i : ℕ) : Type 0 where
  pub inside : i ≤ length part
  pub jumps : (past : Past) (l : Listed) → Jump part from (Fraction past l (tail negative whole 0 0)) i (Fraction past l (tail negative whole digits value))

pub fractioning_none : {part : List ℕ} {from : ℕ} (negative : Bool) (whole : ℕ) → from ≤ length part → Fractioning part from negative whole 0 0 from
fractioning_none negative whole h = record { inside = h; jumps = λ past l mark t profiles samples. leap_none h }

module _ {part : List ℕ} {from : ℕ} {negative : Bool} {whole digits value i : ℕ} (r : Fractioning part from negative whole digits value i) where
  pub fractioning_next : {w : ℕ} → i < length part → digit_zero ≤ get_or part i 0 → get_or part i 0 ≤ digit_nine → digits < most_digits
      → w ≡ min (value * 10 + (get_or part i 0 - digit_zero)) cap → Fractioning part from negative whole (digits + 1) w (i + 1)
  fractioning_next {w} h low high few e =
      record {
        inside = omega arith;
        jumps =
            λ past l mark t profiles samples. leap_then (r.jumps past l mark t profiles samples)
            (jump_step (get_or part i 0) (other_digit low high) h refl (fraction_digits past l (tail negative whole digits value) (get_or part i 0) w low high few e) mark t profiles samples);
      }

  pub fractioning_end : {x : Option Spaced} → i < length part → Spaces (get_or part i 0) i negative whole digits value x → Fractions part from negative whole x
  fractioning_end h unspaced = unlasting
  fractioning_end h (spaced e z) = lasting {s = record { tail = tail negative whole digits value; next = i }} h e z r.jumps

-- ---- the sample

pub points_inside : {part : List ℕ} {from : ℕ} {n : Number} {x : Option Pointed} {p : Pointed} → Points part from n x → x ≡ Some p → p.next ≤ length part
points_inside {part} {from} {n} {p = p} points e = go (rw e at points)
  where
    go : Points part from n (Some p) → p.next ≤ length part
    go (pointed h f) = h

pub samples_at : {part : List ℕ} {from : ℕ} {negative : Bool} {x : Option Pointed} {p : Pointed} {r : Option Spaced} → Points part from Empty x → x ≡ Some p → Fractions part p.next negative p.whole r
    → Samples part from negative r
samples_at {part} {from} {negative} {p = p} points e f = go (rw e at points) f
  where
    go : {r : Option Spaced} → Points part from Empty (Some p) → Fractions part p.next negative p.whole r → Samples part from negative r
    go (pointed h g) unlasting = unlasting
    go (pointed h g) (lasting k e z j) = lasting k e z (λ past l mark t profiles samples. leap_then (g past l negative mark t profiles samples) (j past l mark t profiles samples))

samples_minus : {part : List ℕ} {from : ℕ} {r : Option Spaced} → from < length part → get_or part from 0 ≡ minus → Samples part (from + 1) true r → Samples part from false r
samples_minus h e unlasting = unlasting
samples_minus h e (lasting k s z j) =
    lasting k s z (λ past l mark t profiles samples. leap_then (jump_step minus other_minus h (sym e) (minus-first past l false Empty refl refl) mark t profiles samples) (j past l mark t profiles samples))

pub samples_signed : {part : List ℕ} {from : ℕ} {s : Sign} {r : Option Spaced} → from < length part → Signs part from s → Samples part s.next s.negative r → Samples part from false r
samples_signed h (signed e) x = samples_minus h e x
samples_signed h unsigned x = x

pub ruleset quick =
    (missed, unspaced, spaced, unlasting, running_none, running_next, running-end, points_at, points_zero, points_digits, fractioning_none, fractioning_next, fractioning_end, points_inside, samples_at, signed, unsigned, samples_signed)

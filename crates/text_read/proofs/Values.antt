-- What a run of digits says of a whole text. Assumes nothing.
use Prim.Native.Nat.{ℕ, ◌≤◌, ◌<◌, min}
use mathlib.Core.Path.{◌≡◌, ap, ◌∙◌}
use mathlib.Core.List.{List}
use mathlib.Core.Bool.{Bool, true, false, not, and-false}
use native.Mathlib.Omega.{arith}
use lib.ListN.{length, drop}
use borrow.Author.Tests.{le-leb, lt-leb, not-true, not-false}
use Rattle.rules.specs.Lists.{lead, every}
use Rattle.rules.specs.Limits.{most_id}
use Rattle.rules.specs.Bytes.{is_digit, value_from, plain, whole_of}
use Rattle.text_read.specs.declared.numbers.Ran.{Ran}
use Rattle.text_read.specs.Held.{past_id, ran_from, whole_held}
use Rattle.text_read.proofs.Runs.{lead_all, lead-every, lead-not-every}
use Rattle.std.specs.Prelude.{Some, Ok, Err}
use Rattle.text_read.specs.declared.numbers.Unread.TheVariants.{Beyond, Malformed}

-- ---- a value within a limit, or past it

held_number : (v : ℕ) → v ≤ most_id → Ok v ≡ whole_held (Some v)
held_number v h = rw (le-leb v most_id h)

held_beyond : (v : ℕ) → most_id < v → (Err Beyond) ≡ whole_held (Some v)
held_beyond v h = rw (lt-leb v most_id h)

-- ---- what `digits` says of a whole text

module _ (s : List ℕ) (r : Ran) (e : r ≡ ran_from 0 0 (drop 0 s)) where
  -- it went to the end
  module _ (h : length s ≤ r.next) where
    all_read : length s ≤ length (lead is_digit s)
    all_read = omega (arith, ap (λ (x : Ran). x.next) e)

    all_digits : every is_digit s ≡ true
    all_digits = lead-every is_digit s all_read

    read_value : r.value ≡ min (value_from 0 s) past_id
    read_value = rw (lead_all is_digit s all_read) at (ap (λ (x : Ran). x.value) e)

  -- it stopped before
  not_digits : r.next < length s → every is_digit s ≡ false
  not_digits h = lead-not-every is_digit s (omega (arith, ap (λ (x : Ran). x.next) e))

  pub whole_broken : r.next < length s → (Err Malformed) ≡ whole_held (whole_of s)
  whole_broken h = rw (not_digits h, and-false (plain s))

  module _ (t : Bool) (p : t ≡ plain s) (n : not t ≡ false) (h : length s ≤ r.next) where
    whole_some : whole_of s ≡ Some (value_from 0 s)
    whole_some = rw (← p, not-false t n, all_digits h)

    pub whole_beyond : most_id < r.value → (Err Beyond) ≡ whole_held (whole_of s)
    whole_beyond l = held_beyond (value_from 0 s) (omega (arith, read_value h)) ∙ rw whole_some

    pub whole_number : r.value ≤ most_id → Ok r.value ≡ whole_held (whole_of s)
    whole_number l =
        let v : r.value ≡ value_from 0 s = omega (arith, read_value h) in
        rw v (held_number (value_from 0 s) (omega arith) ∙ rw whole_some)

pub whole_not-plain : (s : List ℕ) (t : Bool) → t ≡ plain s → not t ≡ true → (Err Malformed) ≡ whole_held (whole_of s)
whole_not-plain s t p n = rw (← p, not-true t n)

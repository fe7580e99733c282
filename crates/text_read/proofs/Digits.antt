-- Digits, and a run of them as the loop of `digits` goes over it. Assumes nothing.
use Prim.Native.Nat.{ℕ, suc, ◌+◌, ◌*◌, ◌-◌, ◌≤◌, ◌<◌, min, max}
use mathlib.Core.Path.{◌≡◌, ap}
use mathlib.Core.Bool.{true, false}
use mathlib.Core.List.{List, [], ◌∷◌}
use native.Mathlib.Omega.{arith}
use native.Mathlib.Nat.{add-zero}
use lib.ListN.{length, get_or, drop, length-drop}
use Rattle.rules.specs.Lists.{lead}
use Rattle.rules.specs.Bytes.{digit_zero, is_digit, value_from}
use Rattle.text_read.specs.declared.numbers.Ran.{Ran}
use Rattle.text_read.specs.Held.{past_id, ran_from}
use Rattle.text_read.proofs.Runs.{lead-more, lead_stop, lead-end, lead_le}

-- ---- the loop of `digits`: the invariant is `ran_from value next (drop next s) ≡ r`

-- what is capped before a digit need not be told apart after it
value_capped : (ds : List ℕ) (m n : ℕ) → min m past_id ≡ min n past_id → min (value_from m ds) past_id ≡ min (value_from n ds) past_id
value_capped [] m n e = e
value_capped (b ∷ ds) m n e = value_capped ds (m * 10 + (b - digit_zero)) (n * 10 + (b - digit_zero)) (omega arith)

pub run_starts : (s : List ℕ) (m n at : ℕ) → m ≡ min n past_id → ran_from m at (drop at s) ≡ ran_from n at (drop at s)
run_starts s m n at e =
    let ds : List ℕ = lead is_digit (drop at s) in
    let k : min (value_from m ds) past_id ≡ min (value_from n ds) past_id = value_capped ds m n (omega arith) in
    rw k

-- no digit more: the run is what was read
run_done : (n i : ℕ) (r : Ran) → n ≤ past_id → record { value = min n past_id; next = i + 0 } ≡ r → record { value = n; next = i } ≡ r
run_done n i r h e = let k : min n past_id ≡ n = omega arith in rw (k, add-zero i) at e

module _ (s : List ℕ) (n i : ℕ) (r : Ran) (e : ran_from n i (drop i s) ≡ r) (k : n ≤ past_id) where
  pub run_digit : (m : ℕ) → i < length s → is_digit (get_or s i 0) ≡ true → m ≡ min (n * 10 + (get_or s i 0 - digit_zero)) past_id → ran_from m (i + 1) (drop (i + 1) s) ≡ r
  run_digit m h t q =
      let ds : List ℕ = lead is_digit (drop (i + 1) s) in
      let v : min (value_from m ds) past_id ≡ min (value_from (n * 10 + (get_or s i 0 - digit_zero)) ds) past_id = value_capped ds m _ (omega arith) in
      let l : i + 1 + length ds ≡ i + suc (length ds) = omega arith in
      rw (v, l) (rw (lead-more is_digit s i 0 h t) at e)

  pub run_other : i < length s → is_digit (get_or s i 0) ≡ false → record { value = n; next = i } ≡ r
  run_other h t = run_done n i r k (rw (lead_stop is_digit s i 0 h t) at e)

  run_last : length s ≤ i → record { value = n; next = i } ≡ r
  run_last h = run_done n i r k (rw (lead-end is_digit s i h) at e)

-- the digits go to the end, or there are none from a place past it
pub run_ends : (s : List ℕ) (n i m from next : ℕ) → ran_from n i (drop i s) ≡ ran_from m from (drop from s) → n ≤ past_id → length s ≤ i → from ≤ i → next ≡ max from (length s)
    → record { value = n; next = next } ≡ ran_from m from (drop from s)
run_ends s n i m from next e k h f q =
    let last : record { value = n; next = i } ≡ ran_from m from (drop from s) = run_last s n i (ran_from m from (drop from s)) e k h in
    let at : next ≡ i = omega (arith, ap (λ (x : Ran). x.next) last, lead_le is_digit (drop from s), length-drop from s) in
    rw at last

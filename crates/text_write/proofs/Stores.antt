-- Stores of a text into a buffer, byte by byte: one text after the other, past the end, past the last place, at the front. Assumes nothing.
use Prim.Native.Nat.{ℕ, suc, ◌+◌, ◌≤◌, ◌<◌, min}
use native.Mathlib.Omega.{arith}
use native.Mathlib.Nat.{add-zero, add-suc, suc-add}
use mathlib.Core.Path.{◌≡◌, refl, sym, ◌∙◌}
use mathlib.Core.Bool.{Bool, true, false}
use mathlib.Core.List.{List, [], ◌∷◌, ◌++◌}
use lib.Dec.{leb}
use lib.ListN.{length, set}
use lib.Seq.{sets, sets-eq, set_out}
use borrow.Author.Tests.{leb-true, leb-false}
use Rattle.rules.specs.Lists.{over}
use Rattle.text_write.specs.Written.{last_place}

module _ {A : Type 0} where
  -- a text and then another, from the place after it on
  pub sets_append : (w v t : List A) (i : ℕ) → sets t i (w ++ v) ≡ sets (sets t i w) (i + length w) v
  sets_append [] v t i = rw (add-zero i)
  sets_append (a ∷ w) v t i = sets_append w v (set t i a) (suc i) ∙ rw (suc-add i (length w), add-suc i (length w))

  -- past the end nothing is stored
  pub sets_past : (w t : List A) (i : ℕ) → length t ≤ i → sets t i w ≡ t
  sets_past [] t i h = refl
  sets_past (a ∷ w) t i h = rw (set_out t i a h) (sets_past w t (suc i) (omega arith))

  -- at the front, with room enough, the text stands over the buffer
  pub sets_front : (w t : List A) → length w ≤ length t → sets t 0 w ≡ over w t
  unfolding over
  sets_front w t h =
      let k : 0 + length w ≤ length t = omega arith in
      let e : 0 + length w ≡ length w = omega arith in
      sets-eq w t 0 k ∙ rw e

-- where a place is past the last one, nothing is stored there, and nothing at the last one either
pub sets_capped : (w t : List ℕ) (i : ℕ) → length t ≤ last_place → sets t (min i last_place) w ≡ sets t i w
sets_capped w t i h = go (leb i last_place) refl
  where
    go : (b : Bool) → leb i last_place ≡ b → sets t (min i last_place) w ≡ sets t i w
    go true e =
        let l : i ≤ last_place = leb-true i last_place e in
        let q : min i last_place ≡ i = omega arith in
        rw q
    go false e =
        let l : last_place < i = leb-false i last_place e in
        sets_past w t (min i last_place) (omega arith) ∙ sym (sets_past w t i (omega arith))

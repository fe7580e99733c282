-- Texts written one after the other are one text; what fits stands over the buffer's front. Assumes nothing.
use Prim.Native.Nat.{ℕ, ◌+◌, ◌≤◌, ◌<◌}
use native.Mathlib.Omega.{arith}
use mathlib.Core.Path.{◌≡◌, refl, ap, sym, ◌∙◌}
use mathlib.Core.Bool.{Bool, true, false}
use mathlib.Core.List.{List, [], ◌++◌}
use lib.Dec.{leb}
use lib.ListN.{length, length-append}
use lib.Seq.{sets, length-sets}
use borrow.Author.Tests.{leb-true, leb-false, le-leb, lt-leb}
use Rattle.rules.specs.Lists.{over}
use Rattle.text_write.specs.Written.{last_place, Written}
use Rattle.text_write.proofs.Stores.{sets_append, sets_capped, sets_front}

-- nothing
pub written_none : (t : List ℕ) (at : ℕ) → at ≤ last_place → Written t at [] t at
written_none t at h = record { contents = refl; place = omega arith }

-- THE LAW: a text, and another from the place after it on, are one text
pub written_then : {t : List ℕ} {at : ℕ} {w t' : List ℕ} {after : ℕ} {v t'' : List ℕ} {end : ℕ} → Written t at w t' after → Written t' after v t'' end
    → length t ≤ last_place → Written t at (w ++ v) t'' end
written_then {t} {at} {w} {t'} {after} {v} {t''} {end} a b h =
    record {
      contents =
          b.contents
          ∙ rw (a.contents, a.place) (sets_capped v (sets t at w) (at + length w) (rw (length-sets t at w) h))
          ∙ sym (sets_append w v t at);
      place = rw (length-append w v) (omega (arith, a.place, b.place));
    }

pub written-length : {t : List ℕ} {at : ℕ} {w t' : List ℕ} {after : ℕ} → Written t at w t' after → length t' ≡ length t
written-length {t} {at} {w} a = ap length a.contents ∙ length-sets t at w

-- ---- a text at a buffer's front

module _ {t w t' : List ℕ} {after : ℕ} (written : Written t 0 w t' after) where
  -- whether the text is at most so long is told by the place after it
  pub written-fits : (m : ℕ) → m < last_place → leb after m ≡ leb (length w) m
  written-fits m h = go (leb (length w) m) refl
    where
      go : (b : Bool) → leb (length w) m ≡ b → leb after m ≡ leb (length w) m
      go true e = rw e (le-leb after m (omega (arith, leb-true (length w) m e, written.place)))
      go false e = rw e (lt-leb after m (omega (arith, leb-false (length w) m e, written.place)))

  -- where there is room, the place after it is its length, and it stands over the buffer
  pub written_whole : length t < last_place → after ≤ length t → (after ≡ length w) × (t' ≡ over w t)
  written_whole h k =
      let e : after ≡ length w = omega (arith, written.place) in
      let l : length w ≤ length t = omega arith in
      (e, written.contents ∙ sets_front w t l)

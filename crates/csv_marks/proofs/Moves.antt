-- The byte of a line that moves its mark, and the byte that is left for the contents. Assumes nothing.
use Prim.Native.Nat.{ℕ, ◌≤◌}
use mathlib.Core.Path.{◌≡◌, refl, ap, sym, ◌∙◌}
use mathlib.Core.Bool.{Bool, true, false, true≢false}
use native.Mathlib.Omega.{arith}
use lib.Dec.{eqb}
use Rattle.rules.specs.Bytes.{line_feed, carriage_return, quote, comma}
use Rattle.csv_marks.specs.declared.Mark.{Mark}
use Rattle.csv_marks.specs.declared.Mark.TheVariants.{Bare, Within, Behind, Returned}
use Rattle.csv_marks.specs.declared.Act.{Act}
use Rattle.csv_marks.specs.declared.Act.TheVariants.{To, Content, Broken}
use Rattle.csv_marks.specs.declared.Move.{Move}
use Rattle.std.specs.Prelude.{Some}
use Rattle.csv_marks.specs.Turns.{takes, plain_under, on_quote, on_return, on_end, on_comma, on_other, turned, moved_by, moved_under}
use Rattle.csv_marks.proofs.Follow.{Kind, is_quote, is_return, is_end, is_comma, is_other, kind}

-- ---- a byte that moves the mark is passed

pub step_most : (mark : Mark) (b : ℕ) (begins : Bool) (v : Move) → Some v ≡ moved_under mark b begins → v.step ≤ 1
step_most mark b begins v e = go (turned mark b begins) e
  where
    go : (t : Act) → Some v ≡ moved_by t → v.step ≤ 1
    go (To m) k = let q : v ≡ record { mark = m; step = 1 } = cc in rw q (omega arith)
    go (Content m) k = let q : v ≡ record { mark = m; step = 0 } = cc in rw q (omega arith)
    go Broken k = let z : ◌≡◌ {A = ℕ} 0 1 = cc in absurd (omega arith)

-- ---- a byte that is left

abbrev left_mark : Act → Mark
left_mark (To m) = m
left_mark (Content m) = m
left_mark Broken = Bare

no_move : {A : Type 0} (m n : Mark) → Content m ≡ To n → A
no_move m n t = let z : ◌≡◌ {A = ℕ} 0 1 = cc in absurd (omega arith)

no_break : {A : Type 0} (m : Mark) → Content m ≡ Broken → A
no_break m t = let z : ◌≡◌ {A = ℕ} 0 1 = cc in absurd (omega arith)

-- what is left under a mark is left under the mark after it, and contents follow there
pub record Left (mark m : Mark) (b : ℕ) (begins : Bool) : Type 0 where
  pub again : Content m ≡ turned m b begins
  pub open_mark : takes m ≡ true
  pub late : plain_under mark b ≡ false → takes mark ≡ false

module _ (m : Mark) (b : ℕ) (begins : Bool) where
  left-at : (mark n : Mark) → m ≡ n → Content n ≡ turned n b begins → takes n ≡ true → (plain_under mark b ≡ false → takes mark ≡ false) → Left mark m b begins
  left-at mark n q t o p = record { again = rw q t; open_mark = rw q o; late = p }

  left-quote : (mark : Mark) {A : Type 0} (t : Bool) → Content m ≡ on_quote mark t → A
  left-quote Bare true t = no_move m Within t
  left-quote Bare false t = no_break m t
  left-quote Within t e = no_move m Behind e
  left-quote Behind t e = no_break m e
  left-quote Returned t e = no_break m e

  left_return : (mark : Mark) {A : Type 0} → Content m ≡ on_return mark → A
  left_return Bare e = no_move m Returned e
  left_return Within e = no_break m e
  left_return Behind e = no_move m Returned e
  left_return Returned e = no_break m e

  left_end : (mark : Mark) → b ≡ line_feed → Content m ≡ on_end mark → Left mark m b begins
  left_end Bare e t = left-at Bare Bare (ap left_mark t) (rw e) refl (λ p. absurd (true≢false (ap (plain_under Bare) (sym e) ∙ p)))
  left_end Within e t = no_break m t
  left_end Behind e t = left-at Behind Bare (ap left_mark t) (rw e) refl (λ p. refl)
  left_end Returned e t = left-at Returned Bare (ap left_mark t) (rw e) refl (λ p. refl)

  left-comma : (mark : Mark) → b ≡ comma → Content m ≡ on_comma mark → Left mark m b begins
  left-comma Bare e t = left-at Bare Bare (ap left_mark t) (rw e) refl (λ p. absurd (true≢false (ap (plain_under Bare) (sym e) ∙ p)))
  left-comma Within e t = no_break m t
  left-comma Behind e t = left-at Behind Bare (ap left_mark t) (rw e) refl (λ p. refl)
  left-comma Returned e t = no_break m t

  left_other : (mark : Mark) → eqb b quote ≡ false → eqb b carriage_return ≡ false → eqb b line_feed ≡ false → eqb b comma ≡ false → Content m ≡ on_other mark
      → Left mark m b begins
  left_other Bare q r l c t =
      let z : plain_under Bare b ≡ true = rw (q, r) in
      left-at Bare Bare (ap left_mark t) (rw (q, r, l, c)) refl (λ p. absurd (true≢false (sym z ∙ p)))
  left_other Within q r l c t =
      let z : plain_under Within b ≡ true = rw (q, r, l, c) in
      left-at Within Within (ap left_mark t) (rw (q, r, l, c)) refl (λ p. absurd (true≢false (sym z ∙ p)))
  left_other Behind q r l c t = no_break m t
  left_other Returned q r l c t = no_break m t

  pub left : (mark : Mark) → Content m ≡ turned mark b begins → Left mark m b begins
  left mark t = go (kind b)
    where
      go : Kind b → Left mark m b begins
      go (is_quote e) = left-quote mark begins (t ∙ ap (λ (x : ℕ). turned mark x begins) e)
      go (is_return e) = left_return mark (t ∙ ap (λ (x : ℕ). turned mark x begins) e)
      go (is_end e) = left_end mark e (t ∙ ap (λ (x : ℕ). turned mark x begins) e)
      go (is_comma e) = left-comma mark e (t ∙ ap (λ (x : ℕ). turned mark x begins) e)
      go (is_other q r l c) = left_other mark q r l c (t ∙ rw (q, r, l, c))

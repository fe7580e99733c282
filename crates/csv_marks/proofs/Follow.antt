-- What a byte does under a mark is what the machine of quotes and CR does, whatever the contents. Assumes nothing.
use Prim.Native.Nat.{ℕ}
use mathlib.Core.Path.{◌≡◌, refl, ap, sym, subst, ◌∙◌}
use mathlib.Core.Bool.{Bool, true, false, cond, true≢false, false≢true}
use lib.Dec.{eqb}
use borrow.Author.Tests.{eqb-true}
use Rattle.rules.specs.Bytes.{line_feed, carriage_return, quote, comma}
use Rattle.csv_machine.specs.Marks.{bare, within, Marked, on, returned, under, mark_step, mark_close}
use Rattle.csv_marks.specs.declared.Mark.{Mark}
use Rattle.csv_marks.specs.declared.Mark.TheVariants.{Bare, Within, Behind, Returned}
use Rattle.csv_marks.specs.declared.Act.{Act}
use Rattle.csv_marks.specs.declared.Act.TheVariants.{To, Content, Broken}
use Rattle.csv_marks.specs.Turns.{marked, marked_step, takes, plain_in, plain_under, on_quote, on_return, on_end, on_comma, on_other, turned}
use Rattle.std.specs.Prelude.{Option, Some, None}

-- ---- the bytes that are told apart

pub data Kind (b : ℕ) : Type 0 where
  is_quote : b ≡ quote → Kind b
  is_return : b ≡ carriage_return → Kind b
  is_end : b ≡ line_feed → Kind b
  is_comma : b ≡ comma → Kind b
  is_other : eqb b quote ≡ false → eqb b carriage_return ≡ false → eqb b line_feed ≡ false → eqb b comma ≡ false → Kind b

pub kind : (b : ℕ) → Kind b
kind b = go (eqb b quote) refl (eqb b carriage_return) refl (eqb b line_feed) refl (eqb b comma) refl
  where
    go : (q : Bool) → eqb b quote ≡ q → (r : Bool) → eqb b carriage_return ≡ r → (l : Bool) → eqb b line_feed ≡ l → (c : Bool) → eqb b comma ≡ c → Kind b
    go true e r f l g c h = is_quote (eqb-true b quote e)
    go false e true f l g c h = is_return (eqb-true b carriage_return f)
    go false e false f true g c h = is_end (eqb-true b line_feed g)
    go false e false f false g true h = is_comma (eqb-true b comma h)
    go false e false f false g false h = is_other e f g h

-- ---- the machine follows

module _ {A O : Type 0} (step : O → ℕ → Option O) (close : O → Option A) (begins : O → Bool) where
  -- what a turn says of the machine at a byte
  abbrev pub Follows : Mark → O → ℕ → Act → Type 0
  Follows mark o b (To m) = (eqb b line_feed ≡ false) × (mark_step step close begins (marked mark o) b ≡ Some (marked m o))
  Follows mark o b (Content m) =
      (eqb b line_feed ≡ false → mark_step step close begins (marked mark o) b ≡ marked_step m (step o b))
      × (eqb b line_feed ≡ true → (m ≡ Bare) × (mark_close step close begins (marked mark o) ≡ close o))
  Follows mark o b Broken =
      (eqb b line_feed ≡ false → mark_step step close begins (marked mark o) b ≡ None) × (eqb b line_feed ≡ true → mark_close step close begins (marked mark o) ≡ None)

  bare_under : (x : Option O) → under step close begins bare x ≡ marked_step Bare x
  bare_under None = refl
  bare_under (Some o) = refl

  within_under : (x : Option O) → under step close begins within x ≡ marked_step Within x
  within_under None = refl
  within_under (Some o) = refl

  at-quote : (mark : Mark) (o : O) → Follows mark o quote (on_quote mark (begins o))
  at-quote Bare o = go (begins o) refl
    where
      go : (t : Bool) → begins o ≡ t → Follows Bare o quote (cond t (To Within) Broken)
      go true e = (refl, rw e)
      go false e = (λ h. rw e, λ h. absurd (false≢true h))
  at-quote Within o = (refl, refl)
  at-quote Behind o = (λ h. refl, λ h. absurd (false≢true h))
  at-quote Returned o = (λ h. refl, λ h. absurd (false≢true h))

  at_return : (mark : Mark) (o : O) → Follows mark o carriage_return (on_return mark)
  at_return Bare o = (refl, refl)
  at_return Within o = (λ h. refl, λ h. absurd (false≢true h))
  at_return Behind o = (refl, refl)
  at_return Returned o = (λ h. refl, λ h. absurd (false≢true h))

  at-end : (mark : Mark) (o : O) → Follows mark o line_feed (on_end mark)
  at-end Bare o = (λ h. absurd (true≢false h), λ h. (refl, refl))
  at-end Within o = (λ h. absurd (true≢false h), λ h. refl)
  at-end Behind o = (λ h. absurd (true≢false h), λ h. (refl, refl))
  at-end Returned o = (λ h. absurd (true≢false h), λ h. (refl, refl))

  at-comma : (mark : Mark) (o : O) → Follows mark o comma (on_comma mark)
  at-comma Bare o = (λ h. bare_under (step o comma), λ h. absurd (false≢true h))
  at-comma Within o = (λ h. refl, λ h. absurd (false≢true h))
  at-comma Behind o = (λ h. bare_under (step o comma), λ h. absurd (false≢true h))
  at-comma Returned o = (λ h. refl, λ h. absurd (false≢true h))

  at_other : (mark : Mark) (o : O) (b : ℕ) → eqb b quote ≡ false → eqb b carriage_return ≡ false → eqb b line_feed ≡ false → eqb b comma ≡ false
      → Follows mark o b (on_other mark)
  at_other Bare o b q r l c = (λ h. rw (r, q) (bare_under (step o b)), λ h. absurd (false≢true (sym l ∙ h)))
  at_other Within o b q r l c = (λ h. rw (r, q, c) (within_under (step o b)), λ h. absurd (false≢true (sym l ∙ h)))
  at_other Behind o b q r l c = (λ h. rw (r, c), λ h. absurd (false≢true (sym l ∙ h)))
  at_other Returned o b q r l c = (λ h. refl, λ h. absurd (false≢true (sym l ∙ h)))

  -- THE LAW: the turn that the code takes is the machine's
  pub follows : (mark : Mark) (o : O) (b : ℕ) → Follows mark o b (turned mark b (begins o))
  follows mark o b = go (kind b)
    where
      go : Kind b → Follows mark o b (turned mark b (begins o))
      go (is_quote e) = subst (λ (x : ℕ). Follows mark o x (turned mark x (begins o))) (sym e) (at-quote mark o)
      go (is_return e) = subst (λ (x : ℕ). Follows mark o x (turned mark x (begins o))) (sym e) (at_return mark o)
      go (is_end e) = subst (λ (x : ℕ). Follows mark o x (turned mark x (begins o))) (sym e) (at-end mark o)
      go (is_comma e) = subst (λ (x : ℕ). Follows mark o x (turned mark x (begins o))) (sym e) (at-comma mark o)
      go (is_other q r l c) = rw (q, r, l, c) (at_other mark o b q r l c)

  pub follows-at : (mark : Mark) (o : O) (b : ℕ) (t : Act) → t ≡ turned mark b (begins o) → Follows mark o b t
  follows-at mark o b t e = subst (λ (x : Act). Follows mark o b x) (sym e) (follows mark o b)

-- ---- plain bytes go to the contents and leave the mark

pub plain_turn : (mark : Mark) (b : ℕ) (begins : Bool) → plain_under mark b ≡ true → Content mark ≡ turned mark b begins
plain_turn mark b begins p = go mark (kind b) p
  where
    go : (mark : Mark) → Kind b → plain_under mark b ≡ true → Content mark ≡ turned mark b begins
    go mark (is_quote e) p = absurd (false≢true (ap (plain_under mark) (sym e) ∙ p))
    go mark (is_return e) p = absurd (false≢true (ap (plain_under mark) (sym e) ∙ p))
    go Bare (is_end e) p = rw e
    go Bare (is_comma e) p = rw e
    go Bare (is_other q r l c) p = rw (q, r, l, c)
    go Within (is_end e) p = absurd (false≢true (ap (plain_under Within) (sym e) ∙ p))
    go Within (is_comma e) p = absurd (false≢true (ap (plain_under Within) (sym e) ∙ p))
    go Within (is_other q r l c) p = rw (q, r, l, c)
    go Behind (is_end e) p = absurd (false≢true (ap (plain_under Behind) (sym e) ∙ p))
    go Behind (is_comma e) p = absurd (false≢true (ap (plain_under Behind) (sym e) ∙ p))
    go Behind (is_other q r l c) p = absurd (false≢true (sym (rw (q, r)) ∙ p))
    go Returned (is_end e) p = absurd (false≢true (ap (plain_under Returned) (sym e) ∙ p))
    go Returned (is_comma e) p = absurd (false≢true (ap (plain_under Returned) (sym e) ∙ p))
    go Returned (is_other q r l c) p = absurd (false≢true (sym (rw (q, r)) ∙ p))

-- a byte that stands alone among the contents under every mark that takes them
pub plain_other : (mark : Mark) (b : ℕ) → takes mark ≡ true → eqb b quote ≡ false → eqb b carriage_return ≡ false → eqb b line_feed ≡ false → eqb b comma ≡ false
    → plain_under mark b ≡ true
plain_other Bare b t q r l c = rw (q, r)
plain_other Within b t q r l c = rw (q, r, l, c)
plain_other Behind b t q r l c = absurd (false≢true t)
plain_other Returned b t q r l c = absurd (false≢true t)

pub never_plain : (mark : Mark) (b : ℕ) → takes mark ≡ false → plain_under mark b ≡ false
never_plain mark b t = go (eqb b quote) (eqb b carriage_return) mark t
  where
    go : (q r : Bool) (mark : Mark) → takes mark ≡ false → cond q false (cond r false (plain_in mark b)) ≡ false
    go true r mark t = refl
    go false true mark t = refl
    go false false Bare t = absurd (true≢false t)
    go false false Within t = absurd (true≢false t)
    go false false Behind t = refl
    go false false Returned t = refl

-- ---- what stands within

abbrev pub inside : {O : Type 0} → Marked O → O
inside (on q o) = o
inside (returned o) = o

pub inside_marked : {O : Type 0} (mark : Mark) (o : O) → inside (marked mark o) ≡ o
inside_marked Bare o = refl
inside_marked Within o = refl
inside_marked Behind o = refl
inside_marked Returned o = refl

-- The lowest rule that a row breaks is the definition's. Assumes nothing.
use Prim.Native.Nat.{ℕ, ◌+◌, ◌≤◌}
use mathlib.Core.Path.{◌≡◌, refl, ap, ap₂, ◌∙◌}
use mathlib.Core.Bool.{Bool, true, false, cond, not, ◌&&◌, ◌||◌}
use mathlib.Core.List.{List, [], ◌∷◌}
use native.Mathlib.Omega.{arith}
use lib.Dec.{ltb, eqb}
use borrow.Author.Tests.{leb-true}
use Rattle.rules.specs.Limits.{most_time}
use Rattle.rules.specs.Lists.{any, same_list}
use Rattle.rules.specs.Answers.{◌needs◌}
use Rattle.rules.specs.Duties.{duty_column, seq_column, start_column, start_text_column, end_column, end_text_column, from_column, to_column, later_rule, stays_rule, together_rule, sequence_rule, meets_rule, texts_rule, time_text, Before, rules, lowest}
use Rattle.rules.proofs.Truth.{and_first, and_second}
use Rattle.duties_fields.specs.Fields.{content_in, time_is}
use Rattle.duties_row.specs.Rowed.{value_of, held_in, is_time, in_range, event_in, or_fault}
use Rattle.duties_row.specs.Ruled.{follows_in, later_in, stays_in, sequence_in, meets_in, texts_in, rule_in}
use Rattle.std.specs.Prelude.{Option, Some, None}

pub text_at : (n m : ℕ) (s t : List ℕ) → n ≡ m → s ≡ t → (r : Bool) → r ≡ time_is n s → r ≡ time_is m t
text_at n m s t p q r e = e ∙ ap₂ time_is p q

-- ---- THE LAW: within the limits it is the lowest of the definition's rules

abbrev pub or_none : Option ℕ → ℕ
or_none None = 0
or_none (Some k) = k

-- a line whose numbers are not held
pub record Exact (line : List ℕ) : Type 0 where
  pub seq : held_in seq_column line ≡ value_of (content_in seq_column line)
  pub start : held_in start_column line ≡ value_of (content_in start_column line)
  pub end : held_in end_column line ≡ value_of (content_in end_column line)

pub exact : (line : List ℕ) → in_range line ≡ true → Exact line
exact line e =
    let a : value_of (content_in seq_column line) ≤ most_time = leb-true _ most_time (and_first (is_time (content_in seq_column line)) _ e) in
    let rest = and_second (is_time (content_in seq_column line)) _ e in
    let b : value_of (content_in start_column line) ≤ most_time = leb-true _ most_time (and_first (is_time (content_in start_column line)) _ rest) in
    let d : value_of (content_in end_column line) ≤ most_time = leb-true _ most_time (and_second (is_time (content_in start_column line)) _ rest) in
    record { seq = omega arith; start = omega arith; end = omega arith }

pub exact_none : Exact []
exact_none = record { seq = refl; start = refl; end = refl }

-- six tests in order
six : (a b c d e f a' b' c' d' e' f' : Bool) → a ≡ a' → b ≡ b' → c ≡ c' → d ≡ d' → e ≡ e' → f ≡ f'
    → or_fault (cond a (cond b (cond c 0 together_rule) stays_rule) later_rule) (cond d (cond e (cond f 0 texts_rule) meets_rule) sequence_rule)
    ≡ or_none (lowest (later_rule needs a' ∷ stays_rule needs b' ∷ together_rule needs c' ∷ sequence_rule needs d' ∷ meets_rule needs e' ∷ texts_rule needs f' ∷ []))
six a b c d e f a' b' c' d' e' f' p q r s t u = rw (p, q, r, s, t, u) (go a' b' c' d' e' f')
  where
    go : (a b c d e f : Bool)
        → or_fault (cond a (cond b (cond c 0 together_rule) stays_rule) later_rule) (cond d (cond e (cond f 0 texts_rule) meets_rule) sequence_rule)
        ≡ or_none (lowest (later_rule needs a ∷ stays_rule needs b ∷ together_rule needs c ∷ sequence_rule needs d ∷ meets_rule needs e ∷ texts_rule needs f ∷ []))
    go false b c d e f = refl
    go true false c d e f = refl
    go true true false d e f = refl
    go true true true false e f = refl
    go true true true true false f = refl
    go true true true true true false = refl
    go true true true true true true = refl

module _ (seen : List (List ℕ)) (before line : List ℕ) (new : Bool) (fresh : new ≡ not (any (same_list (content_in duty_column line)) seen)) (x : Exact before) (e : in_range line ≡ true) where
  abbrev so_far : Before
  so_far = record { seen = seen; last = Some (event_in before) }

  abbrev here : Exact line
  here = exact line e

  time_in : (k : ℕ) → is_time (content_in k line) ≡ true → held_in k line ≡ value_of (content_in k line) → (s : List ℕ) → time_is (held_in k line) s ≡ same_list (time_text (value_of (content_in k line))) s
  time_in k t h s = ap (λ (n : ℕ). time_is n s) h ∙ rw t

  pub rule_is : rule_in new before line ≡ or_none (lowest (rules so_far (event_in line)))
  unfolding follows_in later_in stays_in sequence_in meets_in texts_in
  rule_is =
      let rest = and_second (is_time (content_in seq_column line)) _ e in
      six _ (stays_in line) _ _ _ _ _ _ _ _ _ _
      (ap₂ ltb here.start here.end)
      refl
      (ap (λ (t : Bool). same_list (content_in duty_column before) (content_in duty_column line) || t) fresh)
      (ap₂ (λ (m n : ℕ). eqb m (cond (same_list (content_in duty_column before) (content_in duty_column line)) (n + 1) 1)) here.seq x.seq)
      (ap₂
      (λ (m n : ℕ). cond (same_list (content_in duty_column before) (content_in duty_column line)) (eqb m n && same_list (content_in to_column before) (content_in from_column line)) true)
      here.start
      x.end)
      (ap₂ ◌&&◌
      (time_in start_column (and_first (is_time (content_in start_column line)) _ rest) here.start (content_in start_text_column line))
      (time_in end_column (and_second (is_time (content_in start_column line)) _ rest) here.end (content_in end_text_column line)))

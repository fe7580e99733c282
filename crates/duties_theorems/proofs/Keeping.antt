-- No rule is broken exactly where every row keeps every rule. Assumes nothing.
use Prim.Native.Nat.{ℕ, suc, ◌+◌}
use mathlib.Core.Path.{◌≡◌, refl, sym, ap, ap₂, ◌∙◌}
use mathlib.Core.Bool.{Bool, true, false, not, cond, ◌&&◌, ◌||◌, true≢false, false≢true}
use mathlib.Core.List.{List, [], ◌∷◌}
use lib.Dec.{ltb, eqb}
use borrow.Author.Tests.{ltb-true, lt-ltb, eqb-true, eq-eqb}
use Rattle.rules.specs.Lists.{any, same_list}
use Rattle.rules.specs.Answers.{◌needs◌}
use Rattle.rules.specs.Rows.{or_else}
use Rattle.rules.specs.Duties.{later_rule, stays_rule, together_rule, sequence_rule, meets_rule, texts_rule, is_train, time_text, Event, Before, nothing_before, after, follows, seq_after, meets, rules, lowest, broken_from, broken}
use Rattle.rules.proofs.Truth.{and_first, and_second, missing}
use Rattle.rules.proofs.Lists.{same_self, same_equal}
use Rattle.duties_theorems.specs.Kept.{Keeps, AllKeep}
use Rattle.std.specs.Prelude.{Option, Some, None}

-- ---- six tests

some_none : {k : ℕ} {A : Type 0} → Some k ≡ None → A
some_none e = missing _ (sym e)

six_true : (a b c d e f : Bool)
    → lowest (later_rule needs a ∷ stays_rule needs b ∷ together_rule needs c ∷ sequence_rule needs d ∷ meets_rule needs e ∷ texts_rule needs f ∷ []) ≡ None
    → (a ≡ true) × (b ≡ true) × (c ≡ true) × (d ≡ true) × (e ≡ true) × (f ≡ true)
six_true false b c d e f z = some_none z
six_true true false c d e f z = some_none z
six_true true true false d e f z = some_none z
six_true true true true false e f z = some_none z
six_true true true true true false f z = some_none z
six_true true true true true true false z = some_none z
six_true true true true true true true z = (refl, refl, refl, refl, refl, refl)

six-none : (a b c d e f : Bool) → a ≡ true → b ≡ true → c ≡ true → d ≡ true → e ≡ true → f ≡ true
    → lowest (later_rule needs a ∷ stays_rule needs b ∷ together_rule needs c ∷ sequence_rule needs d ∷ meets_rule needs e ∷ texts_rule needs f ∷ []) ≡ None
six-none a b c d e f p q r s t u = rw (p, q, r, s, t, u)

or_second : (a b : Bool) → a || b ≡ true → a ≡ false → b ≡ true
or_second true b e n = absurd (true≢false n)
or_second false b e n = e

or_made : (a b : Bool) → (a ≡ false → b ≡ true) → a || b ≡ true
or_made true b h = refl
or_made false b h = h refl

not_true : (a : Bool) → not a ≡ true → a ≡ false
not_true true e = absurd (false≢true e)
not_true false e = refl

same-made : (a b : List ℕ) → a ≡ b → same_list a b ≡ true
same-made a b e = ap (same_list a) (sym e) ∙ same_self a

-- ---- a row

module _ (b : Before) (e : Event) where
  abbrev one : Bool
  one = ltb e.start e.end

  abbrev two : Bool
  two = is_train e.type || same_list e.from e.to

  abbrev three : Bool
  three = follows b.last e || not (any (same_list e.duty) b.seen)

  abbrev four : Bool
  four = eqb e.seq (cond (follows b.last e) (seq_after b.last) 1)

  abbrev five : Bool
  five = cond (follows b.last e) (meets b.last e) true

  abbrev six : Bool
  six = same_list (time_text e.start) e.start_text && same_list (time_text e.end) e.end_text

  -- the event before, where it is of the same duty
  of_duty : (p : Event) → b.last ≡ Some p → p.duty ≡ e.duty → follows b.last e ≡ true
  of_duty p l d = ap (λ (o : Option Event). follows o e) l ∙ same-made p.duty e.duty d

  pub row_keeps : lowest (rules b e) ≡ None → Keeps b e
  row_keeps z =
      let t = six_true one two three four five six z in
      let met : (p : Event) → b.last ≡ Some p → p.duty ≡ e.duty → eqb e.start p.end && same_list p.to e.from ≡ true =
      λ p l d. ap (λ (o : Option Event). meets o e) (sym l) ∙ sym (ap (λ (x : Bool). cond x (meets b.last e) true) (of_duty p l d)) ∙ t.4 in
      record {
        later = ltb-true e.start e.end t.0;
        stays = λ n. same_equal e.from e.to (or_second (is_train e.type) (same_list e.from e.to) t.1 n);
        together = λ n. not_true (any (same_list e.duty) b.seen) (or_second (follows b.last e) (not (any (same_list e.duty) b.seen)) t.2 n);
        begins = λ n. eqb-true e.seq 1 (sym (ap (λ (x : Bool). eqb e.seq (cond x (seq_after b.last) 1)) n) ∙ t.3);
        goes_on = λ p l d.
            eqb-true e.seq (p.seq + 1)
            (ap (λ (o : Option Event). eqb e.seq (seq_after o)) (sym l) ∙ sym (ap (λ (x : Bool). eqb e.seq (cond x (seq_after b.last) 1)) (of_duty p l d)) ∙ t.3);
        time = λ p l d. eqb-true e.start p.end (and_first (eqb e.start p.end) (same_list p.to e.from) (met p l d));
        node = λ p l d. same_equal p.to e.from (and_second (eqb e.start p.end) (same_list p.to e.from) (met p l d));
        start_text_lem = same_equal (time_text e.start) e.start_text (and_first (same_list (time_text e.start) e.start_text) (same_list (time_text e.end) e.end_text) t.5);
        end_text_lem = same_equal (time_text e.end) e.end_text (and_second (same_list (time_text e.start) e.start_text) (same_list (time_text e.end) e.end_text) t.5);
      }

  pub keeps_none : Keeps b e → lowest (rules b e) ≡ None
  keeps_none k =
      six-none one two three four five six
      (lt-ltb e.start e.end k.later)
      (or_made (is_train e.type) (same_list e.from e.to) (λ n. same-made e.from e.to (k.stays n)))
      (or_made (follows b.last e) (not (any (same_list e.duty) b.seen)) (λ n. ap not (k.together n)))
      (sequence b.last refl (follows b.last e) refl)
      (chain b.last refl (follows b.last e) refl)
      (ap₂ ◌&&◌ (same-made (time_text e.start) e.start_text k.start_text_lem) (same-made (time_text e.end) e.end_text k.end_text_lem))
    where
      sequence : (o : Option Event) → b.last ≡ o → (x : Bool) → follows b.last e ≡ x → eqb e.seq (cond x (seq_after b.last) 1) ≡ true
      sequence o l false n = eq-eqb e.seq 1 (k.begins n)
      sequence None l true n = absurd (false≢true (ap (λ (o : Option Event). follows o e) (sym l) ∙ n))
      sequence (Some p) l true n =
          ap (λ (o : Option Event). eqb e.seq (seq_after o)) l ∙ eq-eqb e.seq (p.seq + 1) (k.goes_on p l (same_equal p.duty e.duty (ap (λ (o : Option Event). follows o e) (sym l) ∙ n)))

      chain : (o : Option Event) → b.last ≡ o → (x : Bool) → follows b.last e ≡ x → cond x (meets b.last e) true ≡ true
      chain o l false n = refl
      chain None l true n = absurd (false≢true (ap (λ (o : Option Event). follows o e) (sym l) ∙ n))
      chain (Some p) l true n =
          let d : p.duty ≡ e.duty = same_equal p.duty e.duty (ap (λ (o : Option Event). follows o e) (sym l) ∙ n) in
          ap (λ (o : Option Event). meets o e) l ∙ ap₂ ◌&&◌ (eq-eqb e.start p.end (k.time p l d)) (same-made p.to e.from (k.node p l d))

-- ---- all rows

all_keep : (n : ℕ) (b : Before) (es : List Event) → broken_from n b es ≡ None → AllKeep b es
all_keep n b [] z = tt
all_keep n b (e ∷ es) z = go (lowest (rules b e)) refl z (all_keep (suc n) (after b e) es)
  where
    go : (o : Option ℕ) → lowest (rules b e) ≡ o → or_else n o (broken_from (suc n) (after b e) es) ≡ None → (broken_from (suc n) (after b e) es ≡ None → AllKeep (after b e) es)
        → Keeps b e × AllKeep (after b e) es
    go None l z ih = (row_keeps b e l, ih z)
    go (Some k) l z ih = missing _ (sym z)

none-broken : (n : ℕ) (b : Before) (es : List Event) → AllKeep b es → broken_from n b es ≡ None
none-broken n b [] k = refl
none-broken n b (e ∷ es) k = ap (λ (o : Option ℕ). or_else n o (broken_from (suc n) (after b e) es)) (keeps_none b e k.0) ∙ none-broken (suc n) (after b e) es k.1

-- THE RULES
pub broken-none : (es : List Event) → broken es ≡ None → AllKeep nothing_before es
broken-none = all_keep 0 nothing_before

pub kept_none : (es : List Event) → AllKeep nothing_before es → broken es ≡ None
kept_none = none-broken 0 nothing_before

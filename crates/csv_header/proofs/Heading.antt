-- The header is compared byte by byte: a law for each way through the code. Assumes nothing.
use Prim.Native.Nat.{ℕ, suc, ◌+◌, ◌-◌, ◌≤◌, ◌<◌}
use mathlib.Core.Path.{◌≡◌, ap, ◌∙◌}
use mathlib.Core.Bool.{Bool, true}
use mathlib.Core.List.{List}
use native.Mathlib.Nat.{le_antisymm}
use native.Mathlib.Numerals.{add-one}
use Rattle.std.specs.Prelude.{Option, Some, None, Result, Ok, Err}
use lib.Dec.{eqb}
use lib.ListN.{length, get_or, drop, drop_of_length-le}
use lib.Seq.{drop-cons}
use borrow.Author.Tests.{lt-ltb, le-ltb, eq-eqb, ne_eqb}
use Rattle.rules.specs.Bytes.{comma}
use Rattle.csv_marks.specs.declared.Mark.{Mark}
use Rattle.csv_marks.specs.declared.Act.{Act}
use Rattle.csv_marks.specs.declared.Act.TheVariants.{To, Content, Broken}
use Rattle.csv_marks.specs.Turns.{turned}
use Rattle.csv_header.specs.declared.Headed.{Headed}
use Rattle.csv_header.specs.declared.Stepped.{Stepped}
use Rattle.csv_header.specs.Heading.{headed, begins_in, stepped_in, after_step, compared_from}

-- ---- where a name begins

pub begins-first : (names : List ℕ) (k : ℕ) → k ≡ 0 → true ≡ begins_in names k
begins-first names k e = rw (eq-eqb k 0 e)

pub begins-later : (names : List ℕ) (k : ℕ) (x : Bool) → (k ≡ 0 → ⊥) → x ≡ eqb (get_or names (k - 1) 0) comma → x ≡ begins_in names k
begins-later names k x n e = rw (ne_eqb k 0 n) e

-- ---- a byte

module _ (names : List ℕ) (mark : Mark) (k b : ℕ) (begins : Bool) (a : Act) (f : begins ≡ begins_in names k) (e : a ≡ turned mark b begins) where
  turns : a ≡ turned mark b (begins_in names k)
  turns = e ∙ ap (turned mark b) f

  pub step_to : (m : Mark) → a ≡ To m → Some (record { head = k; mark = m }) ≡ stepped_in names mark k b
  step_to m q = rw (← turns, q)

  pub step_content : (m : Mark) → a ≡ Content m → b ≡ get_or names k 0 → Some (record { head = k + 1; mark = m }) ≡ stepped_in names mark k b
  step_content m q c = rw (← turns, q, eq-eqb b (get_or names k 0) c)

  pub step_other : (m : Mark) → a ≡ Content m → (b ≡ get_or names k 0 → ⊥) → None ≡ stepped_in names mark k b
  step_other m q c = rw (← turns, q, ne_eqb b (get_or names k 0) c)

  pub step_broken : a ≡ Broken → None ≡ stepped_in names mark k b
  step_broken q = rw (← turns, q)

-- ---- the loop

module _ (names part : List ℕ) (mark : Mark) (k i : ℕ) (r : Result Headed Headed) (e : compared_from names mark k i (drop i part) ≡ r) where
  pub head_over : i < length part → length names ≤ k → Ok (headed i k mark) ≡ r
  head_over h l = rw (drop-cons part i 0 h, le-ltb k (length names) l) at e

  module _ (a : Option Stepped) (h : i < length part) (l : k < length names) (t : a ≡ stepped_in names mark k (get_or part i 0)) where
    -- after the byte
    after : after_step a (λ x. compared_from names x.mark x.head (i + 1) (drop (i + 1) part)) (Err (headed i k mark)) ≡ r
    after =
        ap (λ (x : ℕ). after_step a (λ y. compared_from names y.mark y.head (i + 1) (drop x part)) (Err (headed i k mark))) (add-one i)
        ∙ ap (λ (x : Option Stepped). after_step x (λ y. compared_from names y.mark y.head (i + 1) (drop (suc i) part)) (Err (headed i k mark))) t
        ∙ (rw (drop-cons part i 0 h, lt-ltb k (length names) l) at e)

    pub head_wrong : a ≡ None → Err (headed i k mark) ≡ r
    head_wrong q = rw q at after

    pub head_on : (x : Stepped) → a ≡ Some x → compared_from names x.mark x.head (i + 1) (drop (i + 1) part) ≡ r
    head_on x q = rw q at after

  pub head_end_lem : length part ≤ i → i ≤ length part → Ok (headed (length part) k mark) ≡ r
  head_end_lem h w = let all : length part ≡ i = le_antisymm h w in rw all (rw (drop_of_length-le part h) at e)

pub ruleset heading = (begins-first, begins-later, step_to, step_content, step_other, step_broken, head_over, head_wrong, head_on, head_end_lem)

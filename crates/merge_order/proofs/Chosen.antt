-- Each way out of reading two solutions over the files. Assumes nothing.
use Prim.Native.Nat.{ℕ}
use mathlib.Core.Path.{◌≡◌, sym, ◌∙◌}
use mathlib.Core.List.{List}
use native.Mathlib.Omega.{arith}
use lib.ListN.{length}
use Rattle.rules.specs.Answers.{solution_file, second_file, good}
use Rattle.rules.specs.Reading.{choices_read}
use Rattle.rules.specs.declared.sizes.Configuration.{Configuration}
use Rattle.rules.specs.declared.answers.Refusal.{Refusal}
use Rattle.tables_lent.specs.declared.Counts.{Counts}
use Rattle.solution_verdict.specs.Left.{Choosable, Chooses}
use Rattle.solution_verdict.proofs.Choosing.{was_chosen, not_chosen}
use Rattle.merge_order.specs.Both.{ChoosesBoth}
use Rattle.std.specs.Prelude.{Result, Ok, Err}

module _ {H : ℕ} {counts : Counts} {first second legs c d : List ℕ} {p : Result (Unit {0}) Refusal} {c' : List ℕ} (h : Chooses H solution_file counts first legs c p c') where
  pub first_refused : {x : Refusal} → p ≡ Err x → {d' : List ℕ} → ChoosesBoth H counts first second legs c d (Err x) c' d'
  first_refused {x} e =
      record {
        refuses = λ k y q. rw (not_chosen (choices_read H k.left.files solution_file (length c) first) y (sym q ∙ sym e ∙ h.answers k));
        chooses = λ k q. let z : ◌≡◌ {A = ℕ} 0 1 = cc in absurd (omega arith);
      }

  module _ (e : p ≡ (Ok tt)) {q : Result (Unit {0}) Refusal} {d' : List ℕ} (g : Chooses H second_file counts second legs d q d') where
    one : (k : Choosable H counts legs) → (cs : List Configuration) × (choices_read H k.left.files solution_file (length c) first ≡ good cs)
    one k = was_chosen (choices_read H k.left.files solution_file (length c) first) (sym e ∙ h.answers k)

    pub second_decides : ChoosesBoth H counts first second legs c d q c' d'
    second_decides =
        record {
          refuses = λ k x z. rw ((one k).1, not_chosen (choices_read H k.left.files second_file (length d) second) x (sym z ∙ g.answers k));
          chooses = λ k z.
              let two = was_chosen (choices_read H k.left.files second_file (length d) second) (sym z ∙ g.answers k) in
              record {
                a = (one k).0;
                b = two.0;
                a_read = (one k).1;
                b_read = two.1;
                choices_are = h.chooses k (one k).0 (one k).1;
                second_are = g.chooses k two.0 two.1;
              };
        }

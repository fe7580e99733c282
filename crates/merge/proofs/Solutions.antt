-- Each way out of reading two solutions over the files. Assumes nothing.
use Prim.Native.Nat.{ℕ}
use mathlib.Core.Path.{◌≡◌, refl, sym, ap, ◌∙◌}
use mathlib.Core.List.{List}
use lib.ListN.{length}
use Rattle.rules.specs.Answers.{is_refusal, Reading, refused}
use Rattle.rules.specs.Reading.{Files}
use Rattle.rules.specs.Merge.{merge_of}
use Rattle.rules.specs.Entries.{verdict_of, Both, merge_from}
use Rattle.rules.specs.declared.answers.Refusal.{Refusal}
use Rattle.rules.specs.declared.answers.Answer.TheVariants.{Refused}
use Rattle.rules.specs.declared.outcomes.Merged.{Merged}
use Rattle.rules.specs.declared.outcomes.Direction.{Direction}
use Rattle.tables_lent.specs.declared.Counts.{Counts}
use Rattle.solution_verdict.specs.Left.{Judgeable, Choosable}
use Rattle.merge_order.specs.Both.{BothChosen, ChoosesBoth, solutions_read}
use Rattle.merge.specs.Left.{not_written, Disputable, Judges, Solved}
use Rattle.merge.proofs.Standing.{never, judged_stands}
use Rattle.std.specs.Prelude.{Result, Ok, Err}

module _ {H : ℕ} (way : Direction) {counts : Counts} {legs configurations constraints : List ℕ} (first second c d text : List ℕ)
    (k : Judgeable H counts legs configurations constraints) where
  abbrev f : Files
  f = k.left.files

  -- what the two say decides
  abbrev Ends : Reading Both → Merged → (c' d' text' : List ℕ) → Type 0
  Ends o r c' d' text' = Solved (merge_from k.left.lent c d text second (merge_of way) o) r c' d' text'

  refusal_ends : {x : Refusal} {r : Merged} {c' d' text' : List ℕ} → r ≡ not_written (Refused x) → Ends (refused x) r c' d' text'
  refusal_ends s = rw s (record { made = record { answer = refl; tally = refl; length = refl; puts = λ z. never (sym z) }; chooses = never })

  abbrev both : Reading Both
  both = solutions_read H f first second (length c) (length d)

  abbrev choosable : Choosable H counts legs
  choosable = record { left = k.left; legs_are_lem = k.legs_are_lem }

  module _ {p : Result (Unit {0}) Refusal} {c' d' : List ℕ} (h : ChoosesBoth H counts first second legs c d p c' d') where
    pub both_refused : {x : Refusal} {r : Merged} {c'' d'' text'' : List ℕ} → p ≡ Err x → r ≡ not_written (Refused x) → Ends both r c'' d'' text''
    both_refused {x} e s = rw (h.refuses choosable x e) (refusal_ends s)

    module _ (e : p ≡ (Ok tt)) where
      chosen : BothChosen H f first second c d c' d'
      chosen = h.chooses choosable e

      abbrev disputable : Disputable counts second legs configurations constraints c' d'
      disputable =
          record {
            mergeable =
                record {
                  H = H;
                  left = k.left;
                  legs_are_lem = k.legs_are_lem;
                  configurations_are_lem = k.configurations_are_lem;
                  first = first;
                  lent = c;
                  lent_second = d;
                  both = chosen;
                };
            constraints_are = k.constraints_are;
          }

      pub both_disputable : Disputable counts second legs configurations constraints c' d'
      both_disputable = disputable

      pub both_merged : {r : Merged} {text' : List ℕ} → Judges way counts second legs configurations constraints c' d' text r text' → Ends both r c' d' text'
      both_merged judged =
          let m = judged disputable in
          let s = judged_stands k.left.lent c d text second (merge_of way) (verdict_of f chosen.a).finding (verdict_of f chosen.a).tally (record { files = f; first = chosen.a; second = chosen.b }) in
          rw (chosen.a_read, chosen.b_read)
          (record {
            made = m;
            chooses = λ n.
                let standing = ap is_refusal (sym m.answer) ∙ n in (chosen.choices_are ∙ sym (s.choices standing), chosen.second_are ∙ sym (s.second_choices_lem standing));
          })

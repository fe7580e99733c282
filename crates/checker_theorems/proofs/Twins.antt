-- Twins of files, about the entries: two calls that keep their promises coincide, since the definitions do. Assumes nothing.
use Prim.Native.Nat.{ℕ}
use mathlib.Core.Path.{◌≡◌, sym, ap, ◌∙◌}
use mathlib.Core.List.{List}
use Rattle.rules.specs.Reading.{Texts}
use Rattle.rules.specs.Merge.{merge_of}
use Rattle.rules.specs.Entries.{Checked, checked, Reported, reported, Merged, merged}
use Rattle.rules.specs.declared.stated.Stated.{Stated}
use Rattle.rules.specs.declared.outcomes.Direction.{Direction}
use Rattle.rules_json.proofs.Twins.{check_twin, report_twin, merge_twin}
use Rattle.checker_theorems.specs.Demands.{CheckOutcome, EnergyOutcome, MergeOutcome}
use Rattle.checker_theorems.specs.Twins.{CheckTwins, EnergyTwins, MergeTwins}

module _ (S R : Stated) (x y : Texts) where
  -- THE THEOREM of `check`
  pub check_twins : (s : List ℕ) (o : CheckOutcome S x s) (p : CheckOutcome R y s) → CheckTwins S R x y s o p
  check_twins s o p lent choices t =
      let e : checked R y s p.lent p.lent_choices ≡ checked S x s o.lent o.lent_choices =
      rw (lent, choices) (check_twin S R x y o.lent t.files t.twins t.read s o.lent_choices) in
      let answer = p.keeps.answer ∙ ap (λ (k : Checked). k.answer) e ∙ sym o.keeps.answer in
      let tally = p.keeps.tally ∙ ap (λ (k : Checked). k.tally) e ∙ sym o.keeps.tally in (
        λ j. record { answer = answer j; tally = tally j },
        p.keeps.tables ∙ ap (λ (k : Checked). k.tables) e ∙ sym o.keeps.tables,
        p.keeps.choices ∙ ap (λ (k : Checked). k.choices) e ∙ sym o.keeps.choices,
      )

  -- of `energy`
  pub energy_twins : (s : List ℕ) (o : EnergyOutcome S x s) (p : EnergyOutcome R y s) → EnergyTwins S R x y s o p
  energy_twins s o p lent choices curves t =
      let e : reported R y s p.lent p.lent_choices p.lent_curves ≡ reported S x s o.lent o.lent_choices o.lent_curves =
      rw (lent, choices, curves) (report_twin S R x y o.lent t.files t.twins t.read s o.lent_choices o.lent_curves) in
      let answer = p.keeps.answer ∙ ap (λ (k : Reported). k.answer) e ∙ sym o.keeps.answer in
      let tally = p.keeps.tally ∙ ap (λ (k : Reported). k.tally) e ∙ sym o.keeps.tally in
      let figures = p.keeps.figures ∙ ap (λ (k : Reported). k.figures) e ∙ sym o.keeps.figures in
      let desk = p.keeps.desk ∙ ap (λ (k : Reported). k.desk) e ∙ sym o.keeps.desk in (
        λ j. record { answer = answer j; tally = tally j; figures = figures j; desk = desk j },
        p.keeps.tables ∙ ap (λ (k : Reported). k.tables) e ∙ sym o.keeps.tables,
        p.keeps.choices ∙ ap (λ (k : Reported). k.choices) e ∙ sym o.keeps.choices,
        p.keeps.curves ∙ ap (λ (k : Reported). k.curves) e ∙ sym o.keeps.curves,
      )

  -- and of `merge`, in either direction
  pub merge_twins : (direction : Direction) (a b : List ℕ) (o : MergeOutcome direction S x a b) (p : MergeOutcome direction R y a b) → MergeTwins S R x y direction a b o p
  merge_twins direction a b o p lent choices second text t =
      let e : merged (merge_of direction) R y a b p.lent p.lent_choices p.lent_second p.lent_text
      ≡ merged (merge_of direction) S x a b o.lent o.lent_choices o.lent_second o.lent_text =
      rw (lent, choices, second, text)
      (merge_twin S R x y o.lent t.files t.twins t.read (merge_of direction) a b o.lent_choices o.lent_second o.lent_text) in
      let answer = p.keeps.answer ∙ ap (λ (k : Merged). k.answer) e ∙ sym o.keeps.answer in
      let tally = p.keeps.tally ∙ ap (λ (k : Merged). k.tally) e ∙ sym o.keeps.tally in
      let length = p.keeps.length ∙ ap (λ (k : Merged). k.length) e ∙ sym o.keeps.length in (
        λ j. record { answer = answer j; tally = tally j; length = length j },
        p.keeps.tables ∙ ap (λ (k : Merged). k.tables) e ∙ sym o.keeps.tables,
        p.keeps.choices ∙ ap (λ (k : Merged). k.choices) e ∙ sym o.keeps.choices,
        p.keeps.second ∙ ap (λ (k : Merged). k.second) e ∙ sym o.keeps.second,
        p.keeps.text ∙ ap (λ (k : Merged). k.text) e ∙ sym o.keeps.text,
      )

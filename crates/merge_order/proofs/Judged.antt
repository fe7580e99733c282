-- Each way out of two verdicts. Assumes nothing.
use Prim.Native.Nat.{ℕ}
use mathlib.Core.Path.{◌≡◌, ap, ap₂, ◌∙◌}
use mathlib.Core.Bool.{true, false}
use mathlib.Core.List.{List}
use Rattle.rules.specs.Answers.{solution_file, second_file, is_accepted}
use Rattle.rules.specs.declared.answers.Ruling.{Ruling}
use Rattle.tables_lent.specs.declared.Counts.{Counts}
use Rattle.solution_verdict.specs.Left.{Judges}
use Rattle.merge_order.specs.Order.{first_ruling}
use Rattle.merge_order.specs.Both.{verdict_in, JudgesBoth}

pub first-counts : (a b : Ruling) → is_accepted a.answer ≡ false → a ≡ first_ruling a b
first-counts a b e = rw e

pub second-counts : (a b : Ruling) → is_accepted a.answer ≡ true → b ≡ first_ruling a b
second-counts a b e = rw e

module _ {counts : Counts} {legs configurations constraints choices second_choices : List ℕ} {a : Ruling} (judged : Judges counts legs configurations constraints choices solution_file a) where
  pub first_stops : is_accepted a.answer ≡ false → JudgesBoth counts legs configurations constraints choices second_choices a
  first_stops e = λ k.
      let second : Ruling = verdict_in second_file k.second in
      first-counts a second e ∙ ap (λ x. first_ruling x second) (judged k.first)

  pub second_answers : is_accepted a.answer ≡ true → {b : Ruling} → Judges counts legs configurations constraints second_choices second_file b
      → JudgesBoth counts legs configurations constraints choices second_choices b
  second_answers e {b} judged₂ = λ k. second-counts a b e ∙ ap₂ first_ruling (judged k.first) (judged₂ k.second)

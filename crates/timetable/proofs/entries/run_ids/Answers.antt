-- Ids one after the other. Assumes nothing.
use Prim.Native.Nat.{ℕ, ◌+◌, ◌<◌}
use mathlib.Core.Path.{ap, ◌∙◌}
use native.Mathlib.Omega.{arith}
use borrow.Author.Rules.{rules}
use Rattle.timetable_row.specs.Slots.{nominal_slot}
use Rattle.timetable_row.specs.declared.line.Line.{Line}
use Rattle.timetable.proofs.Quoted.{passings, passing_next}
use Rattle.timetable.proofs.entries.run_ids.Goals as goal

pub loop-slot-init : goal.loop-slot-init
loop-slot-init c = search (passings, rules)

pub loop-slot-preserved : goal.loop-slot-preserved
loop-slot-preserved c =
    let held = c.loop-slot.invariant in
    let among : c.loop-slot.line.slot < nominal_slot = omega (arith, held.1) in (
      passing_next held.0 c.in-Some.id _ c.quoted_at.ensures c.in-Some.is among c.kept-line.ensures,
      ap (λ (x : Line). x.slot) c.kept-line.ensures ∙ ap (λ (n : ℕ). n + 1) held.1,
    )

pub returns-in_default : goal.returns-in_default
returns-in_default c = search (passings, rules)

pub returns-after-loop-slot : goal.returns-after-loop-slot
returns-after-loop-slot c = search (passings, rules)

-- `energy_figures::before::add_leg` meets its contract: the leg's positive samples, in all and by quarters. Assumes nothing.
use native.Mathlib.Omega.{arith}
use Rattle.energy_figures.proofs.LegSteps.{part_there}
use Rattle.energy_figures.proofs.BeforeSteps.{part_short, part_room, whole_fits, leg_summed}
use borrow.Author.Rules.{rules}
use Rattle.energy_figures.proofs.before.add_leg.Goals as goal

pub slice_bounds-run-end : goal.slice_bounds-run-end
slice_bounds-run-end c = omega (arith, part_there _ _ c.requires.0.readable _ _ c.profile_of-profile.ensures)

pub sides_of-requires : goal.sides_of-requires
sides_of-requires c =
    let asked = c.requires in
    let configuration-at = c.configuration_at-choice in
    let profile-of = c.profile_of-profile in
    part_short _ _ _ _ asked.0 asked.1 _ configuration-at.ensures _ profile-of.ensures

pub overflow_add-whole : goal.overflow_add-whole
overflow_add-whole c = search (whole_fits, rules)

pub add_run-quarters-requires : goal.add_run-quarters-requires
add_run-quarters-requires c =
    let asked = c.requires in
    let configuration-at = c.configuration_at-choice in
    let profile-of = c.profile_of-profile in
    part_room _ _ _ _ asked.0 asked.1 _ configuration-at.ensures _ profile-of.ensures

pub returns : goal.returns
returns c = search (leg_summed, rules)

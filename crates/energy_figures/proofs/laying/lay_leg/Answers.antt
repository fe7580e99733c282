-- `energy_figures::laying::lay_leg` meets its contract: the leg's samples, by its choice, into its subnet, by its track. Assumes nothing.
use native.Mathlib.Omega.{arith}
use Rattle.energy_figures.proofs.LegSteps.{part_there, leg_room, leg-laid}
use borrow.Author.Rules.{rules}
use Rattle.energy_figures.proofs.laying.lay_leg.Goals as goal

pub slice_bounds-lay_home-end : goal.slice_bounds-lay_home-end
slice_bounds-lay_home-end c = omega (arith, part_there _ _ c.requires.0.readable.legs _ _ c.profile_of-profile.ensures)

pub lay_home-requires : goal.lay_home-requires
lay_home-requires c = search (leg_room _ _ _ _ _ _ c.requires.0, rules)

pub returns : goal.returns
returns c = search (leg-laid, rules)

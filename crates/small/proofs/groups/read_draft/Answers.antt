-- `small::groups::read_draft` meets its contract: each text is the one that was read into its room, so it is no longer than that. Assumes nothing.
use Rattle.std.proofs.Common.{◌≡◌, ◌≤◌, length, ℕ, List, Bor}
use Rattle.std.specs.Prelude.{Option, Some, None}
use Rattle.std.specs.Option.{IfSome, IsSomeAnd}
use Rattle.std.proofs.lemmas.Option.{IfSome_then}
use Rattle.small.proofs.groups.read_draft.Goals as goal

within : (o : Option (Bor (List ℕ))) (l room : List ℕ) → IfSome o (λ s. length s.now ≤ length room) → IsSomeAnd o (λ s. l ≡ s.now) → length l ≤ length room
within (Some s) l room h e = rw e h
within None l room h e = absurd e

pub returns-clause-timetable_fits : goal.returns-clause-timetable_fits
returns-clause-timetable_fits g c = IfSome_then c.all_read.result c.all_read.ensures.timetable_read (λ t p. within c.load-t.result _ _ c.load-t.ensures p)

pub returns-clause-profiles_fits : goal.returns-clause-profiles_fits
returns-clause-profiles_fits g c = IfSome_then c.all_read.result c.all_read.ensures.profiles_read (λ t p. within c.load-p.result _ _ c.load-p.ensures p)

pub returns-clause-constraints_fits : goal.returns-clause-constraints_fits
returns-clause-constraints_fits g c = IfSome_then c.all_read.result c.all_read.ensures.constraints_read (λ t p. within c.load-c.result _ _ c.load-c.ensures p)

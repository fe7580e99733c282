-- The earliest timetable of files that are read: the ordinary verdict accepts the proposal, and 19 is exact. Assumes nothing.
use Prim.Native.Nat.{◌<◌, ◌/◌}
use mathlib.Core.Path.{◌≡◌, subst}
use mathlib.Core.Logic.{◌↔◌}
use mathlib.Core.List.{List}
use lib.ListN.{length, length-map}
use Rattle.rules.specs.Limits.{constraint_width, track_width}
use Rattle.rules.specs.Answers.{good}
use Rattle.rules.specs.Timetable.{Row}
use Rattle.rules.specs.Constraints.{ordered}
use Rattle.rules.specs.Stated.{rules_by}
use Rattle.rules.specs.Reading.{Rooms, Texts, Files, leg_ids, files_of}
use Rattle.rules.specs.Verdict.{All, offered, accepted}
use Rattle.rules.specs.Earliest.{earliest}
use Rattle.rules.specs.Entries.{verdict_of}
use Rattle.rules.specs.declared.stated.Stated.{Stated}
use Rattle.rules.specs.declared.sizes.Configuration.{Configuration}
use Rattle.rules.specs.declared.sizes.Constraint.{Constraint}
use Rattle.rules.proofs.Truth.{all_map}
use Rattle.rules_theorems.specs.LawfulDocument.{LawfulConstraint}
use Rattle.rules_theorems.proofs.Ordered.{ordered_keeps}
use Rattle.rules_theorems.proofs.Documents.{good_is_lawful}
use Rattle.rules_theorems.proofs.GoodFiles.{files_good}
use Rattle.rules_theorems.proofs.Verdicts.{verdict_accepted}
use Rattle.earliest_theorems.specs.Statement.{Solution, Earliest, Proposal}
use Rattle.earliest_theorems.proofs.Proposed.{proposal, none_exactly}
use Rattle.std.specs.Prelude.{Some, None}

module _ (S : Stated) (x : Texts) (room : Rooms) (f : Files) (read : files_of S x room ≡ good f) where
  abbrev table : List Constraint
  table = ordered f.document.constraints

  -- every record names rows
  pub files_named : All (λ (c : Constraint). (c.first < length f.rows) × (c.second < length f.rows)) table
  files_named =
      let good-document = (files_good S x room f read).constraints in
      let lawful = good_is_lawful (leg_ids f.rows) (room.constraints / constraint_width) (room.tracks / track_width) (rules_by S) x.constraints f.document good-document in
      let many = length-map f.rows (λ (r : Row). r.leg) in
      ordered_keeps (λ (c : Constraint). (c.first < length f.rows) × (c.second < length f.rows)) f.document.constraints
      (all_map (LawfulConstraint (leg_ids f.rows)) (λ (c : Constraint). (c.first < length f.rows) × (c.second < length f.rows))
      (λ c k. (rw (← many) k.first_is_row, rw (← many) k.second_is_row)) f.document.constraints lawful.tables.constraints_lawful.each)

  pub files_proposal : Proposal f.rows table (earliest f.rows table)
  files_proposal = proposal f.rows table files_named

  -- 19 "is given exactly when no accepted solution with those travel times exists"
  pub files_none : (earliest f.rows table ≡ None) ↔ ((s : List Configuration) → Solution f.rows table s → ⊥)
  files_none = none_exactly f.rows table files_named

  pub proposal_earliest : (y : List Configuration) → earliest f.rows table ≡ Some y → Earliest f.rows table y
  proposal_earliest y e = subst (Proposal f.rows table) e files_proposal

  -- the ordinary verdict accepts it
  pub proposal_accepted : (y : List Configuration) → earliest f.rows table ≡ Some y → (verdict_of f y).finding ≡ accepted
  proposal_accepted y e = (verdict_accepted (offered f.rows) table y).0 (proposal_earliest y e).solution.accepted

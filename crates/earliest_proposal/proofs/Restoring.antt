-- The way out of the search: the leg table is as it was read, the proposal stands in its own, and the verdict accepts it. Assumes nothing.
use Prim.Native.Nat.{ℕ, ◌*◌, ◌/◌, ◌%◌, ◌≤◌, ◌<◌}
use native.Mathlib.Omega.{arith}
use mathlib.Core.Path.{◌≡◌, refl, sym, ap, ◌∙◌, subst}
use mathlib.Core.Logic.{◌≢◌}
use mathlib.Core.Bool.{Bool, true, false}
use mathlib.Core.List.{List, [], ◌∷◌}
use lib.Dec.{eqb, ltb}
use lib.ListN.{length, get_or}
use lib.Seq.{ext_get_or}
use borrow.Author.Tests.{eqb-true, eqb-false, ltb-true, ltb-false}
use Rattle.rules.specs.Limits.{leg_width, most_listed}
use Rattle.rules.specs.Constraints.{ordered}
use Rattle.rules.specs.Verdict.{All, Offered, offered, verdict, Finding, found, ruling}
use Rattle.rules.specs.Entries.{rooms_of, written_tables, verdict_of}
use Rattle.rules.specs.declared.sizes.Configuration.{Configuration}
use Rattle.rules.specs.declared.answers.Ruling.{Ruling}
use Rattle.rules.proofs.Lists.{tabulate-length}
use Rattle.tables_views.specs.View.{offers_in, constraint_at, constraints_in, configurations_in}
use Rattle.tables_views.proofs.Views.{configurations_written}
use Rattle.verdict.specs.Within.{Timely, Within}
use Rattle.verdict.proofs.Written.{verdict-written}
use Rattle.earliest_theorems.specs.Statement.{Earliest}
use Rattle.earliest_theorems.proofs.OfFiles.{proposal_earliest, proposal_accepted}
use Rattle.earliest_offer.specs.Offer.{last_at, chosen_at}
use Rattle.earliest_search.specs.Searching.{chosen_in, Moved}
use Rattle.earliest_search.specs.WayOut.{choices_over, Restored}
use Rattle.earliest_search.proofs.Visits.{offers_all}
use Rattle.earliest_proposal.specs.Left.{Left}
use Rattle.earliest_proposal.specs.Proposal.{accepted_as, Settleable, SettledOf, Settles}
use Rattle.earliest_proposal.proofs.FilesLeft.{records_many, files_timely}
use Rattle.earliest_proposal.proofs.Found.{left_readable, left_based}

-- ---- the leg table

module _ (n : ℕ) (a b c : List ℕ) (wide : leg_width * n ≤ length a) (small : (i : ℕ) → i < n → get_or a (last_at i) 0 < most_listed) (mv : Moved n a b) (r : Restored n b c) where
  -- by whether p is a leg's last number, of the first n
  restored_at : (p : ℕ) → get_or c p 0 ≡ get_or a p 0
  restored_at p = go (eqb (p % leg_width) 7) refl (ltb (p / leg_width) n) refl
    where
      go : (s : Bool) → eqb (p % leg_width) 7 ≡ s → (l : Bool) → ltb (p / leg_width) n ≡ l → get_or c p 0 ≡ get_or a p 0
      go true e true f =
          let h : p / leg_width < n = ltb-true (p / leg_width) n f in
          let q : p ≡ last_at (p / leg_width) = omega (arith, eqb-true (p % leg_width) 7 e) in
          let v : get_or a (last_at (p / leg_width)) 0 < most_listed = small (p / leg_width) h in
          let back : get_or a (last_at (p / leg_width)) 0 % most_listed ≡ get_or a (last_at (p / leg_width)) 0 = omega arith in
          ap (λ (i : ℕ). get_or c i 0) q ∙ r.places (p / leg_width) h ∙ mv.places (p / leg_width) h ∙ back ∙ ap (λ (i : ℕ). get_or a i 0) (sym q)
      go true e false f =
          let h : n ≤ p / leg_width = ltb-false (p / leg_width) n f in
          r.same p (λ i l q. omega arith) ∙ mv.same p (λ i l q. omega arith)
      go false e l f =
          let d : p % leg_width ≢ 7 = eqb-false (p % leg_width) 7 e in
          r.same p (λ i l q. d (omega arith)) ∙ mv.same p (λ i l q. d (omega arith))

  restored_is : c ≡ a
  restored_is = ext_get_or 0 c a (r.long ∙ mv.long) (λ p l. restored_at p)

-- ---- the verdict

offered_timely : (os : List (List Configuration)) (x : List Configuration) → All (All Timely) os → Offered os x → All Timely x
offered_timely [] [] h k = tt
offered_timely [] (c ∷ x) h k = absurd k
offered_timely (o ∷ os) [] h k = tt
offered_timely (o ∷ os) (c ∷ x) h k = (offers_all Timely o c h.0 k.0, offered_timely os x h.1 k.1)

module _ (n m : ℕ) (legs configurations constraints choices : List ℕ) (z : Settleable n m legs configurations constraints choices) where
  abbrev k : Left n m z.before configurations constraints
  k = z.left

  abbrev x : List Configuration
  x = chosen_in n legs configurations

  long : length x ≡ n
  long = tabulate-length n (chosen_at legs configurations)

  pub settle_wide : leg_width * n ≤ length legs
  settle_wide = omega (arith, z.moved.long, (left_readable n m z.before configurations constraints k).wide)

  mine : Earliest k.files.rows (ordered k.files.document.constraints) x
  mine = proposal_earliest k.stated k.texts (rooms_of k.lent) k.files k.read x z.found

  seen : configurations_in n (choices_over n legs configurations choices) ≡ x
  seen = subst (λ i. configurations_in i (choices_over n legs configurations choices) ≡ x) long (configurations_written x choices)

  within : Within (constraints_in m constraints) x
  within =
      let b = left_based n m z.before configurations constraints k in
      record {
        rows = rw long b.rows;
        records = rw (tabulate-length m (constraint_at constraints)) b.records;
        timely = offered_timely (offered k.files.rows) x (files_timely k.stated k.texts k.lent k.files k.read) mine.solution.accepted.offered;
        brief = b.brief;
      }

  module _ (choices' : List ℕ) (e : choices' ≡ choices_over n legs configurations choices) where
    pub settle_within : Within (constraints_in m constraints) (configurations_in n choices')
    settle_within = subst (Within (constraints_in m constraints)) (sym (ap (configurations_in n) e ∙ seen)) within

    module _ (legs' : List ℕ) (r : Restored n legs legs') where
      back : legs' ≡ z.before
      back =
          let w = left_readable n m z.before configurations constraints k in
          restored_is n z.before legs legs' w.wide (λ i l. let q = w.nominals i l in omega (arith, q.few, q.listed)) z.moved r

      -- what the code's verdict is over: the tables as they were written
      over-tables : (file : ℕ)
          → ruling file (verdict (offers_in n legs' configurations) (constraints_in m constraints) (configurations_in n choices'))
          ≡ ruling file
          (verdict (offers_in n (written_tables k.files k.lent).legs (written_tables k.files k.lent).configurations) (constraints_in m (written_tables k.files k.lent).constraints)
          (configurations_in n (choices_over n legs configurations choices)))
      over-tables file = λ j. ruling file (verdict (offers_in n ((back ∙ k.legs_are_lem) j) (k.configurations_are_lem j)) (constraints_in m (k.constraints_are j)) (configurations_in n (e j)))

      judged : (file : ℕ) → ruling file (verdict (offers_in n legs' configurations) (constraints_in m constraints) (configurations_in n choices')) ≡ accepted_as k.files x
      judged file =
          over-tables file
          ∙ verdict-written k.files x k.lent choices n m k.rows_many long (records_many k.stated k.texts k.lent k.files k.read ∙ k.records_many) file
          ∙ ap (λ (f : Finding). ruling file (found f (verdict_of k.files x).tally)) (proposal_accepted k.stated k.texts (rooms_of k.lent) k.files k.read x z.found)

      settled_of : (file : ℕ) (a : Ruling) → a ≡ ruling file (verdict (offers_in n legs' configurations) (constraints_in m constraints) (configurations_in n choices'))
          → SettledOf k.files z.before x choices a legs' choices'
      settled_of file a ea = record { ruled = ea ∙ judged file; legs_back = back; choices_put = e }

pub settles : (n m : ℕ) (legs configurations constraints choices choices' : List ℕ) → choices' ≡ choices_over n legs configurations choices → (legs' : List ℕ) → Restored n legs legs'
    → (file : ℕ) (a : Ruling) → a ≡ ruling file (verdict (offers_in n legs' configurations) (constraints_in m constraints) (configurations_in n choices'))
    → Settles n m legs configurations constraints choices a legs' choices'
settles n m legs configurations constraints choices choices' e legs' r file a ea = λ z. settled_of n m legs configurations constraints choices z choices' e legs' r file a ea

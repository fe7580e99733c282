-- The search finds the definition's earliest timetable, or that there is none. Assumes nothing.
use Prim.Native.Nat.{ℕ, ◌+◌, ◌%◌, ◌≤◌, ◌<◌}
use native.Mathlib.Omega.{arith}
use mathlib.Core.Path.{◌≡◌, sym, ap, ◌∙◌, subst}
use mathlib.Core.Bool.{Bool}
use mathlib.Core.List.{List}
use lib.ListN.{length, get_or}
use Rattle.rules.specs.Limits.{most_listed}
use Rattle.rules.specs.Constraints.{ordered}
use Rattle.rules.specs.Earliest.{timed_of, timed_rows, soonest}
use Rattle.rules.specs.Entries.{rooms_of, written_tables}
use Rattle.rules.specs.Verdict.{All, Kept, Acceptable}
use Rattle.rules.specs.declared.sizes.Configuration.{Configuration}
use Rattle.tables_views.specs.View.{configuration_at, leg_at, list_in, constraints_in}
use Rattle.earliest_theorems.specs.Search.{Low}
use Rattle.earliest_theorems.proofs.AnyOrder.{low_kept, never_none, soonest-begins}
use Rattle.earliest_theorems.proofs.OfFiles.{files_named}
use Rattle.earliest_offer.specs.Offer.{last_at, chosen_at}
use Rattle.earliest_search.specs.Searching.{timed_at, timed_in, chosen_in, Moved, Based, Searching, NoSolution, Settled, Sorted}
use Rattle.earliest_search.proofs.Moving.{moved_then, timed_in_stays, based_stays}
use Rattle.earliest_search.specs.Starting.{Readable, Begun}
use Rattle.earliest_proposal.specs.Left.{Left, earliest_of}
use Rattle.earliest_proposal.specs.Proposal.{FoundOf, Finds}
use Rattle.earliest_proposal.proofs.FilesLeft.{records_seen, files_readable, files_based, timed_seen}
use Rattle.std.specs.Prelude.{Some, None}

module _ (n m : ℕ) (legs configurations constraints : List ℕ) (k : Left n m legs configurations constraints) where
  carry : (P : ℕ → ℕ → List ℕ → List ℕ → List ℕ → Type 0)
      → P (length k.files.rows) (length k.files.document.constraints) (written_tables k.files k.lent).legs (written_tables k.files k.lent).configurations (written_tables k.files k.lent).constraints
      → P n m legs configurations constraints
  carry P h =
      subst (λ a. P a m legs configurations constraints) k.rows_many
      (subst (λ b. P (length k.files.rows) b legs configurations constraints) k.records_many
      (subst (λ l. P (length k.files.rows) (length k.files.document.constraints) l configurations constraints) (sym k.legs_are_lem)
      (subst (λ c. P (length k.files.rows) (length k.files.document.constraints) (written_tables k.files k.lent).legs c constraints) (sym k.configurations_are_lem)
      (subst (λ c. P (length k.files.rows) (length k.files.document.constraints) (written_tables k.files k.lent).legs (written_tables k.files k.lent).configurations c) (sym k.constraints_are) h))))

  pub left_readable : Readable n legs
  left_readable = carry (λ n m l c r. Readable n l) (files_readable k.stated k.texts k.lent k.files k.read)

  pub left_based : Based n m legs configurations constraints
  left_based = carry Based (files_based k.stated k.texts k.lent k.files k.read)

  left-timed : timed_in n legs configurations ≡ timed_rows k.files.rows
  left-timed = carry (λ n m l c r. timed_in n l c ≡ timed_rows k.files.rows) (timed_seen k.stated k.texts k.lent k.files k.read)

  left-records : constraints_in m constraints ≡ ordered k.files.document.constraints
  left-records = carry (λ n m l c r. constraints_in m r ≡ ordered k.files.document.constraints) (records_seen k.stated k.texts k.lent k.files k.read)

  module _ (legs₁ : List ℕ) (b : Begun n legs configurations legs₁) where
    nominal_small : (i : ℕ) → i < n → get_or legs (last_at i) 0 % most_listed ≡ get_or legs (last_at i) 0
    nominal_small i l =
        let q = left_readable.nominals i l in
        let few : (leg_at legs i).count ≤ most_listed = q.few in omega (arith, q.listed)

    begun_moved : Moved n legs legs₁
    begun_moved = record { long = b.long; same = b.same; places = λ i l. b.places i l ∙ sym (nominal_small i l) }

    soonest-row : (i : ℕ) → i < n → soonest 0 (timed_at legs configurations i) ≡ Some (chosen_at legs₁ configurations i)
    soonest-row i l =
        ap (λ (p : ℕ). soonest 0 (timed_of (configuration_at configurations ((leg_at legs i).first + p)).travel (list_in legs configurations i))) (nominal_small i l) ∙ b.soonests i l

    pub begun_searching : Searching n m legs₁ configurations constraints
    begun_searching =
        let s = soonest-begins n (timed_at legs configurations) (chosen_at legs₁ configurations) soonest-row in
        let low : Low (timed_in n legs configurations) (constraints_in m constraints) (chosen_in n legs₁ configurations) =
        record { offered = s.offered; firsts = s.firsts; low = λ y a. s.low y a.offered } in
        record {
          based = based_stays n legs legs₁ begun_moved m configurations constraints left_based;
          low = subst (λ os. Low os (constraints_in m constraints) (chosen_in n legs₁ configurations)) (sym (timed_in_stays n legs legs₁ begun_moved configurations)) low;
        }

    module _ (r : Bool) (legs' : List ℕ) (s : Sorted n m legs₁ configurations constraints r legs') where
      found_is : Settled n m legs₁ configurations constraints legs' → (earliest_of k.files ≡ Some (chosen_in n legs' configurations)) × Moved n legs legs'
      found_is z =
          let mv = moved_then n legs legs₁ legs' begun_moved z.moved in
          let os : timed_in n legs' configurations ≡ timed_rows k.files.rows = timed_in_stays n legs legs' mv configurations ∙ left-timed in (
            low_kept k.files.rows (ordered k.files.document.constraints) (files_named k.stated k.texts (rooms_of k.lent) k.files k.read) (chosen_in n legs' configurations)
                (subst (λ o. Low o (ordered k.files.document.constraints) (chosen_in n legs' configurations)) os
                (subst (λ c. Low (timed_in n legs' configurations) c (chosen_in n legs' configurations)) left-records z.searching.low))
                (subst (All (Kept (chosen_in n legs' configurations))) left-records z.kept),
            mv,
          )

      none_is : NoSolution n m legs₁ configurations constraints → earliest_of k.files ≡ None
      none_is h =
          never_none k.files.rows (ordered k.files.document.constraints) (files_named k.stated k.texts (rooms_of k.lent) k.files k.read)
          (subst (λ o. (y : List Configuration) → Acceptable o (ordered k.files.document.constraints) y → ⊥) (timed_in_stays n legs legs₁ begun_moved configurations ∙ left-timed)
          (subst (λ c. (y : List Configuration) → Acceptable (timed_in n legs₁ configurations) c y → ⊥) left-records h))

      found_of_lem : FoundOf k.files n legs configurations r legs'
      found_of_lem = record { found = λ e. found_is (s.found e); never = λ e. none_is (s.never e) }

pub finds : (n m : ℕ) (legs configurations constraints : List ℕ) (legs₁ : List ℕ) → Begun n legs configurations legs₁ → (r : Bool) (legs' : List ℕ)
    → Sorted n m legs₁ configurations constraints r legs' → Finds n m legs configurations constraints r legs'
finds n m legs configurations constraints legs₁ b r legs' s = λ k. found_of_lem n m legs configurations constraints k legs₁ b r legs' s

-- DEMAND 3, about the entries: both merges of two accepted solutions are written and accepted, the curves add up, and absorption holds, in whatever rooms. Assumes nothing.
use Prim.Native.Nat.{ℕ, ◌<◌}
use mathlib.Core.Path.{◌≡◌, sym, ap, ap₂, subst, ◌∙◌}
use mathlib.Core.List.{List}
use lib.ListN.{length}
use lib.IntN.{◌+ℤ◌}
use Rattle.rules.specs.Answers.{good, solution_file, second_file}
use Rattle.rules.specs.Reading.{Texts, Files, files_of, choices_read}
use Rattle.rules.specs.Verdict.{accepted}
use Rattle.rules.specs.Energy.{samples_in, homes_of, power}
use Rattle.rules.specs.Merge.{earlier, later, merge_of, SameTravel}
use Rattle.rules.specs.Entries.{Tables, rooms_of, verdict_of}
use Rattle.rules.specs.declared.stated.Stated.{Stated}
use Rattle.rules.specs.declared.sizes.Configuration.{Configuration}
use Rattle.rules.specs.declared.answers.Answer.TheVariants.{Accepted}
use Rattle.rules.specs.declared.outcomes.Direction.{Direction}
use Rattle.rules.specs.declared.outcomes.Direction.TheVariants.{Earlier, Later}
use Rattle.rules_theorems.proofs.Chosen.{offered-length}
use Rattle.rules_theorems.proofs.GoodFiles.{choices_good, choices_room, all_good, good_both}
use Rattle.rules_theorems.proofs.AnyRoom.{choices_anywhere, all_alike, both_alike}
use Rattle.rules_theorems.proofs.Merges.{travel_lengths, merge_travel_lem, absorption}
use Rattle.rules_theorems.proofs.Curves.{curves_add}
use Rattle.rules_theorems.proofs.DemandOne.{accepted_not_refused}
use Rattle.rules_theorems.proofs.DemandTwo.{answer_accepted, checked-answer}
use Rattle.checker_theorems.specs.Demands.{EnergyOutcome, MergeOutcome, Reads, BothRead, AcceptableIn, CurvesFit, Room, written_by, power_at, MergeJudges, Accepts, Suffices, Wrote, MergesHold, DemandThree}
use Rattle.checker_theorems.proofs.Answers.{report-read, merge_read}
use Rattle.checker_theorems.proofs.DemandOne.{refused_as_lem}
use Rattle.checker_theorems.proofs.DemandTwo.{are_offered, fair, merge_fair, text_reads, demand_two}

-- a solution that was read in some room as choices that are accepted
record Known (S : Stated) (x : Texts) (f : Files) (solution : List ℕ) (cs : List Configuration) : Type 0 where
  pub t : Tables
  pub c : List ℕ
  pub reads : Reads S x solution t c f cs
  pub verdict : (verdict_of f cs).finding ≡ accepted

module _ (S : Stated) (x : Texts) (f : Files) where
  known : {solution : List ℕ} {cs : List Configuration} → Accepts S x solution f cs → Known S x f solution cs
  known {solution} {cs} k =
      let o = k.outcome in
      record {
        t = o.lent;
        c = o.lent_choices;
        reads = k.reads;
        verdict =
            (answer_accepted solution_file (verdict_of f cs).finding).0
            (sym (checked-answer S x solution o.lent o.lent_choices (record { files = f; choices = cs }) k.reads) ∙ sym o.keeps.answer ∙ k.accepted);
      }

  module _ {solution : List ℕ} {cs : List Configuration} (k : Known S x f solution cs) where
    files_read : files_of S x (rooms_of k.t) ≡ good f
    files_read = (all_good S x solution (rooms_of k.t) (length k.c) (record { files = f; choices = cs }) k.reads).0

    choices-read : choices_read S.horizon f solution_file (length k.c) solution ≡ good cs
    choices-read = (all_good S x solution (rooms_of k.t) (length k.c) (record { files = f; choices = cs }) k.reads).1

    is_fair : AcceptableIn f cs
    is_fair = (fair f cs S x (rooms_of k.t) files_read).0 k.verdict

    -- its room has a place for any choices that the draft offers
    has_room : Room S x f k.t k.c
    has_room =
        record {
          tables = files_read;
          choices =
              rw (offered-length f.rows cs (are_offered f cs k.verdict))
              (choices_room S.horizon f (length k.c) solution cs (choices_good S.horizon f solution_file (length k.c) solution cs choices-read));
        }

    -- a report over it that is accepted has read the same
    report_says : (o : EnergyOutcome S x solution) → o.result.answer ≡ Accepted → Reads S x solution o.lent o.lent_choices f cs
    report_says o h =
        let w = report-read S x solution o.lent o.lent_choices o.lent_curves (λ r. accepted_not_refused (refused_as_lem (sym o.keeps.answer ∙ h) r)) in
        w.1 ∙ ap good (all_alike S x solution (rooms_of o.lent) (rooms_of k.t) (length o.lent_choices) (length k.c) w.0 (record { files = f; choices = cs }) w.1 k.reads)

    -- and so its powers are those of the choices
    powers_of_lem : (o : EnergyOutcome S x solution) → o.result.answer ≡ Accepted → (subnet second : ℕ) → subnet < f.document.opened → second < S.horizon
        → power_at o subnet second ≡ power (samples_in f.curves) (homes_of f.document.tracks f.rows) cs subnet second
    powers_of_lem o h = ((demand_two S x f).energy o (report_says o h)).powers h

  module _ (a b : List ℕ) (s r : List Configuration) (one : Known S x f a s) (two : Known S x f b r) (same : SameTravel s r) where
    module _ {direction : Direction} (m : MergeOutcome direction S x a b) where
      -- a merge whose room suffices has read both
      reads_both : Suffices m f (merge_of direction s r) → BothRead S x a b m.lent m.lent_choices m.lent_second f s r
      reads_both enough =
          good_both S x a b (rooms_of m.lent) (length m.lent_choices) (length m.lent_second) f s r enough.room.tables
          (choices_anywhere S.horizon f solution_file solution_file (length one.c) (length m.lent_choices) a s enough.room.choices (choices-read one))
          (choices_anywhere S.horizon f solution_file second_file (length two.c) (length m.lent_second) b r enough.second (choices-read two))

      merge_wrote : Suffices m f (merge_of direction s r) → Wrote m f (merge_of direction s r)
      merge_wrote enough =
          let judged = (demand_two S x f).merge m (reads_both enough) in
          let h = judged.accepted.1 (is_fair one, is_fair two, same, enough.text) in
          record { accepted = h; written = judged.written h }

      -- and so has one that is accepted
      merge_says : m.result.answer ≡ Accepted → BothRead S x a b m.lent m.lent_choices m.lent_second f s r
      merge_says h =
          let w =
          merge_read (merge_of direction) S x a b m.lent m.lent_choices m.lent_second m.lent_text
          (λ q. accepted_not_refused (refused_as_lem (sym m.keeps.answer ∙ h) q)) in
          w.1
          ∙ ap good
          (both_alike S x a b (rooms_of m.lent) (rooms_of one.t) (length m.lent_choices) (length m.lent_second) (length one.c) (length two.c) w.0 f s r
          w.1 (files_read one) (choices-read one) (choices-read two))

      judges : m.result.answer ≡ Accepted → MergeJudges m f s r
      judges h = (demand_two S x f).merge m (merge_says h)

      -- what it wrote is known: it reads in the first solution's room
      new_known : m.result.answer ≡ Accepted → Known S x f (written_by m) (merge_of direction s r)
      new_known h =
          let v = merge_fair direction f s r same one.verdict two.verdict in
          record {
            t = one.t;
            c = one.c;
            reads = subst (λ e. Reads S x e one.t one.c f (merge_of direction s r)) (sym ((judges h).written h)) (text_reads (merge_of direction s r) v one.t one.c (has_room one));
            verdict = v;
          }

      -- a report over it is accepted in any room that suffices
      reports_accept : m.result.answer ≡ Accepted → (k : EnergyOutcome S x (written_by m)) → Room S x f k.lent k.lent_choices → CurvesFit S.horizon f k.lent_curves
          → k.result.answer ≡ Accepted
      reports_accept h k room fits =
          let v = merge_fair direction f s r same one.verdict two.verdict in
          let reads =
          subst (λ e. Reads S x e k.lent k.lent_choices f (merge_of direction s r)) (sym ((judges h).written h))
          (text_reads (merge_of direction s r) v k.lent k.lent_choices room) in
          ((demand_two S x f).energy k reads).accepted.1 (is_fair (new_known h), fits)

  module _ (a b : List ℕ) (s r : List Configuration) (one : Known S x f a s) (two : Known S x f b r) (same : SameTravel s r) where
    earlier_again : (n : MergeOutcome Later S x a b) → n.result.answer ≡ Accepted → (m : MergeOutcome Earlier S x a (written_by n)) → Suffices m f s → Wrote m f s
    earlier_again n h m enough =
        let back = (absorption s r (travel_lengths s r same)).0 in
        subst (λ cs. Wrote m f cs) back
        (merge_wrote a (written_by n) s (later s r) one (new_known a b s r one two same n h) (merge_travel_lem s r same).1 m (subst (λ cs. Suffices m f cs) (sym back) enough))

    later_again : (m : MergeOutcome Earlier S x a b) → m.result.answer ≡ Accepted → (n : MergeOutcome Later S x a (written_by m)) → Suffices n f s → Wrote n f s
    later_again m h n enough =
        let back = (absorption s r (travel_lengths s r same)).1 in
        subst (λ cs. Wrote n f cs) back
        (merge_wrote a (written_by m) s (earlier s r) one (new_known a b s r one two same m h) (merge_travel_lem s r same).0 n (subst (λ cs. Suffices n f cs) (sym back) enough))

    holds : MergesHold S x a b f s r
    holds =
        record {
          written = merge_wrote a b s r one two same;
          check_accepts = λ m h. (judges a b s r one two same m h).reads_back h;
          energy_accepts = reports_accept a b s r one two same;
          add_up = λ m n hm hn new₁ new₂ old₁ old₂ h₁ h₂ k₁ k₂ subnet second g u.
              ap₂ ◌+ℤ◌ (powers_of_lem (new_known a b s r one two same m hm) new₁ h₁ subnet second g u) (powers_of_lem (new_known a b s r one two same n hn) new₂ h₂ subnet second g u)
              ∙ curves_add (samples_in f.curves) (homes_of f.document.tracks f.rows) s r (travel_lengths s r same) subnet second
              ∙ sym (ap₂ ◌+ℤ◌ (powers_of_lem one old₁ k₁ subnet second g u) (powers_of_lem two old₂ k₂ subnet second g u));
          earlier_absorbs = earlier_again;
          later_absorbs = later_again;
        }

-- THE DEMAND
pub demand_three : (S : Stated) (x : Texts) (a b : List ℕ) (f : Files) (s r : List Configuration) → DemandThree S x a b f s r
demand_three S x a b f s r one two same = holds S x f a b s r (known S x f one) (known S x f two) same

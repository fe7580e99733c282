-- DEMAND 2, about the entries: accepted exactly when; otherwise the first failure with its file; energies; and what is written reads back. Assumes nothing.
use Prim.Native.Nat.{ℕ, ◌+◌, ◌*◌, ◌/◌, ◌%◌, ◌≤◌, ◌<◌}
use mathlib.Core.Path.{◌≡◌, sym, ap, ap₂, subst, ◌∙◌}
use mathlib.Core.Bool.{true, ◌&&◌}
use mathlib.Core.List.{List}
use mathlib.Core.Logic.{◌↔◌, ◌⊎◌, inl, inr}
use native.Mathlib.Nat.{zero-add}
use lib.Arith.{digits_lt, digits_div, digits_mod}
use lib.Dec.{leb}
use lib.ListN.{length, take, get_or, get_or-append}
use lib.IntN.{ℤ, pos}
use borrow.Author.Tests.{le-leb, leb-true}
use Rattle.rules.specs.Limits.{most_text}
use Rattle.rules.specs.Lists.{flat, over}
use Rattle.rules.specs.Answers.{good, solution_file, second_file}
use Rattle.rules.specs.Timetable.{configuration_numbers}
use Rattle.rules.specs.Constraints.{ordered}
use Rattle.rules.specs.Reading.{Rooms, Texts, Files, files_of}
use Rattle.rules.specs.Verdict.{All, offered, Offered, accepted, answer_of}
use Rattle.rules.specs.Energy.{samples_in, homes_of, power, curves_of}
use Rattle.rules.specs.Merge.{merge_of, SameTravel, unequal_from, chosen, text_of}
use Rattle.rules.specs.Entries.{Tables, rooms_of, verdict_of, Whole, Reported, Both, Merged, merged}
use Rattle.rules.specs.declared.stated.Stated.{Stated}
use Rattle.rules.specs.declared.sizes.Configuration.{Configuration}
use Rattle.rules.specs.declared.answers.Violation.{Violation}
use Rattle.rules.specs.declared.answers.Answer.TheVariants.{Accepted, Violated}
use Rattle.rules.specs.declared.outcomes.Direction.{Direction}
use Rattle.rules.specs.declared.outcomes.Direction.TheVariants.{Earlier, Later}
use Rattle.rules.proofs.Truth.{and_first}
use Rattle.rules_theorems.specs.Demands.{CountsTests, HasRoom}
use Rattle.rules_theorems.proofs.Tabulate.{tabulate-length, tabulate-at}
use Rattle.rules_theorems.proofs.Chosen.{offered-length, chosen-lawful}
use Rattle.rules_theorems.proofs.GoodFiles.{files_good, all_good, good_all, both_good}
use Rattle.rules_theorems.proofs.TextBound.{text_short, files_choices_back}
use Rattle.rules_theorems.proofs.Verdicts.{verdict_accepted}
use Rattle.rules_theorems.proofs.Tests.{names_the_first, shortfalls}
use Rattle.rules_theorems.proofs.Merges.{merge_verdicts, unequal_none}
use Rattle.rules_theorems.proofs.DemandOne.{verdict-not_refused}
use Rattle.rules_theorems.proofs.Ordered.{OfKind, ordered_keeps}
use Rattle.rules_theorems.proofs.DemandTwo.{answer_accepted, answer_violated, acceptable_in_order, files_kinds, counts-tests, checked-answer, checked-tally}
use Rattle.rules_theorems.proofs.DemandThree.{over_front}
use Rattle.checker_theorems.specs.Demands.{CheckOutcome, EnergyOutcome, MergeOutcome, Reads, BothRead, AcceptableIn, FirstFailure, Room, written_by, CheckJudges, EnergyJudges, ReadsBack, MergeJudges, DemandTwo}
use Rattle.checker_theorems.proofs.Answers.{check-choices, report_accepted_lem, report-laid, report_violated, report_decided, report_stands, merge_accepted, merge_written_lem, merge_violated_lem, merge_counted, merge_decided}
use Rattle.checker_theorems.proofs.DemandOne.{refused_as_lem}
use Rattle.std.specs.Prelude.{None}

-- ---- the verdict over the files

module _ (f : Files) (cs : List Configuration) where
  -- an answer names the first failure, and nothing else; what was read has the five kinds alone
  verdict-names : All OfKind f.document.constraints → (file : ℕ) (v : Violation) → (answer_of file (verdict_of f cs).finding ≡ Violated v) ↔ FirstFailure f cs file v
  verdict-names kinds file v = (there, back)
    where
      there : answer_of file (verdict_of f cs).finding ≡ Violated v → FirstFailure f cs file v
      there e =
          let u = answer_violated file (verdict_of f cs).finding v e in
          record {
            named = u.0;
            first = (names_the_first (offered f.rows) (ordered f.document.constraints) cs u.0).0 u.1;
            shown = u.2;
            numbered =
                rw u.2 (shortfalls (offered f.rows) (ordered f.document.constraints) cs (ordered_keeps OfKind f.document.constraints kinds) u.0 u.1);
          }

      back : FirstFailure f cs file v → answer_of file (verdict_of f cs).finding ≡ Violated v
      back h =
          ap (answer_of file)
          ((names_the_first (offered f.rows) (ordered f.document.constraints) cs h.named).1 h.first)
          ∙ ap Violated (sym h.shown)

  pub are_offered : (verdict_of f cs).finding ≡ accepted → Offered (offered f.rows) cs
  are_offered v = ((verdict_accepted (offered f.rows) (ordered f.document.constraints) cs).1 v).offered

  module _ (S : Stated) (x : Texts) (room : Rooms) (read : files_of S x room ≡ good f) where
    pub fair : ((verdict_of f cs).finding ≡ accepted) ↔ AcceptableIn f cs
    fair =
        let order = acceptable_in_order f cs (files_kinds S x room f read) in
        let all = verdict_accepted (offered f.rows) (ordered f.document.constraints) cs in
        (λ v. order.1 (all.1 v), λ h. all.0 (order.0 h))

-- the choices of either merge are accepted too
pub merge_fair : (direction : Direction) (f : Files) (s r : List Configuration) → SameTravel s r → (verdict_of f s).finding ≡ accepted → (verdict_of f r).finding ≡ accepted
    → (verdict_of f (merge_of direction s r)).finding ≡ accepted
merge_fair Earlier f s r same v w = (merge_verdicts (offered f.rows) (ordered f.document.constraints) s r same v w).0
merge_fair Later f s r same v w = (merge_verdicts (offered f.rows) (ordered f.document.constraints) s r same v w).1

-- ---- the curves of a report

over-at : {A : Type 0} (w t : List A) (i : ℕ) (z : A) → i < length w → get_or (over w t) i z ≡ get_or w i z
unfolding over
over-at w t i z h = get_or-append w _ z i h

curves-at : (H : ℕ) (f : Files) (cs : List Configuration) (t : List ℤ) (subnet second : ℕ) → subnet < f.document.opened → second < H
    → get_or (over (curves_of H f cs) t) (subnet * H + second) (pos 0) ≡ power (samples_in f.curves) (homes_of f.document.tracks f.rows) cs subnet second
unfolding curves_of
curves-at H f cs t subnet second h k =
    let P : ℕ → ℕ → ℤ = power (samples_in f.curves) (homes_of f.document.tracks f.rows) cs in
    let n = f.document.opened * H in
    let at : ℕ → ℤ = λ i. P (i / H) (0 + i % H) in
    let low : subnet * H + second < n = digits_lt h k in
    over-at (curves_of H f cs) t (subnet * H + second) (pos 0) (rw (tabulate-length n at) low)
    ∙ tabulate-at n at (pos 0) (subnet * H + second) low
    ∙ ap₂ P (digits_div subnet k) (zero-add _ ∙ digits_mod subnet k)

-- ---- each entry

module _ {S : Stated} {x : Texts} {f : Files} where
  check_judges : {solution : List ℕ} {cs : List Configuration} (k : CheckOutcome S x solution) → Reads S x solution k.lent k.lent_choices f cs → CheckJudges k f cs
  check_judges {solution} {cs} k e =
      let w : Whole = record { files = f; choices = cs } in
      let says = k.keeps.answer ∙ checked-answer S x solution k.lent k.lent_choices w e in
      let read = (all_good S x solution (rooms_of k.lent) (length k.lent_choices) w e).0 in
      let kinds = files_kinds S x (rooms_of k.lent) f read in
      let good-for = fair f cs S x (rooms_of k.lent) read in
      let judged = answer_accepted solution_file (verdict_of f cs).finding in
      record {
        accepted = (λ h. good-for.0 (judged.0 (sym says ∙ h)), λ h. says ∙ judged.1 (good-for.1 h));
        violated = λ v. (λ h. (verdict-names f cs kinds solution_file v).0 (sym says ∙ h), λ h. says ∙ (verdict-names f cs kinds solution_file v).1 h);
        not_refused = λ h. verdict-not_refused solution_file (verdict_of f cs).finding (refused_as_lem says h);
        counted =
            rw (k.keeps.tally ∙ checked-tally S x solution k.lent k.lent_choices w e)
            (counts-tests S x (rooms_of k.lent) f read solution_file (length k.lent_choices) solution cs (all_good S x solution (rooms_of k.lent) (length k.lent_choices) w e).1);
      }

  energy_judges : {solution : List ℕ} {cs : List Configuration} (k : EnergyOutcome S x solution) → Reads S x solution k.lent k.lent_choices f cs → EnergyJudges k f cs
  energy_judges {solution} {cs} k e =
      let w : Whole = record { files = f; choices = cs } in
      let says = k.keeps.answer in
      let read = (all_good S x solution (rooms_of k.lent) (length k.lent_choices) w e).0 in
      let kinds = files_kinds S x (rooms_of k.lent) f read in
      let good-for = fair f cs S x (rooms_of k.lent) read in
      let judged = report_accepted_lem S x solution k.lent k.lent_choices k.lent_curves w e in
      let laid = report-laid S x solution k.lent k.lent_choices k.lent_curves w e in
      let named = report_violated S x solution k.lent k.lent_choices k.lent_curves w e in
      record {
        accepted = (
          λ h. let q = judged.0 (sym says ∙ h) in (good-for.0 q.0, leb-true _ _ q.1),
          λ h. says ∙ judged.1 (good-for.1 h.0, le-leb _ _ h.1),
        );
        violated = λ v. (
          λ h. (verdict-names f cs kinds solution_file v).0 ((named v).0 (sym says ∙ h)),
          λ h. says ∙ (named v).1 ((verdict-names f cs kinds solution_file v).1 h),
        );
        not_refused = λ fits h. report_decided S x solution k.lent k.lent_choices k.lent_curves w e (le-leb _ _ fits) (refused_as_lem says h);
        counted = λ n.
            rw (k.keeps.tally ∙ (report_stands S x solution k.lent k.lent_choices k.lent_curves w e (λ h. n (refused_as_lem (sym says) h))).2)
            (counts-tests S x (rooms_of k.lent) f read solution_file (length k.lent_choices) solution cs (all_good S x solution (rooms_of k.lent) (length k.lent_choices) w e).1);
        energies = λ h. k.keeps.figures ∙ ap (λ (q : Reported). q.figures) (laid (sym says ∙ h));
        powers = λ h subnet second g u.
            ap (λ curves. get_or curves (subnet * S.horizon + second) (pos 0)) (k.keeps.curves ∙ ap (λ (q : Reported). q.curves) (laid (sym says ∙ h)))
            ∙ curves-at S.horizon f cs k.lent_curves subnet second g u;
      }

  -- a text of accepted choices
  pub text_reads : (cs : List Configuration) → (verdict_of f cs).finding ≡ accepted → (t : Tables) (c : List ℕ) → Room S x f t c → Reads S x (text_of (chosen f.rows cs)) t c f cs
  text_reads cs v t c room =
      good_all S x (text_of (chosen f.rows cs)) (rooms_of t) (length c) f cs room.tables
      (files_choices_back S x (rooms_of t) f solution_file (length c) cs room.tables (are_offered f cs v) room.choices)

  pub text_reads_back : (cs : List Configuration) → (verdict_of f cs).finding ≡ accepted → ReadsBack S x f cs (text_of (chosen f.rows cs))
  text_reads_back cs v k room =
      let w : Whole = record { files = f; choices = cs } in
      let text = text_of (chosen f.rows cs) in
      let reads = text_reads cs v k.lent k.lent_choices room in (
        k.keeps.answer ∙ checked-answer S x text k.lent k.lent_choices w reads ∙ (answer_accepted solution_file (verdict_of f cs).finding).1 v,
        ap (take (length (flat configuration_numbers cs))) (k.keeps.choices ∙ check-choices S x text k.lent k.lent_choices w reads)
            ∙ over_front (flat configuration_numbers cs) k.lent_choices,
      )

  module _ {direction : Direction} {a b : List ℕ} {s r : List Configuration} (k : MergeOutcome direction S x a b)
      (e : BothRead S x a b k.lent k.lent_choices k.lent_second f s r) where
    abbrev both : Both
    both = record { files = f; first = s; second = r }

    abbrev said : Merged
    said = merged (merge_of direction) S x a b k.lent k.lent_choices k.lent_second k.lent_text

    abbrev new : List ℕ
    new = text_of (chosen f.rows (merge_of direction s r))

    files : files_of S x (rooms_of k.lent) ≡ good f
    files = (both_good S x a b (rooms_of k.lent) (length k.lent_choices) (length k.lent_second) both e).0

    kinds : All OfKind f.document.constraints
    kinds = files_kinds S x (rooms_of k.lent) f files

    -- where all is as it should be the text limit suffices
    short : (verdict_of f (merge_of direction s r)).finding ≡ accepted → length new ≤ most_text
    short v =
        let g = files_good S x (rooms_of k.lent) f files in
        text_short S.horizon g.horizon.1 (chosen f.rows (merge_of direction s r))
        (chosen-lawful S.horizon f.rows (merge_of direction s r) g.timetable.lawful (are_offered f (merge_of direction s r) v))

    lengths : (verdict_of f s).finding ≡ accepted → (verdict_of f r).finding ≡ accepted → length s ≡ length r
    lengths v w = sym (offered-length f.rows s (are_offered f s v)) ∙ offered-length f.rows r (are_offered f r w)

    fits : (verdict_of f s).finding ≡ accepted → (verdict_of f r).finding ≡ accepted → SameTravel s r → HasRoom f (merge_of direction s r) k.lent_text
        → (unequal_from 0 s r ≡ None) × (leb (length new) (length k.lent_text) && leb (length new) most_text ≡ true)
    fits v w same room = (
      (unequal_none s r (lengths v w)).1 same,
      rw (le-leb (length new) (length k.lent_text) room, le-leb (length new) most_text (short (merge_fair direction f s r same v w))),
    )

    abbrev AllRight : Type 0
    AllRight = ((verdict_of f s).finding ≡ accepted) × ((verdict_of f r).finding ≡ accepted) × SameTravel s r × HasRoom f (merge_of direction s r) k.lent_text

    -- accepted exactly where all is right
    right : (said.answer ≡ Accepted) ↔ AllRight
    right = (there, back)
      where
        there : said.answer ≡ Accepted → AllRight
        there h =
            let q = (merge_accepted (merge_of direction) S x a b k.lent k.lent_choices k.lent_second k.lent_text both e).0 h in
            (q.0, q.1, (unequal_none s r (lengths q.0 q.1)).0 q.2, leb-true _ _ (and_first (leb (length new) (length k.lent_text)) (leb (length new) most_text) q.3))

        back : AllRight → said.answer ≡ Accepted
        back h =
            let q = fits h.0 h.1 h.2 h.3 in
            (merge_accepted (merge_of direction) S x a b k.lent k.lent_choices k.lent_second k.lent_text both e).1 (h.0, h.1, q.0, q.1)

    wrote : said.answer ≡ Accepted → written_by k ≡ new
    wrote h =
        let is = merge_written_lem (merge_of direction) S x a b k.lent k.lent_choices k.lent_second k.lent_text both e h in
        ap₂ take (k.keeps.length ∙ ap (λ (q : Merged). q.length) is) (k.keeps.text ∙ ap (λ (q : Merged). q.text) is) ∙ over_front new k.lent_text

    merge_judges : MergeJudges k f s r
    merge_judges =
        let says = k.keeps.answer in
        let good-for : (cs : List Configuration) → ((verdict_of f cs).finding ≡ accepted) ↔ AcceptableIn f cs = λ cs. fair f cs S x (rooms_of k.lent) files in
        record {
          accepted = (
            λ h. let q = right.0 (sym says ∙ h) in ((good-for s).0 q.0, (good-for r).0 q.1, q.2, q.3),
            λ h. says ∙ right.1 ((good-for s).1 h.0, (good-for r).1 h.1, h.2, h.3),
          );
          violated = λ v. (
            λ h. there v ((merge_violated_lem (merge_of direction) S x a b k.lent k.lent_choices k.lent_second k.lent_text both e v).0 (sym says ∙ h)),
            λ h. says ∙ (merge_violated_lem (merge_of direction) S x a b k.lent k.lent_choices k.lent_second k.lent_text both e v).1 (back v h),
          );
          not_refused = λ same room h.
              merge_decided (merge_of direction) S x a b k.lent k.lent_choices k.lent_second k.lent_text both e (λ v w. fits v w same room) (refused_as_lem says h);
          counted = λ v h. counts v (merge_counted (merge_of direction) S x a b k.lent k.lent_choices k.lent_second k.lent_text both e v (sym says ∙ h));
          uncounted = λ h.
              k.keeps.tally
              ∙ ap (λ (q : Merged). q.tally) (merge_written_lem (merge_of direction) S x a b k.lent k.lent_choices k.lent_second k.lent_text both e (sym says ∙ h));
          written = λ h. wrote (sym says ∙ h);
          reads_back = λ h.
              let q = right.0 (sym says ∙ h) in
              subst (λ text. ReadsBack S x f (merge_of direction s r) text) (sym (wrote (sym says ∙ h)))
              (text_reads_back (merge_of direction s r) (merge_fair direction f s r q.2 q.0 q.1));
        }
      where
        there : (v : Violation) → (answer_of solution_file (verdict_of f s).finding ≡ Violated v) ⊎ (((verdict_of f s).finding ≡ accepted) × (answer_of second_file (verdict_of f r).finding ≡ Violated v))
            → FirstFailure f s solution_file v ⊎ (AcceptableIn f s × FirstFailure f r second_file v)
        there v (inl h) = inl ((verdict-names f s kinds solution_file v).0 h)
        there v (inr h) = inr ((fair f s S x (rooms_of k.lent) files).0 h.0, (verdict-names f r kinds second_file v).0 h.1)

        counts : (v : Violation)
            → ((answer_of solution_file (verdict_of f s).finding ≡ Violated v) × (said.tally ≡ (verdict_of f s).tally))
            ⊎ (((verdict_of f s).finding ≡ accepted) × (answer_of second_file (verdict_of f r).finding ≡ Violated v) × (said.tally ≡ (verdict_of f r).tally))
            → (FirstFailure f s solution_file v × CountsTests f s k.result.tally) ⊎ (AcceptableIn f s × FirstFailure f r second_file v × CountsTests f r k.result.tally)
        counts v (inl h) =
            inl (
              (verdict-names f s kinds solution_file v).0 h.0,
              rw (k.keeps.tally ∙ h.1) (counts-tests S x (rooms_of k.lent) f files solution_file (length k.lent_choices) a s (both_good S x a b (rooms_of k.lent) (length k.lent_choices) (length k.lent_second) both e).1),
            )
        counts v (inr h) =
            inr (
              (fair f s S x (rooms_of k.lent) files).0 h.0,
              (verdict-names f r kinds second_file v).0 h.1,
              rw (k.keeps.tally ∙ h.2) (counts-tests S x (rooms_of k.lent) f files second_file (length k.lent_second) b r (both_good S x a b (rooms_of k.lent) (length k.lent_choices) (length k.lent_second) both e).2),
            )

        back : (v : Violation) → FirstFailure f s solution_file v ⊎ (AcceptableIn f s × FirstFailure f r second_file v)
            → (answer_of solution_file (verdict_of f s).finding ≡ Violated v) ⊎ (((verdict_of f s).finding ≡ accepted) × (answer_of second_file (verdict_of f r).finding ≡ Violated v))
        back v (inl h) = inl ((verdict-names f s kinds solution_file v).1 h)
        back v (inr h) = inr ((fair f s S x (rooms_of k.lent) files).1 h.0, (verdict-names f r kinds second_file v).1 h.1)

-- THE DEMAND
pub demand_two : (S : Stated) (x : Texts) (f : Files) → DemandTwo S x f
demand_two S x f = record { check = check_judges; energy = energy_judges; merge = merge_judges }

-- Each way out of reading the files and a solution, and judging it. Assumes nothing.
use Prim.Native.Nat.{ℕ}
use mathlib.Core.Path.{◌≡◌, refl, sym, ap, ◌∙◌}
use mathlib.Core.List.{List}
use lib.ListN.{length}
use Rattle.std.specs.Prelude.{Some, Result, Ok, Err}
use Rattle.rules.specs.Answers.{solution_file, Reading, refused, good}
use Rattle.rules.specs.Reading.{Texts, files_of, choices_read}
use Rattle.rules.specs.Entries.{Tables, Whole, rooms_of, written_tables, written_choices, all_read, checked}
use Rattle.rules.specs.declared.stated.Stated.{Stated}
use Rattle.rules.specs.declared.sizes.Configuration.{Configuration}
use Rattle.rules.specs.declared.answers.Refusal.{Refusal}
use Rattle.rules.specs.declared.answers.Ruling.{Ruling}
use Rattle.rules_theorems.proofs.GoodText.{never_good}
use Rattle.rules_theorems.proofs.GoodFiles.{good_all}
use Rattle.tables_lent.specs.declared.Counts.{Counts}
use Rattle.tables_lent.proofs.Filing.{WasFiled, was_filed, not_filed}
use Rattle.files.specs.Promise.{FilesRead}
use Rattle.solution_verdict.specs.Left.{Left, Choosable, Ready, Chooses, Judges}
use Rattle.solution_verdict.proofs.Choosing.{was_chosen, not_chosen}
use Rattle.checker_judge.specs.declared.Judged.{Judged}
use Rattle.checker_judge.specs.Promise.{Stopped, judged_as, ReadAndJudged}

module _ (S : Stated) (x : Texts) (s : List ℕ) (t : Tables) (c : List ℕ) where
  abbrev all : Reading Whole
  all = all_read S x s (rooms_of t) (length c)

  stopped : {j : Judged} {t' : Tables} {c' : List ℕ} (r : Refusal) → all ≡ refused r → Stopped r j → ReadAndJudged S x s t c j t' c'
  unfolding checked
  stopped r e a = record { answers = a.answer ∙ rw e; tallies = a.tally ∙ rw e; writes = λ w g. never_good r w (sym e ∙ g) }

  module _ {a : Result Counts Refusal} {t' : Tables} (f : FilesRead S x t a t') where
    pub files_stop : {j : Judged} {t'' : Tables} {c' : List ℕ} {r : Refusal} → a ≡ Err r → Stopped r j → ReadAndJudged S x s t c j t'' c'
    unfolding all_read
    files_stop {r = r} e b = stopped r (rw (not_filed (files_of S x (rooms_of t)) r (sym e ∙ f.answers))) b

    module _ {k : Counts} (e : a ≡ Ok k) where
      filed : WasFiled (files_of S x (rooms_of t)) k
      filed = was_filed (files_of S x (rooms_of t)) k (sym e ∙ f.answers)

      tables_are : t' ≡ written_tables filed.files t
      tables_are = f.writes filed.files filed.was

      abbrev left : Left S.horizon k
      left = record { stated = S; at = refl; texts = x; lent = t; files = filed.files; read = filed.was; counted = filed.counted }

      abbrev choosable : Choosable S.horizon k t'.legs
      choosable = record { left = left; legs_are_lem = ap (λ (t : Tables). t.legs) tables_are }

      pub files_choosable : Choosable S.horizon k t'.legs
      files_choosable = choosable

      module _ {b : Result (Unit {0}) Refusal} {c' : List ℕ} (h : Chooses S.horizon solution_file k s t'.legs c b c') where
        abbrev choice : Reading (List Configuration)
        choice = choices_read S.horizon filed.files solution_file (length c) s

        pub choice_stop : {j : Judged} {t'' : Tables} {c'' : List ℕ} {r : Refusal} → b ≡ Err r → Stopped r j → ReadAndJudged S x s t c j t'' c''
        unfolding all_read
        choice_stop {r = r} q d = stopped r (rw (filed.was, not_chosen choice r (sym q ∙ h.answers choosable))) d

        module _ (q : b ≡ (Ok tt)) where
          picked : (cs : List Configuration) × (choice ≡ good cs)
          picked = was_chosen choice (sym q ∙ h.answers choosable)

          choices_are : c' ≡ written_choices picked.0 c
          choices_are = h.chooses choosable picked.0 picked.1

          abbrev ready : Ready k t'.legs t'.configurations t'.constraints c'
          ready =
              record {
                H = S.horizon;
                tables =
                    record {
                      left = left;
                      legs_are_lem = ap (λ (t : Tables). t.legs) tables_are;
                      configurations_are_lem = ap (λ (t : Tables). t.configurations) tables_are;
                      constraints_are = ap (λ (t : Tables). t.constraints) tables_are;
                    };
                file = solution_file;
                room = length c;
                text = s;
                lent = c;
                chosen = picked.0;
                read = picked.1;
                choices_are = choices_are;
              }

          pub choice_ready : Ready k t'.legs t'.configurations t'.constraints c'
          choice_ready = ready

          whole : all ≡ good (record { files = filed.files; choices = picked.0 })
          whole = good_all S x s (rooms_of t) (length c) filed.files picked.0 filed.was picked.1

          pub choice_judged : {r : Ruling} → Judges k t'.legs t'.configurations t'.constraints c' solution_file r
              → {j : Judged} → j ≡ judged_as r k → ReadAndJudged S x s t c j t' c'
          unfolding checked
          choice_judged v e =
              rw e
              (record {
                answers = rw whole (ap (λ (r : Ruling). r.answer) (v ready));
                tallies = rw whole (ap (λ (r : Ruling). r.tally) (v ready));
                writes = λ w g. let same : record { files = filed.files; choices = picked.0 } ≡ w = cc (whole, g) in rw (← same) (tables_are, choices_are, ap Some filed.counted);
              })

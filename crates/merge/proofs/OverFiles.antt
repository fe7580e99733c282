-- Each way out of reading the files, two solutions, and merging them. Assumes nothing.
use Prim.Native.Nat.{ℕ}
use mathlib.Core.Path.{◌≡◌, refl, sym, ap, ◌∙◌}
use mathlib.Core.Bool.{true}
use mathlib.Core.List.{List}
use lib.ListN.{length}
use Rattle.rules.specs.Answers.{solution_file, second_file, is_refusal, Reading, refused}
use Rattle.rules.specs.Reading.{Texts, Files, files_of, choices_read}
use Rattle.rules.specs.Merge.{merge_of}
use Rattle.rules.specs.Entries.{Tables, rooms_of, written_tables, both_read, merge_refused, merge_from, merged}
use Rattle.rules.specs.Entries as entries
use Rattle.rules.specs.declared.stated.Stated.{Stated}
use Rattle.rules.specs.declared.sizes.Configuration.{Configuration}
use Rattle.rules.specs.declared.answers.Refusal.{Refusal}
use Rattle.rules.specs.declared.answers.Answer.TheVariants.{Refused}
use Rattle.rules.specs.declared.outcomes.Merged.{Merged}
use Rattle.rules.specs.declared.outcomes.Direction.{Direction}
use Rattle.tables_lent.specs.declared.Counts.{Counts}
use Rattle.tables_lent.proofs.Filing.{WasFiled, was_filed, not_filed}
use Rattle.files.specs.Promise.{FilesRead}
use Rattle.solution_verdict.specs.Left.{Judgeable}
use Rattle.merge_order.specs.Both.{solutions_read}
use Rattle.merge.specs.Left.{not_written, Solves}
use Rattle.merge.specs.Promise.{MergeRead}
use Rattle.merge.proofs.Standing.{never, files_stand}
use Rattle.std.specs.Prelude.{Result, Ok, Err}

module _ (way : Direction) (S : Stated) (x : Texts) (first second : List ℕ) (t : Tables) (c d text : List ℕ) {p : Result Counts Refusal} {t' : Tables} (h : FilesRead S x t p t') where
  abbrev read : Reading Files
  read = files_of S x (rooms_of t)

  stopped : (y : Refusal) → read ≡ refused y → merged (merge_of way) S x first second t c d text ≡ merge_refused t c d text y
  unfolding merged both_read
  stopped y e = rw e

  pub files_refused : {y : Refusal} {r : Merged} {t'' : Tables} {c'' d'' text'' : List ℕ} → p ≡ Err y → r ≡ not_written (Refused y)
      → MergeRead way S x first second t c d text r t'' c'' d'' text''
  files_refused {y} {r} e s =
      let is : merged (merge_of way) S x first second t c d text ≡ merge_refused t c d text y = stopped y (not_filed read y (sym e ∙ h.answers)) in
      let refuses : is_refusal r.answer ≡ true = ap (λ (m : Merged). is_refusal m.answer) s in
      record {
        solved =
            rw is
            (record {
              made = rw s (record { answer = refl; tally = refl; length = refl; puts = λ z. never (sym z) });
              chooses = λ z. never (sym refuses ∙ z);
            });
        writes = λ z. never (sym refuses ∙ z);
      }

  module _ {k : Counts} (e : p ≡ Ok k) where
    filed : WasFiled read k
    filed = was_filed read k (sym e ∙ h.answers)

    tables_are : t' ≡ written_tables filed.files t
    tables_are = h.writes filed.files filed.was

    abbrev judgeable : Judgeable S.horizon k t'.legs t'.configurations t'.constraints
    judgeable =
        record {
          left = record { stated = S; at = refl; texts = x; lent = t; files = filed.files; read = filed.was; counted = filed.counted };
          legs_are_lem = ap (λ (t : Tables). t.legs) tables_are;
          configurations_are_lem = ap (λ (t : Tables). t.configurations) tables_are;
          constraints_are = ap (λ (t : Tables). t.constraints) tables_are;
        }

    pub files_judgeable : Judgeable S.horizon k t'.legs t'.configurations t'.constraints
    files_judgeable = judgeable

    abbrev one : Reading (List Configuration)
    one = choices_read S.horizon filed.files solution_file (length c) first

    abbrev two : Reading (List Configuration)
    two = choices_read S.horizon filed.files second_file (length d) second

    onward : merged (merge_of way) S x first second t c d text
        ≡ merge_from t c d text second (merge_of way) (solutions_read S.horizon filed.files first second (length c) (length d))
    unfolding merged both_read
    onward = rw filed.was

    pub files_merged : {r : Merged} {c' d' text' : List ℕ} → Solves S.horizon way k first second t'.legs t'.configurations t'.constraints c d text r c' d' text'
        → MergeRead way S x first second t c d text r t' c' d' text'
    files_merged {r} solves =
        let s = solves judgeable in
        record {
          solved = rw onward s;
          writes = λ n.
              tables_are ∙ sym (files_stand t c d text second (merge_of way) filed.files one two (ap is_refusal (sym s.made.answer) ∙ n))
              ∙ ap (λ (m : entries.Merged). m.tables) (sym onward);
        }

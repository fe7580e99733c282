-- SOUNDNESS: a text that is read is the text of a lawful value, written with its lists and keys in some order and with some white space, and what is read is
-- that value's document. Assumes nothing.
use Prim.Native.Nat.{ℕ, ◌≤◌}
use mathlib.Core.Path.{◌≡◌, refl, sym, subst, ◌∙◌}
use mathlib.Core.Bool.{Bool, true, false, cond}
use mathlib.Core.List.{List}
use mathlib.Core.Logic.{◌↔◌}
use native.Mathlib.Omega.{arith}
use lib.Dec.{leb}
use lib.ListN.{length}
use borrow.Author.Tests.{leb-true}
use Rattle.rules.specs.Limits.{most_text}
use Rattle.rules.specs.Answers.{refusal, too_long, constraints_file, refused, good}
use Rattle.rules.specs.Tokens.{tokens_of}
use Rattle.rules.specs.Constraints.{Document, empty, start, rules_in, run, constraints_of}
use Rattle.rules.specs.declared.answers.Refusal.{Refusal}
use Rattle.rules_theorems.specs.LawfulDocument.{LawfulDocument}
use Rattle.rules_theorems.proofs.Documents.{good_is_lawful}
use Rattle.rules_json.specs.Value.{Value, document_of, Fits}
use Rattle.rules_json.specs.Written.{pieces, Laid, Writing}
use Rattle.rules_json.proofs.Passes.{value_passed}
use Rattle.rules_json.proofs.Means.{document_means}
use Rattle.rules_json.proofs.Shown.{tokens_laid}
use Rattle.rules_json.proofs.Rows.{run-left}
use Rattle.rules_json.proofs.Completeness.{complete}

-- every document that was read keeps the limits
lawful-fits : (legs : List ℕ) (constraints tracks : ℕ) (d : Document) → LawfulDocument legs constraints tracks d → Fits constraints tracks d
lawful-fits legs constraints tracks d h =
    record {
      few_constraints = h.tables.constraints_lawful.in_limit;
      room_for_constraints = h.tables.constraints_lawful.in_room;
      few_subnets = h.tables.subnets_in_limit;
      few_tracks = h.tables.tracks_lawful.in_limit;
      room_for_tracks = h.tables.tracks_lawful.in_room;
      distinct_tracks = h.tables.tracks_lawful.distinct;
      distinct_ids = h.tables.ids_lawful.distinct;
    }

module _ (E : ℕ) (legs : List ℕ) (constraints tracks : ℕ) (s : List ℕ) (d : Document) where
  run_sound : length s ≤ most_text → run legs constraints tracks (start (rules_in E)) empty (tokens_of s) ≡ good d → Fits constraints tracks d
      → Writing E legs constraints tracks s d
  unfolding tokens_of
  run_sound short e fits =
      let k = run-left E legs constraints tracks d (tokens_of s) (start (rules_in E)) empty refl e in
      let means : document_of legs k.left ≡ d = sym (document_means legs k.left k.ok) ∙ k.ends in
      let names = value_passed legs k.left k.ok in
      record {
        value = k.left;
        lawful = record { lists = names.lists; records = names.records; fits = subst (Fits constraints tracks) (sym means) fits };
        written = tokens_laid s _ k.same;
        short = short;
        means = means;
      }

  pub sound : constraints_of legs constraints tracks (rules_in E) s ≡ good d → Writing E legs constraints tracks s d
  unfolding constraints_of
  sound e =
      go (leb (length s) most_text) refl e (lawful-fits legs constraints tracks d (good_is_lawful legs constraints tracks (rules_in E) s d e))
    where
      go : (b : Bool) → leb (length s) most_text ≡ b
          → cond b (run legs constraints tracks (start (rules_in E)) empty (tokens_of s)) (refused (refusal too_long constraints_file 0)) ≡ good d
          → Fits constraints tracks d → Writing E legs constraints tracks s d
      go true short e fits = run_sound (leb-true (length s) most_text short) e fits
      go false long e fits = let z : ◌≡◌ {A = ℕ} 0 1 = cc in absurd (omega arith)

  -- THE THEOREM: the automaton reads a text as d exactly where the text writes a lawful value whose document is d
  pub reads_what_is_written : constraints_of legs constraints tracks (rules_in E) s ≡ good d ↔ Writing E legs constraints tracks s d
  reads_what_is_written = (sound, complete E legs constraints tracks s d)

  -- and it refuses no text that writes one
  pub refused_otherwise : (r : Refusal) → constraints_of legs constraints tracks (rules_in E) s ≡ refused r → Writing E legs constraints tracks s d → ⊥
  refused_otherwise r e w =
      let read = complete E legs constraints tracks s d w in
      let z : ◌≡◌ {A = ℕ} 0 1 = cc in
      omega arith

-- ---- E4: a text that reads in one edition, and its twin: the same value written in the other

pub record Twin (E F : ℕ) (v : Value) (s t : List ℕ) : Type 0 where
  pub one : Laid (pieces E v) s
  pub other : Laid (pieces F v) t

-- any two editions: the twin reads as the same document
pub twins_read : (E F : ℕ) (legs : List ℕ) (constraints tracks : ℕ) (s t : List ℕ) (d : Document) (w : Writing E legs constraints tracks s d)
    → Laid (pieces F w.value) t → length t ≤ most_text
    → constraints_of legs constraints tracks (rules_in F) t ≡ constraints_of legs constraints tracks (rules_in E) s
twins_read E F legs constraints tracks s t d w laid short =
    complete F legs constraints tracks t d (record { value = w.value; lawful = w.lawful; written = laid; short = short; means = w.means })
    ∙ sym (complete E legs constraints tracks s d w)

-- The ways out of the entry's definition: refused and emptied, or accepted and written. Assumes nothing.
use Prim.Native.Nat.{ℕ, ◌/◌}
use mathlib.Core.Path.{◌≡◌, refl, sym, ap, ◌∙◌}
use mathlib.Core.Bool.{Bool, true, false, true≢false, ◌&&◌}
use mathlib.Core.List.{List}
use lib.Dec.{leb}
use lib.ListN.{length}
use Rattle.rules.specs.Limits.{most_text, configuration_width, unsigned_fill, byte_fill}
use Rattle.rules.specs.Answers.{refusal, no_solution, no_room, no_file, is_accepted, Reading, refused, good}
use Rattle.rules.specs.Constraints.{ordered}
use Rattle.rules.specs.Reading.{Texts, Files, files_of}
use Rattle.rules.specs.Tally.{no_tests}
use Rattle.rules.specs.Verdict.{Finding, accepted, violated}
use Rattle.rules.specs.Merge.{chosen, text_of}
use Rattle.rules.specs.Earliest.{earliest}
use Rattle.rules.specs.Entries.{Tables, rooms_of, filled, filled_tables, verdict_of, Proposed, propose_refused, propose_fitted, propose_judged, propose_found, propose_from, proposed}
use Rattle.rules.specs.declared.stated.Stated.{Stated}
use Rattle.rules.specs.declared.sizes.Configuration.{Configuration}
use Rattle.rules.specs.declared.answers.Refusal.{Refusal}
use Rattle.rules.specs.declared.answers.Tally.{Tally}
use Rattle.rules_theorems.specs.Demands.{IsRefused}
use Rattle.earliest_theorems.proofs.OfFiles.{proposal_accepted}
use Rattle.std.specs.Prelude.{Option, Some, None}

pub never : {A : Type 0} → true ≡ false → A
never z = absurd (true≢false z)

module _ (t : Tables) (c w : List ℕ) where
  -- t, c, w: as they were lent
  pub record Emptied (o : Proposed) : Type 0 where
    pub refuses : IsRefused o.answer
    pub tally : o.tally ≡ no_tests
    pub length : o.length ≡ 0
    pub tables : o.tables ≡ filled_tables t
    pub choices : o.choices ≡ filled unsigned_fill c
    pub text : o.text ≡ filled byte_fill w

  pub refused_emptied : (r : Refusal) → Emptied (propose_refused t c w r)
  refused_emptied r = record { refuses = (r, refl); tally = refl; length = refl; tables = refl; choices = refl; text = refl }

  fitted : (b : Bool) (written : List ℕ) (n : Tally) (f : Files) (y : List Configuration) → is_accepted (propose_fitted t c w b written n f y).answer ≡ false
      → Emptied (propose_fitted t c w b written n f y)
  fitted true written n f y z = never z
  fitted false written n f y z = refused_emptied (refusal no_room no_file 0)

  abbrev pub fits : Files → List Configuration → Bool
  fits f y =
      leb (length y) (length c / configuration_width)
      && (leb (length (text_of (chosen f.rows y))) (length w) && leb (length (text_of (chosen f.rows y))) most_text)

  judged : (v : Finding) (n : Tally) (f : Files) (y : List Configuration) → is_accepted (propose_judged t c w v n f y).answer ≡ false → Emptied (propose_judged t c w v n f y)
  judged accepted n f y z = fitted (fits f y) (text_of (chosen f.rows y)) n f y z
  judged (violated v) n f y z = refused_emptied (refusal no_solution no_file 0)

  found : (o : Option (List Configuration)) (f : Files) → is_accepted (propose_found t c w o f).answer ≡ false → Emptied (propose_found t c w o f)
  found None f z = refused_emptied (refusal no_solution no_file 0)
  found (Some y) f z = judged (verdict_of f y).finding (verdict_of f y).tally f y z

  from : (m : Reading Files) → is_accepted (propose_from t c w m).answer ≡ false → Emptied (propose_from t c w m)
  from (refused r) z = refused_emptied r
  from (good f) z = found (earliest f.rows (ordered f.document.constraints)) f z

  module _ (S : Stated) (x : Texts) where
    -- all but acceptance is a refusal, and fills all that was lent
    pub proposal_emptied : is_accepted (proposed S x t c w).answer ≡ false → Emptied (proposed S x t c w)
    unfolding proposed
    proposal_emptied = from (files_of S x (rooms_of t))

    -- ---- what was read, and what was found, decide

    pub stopped : (r : Refusal) → files_of S x (rooms_of t) ≡ refused r → proposed S x t c w ≡ propose_refused t c w r
    unfolding proposed
    stopped r e = ap (propose_from t c w) e

    module _ (f : Files) (read : files_of S x (rooms_of t) ≡ good f) where
      pub found_none : earliest f.rows (ordered f.document.constraints) ≡ None → proposed S x t c w ≡ propose_refused t c w (refusal no_solution no_file 0)
      unfolding proposed
      found_none z = ap (propose_from t c w) read ∙ ap (λ p. propose_found t c w p f) z

      pub found_some : (y : List Configuration) → earliest f.rows (ordered f.document.constraints) ≡ Some y
          → proposed S x t c w ≡ propose_fitted t c w (fits f y) (text_of (chosen f.rows y)) (verdict_of f y).tally f y
      unfolding proposed
      found_some y z =
          ap (propose_from t c w) read
          ∙ ap (λ p. propose_found t c w p f) z
          ∙ ap (λ (v : Finding). propose_judged t c w v (verdict_of f y).tally f y) (proposal_accepted S x (rooms_of t) f read y z)

    -- accepted: the files were read, a proposal found, and all fits
    pub record Stood : Type 0 where
      pub files : Files
      pub read : files_of S x (rooms_of t) ≡ good files
      pub choices : List Configuration
      pub found : earliest files.rows (ordered files.document.constraints) ≡ Some choices
      pub fit : fits files choices ≡ true
      pub is : proposed S x t c w ≡ propose_fitted t c w true (text_of (chosen files.rows choices)) (verdict_of files choices).tally files choices

    pub accepted_stood : is_accepted (proposed S x t c w).answer ≡ true → Stood
    accepted_stood e = go (files_of S x (rooms_of t)) refl
      where
        not : (p : Proposed) → proposed S x t c w ≡ p → is_accepted p.answer ≡ false → Stood
        not p q z = never (sym e ∙ ap (λ (s : Proposed). is_accepted s.answer) q ∙ z)

        room : (f : Files) → files_of S x (rooms_of t) ≡ good f → (y : List Configuration) → earliest f.rows (ordered f.document.constraints) ≡ Some y → (b : Bool) → fits f y ≡ b → Stood
        room f q y z true h =
            record {
              files = f;
              read = q;
              choices = y;
              found = z;
              fit = h;
              is = found_some f q y z ∙ ap (λ (b : Bool). propose_fitted t c w b (text_of (chosen f.rows y)) (verdict_of f y).tally f y) h;
            }
        room f q y z false h =
            not (propose_fitted t c w false (text_of (chosen f.rows y)) (verdict_of f y).tally f y)
            (found_some f q y z ∙ ap (λ (b : Bool). propose_fitted t c w b (text_of (chosen f.rows y)) (verdict_of f y).tally f y) h) refl

        on : (f : Files) → files_of S x (rooms_of t) ≡ good f → (p : Option (List Configuration)) → earliest f.rows (ordered f.document.constraints) ≡ p → Stood
        on f q None z = not (propose_refused t c w (refusal no_solution no_file 0)) (found_none f q z) refl
        on f q (Some y) z = room f q y z (fits f y) refl

        go : (m : Reading Files) → files_of S x (rooms_of t) ≡ m → Stood
        go (refused r) q = not (propose_refused t c w r) (stopped r q) refl
        go (good f) q = on f q (earliest f.rows (ordered f.document.constraints)) refl

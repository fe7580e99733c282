-- Any outcomes of `earliest`: one for an input, accepted or emptied; what is accepted is the earliest timetable, and `check` accepts its text; 19 is exact. Assumes nothing.
use Prim.Native.Nat.{ℕ, ◌*◌, ◌/◌, ◌≤◌}
use native.Mathlib.Omega.{arith}
use mathlib.Core.Path.{◌≡◌, refl, sym, ap, ap₂, ◌∙◌, subst}
use mathlib.Core.Logic.{◌⊎◌, inl, inr}
use mathlib.Core.Bool.{Bool, true, false}
use mathlib.Core.List.{List}
use lib.ListN.{length, take, get_or, replicate, length-map, length-replicate}
use borrow.Author.Tests.{leb-true}
use Rattle.rules.specs.Limits.{configuration_width}
use Rattle.rules.specs.Answers.{refusal, no_solution, no_room, no_file, solution_file, values_of, is_accepted, good}
use Rattle.rules.specs.Timetable.{Row}
use Rattle.rules.specs.Constraints.{ordered}
use Rattle.rules.specs.Reading.{Texts, Files, files_of}
use Rattle.rules.specs.Verdict.{offered, answer_of}
use Rattle.rules.specs.Merge.{chosen, text_of}
use Rattle.rules.specs.Earliest.{earliest}
use Rattle.rules.specs.Entries.{Tables, rooms_of, verdict_of, Proposed, propose_fitted, proposed, all_read, checked}
use Rattle.rules.specs.declared.stated.Stated.{Stated}
use Rattle.rules.specs.declared.sizes.Configuration.{Configuration}
use Rattle.rules.specs.declared.answers.Answer.{Answer}
use Rattle.rules.specs.declared.answers.Answer.TheVariants.{Accepted, Violated, Refused}
use Rattle.rules.proofs.Truth.{and_first}
use Rattle.rules_theorems.specs.Demands.{IsRefused}
use Rattle.rules_theorems.proofs.AnyRoom.{files_alike}
use Rattle.rules_theorems.proofs.DemandThree.{over_front}
use Rattle.rules_theorems.proofs.DemandTwo.{checked-answer, demand_two}
use Rattle.rules_theorems.proofs.GoodFiles.{all_good, good_all}
use Rattle.rules_theorems.proofs.TextBound.{files_choices_back}
use Rattle.earliest_theorems.specs.Statement.{Solution, Earliest}
use Rattle.earliest_theorems.specs.Outcomes.{Outcome, AcceptedText, Ends, ProposedTo, NineteenExactly}
use Rattle.earliest_theorems.proofs.Search.{offered_long}
use Rattle.earliest_theorems.proofs.OfFiles.{files_none, proposal_earliest, proposal_accepted}
use Rattle.earliest_theorems.proofs.Ways.{never, Emptied, fits, proposal_emptied, found_none, found_some, Stood, accepted_stood}
use Rattle.std.specs.Prelude.{Option, Some, None}

accepted_is : (a : Answer) → is_accepted a ≡ true → a ≡ Accepted
accepted_is Accepted e = refl
accepted_is (Violated v) e = never (sym e)
accepted_is (Refused r) e = never (sym e)

not_accepted_lem : (a : Answer) → IsRefused a → is_accepted a ≡ false
not_accepted_lem a k = ap is_accepted k.1

-- ---- a text that is accepted is a solution, and a solution has a text

module _ (S : Stated) (x : Texts) where
  text_solution : (f : Files) (y : List Configuration) → AcceptedText S x f y → Solution f.rows (ordered f.document.constraints) y
  text_solution f y k =
      record {
        accepted = (demand_two S x k.text k.lent k.lent_choices (record { files = f; choices = y }) k.read).accepted_in_order.0 k.accepted;
        travels = k.travels;
      }

  text_files : (f : Files) (y : List Configuration) (k : AcceptedText S x f y) → files_of S x (rooms_of k.lent) ≡ good f
  text_files f y k = (all_good S x k.text (rooms_of k.lent) (length k.lent_choices) (record { files = f; choices = y }) k.read).0

  module _ (t : Tables) (f : Files) (read : files_of S x (rooms_of t) ≡ good f) (y : List Configuration) (found : earliest f.rows (ordered f.document.constraints) ≡ Some y) where
    mine : Earliest f.rows (ordered f.document.constraints) y
    mine = proposal_earliest S x (rooms_of t) f read y found

    many : length y ≡ length f.rows
    many = offered_long (offered f.rows) y mine.solution.accepted.offered ∙ length-map f.rows (λ (r : Row). r.list)

    module _ (c : List ℕ) (room : length f.rows ≤ length c / configuration_width) where
      reads_back : all_read S x (text_of (chosen f.rows y)) (rooms_of t) (length c) ≡ good (record { files = f; choices = y })
      reads_back =
          good_all S x (text_of (chosen f.rows y)) (rooms_of t) (length c) f y read
          (files_choices_back S x (rooms_of t) f solution_file (length c) y read mine.solution.accepted.offered room)

      pub text_accepted : (checked S x (text_of (chosen f.rows y)) t c).answer ≡ Accepted
      text_accepted =
          checked-answer S x (text_of (chosen f.rows y)) t c (record { files = f; choices = y }) reads_back
          ∙ ap (answer_of solution_file) (proposal_accepted S x (rooms_of t) f read y found)

      its_text : AcceptedText S x f y
      its_text =
          record {
            text = text_of (chosen f.rows y);
            lent = t;
            lent_choices = c;
            read = reads_back;
            accepted = text_accepted;
            travels = mine.solution.travels;
          }

-- ---- THE THEOREMS

module _ {S : Stated} {x : Texts} where
  -- any two outcomes coincide
  pub one_outcome : (k l : Outcome S x) → k.lent ≡ l.lent → k.lent_choices ≡ l.lent_choices → k.lent_text ≡ l.lent_text
      → (k.result ≡ l.result) × (k.tables ≡ l.tables) × (k.choices ≡ l.choices) × (k.text ≡ l.text)
  one_outcome k l t c w =
      let same : proposed S x k.lent k.lent_choices k.lent_text ≡ proposed S x l.lent l.lent_choices l.lent_text = λ j. proposed S x (t j) (c j) (w j) in (
        λ j.
            record {
              answer = (k.keeps.answer ∙ ap (λ (o : Proposed). o.answer) same ∙ sym l.keeps.answer) j;
              tally = (k.keeps.tally ∙ ap (λ (o : Proposed). o.tally) same ∙ sym l.keeps.tally) j;
              length = (k.keeps.length ∙ ap (λ (o : Proposed). o.length) same ∙ sym l.keeps.length) j;
            },
        k.keeps.tables ∙ ap (λ (o : Proposed). o.tables) same ∙ sym l.keeps.tables,
        k.keeps.choices ∙ ap (λ (o : Proposed). o.choices) same ∙ sym l.keeps.choices,
        k.keeps.text ∙ ap (λ (o : Proposed). o.text) same ∙ sym l.keeps.text,
      )

  module _ (k : Outcome S x) where
    abbrev o : Proposed
    o = proposed S x k.lent k.lent_choices k.lent_text

    emptied : IsRefused k.result.answer → Emptied k.lent k.lent_choices k.lent_text o
    emptied r = proposal_emptied k.lent k.lent_choices k.lent_text S x (ap is_accepted (sym k.keeps.answer) ∙ not_accepted_lem k.result.answer r)

    pub ends : Ends k
    ends =
        record {
          one_of_two = go (is_accepted o.answer) refl;
          no_tests_lem = λ r. k.keeps.tally ∙ (emptied r).tally;
          no_length = λ r. k.keeps.length ∙ (emptied r).length;
          tables_emptied = λ r. k.keeps.tables ∙ (emptied r).tables;
          choices_emptied = λ r. k.keeps.choices ∙ (emptied r).choices;
          text_emptied = λ r. k.keeps.text ∙ (emptied r).text;
        }
      where
        go : (b : Bool) → is_accepted o.answer ≡ b → (k.result.answer ≡ Accepted) ⊎ IsRefused k.result.answer
        go true e = inl (k.keeps.answer ∙ accepted_is o.answer e)
        go false e = let r = (proposal_emptied k.lent k.lent_choices k.lent_text S x e).refuses in inr (r.0, k.keeps.answer ∙ r.1)

    stood : k.result.answer ≡ Accepted → Stood k.lent k.lent_choices k.lent_text S x
    stood e = accepted_stood k.lent k.lent_choices k.lent_text S x (ap is_accepted (sym k.keeps.answer ∙ e))

    pub accepted_proposal : k.result.answer ≡ Accepted → (f : Files) × (y : List Configuration) × ProposedTo k f y
    accepted_proposal e = let s = stood e in (s.files, s.choices, proposed_to s)
      where
        proposed_to : (s : Stood k.lent k.lent_choices k.lent_text S x) → ProposedTo k s.files s.choices
        proposed_to s =
            let f = s.files in
            let y = s.choices in
            let mine = proposal_earliest S x (rooms_of k.lent) f s.read y s.found in
            let long = k.keeps.length ∙ ap (λ (p : Proposed). p.length) s.is in
            let text = k.keeps.text ∙ ap (λ (p : Proposed). p.text) s.is in
            let written : take k.result.length k.text ≡ text_of (chosen f.rows y) = ap₂ (λ (n : ℕ) (w : List ℕ). take n w) long text ∙ over_front (text_of (chosen f.rows y)) k.lent_text in
            let fit : length y ≤ length k.lent_choices / configuration_width = leb-true (length y) (length k.lent_choices / configuration_width) (and_first _ _ s.fit) in
            let room : length f.rows ≤ length k.lent_choices / configuration_width = rw (← many S x k.lent f s.read y s.found) fit in
            record {
              files_read = s.read;
              earliest = mine;
              tally = k.keeps.tally ∙ ap (λ (p : Proposed). p.tally) s.is;
              tables = k.keeps.tables ∙ ap (λ (p : Proposed). p.tables) s.is;
              choices = k.keeps.choices ∙ ap (λ (p : Proposed). p.choices) s.is;
              written = written;
              checks = ap (λ (w : List ℕ). (checked S x w k.lent k.lent_choices).answer) written ∙ text_accepted S x k.lent f s.read y s.found k.lent_choices room;
              none_sooner = λ g z a.
                  let same : g ≡ f = files_alike S x (rooms_of a.lent) (rooms_of k.lent) g f (text_files S x g z a) s.read in
                  mine.least z (subst (λ (h : Files). Solution h.rows (ordered h.document.constraints) z) same (text_solution S x g z a));
            }

    -- 19 is no other refusal, and no acceptance
    nineteen_fitted : (b : Bool) (written : List ℕ) (n : _) (f : Files) (y : List Configuration)
        → (propose_fitted k.lent k.lent_choices k.lent_text b written n f y).answer ≡ Refused (refusal no_solution no_file 0) → ⊥
    nineteen_fitted true written n f y e = let z : ◌≡◌ {A = ℕ} 0 1 = cc in omega arith
    nineteen_fitted false written n f y e = let z : ◌≡◌ {A = ℕ} no_room no_solution = ap (λ (a : Answer). get_or (values_of a) 0 0) e in omega arith

    pub nineteen_exactly : (f : Files) → files_of S x (rooms_of k.lent) ≡ good f → NineteenExactly k f
    nineteen_exactly f read = (there, back)
      where
        there : k.result.answer ≡ Refused (refusal no_solution no_file 0) → (y : List Configuration) → AcceptedText S x f y → ⊥
        there e y a = go (earliest f.rows (ordered f.document.constraints)) refl
          where
            go : (p : Option (List Configuration)) → earliest f.rows (ordered f.document.constraints) ≡ p → ⊥
            go None z = (files_none S x (rooms_of k.lent) f read).0 z y (text_solution S x f y a)
            go (Some v) z =
                nineteen_fitted (fits k.lent k.lent_choices k.lent_text f v) (text_of (chosen f.rows v)) (verdict_of f v).tally f v
                (ap (λ (p : Proposed). p.answer) (sym (found_some k.lent k.lent_choices k.lent_text S x f read v z)) ∙ sym k.keeps.answer ∙ e)

        back : ((y : List Configuration) → AcceptedText S x f y → ⊥) → k.result.answer ≡ Refused (refusal no_solution no_file 0)
        back h = go (earliest f.rows (ordered f.document.constraints)) refl
          where
            room : List ℕ
            room = replicate (length f.rows * configuration_width) 0

            go : (p : Option (List Configuration)) → earliest f.rows (ordered f.document.constraints) ≡ p → k.result.answer ≡ Refused (refusal no_solution no_file 0)
            go None z = k.keeps.answer ∙ ap (λ (p : Proposed). p.answer) (found_none k.lent k.lent_choices k.lent_text S x f read z)
            go (Some v) z = absurd (h v (its_text S x k.lent f read v z room (omega (arith, length-replicate {A = ℕ} (length f.rows * configuration_width) 0))))

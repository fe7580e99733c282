-- The ways out of a proposal that is ruled on and written: refused, the text, or 16 for it. Assumes nothing.
use Prim.Native.Nat.{ℕ, ◌/◌, ◌≤◌, ◌<◌}
use native.Mathlib.Omega.{arith}
use mathlib.Core.Path.{◌≡◌, refl, sym, ap, ap₂, ◌∙◌, subst}
use mathlib.Core.Bool.{Bool, true, false, cond, true≢false, ◌&&◌}
use mathlib.Core.List.{List}
use lib.Dec.{leb}
use lib.ListN.{length}
use borrow.Author.Tests.{leb-true}
use Rattle.rules.specs.Limits.{most_text, configuration_width}
use Rattle.rules.specs.Answers.{no_room, is_accepted}
use Rattle.rules.specs.Verdict.{Finding}
use Rattle.rules.specs.Merge.{chosen, text_of}
use Rattle.rules.specs.Entries.{rooms_of, verdict_of, propose_fitted, propose_judged, propose_found}
use Rattle.rules.specs.declared.sizes.Configuration.{Configuration}
use Rattle.rules.specs.declared.answers.Ruling.{Ruling}
use Rattle.rules.specs.declared.outcomes.Proposed.{Proposed}
use Rattle.rules.proofs.Truth.{and_first}
use Rattle.text_write.specs.Written.{last_place}
use Rattle.earliest_theorems.proofs.OfFiles.{proposal_accepted}
use Rattle.earliest_proposal.specs.Left.{Left, earliest_of}
use Rattle.earliest_proposal.specs.Proposal.{refused_as, accepted_as, ruling_of, Put, Decides}
use Rattle.earliest_proposal.specs.Text.{TextOf, Writes, proposed_as, Made, Makes}
use Rattle.std.specs.Prelude.{Option, Some, None}

never : {A : Type 0} → true ≡ false → A
never z = absurd (true≢false z)

answered : {a b : Ruling} → a ≡ b → is_accepted a.answer ≡ is_accepted b.answer
answered e = ap (λ (r : Ruling). is_accepted r.answer) e

module _ (n m : ℕ) (legs configurations constraints choices text : List ℕ) (a : Ruling) (legs₁ choices₁ : List ℕ)
    (p : Decides n m legs configurations constraints choices a legs₁ choices₁) where
  module _ (k : Left n m legs configurations constraints) where
    abbrev told : (x : List Configuration) → List ℕ
    told x = text_of (chosen k.files.rows x)

    abbrev text_fits : (x : List Configuration) → Bool
    text_fits x = leb (length (told x)) (length text) && leb (length (told x)) most_text

    -- by whether choices and text fit
    judged : (x : List Configuration) → earliest_of k.files ≡ Some x
        → propose_found k.lent choices text (earliest_of k.files) k.files
        ≡ propose_fitted k.lent choices text (leb (length x) (length choices / configuration_width) && text_fits x) (told x) (verdict_of k.files x).tally k.files x
    judged x e =
        ap (λ o. propose_found k.lent choices text o k.files) e
        ∙ ap (λ (v : Finding). propose_judged k.lent choices text v (verdict_of k.files x).tally k.files x)
        (proposal_accepted k.stated k.texts (rooms_of k.lent) k.files k.read x e)

    refused_made : is_accepted a.answer ≡ false → (legs' choices' text' : List ℕ)
        → Made (propose_found k.lent choices text (earliest_of k.files) k.files) legs (proposed_as a 0) legs' choices' text'
    refused_made e legs' choices' text' = go (earliest_of k.files) refl
      where
        go : (o : Option (List Configuration)) → earliest_of k.files ≡ o
            → Made (propose_found k.lent choices text (earliest_of k.files) k.files) legs (proposed_as a 0) legs' choices' text'
        go None z =
            let r = (p k).ruled ∙ ap (λ o. ruling_of k.files o (length choices)) z in
            subst (λ o. Made (propose_found k.lent choices text o k.files) legs (proposed_as a 0) legs' choices' text') (sym z)
            (record { answer = ap (λ (u : Ruling). u.answer) r; tally = ap (λ (u : Ruling). u.tally) r; length = refl; puts = λ t. never (sym t ∙ e) })
        go (Some x) z =
            subst (λ o. Made o legs (proposed_as a 0) legs' choices' text') (sym (judged x z))
            (room (leb (length x) (length choices / configuration_width)) ((p k).ruled ∙ ap (λ o. ruling_of k.files o (length choices)) z))
          where
            room : (b : Bool) → a ≡ cond b (accepted_as k.files x) (refused_as no_room)
                → Made (propose_fitted k.lent choices text (b && text_fits x) (told x) (verdict_of k.files x).tally k.files x) legs (proposed_as a 0) legs' choices' text'
            room true q = never (sym (answered q) ∙ e)
            room false q = record { answer = ap (λ (u : Ruling). u.answer) q; tally = ap (λ (u : Ruling). u.tally) q; length = refl; puts = λ t. never (sym t ∙ e) }

  pub makes_refused : is_accepted a.answer ≡ false → (r : Proposed) → r ≡ proposed_as a 0 → (legs' choices' text' : List ℕ)
      → Makes n m legs configurations constraints choices text r legs' choices' text'
  makes_refused e r er legs' choices' text' = λ k. rw er (refused_made k e legs' choices' text')

  module _ (h : is_accepted a.answer ≡ true) (size : ℕ) (text' : List ℕ) (w : Writes n m legs₁ configurations constraints choices₁ text size text') (small : length text < last_place)
      (fit : Bool) (ef : fit ≡ (leb size (length text) && leb size most_text)) where
    module _ (k : Left n m legs configurations constraints) where
      put : Put k.files legs choices legs₁ choices₁
      put = (p k).puts h

      abbrev there : Left n m legs₁ configurations constraints
      there =
          record {
            stated = k.stated;
            texts = k.texts;
            lent = k.lent;
            files = k.files;
            read = k.read;
            rows_many = k.rows_many;
            records_many = k.records_many;
            legs_are_lem = put.legs_back ∙ k.legs_are_lem;
            configurations_are_lem = k.configurations_are_lem;
            constraints_are = k.constraints_are;
          }

      of : TextOf (told k put.x) text size text'
      of = w (record { left = there; x = put.x; found = put.found; lent = choices; choices_are = put.choices_put })

      -- the choices fit, and so this is the ruling
      fitting : (leb (length put.x) (length choices / configuration_width) ≡ true) × (a ≡ accepted_as k.files put.x)
      fitting = go (leb (length put.x) (length choices / configuration_width)) ((p k).ruled ∙ ap (λ o. ruling_of k.files o (length choices)) put.found)
        where
          go : (b : Bool) → a ≡ cond b (accepted_as k.files put.x) (refused_as no_room) → (b ≡ true) × (a ≡ accepted_as k.files put.x)
          go true e = (refl, e)
          go false e = never (sym h ∙ answered e)

      seen : (leb (length put.x) (length choices / configuration_width) && text_fits k put.x) ≡ fit
      seen =
          ap₂ ◌&&◌ fitting.0 (ap₂ ◌&&◌ (sym (of.fits (length text) small)) (sym (of.fits most_text (omega arith))))
          ∙ sym ef

      made : (b : Bool) → fit ≡ b → (r : Proposed) (legs' choices' t' : List ℕ)
          → Made (propose_fitted k.lent choices text b (told k put.x) (verdict_of k.files put.x).tally k.files put.x) legs r legs' choices' t'
          → Made (propose_found k.lent choices text (earliest_of k.files) k.files) legs r legs' choices' t'
      made b e r legs' choices' t' q =
          subst (λ o. Made o legs r legs' choices' t') (sym (judged k put.x put.found))
          (subst (λ y. Made (propose_fitted k.lent choices text y (told k put.x) (verdict_of k.files put.x).tally k.files put.x) legs r legs' choices' t') (sym (seen ∙ e)) q)

      accepted_made : fit ≡ true → Made (propose_found k.lent choices text (earliest_of k.files) k.files) legs (proposed_as a size) legs₁ choices₁ text'
      accepted_made e =
          let room : size ≤ length text = leb-true size (length text) (and_first (leb size (length text)) (leb size most_text) (sym ef ∙ e)) in
          let t = of.puts small room in
          let is = fitting.1 in
          made true e (proposed_as a size) legs₁ choices₁ text'
          (record { answer = ap (λ (u : Ruling). u.answer) is; tally = ap (λ (u : Ruling). u.tally) is; length = t.0; puts = λ z. (put.legs_back, put.choices_put, t.1) })

      no_room-made : fit ≡ false → (s : Ruling) → s ≡ refused_as no_room → (legs' choices' t' : List ℕ)
          → Made (propose_found k.lent choices text (earliest_of k.files) k.files) legs (proposed_as s 0) legs' choices' t'
      no_room-made e s es legs' choices' t' =
          made false e (proposed_as s 0) legs' choices' t'
          (record { answer = ap (λ (u : Ruling). u.answer) es; tally = ap (λ (u : Ruling). u.tally) es; length = refl; puts = λ z. never (sym z ∙ answered es) })

    pub makes_text : fit ≡ true → (r : Proposed) → r ≡ proposed_as a size → Makes n m legs configurations constraints choices text r legs₁ choices₁ text'
    makes_text e r er = λ k. rw er (accepted_made k e)

    pub makes_no_room : fit ≡ false → (s : Ruling) → s ≡ refused_as no_room → (r : Proposed) → r ≡ proposed_as s 0 → (legs' choices' t' : List ℕ)
        → Makes n m legs configurations constraints choices text r legs' choices' t'
    makes_no_room e s es r er legs' choices' t' = λ k. rw er (no_room-made k e s es legs' choices' t')

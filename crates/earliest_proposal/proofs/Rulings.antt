-- The three ways out of a proposal: 19, 16 for the choices, or settled. Assumes nothing.
use Prim.Native.Nat.{ℕ, ◌/◌, ◌≤◌, ◌<◌}
use native.Mathlib.Omega.{arith}
use mathlib.Core.Path.{◌≡◌, sym, ap, ◌∙◌}
use mathlib.Core.Bool.{Bool, true, false, cond, true≢false}
use mathlib.Core.List.{List}
use lib.Dec.{leb}
use lib.ListN.{length}
use borrow.Author.Tests.{le-leb, lt-leb}
use Rattle.rules.specs.Limits.{configuration_width}
use Rattle.rules.specs.Answers.{refusal, no_solution, no_room, no_file, is_accepted}
use Rattle.rules.specs.Tally.{no_tests}
use Rattle.rules.specs.declared.answers.Refusal.{Refusal}
use Rattle.rules.specs.declared.answers.Tally.{Tally}
use Rattle.rules.specs.declared.answers.Ruling.{Ruling}
use Rattle.rules.specs.declared.answers.Answer.TheVariants.{Refused}
use Rattle.rules.proofs.Lists.{tabulate-length}
use Rattle.earliest_offer.specs.Offer.{chosen_at}
use Rattle.earliest_search.specs.Searching.{chosen_in}
use Rattle.earliest_proposal.specs.Left.{Left, earliest_of}
use Rattle.earliest_proposal.specs.Proposal.{Finds, refused_as, accepted_as, ruling_of, Settleable, Settles, Decides}

-- in the terms of the code
pub refused_is : (number : ℕ) (x : Refusal) → x ≡ refusal number no_file 0 → (t : Tally) → t ≡ no_tests → ◌≡◌ {A = Ruling} (record { answer = Refused x; tally = t }) (refused_as number)
refused_is number x ex t et = λ j. record { answer = Refused (ex j); tally = et j }

not_accepted_lem : {A : Type 0} {r : Ruling} {number : ℕ} → r ≡ refused_as number → is_accepted r.answer ≡ true → A
not_accepted_lem e q = absurd (true≢false (sym q ∙ ap (λ (a : Ruling). is_accepted a.answer) e))

module _ (n m : ℕ) (legs configurations constraints choices : List ℕ) (found : Bool) (legs₁ : List ℕ) (h : Finds n m legs configurations constraints found legs₁) where
  pub propose_settleable : Left n m legs configurations constraints → found ≡ true → n ≤ length choices / configuration_width → Settleable n m legs₁ configurations constraints choices
  propose_settleable k e l =
      let q = (h k).found e in
      record { before = legs; left = k; found = q.0; moved = q.1; room = omega arith }

  pub propose_never : found ≡ false → (r : Ruling) → r ≡ refused_as no_solution → (legs' choices' : List ℕ) → Decides n m legs configurations constraints choices r legs' choices'
  propose_never e r er legs' choices' = λ k.
      record {
        ruled = er ∙ sym (ap (λ o. ruling_of k.files o (length choices)) ((h k).never e));
        puts = λ q. not_accepted_lem er q;
      }

  -- by whether the choices fit
  sized : (k : Left n m legs configurations constraints) → found ≡ true → (b : Bool) → leb n (length choices / configuration_width) ≡ b
      → ruling_of k.files (earliest_of k.files) (length choices) ≡ cond b (accepted_as k.files (chosen_in n legs₁ configurations)) (refused_as no_room)
  sized k e b q =
      ap (λ o. ruling_of k.files o (length choices)) ((h k).found e).0
      ∙ ap (λ (t : Bool). cond t (accepted_as k.files (chosen_in n legs₁ configurations)) (refused_as no_room))
      (ap (λ (i : ℕ). leb i (length choices / configuration_width)) (tabulate-length n (chosen_at legs₁ configurations)) ∙ q)

  pub propose_no_room : found ≡ true → length choices / configuration_width < n → (r : Ruling) → r ≡ refused_as no_room → (legs' choices' : List ℕ)
      → Decides n m legs configurations constraints choices r legs' choices'
  propose_no_room e l r er legs' choices' = λ k.
      record {
        ruled = er ∙ sym (sized k e false (lt-leb n (length choices / configuration_width) l));
        puts = λ q. not_accepted_lem er q;
      }

  pub propose_settled : found ≡ true → n ≤ length choices / configuration_width → (a : Ruling) (legs' choices' : List ℕ) → Settles n m legs₁ configurations constraints choices a legs' choices'
      → Decides n m legs configurations constraints choices a legs' choices'
  unfolding propose_settleable
  propose_settled e l a legs' choices' s = λ k.
      let z = s (propose_settleable k e l) in
      record {
        ruled = z.ruled ∙ sym (sized k e true (le-leb n (length choices / configuration_width) l));
        puts = λ q. record { x = chosen_in n legs₁ configurations; found = ((h k).found e).0; legs_back = z.legs_back; choices_put = z.choices_put };
      }

-- The way back: the choices into their own table, and the places of the nominals alone. Assumes nothing.
use Prim.Native.Nat.{ℕ, ◌+◌, ◌*◌, ◌%◌, ◌≤◌, ◌<◌}
use native.Mathlib.Omega.{arith}
use native.Mathlib.Numerals.{add-one}
use mathlib.Core.Path.{◌≡◌, refl, sym, ap, ◌∙◌}
use mathlib.Core.Logic.{◌≢◌}
use mathlib.Core.Bool.{Bool, true, false}
use mathlib.Core.List.{List, [], ◌∷◌, ◌++◌}
use lib.Dec.{eqb}
use lib.ListN.{length, get_or, set, length-set}
use lib.Seq.{sets, get_or-set_same, get_or-set_other}
use borrow.Author.Tests.{eqb-true, eqb-false}
use Rattle.rules.specs.Limits.{leg_width, most_listed, configuration_width}
use Rattle.rules.specs.Lists.{flat, over}
use Rattle.rules.specs.Energy.{tabulate}
use Rattle.rules.specs.Timetable.{configuration_numbers}
use Rattle.rules.specs.declared.sizes.Configuration.{Configuration}
use Rattle.rules.proofs.Lists.{tabulate-length, tabulate-more, flat_append, flat-length, over-more, over-length}
use Rattle.earliest_offer.specs.Offer.{last_at, chosen_at}
use Rattle.earliest_search.specs.WayOut.{choices_over, Restored}

-- ---- the choices

module _ (n : ℕ) (legs configurations choices₀ : List ℕ) where
  abbrev written : ℕ → List ℕ
  written i = flat configuration_numbers (tabulate i (chosen_at legs configurations))

  written-length : (i : ℕ) → length (written i) ≡ i * configuration_width
  written-length i =
      flat-length configuration_numbers configuration_width (λ c. refl) (tabulate i (chosen_at legs configurations))
      ∙ ap (λ (k : ℕ). k * configuration_width) (tabulate-length i (chosen_at legs configurations))

  pub record Unpacking (i : ℕ) (choices : List ℕ) : Type 0 where
    pub fits : n * configuration_width ≤ length choices₀
    pub within : i ≤ n
    pub long : length choices ≡ length choices₀
    pub now_is : choices ≡ choices_over i legs configurations choices₀

  pub unpack_first : n * configuration_width ≤ length choices₀ → Unpacking 0 choices₀
  unfolding over
  unpack_first f = record { fits = f; within = omega arith; long = refl; now_is = refl }

  module _ (i : ℕ) (choices : List ℕ) (u : Unpacking i choices) where
    pub unpack_on : i < n → (c : Configuration) → c ≡ chosen_at legs configurations i → (choices' : List ℕ)
        → choices' ≡ sets choices (i * configuration_width) (configuration_numbers c) → Unpacking (i + 1) choices'
    unpack_on h c ec choices' e =
        let is : choices' ≡ choices_over (i + 1) legs configurations choices₀ = now_is in
        record {
          fits = u.fits;
          within = omega arith;
          long = ap length is ∙ over-length (written (i + 1)) choices₀ (omega (arith, written-length (i + 1), u.fits));
          now_is = is;
        }
      where
        one : List ℕ
        one = configuration_numbers (chosen_at legs configurations i)

        more : written (i + 1) ≡ written i ++ one
        more =
            ap (λ (k : ℕ). written k) (add-one i)
            ∙ ap (flat configuration_numbers) (tabulate-more i (chosen_at legs configurations))
            ∙ flat_append configuration_numbers (tabulate i (chosen_at legs configurations)) (chosen_at legs configurations i ∷ [])

        now_is : choices' ≡ choices_over (i + 1) legs configurations choices₀
        now_is =
            e
            ∙ ap (λ (x : Configuration). sets choices (i * configuration_width) (configuration_numbers x)) ec
            ∙ ap (λ (x : List ℕ). sets x (i * configuration_width) one) u.now_is
            ∙ ap (λ (x : ℕ). sets (choices_over i legs configurations choices₀) x one) (sym (written-length i))
            ∙ over-more (written i) choices₀ one (omega (arith, written-length i, u.fits))
            ∙ ap (λ (x : List ℕ). over x choices₀) (sym more)

-- ---- the places

module _ (n : ℕ) (legs₀ : List ℕ) where
  pub record Restoring (i : ℕ) (legs : List ℕ) : Type 0 where
    pub wide : leg_width * n ≤ length legs₀
    pub within : i ≤ n
    pub long : length legs ≡ length legs₀
    pub same : (p : ℕ) → ((j : ℕ) → j < i → p ≢ last_at j) → get_or legs p 0 ≡ get_or legs₀ p 0
    pub places : (j : ℕ) → j < i → get_or legs (last_at j) 0 ≡ get_or legs₀ (last_at j) 0 % most_listed

  module _ (i : ℕ) (legs : List ℕ) (b : Restoring i legs) where
    pub restore_ends : n ≤ i → Restored n legs₀ legs
    restore_ends h =
        record {
          long = b.long;
          same = λ p d. b.same p (λ j l. d j (omega (arith, b.within)));
          places = λ j l. b.places j (omega arith);
        }

    pub restore_there : i < n → last_at i < length legs
    restore_there h = omega (arith, b.long, b.wide)

    restore_on : i < n → (v : ℕ) → v ≡ get_or legs (last_at i) 0 → (legs' : List ℕ) → legs' ≡ set legs (last_at i) (v % most_listed) → Restoring (i + 1) legs'
    restore_on h v ev legs' e =
        record {
          wide = b.wide;
          within = omega arith;
          long = ap length e ∙ length-set legs (last_at i) (v % most_listed) ∙ b.long;
          same = λ p d. other p (d i (omega arith)) ∙ b.same p (λ j l. d j (omega arith));
          places = λ j l. at j l (eqb j i) refl;
        }
      where
        other : (p : ℕ) → p ≢ last_at i → get_or legs' p 0 ≡ get_or legs p 0
        other p d = rw e (get_or-set_other legs (last_at i) p (v % most_listed) 0 d)

        at : (j : ℕ) → j < i + 1 → (t : Bool) → eqb j i ≡ t → get_or legs' (last_at j) 0 ≡ get_or legs₀ (last_at j) 0 % most_listed
        at j l true q =
            rw (eqb-true j i q)
            (ap (λ (g : List ℕ). get_or g (last_at i) 0) e
            ∙ get_or-set_same legs (last_at i) (v % most_listed) 0 (restore_there h)
            ∙ ap (λ (k : ℕ). k % most_listed) (ev ∙ b.same (last_at i) (λ k m w. omega arith)))
        at j l false q =
            let d : j ≢ i = eqb-false j i q in
            other (last_at j) (λ w. d (omega arith)) ∙ b.places j (omega arith)

    pub restore_at : i < n → Restoring (i + 1) (set legs (last_at i) (get_or legs (last_at i) 0 % most_listed))
    restore_at h = restore_on h (get_or legs (last_at i) 0) refl (set legs (last_at i) (get_or legs (last_at i) 0 % most_listed)) refl

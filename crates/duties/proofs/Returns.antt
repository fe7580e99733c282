-- A line less its CR, by its last byte. Assumes nothing.
use Prim.Native.Nat.{ℕ, suc, ◌-◌}
use mathlib.Core.Path.{◌≡◌, refl, sym, ap, ◌∙◌}
use mathlib.Core.List.{List, [], ◌∷◌}
use native.Mathlib.Omega.{arith}
use lib.ListN.{length, get_or, take}
use borrow.Author.Tests.{eq-eqb, ne_eqb}
use Rattle.rules.specs.Bytes.{carriage_return, less_return}

pub less_none : (s : List ℕ) → length s ≡ 0 → s ≡ less_return s
less_none [] h = refl
less_none (b ∷ s) h = absurd (omega arith)

less_cut : (s : List ℕ) (k : ℕ) → length s ≡ suc k → get_or s k 0 ≡ carriage_return → take k s ≡ less_return s
less_cut [] k h e = absurd (omega arith)
less_cut (b ∷ []) k h e =
    let z : k ≡ 0 = omega arith in
    let w : b ≡ carriage_return = sym (ap (λ (i : ℕ). get_or (b ∷ []) i 0) z) ∙ e in
    ap (λ (i : ℕ). take i (b ∷ [])) z ∙ sym (rw (eq-eqb b carriage_return w))
less_cut (b ∷ c ∷ s) k h e =
    let z : k ≡ suc (length s) = omega arith in
    ap (λ (i : ℕ). take i (b ∷ c ∷ s)) z
    ∙ ap (λ (t : List ℕ). b ∷ t) (less_cut (c ∷ s) (length s) refl (sym (ap (λ (i : ℕ). get_or (b ∷ c ∷ s) i 0) z) ∙ e))

less_kept : (s : List ℕ) (k : ℕ) → length s ≡ suc k → (get_or s k 0 ≡ carriage_return → ⊥) → s ≡ less_return s
less_kept [] k h e = refl
less_kept (b ∷ []) k h e =
    let z : k ≡ 0 = omega arith in
    sym (rw (ne_eqb b carriage_return (λ w. e (ap (λ (i : ℕ). get_or (b ∷ []) i 0) z ∙ w))))
less_kept (b ∷ c ∷ s) k h e =
    let z : k ≡ suc (length s) = omega arith in
    ap (λ (t : List ℕ). b ∷ t) (less_kept (c ∷ s) (length s) refl (λ w. e (ap (λ (i : ℕ). get_or (b ∷ c ∷ s) i 0) z ∙ w)))

module _ (s : List ℕ) (n : (length s ≡ 0 → ⊥)) where
  pub less_last : get_or s (length s - 1) 0 ≡ carriage_return → take (length s - 1) s ≡ less_return s
  less_last e = less_cut s (length s - 1) (omega arith) e

  pub less_all : (get_or s (length s - 1) 0 ≡ carriage_return → ⊥) → s ≡ less_return s
  less_all e = less_kept s (length s - 1) (omega arith) e

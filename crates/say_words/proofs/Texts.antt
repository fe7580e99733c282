-- Times, energies and counts out of their parts: the parts written one after the other are the whole. Assumes nothing.
use Prim.Native.Nat.{ℕ, ◌*◌, ◌/◌, ◌%◌, ◌^◌, ◌≤◌, ◌<◌}
use native.Mathlib.Omega.{arith}
use native.Mathlib.Nat.{mod-lt}
use mathlib.Core.Path.{◌≡◌, subst}
use mathlib.Core.List.{List, [], ◌∷◌, append_assoc, append-nil}
use lib.ListN.{length, get_or}
use borrow.Author.Tests.{eq-eqb, ne_eqb}
use Rattle.rules.specs.Limits.{quarter_seconds}
use Rattle.rules.specs.Bytes.{bytes, spelled, point}
use Rattle.rules.specs.declared.figures.Peak.{Peak}
use Rattle.text_write.specs.Written.{last_place, Written}
use Rattle.text_write.proofs.Writing.{written_then}
use Rattle.say_words.specs.Numbers.{two_digits, three_digits}
use Rattle.say_words.specs.Times.{minute, hour, colon, clock_of, time_of, quarter_end, quarter_of}
use Rattle.say_words.specs.Energies.{most_unit, decimals_of, mw_of, peak_text}
use Rattle.say_words.specs.Names.{test_names}
use Rattle.say_words.specs.Tallies.{count_text}

-- a thousand times what is short of a unit
pub thousand_fits : (n unit : ℕ) → 0 < unit → unit ≤ most_unit → n % unit * 1_000 < 2 ^ 64
thousand_fits n unit h k = omega (arith, mod-lt n {m = unit} h)

module _ {t : List ℕ} {at : ℕ} {t₁ : List ℕ} {at₁ : ℕ} {t₂ : List ℕ} {at₂ : ℕ} {t₃ : List ℕ} {at₃ : ℕ} where
  pub decimals_written : (unit n : ℕ) → Written t at (spelled (n / unit)) t₁ at₁ → Written t₁ at₁ (point ∷ []) t₂ at₂
      → Written t₂ at₂ (three_digits (n % unit * 1_000 / unit)) t₃ at₃ → length t ≤ last_place → Written t at (decimals_of unit n) t₃ at₃
  unfolding decimals_of
  decimals_written unit n whole sign decimals h = simp append_assoc at (written_then (written_then whole sign h) decimals h)

  pub quarter-written : (H k : ℕ) {e : ℕ} → Written t at (clock_of (quarter_seconds * k)) t₁ at₁ → Written t₁ at₁ (bytes " to ") t₂ at₂
      → e ≡ quarter_end H k → Written t₂ at₂ (clock_of e) t₃ at₃ → length t ≤ last_place → Written t at (quarter_of H k) t₃ at₃
  unfolding quarter_of
  quarter-written H k start to is end h =
      simp append_assoc (simp append_assoc at (written_then (written_then start to h) (subst (λ e. Written t₂ at₂ (clock_of e) t₃ at₃) is end) h))

  pub one_written : (kind : ℕ) {n : ℕ} → Written t at (spelled n) t₁ at₁ → Written t₁ at₁ (bytes " ") t₂ at₂ → Written t₂ at₂ (get_or test_names kind []) t₃ at₃
      → n ≡ 1 → length t ≤ last_place → Written t at (count_text kind n) t₃ at₃
  unfolding count_text
  one_written kind {n} count space name one h =
      simp (eq-eqb n 1 one, append_assoc, append-nil) (simp append_assoc at (written_then (written_then count space h) name h))

  module _ {t₄ : List ℕ} {at₄ : ℕ} where
    pub many_written : (kind : ℕ) {n : ℕ} → Written t at (spelled n) t₁ at₁ → Written t₁ at₁ (bytes " ") t₂ at₂ → Written t₂ at₂ (get_or test_names kind []) t₃ at₃
        → (n ≡ 1 → ⊥) → Written t₃ at₃ (bytes "s") t₄ at₄ → length t ≤ last_place → Written t at (count_text kind n) t₄ at₄
    unfolding count_text
    many_written kind {n} count space name many end h =
        simp (ne_eqb n 1 many, append_assoc) (simp append_assoc at (written_then (written_then (written_then count space h) name h) end h))

    pub peak-written : (H : ℕ) (p : Peak) {t₅ : List ℕ} {at₅ : ℕ} → Written t at (spelled p.kj) t₁ at₁ → Written t₁ at₁ (bytes " kJ, ") t₂ at₂
        → Written t₂ at₂ (mw_of p.kj) t₃ at₃ → Written t₃ at₃ (bytes " MW, ") t₄ at₄ → Written t₄ at₄ (quarter_of H p.quarter) t₅ at₅
        → length t ≤ last_place → Written t at (peak_text H p) t₅ at₅
    unfolding peak_text
    peak-written H p kj unit power sign time h =
        simp append_assoc
        (simp append_assoc at (written_then (written_then (written_then (written_then kj unit h) power h) sign h) time h))

    pub time_written : (s : ℕ) → Written t at (spelled s) t₁ at₁ → Written t₁ at₁ (bytes " s (") t₂ at₂ → Written t₂ at₂ (clock_of s) t₃ at₃
        → Written t₃ at₃ (bytes ")") t₄ at₄ → length t ≤ last_place → Written t at (time_of s) t₄ at₄
    unfolding time_of
    time_written s seconds unit clock end h = simp append_assoc (simp append_assoc at (written_then (written_then (written_then seconds unit h) clock h) end h))

    pub clock-written : {t₅ : List ℕ} {at₅ : ℕ} (s : ℕ) → Written t at (two_digits (s / hour)) t₁ at₁ → Written t₁ at₁ (colon ∷ []) t₂ at₂
        → Written t₂ at₂ (two_digits (s / minute % minute)) t₃ at₃ → Written t₃ at₃ (colon ∷ []) t₄ at₄ → Written t₄ at₄ (two_digits (s % minute)) t₅ at₅
        → length t ≤ last_place → Written t at (clock_of s) t₅ at₅
    unfolding clock_of
    clock-written s hours sign minutes second seconds h =
        simp append_assoc
        (simp append_assoc at (written_then (written_then (written_then (written_then hours sign h) minutes h) second h) seconds h))

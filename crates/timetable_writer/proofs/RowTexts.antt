-- Configurations, lists and rows out of their parts: the parts written one after the other are the whole. Assumes nothing.
use Prim.Native.Nat.{ℕ, zero, suc, ◌+◌, ◌≤◌}
use mathlib.Core.Path.{◌≡◌, refl, ap, sym, ◌∙◌}
use mathlib.Core.List.{List, [], ◌∷◌, ◌++◌, map, append_assoc}
use lib.ListN.{length}
use Rattle.rules.specs.Bytes.{spelled, joined, underscore, comma, space, line_feed}
use Rattle.rules.specs.Energy.{tabulate}
use Rattle.rules.specs.Merge.{spelled_configuration, spelled_row}
use Rattle.rules.specs.declared.sizes.Configuration.{Configuration}
use Rattle.rules.specs.declared.sizes.Leg.{Leg}
use Rattle.tables_views.specs.View.{configuration_at}
use Rattle.text_write.specs.Written.{last_place, Written}
use Rattle.timetable_writer.specs.Rows.{spelled_ids, spelled_entry, spelled_list, list_from, row_of}
use Rattle.text_write.proofs.Writing.{written_then}

-- ---- a configuration, and the ids of a row

pub configuration-written :
    (c : Configuration) {t : List ℕ} {at : ℕ} {t₁ : List ℕ} {at₁ : ℕ} {t₂ : List ℕ} {at₂ : ℕ} {t₃ : List ℕ} {at₃ : ℕ}
    → Written t at (spelled c.departure ++ underscore ∷ []) t₁ at₁ → Written t₁ at₁ (spelled c.travel ++ underscore ∷ []) t₂ at₂
    → Written t₂ at₂ (spelled c.profile) t₃ at₃ → length t ≤ last_place → Written t at (spelled_configuration c) t₃ at₃
configuration-written c departure travel profile h =
    simp append_assoc at (written_then (written_then departure travel h) profile h)

pub ids-written :
    (l : Leg) {t : List ℕ} {at : ℕ} {t₁ : List ℕ} {at₁ : ℕ} {t₂ : List ℕ} {at₂ : ℕ} {t₃ : List ℕ} {at₃ : ℕ} {t₄ : List ℕ} {at₄ : ℕ} {t₅ : List ℕ} {at₅ : ℕ}
    → Written t at (spelled l.id ++ comma ∷ []) t₁ at₁ → Written t₁ at₁ (spelled l.train ++ comma ∷ []) t₂ at₂
    → Written t₂ at₂ (spelled l.track ++ comma ∷ []) t₃ at₃ → Written t₃ at₃ (spelled l.start ++ comma ∷ []) t₄ at₄
    → Written t₄ at₄ (spelled l.end ++ comma ∷ []) t₅ at₅ → length t ≤ last_place → Written t at (spelled_ids l) t₅ at₅
ids-written l id train track start end h =
    simp append_assoc
    (simp append_assoc at (written_then (written_then (written_then (written_then id train h) track h) start h) end h))

-- ---- a list

-- one piece more: the separator, and the piece
joined-more : {A : Type 0} (sep : ℕ) (g : A → List ℕ) (j : ℕ) (f : ℕ → A)
    → joined sep (map g (tabulate (suc (suc j)) f)) ≡ joined sep (map g (tabulate (suc j) f)) ++ sep ∷ g (f (suc j))
joined-more sep g zero f = refl
joined-more sep g (suc j) f =
    ap (λ (r : List ℕ). g (f 0) ++ sep ∷ r) (joined-more sep g j (λ i. f (suc i)))
    ∙ sym (append_assoc (g (f 0)) (sep ∷ joined sep (map g (tabulate (suc j) (λ i. f (suc i))))) (sep ∷ g (f (suc (suc j)))))

-- entry j after those before it
pub list-more : (configurations : List ℕ) (first j : ℕ) {c : Configuration} → c ≡ configuration_at configurations (first + j)
    → spelled_list (list_from configurations first (suc j)) ≡ spelled_list (list_from configurations first j) ++ spelled_entry j c
list-more configurations first zero e = rw e
list-more configurations first (suc j) e =
    rw e (joined-more space spelled_configuration j (λ i. configuration_at configurations (first + i)))

pub first-written : (c : Configuration) (j : ℕ) {t : List ℕ} {at : ℕ} {t₁ : List ℕ} {at₁ : ℕ} → j ≡ 0 → Written t at (spelled_configuration c) t₁ at₁
    → Written t at (spelled_entry j c) t₁ at₁
first-written c j e entry = rw e entry

pub further_written :
    (c : Configuration) (j : ℕ) {t : List ℕ} {at : ℕ} {t₁ : List ℕ} {at₁ : ℕ} {t₂ : List ℕ} {at₂ : ℕ} → (j ≡ 0 → ⊥)
    → Written t at (space ∷ []) t₁ at₁ → Written t₁ at₁ (spelled_configuration c) t₂ at₂ → length t ≤ last_place → Written t at (spelled_entry j c) t₂ at₂
further_written c zero n sign entry h = absurd (n refl)
further_written c (suc j) n sign entry h = written_then sign entry h

-- ---- a row

pub row_written :
    (configurations : List ℕ) (l : Leg) (c : Configuration) {t : List ℕ} {at : ℕ} {t₁ : List ℕ} {at₁ : ℕ} {t₂ : List ℕ} {at₂ : ℕ} {t₃ : List ℕ} {at₃ : ℕ}
    {t₄ : List ℕ} {at₄ : ℕ} {t₅ : List ℕ} {at₅ : ℕ}
    → Written t at (spelled_ids l) t₁ at₁ → Written t₁ at₁ (spelled_configuration c) t₂ at₂ → Written t₂ at₂ (comma ∷ []) t₃ at₃
    → Written t₃ at₃ (spelled_list (list_from configurations l.first l.count)) t₄ at₄ → Written t₄ at₄ (line_feed ∷ []) t₅ at₅
    → length t ≤ last_place → Written t at (spelled_row (row_of configurations l c)) t₅ at₅
row_written configurations l c ids nominal sign list end h =
    simp append_assoc
    (simp append_assoc at (written_then (written_then (written_then (written_then ids nominal h) sign h) list h) end h))

-- Names of lists, keys and connection types: from the number to the name and back. Assumes nothing.
use Prim.Native.Nat.{ℕ, ◌+◌}
use mathlib.Core.Path.{◌≡◌, refl, sym, ap, ap₂, subst, ◌∙◌}
use mathlib.Core.Bool.{Bool, true, false, not, cond, ◌||◌, true≢false}
use mathlib.Core.List.{List, [], ◌∷◌}
use lib.Dec.{eqb}
use borrow.Author.Tests.{eqb-true, ne_eqb}
use Rattle.rules.specs.Lists.{same_list}
use Rattle.rules.specs.Kinds.{unknown, by_arrival, by_departure, list_names, key_names, type_names, number_from, bit_from, list_named, key_named, type_named, min_dwell, min_turnaround, renamed, is_renamed, key_in}
use Rattle.rules.specs.Verdict.{All}
use Rattle.rules.proofs.Truth.{by_case}
use Rattle.rules_theorems.proofs.DocumentWords.{passed, and_first, and_second, or_else}
use Rattle.rules_theorems.proofs.Keys.{types, key_known}
use Rattle.rules_json.specs.Value.{type, in_range, six_lists, Among}
use Rattle.rules_json.specs.Written.{list_name, key_name, key_name_in, type_name, all_keys}

-- ---- from a number to its name and back

pub list_named_lem : (list : ℕ) → Among six_lists list → list_named (list_name list) ≡ list
unfolding list_named
list_named_lem list known = eqb-true _ list (passed (λ l. eqb (list_named (list_name l)) l) six_lists list refl known)

pub list-is_known : (list : ℕ) → Among six_lists list → not (eqb list unknown) ≡ true
list-is_known list known = passed (λ l. not (eqb l unknown)) six_lists list refl known

pub key_named_lem : (key : ℕ) → Among all_keys key → key_named (key_name key) ≡ key
unfolding key_named
key_named_lem key known = eqb-true _ key (passed (λ k. eqb (key_named (key_name k)) k) all_keys key refl known)

pub type_named_lem : (t : ℕ) → Among types t → type_named (type_name t) ≡ t
unfolding type_named
type_named_lem t known = eqb-true _ t (passed (λ k. eqb (type_named (type_name k)) k) types t refl known)

pub type_is_known : (t : ℕ) → Among types t → not (eqb t unknown) ≡ true
type_is_known t known = passed (λ k. not (eqb k unknown)) types t refl known

-- a type that is in range is one of the two
pub type_in : (legs : List ℕ) (t : ℕ) → in_range legs (type t) ≡ true → Among types t
type_in legs t ok = go (eqb t by_arrival) (eqb t by_departure) ok
  where
    go : (a b : Bool) → a || b ≡ true → a || (b || false) ≡ true
    go true b h = refl
    go false true h = refl
    go false false h = h

pub in_range_lem : (legs : List ℕ) (t : ℕ) → Among types t → in_range legs (type t) ≡ true
in_range_lem legs t known = go (eqb t by_arrival) (eqb t by_departure) known
  where
    go : (a b : Bool) → a || (b || false) ≡ true → a || b ≡ true
    go true b h = refl
    go false true h = refl
    go false false h = h

-- ---- from a name that is known to its number and back

same-list : (s t : List ℕ) → same_list s t ≡ true → s ≡ t
same-list [] [] h = refl
same-list [] (b ∷ t) h = absurd (true≢false (sym h))
same-list (a ∷ s) [] h = absurd (true≢false (sym h))
same-list (a ∷ s) (b ∷ t) h =
    ap₂ (λ (x : ℕ) (l : List ℕ). x ∷ l) (eqb-true a b (and_first (eqb a b) (same_list s t) h)) (same-list s t (and_second (eqb a b) (same_list s t) h))

-- what holds of all names holds of a word that is one of them
module _ (P : List ℕ → Type 0) where
  numbered : (n : ℕ) (names : List (List ℕ)) → All P names → (word : List ℕ) → (number_from n names word ≡ unknown → ⊥) → P word
  numbered n [] h word = λ known. absurd (known refl)
  numbered n (name ∷ names) h word =
      by_case (λ v. (v ≡ unknown → ⊥) → P word) (same_list name word) n (number_from (n + 1) names word)
      (λ e known. subst P (same-list name word e) h.0) (λ e known. numbered (n + 1) names h.1 word known)

  bitted : (b : ℕ) (names : List (List ℕ)) → All P names → (word : List ℕ) → (bit_from b names word ≡ unknown → ⊥) → P word
  bitted b [] h word = λ known. absurd (known refl)
  bitted b (name ∷ names) h word =
      by_case (λ v. (v ≡ unknown → ⊥) → P word) (same_list name word) b (bit_from (b + b) names word)
      (λ e known. subst P (same-list name word e) h.0) (λ e known. bitted (b + b) names h.1 word known)

pub list_back : (word : List ℕ) → (list_named word ≡ unknown → ⊥) → list_name (list_named word) ≡ word
unfolding list_named
list_back word known = numbered (λ w. list_name (list_named w) ≡ w) 1 list_names (refl, (refl, (refl, (refl, (refl, (refl, tt)))))) word known

pub key_back : (word : List ℕ) → (key_named word ≡ unknown → ⊥) → key_name (key_named word) ≡ word
unfolding key_named
key_back word known =
    bitted (λ w. key_name (key_named w) ≡ w) 1 key_names (refl, (refl, (refl, (refl, (refl, (refl, (refl, (refl, (refl, (refl, tt)))))))))) word known

pub type_back : (word : List ℕ) → (type_named word ≡ unknown → ⊥) → type_name (type_named word) ≡ word
unfolding type_named
type_back word known = numbered (λ w. type_name (type_named w) ≡ w) 1 type_names (refl, (refl, tt)) word known

-- a key that a list carries is a key
pub key_in_lem : (word : List ℕ) → (key_named word ≡ unknown → ⊥) → Among all_keys (key_named word)
key_in_lem word known = or_else (eqb (key_named word) unknown) _ (key_known word) (ne_eqb (key_named word) unknown known)

-- ---- by an edition

-- the two names change places, and back
swap_back : (b : Bool) (key : ℕ) → renamed b (renamed b key) ≡ key
swap_back false key = refl
swap_back true key = go (eqb key min_dwell) refl (eqb key min_turnaround) refl
  where
    go : (a : Bool) → eqb key min_dwell ≡ a → (c : Bool) → eqb key min_turnaround ≡ c
        → renamed true (cond a min_turnaround (cond c min_dwell key)) ≡ key
    go true e c f = sym (eqb-true key min_dwell e)
    go false e true f = sym (eqb-true key min_turnaround f)
    go false e false f = ap (λ (a : Bool). cond a min_turnaround (cond (eqb key min_turnaround) min_dwell key)) e ∙ ap (λ (c : Bool). cond c min_dwell key) f

renamed_in : (b : Bool) (key : ℕ) → Among all_keys key → Among all_keys (renamed b key)
renamed_in false key known = known
renamed_in true key known =
    by_case (Among all_keys) (eqb key min_dwell) min_turnaround (cond (eqb key min_turnaround) min_dwell key)
    (λ e. refl)
    (λ e. by_case (Among all_keys) (eqb key min_turnaround) min_dwell key (λ f. refl) (λ f. known))

pub key_in_named : (E list key : ℕ) → Among all_keys key → key_in E list (key_name_in E list key) ≡ key
unfolding key_in
key_in_named E list key known =
    ap (renamed (is_renamed E list)) (key_named_lem (renamed (is_renamed E list) key) (renamed_in (is_renamed E list) key known)) ∙ swap_back (is_renamed E list) key

unknown_stays : (b : Bool) → renamed b unknown ≡ unknown
unknown_stays true = refl
unknown_stays false = refl

known_word : (E list : ℕ) (word : List ℕ) → (key_in E list word ≡ unknown → ⊥) → key_named word ≡ unknown → ⊥
unfolding key_in
known_word E list word known e = known (ap (renamed (is_renamed E list)) e ∙ unknown_stays (is_renamed E list))

pub key_in_back : (E list : ℕ) (word : List ℕ) → (key_in E list word ≡ unknown → ⊥) → key_name_in E list (key_in E list word) ≡ word
unfolding key_in
key_in_back E list word known = ap key_name (swap_back (is_renamed E list) (key_named word)) ∙ key_back word (known_word E list word known)

pub key_in_in : (E list : ℕ) (word : List ℕ) → (key_in E list word ≡ unknown → ⊥) → Among all_keys (key_in E list word)
unfolding key_in
key_in_in E list word known = renamed_in (is_renamed E list) (key_named word) (key_in_lem word (known_word E list word known))

pub name_clean : (P : List ℕ → Bool) → ((key : ℕ) → Among all_keys key → P (key_name key) ≡ true) → (E list key : ℕ) → Among all_keys key → P (key_name_in E list key) ≡ true
name_clean P h E list key known = h (renamed (is_renamed E list) key) (renamed_in (is_renamed E list) key known)

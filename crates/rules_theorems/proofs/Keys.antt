-- The names of constraints.json: what a name's number can be, and which keys a record of a list carries. Assumes nothing.
use Prim.Native.Nat.{ℕ, ◌+◌, ◌*◌, ◌/◌, ◌%◌, min, max}
use mathlib.Core.Path.{◌≡◌, refl, sym, ap, ap₂, ◌∙◌}
use mathlib.Core.Bool.{Bool, true, false, not, cond, ◌&&◌, ◌||◌, true≢false}
use mathlib.Core.List.{List, [], ◌∷◌}
use native.Mathlib.Omega.{arith}
use lib.Dec.{eqb}
use lib.Bits.{bit_and, bit_or, and_step, or_step, or_zero_r, and_self}
use lib.Arith.{bin_ind}
use borrow.Author.Tests.{eqb-true, eq-eqb}
use Rattle.rules.specs.Lists.{any, every, same_list}
use Rattle.rules.specs.Kinds.{unknown, headway, single_track, dwell, turnaround, connection, by_arrival, by_departure, subnets, first_leg, second_leg, min_dwell, min_turnaround, max_connection, connection_type, subnet_id, track_ids, list_names, key_names, type_names, number_from, bit_from, list_named, key_named, type_named, renamed, is_renamed, key_in}
use Rattle.rules.specs.Constraints.{keys_of, is_low}
use Rattle.rules.proofs.Truth.{by_case}
use Rattle.rules_theorems.proofs.DocumentWords.{or_else, passed, exclude}

-- ---- a name's number is one of a few

-- the numbers from n on, and the bits from b on, one for each name
abbrev numbers_from : ℕ → List (List ℕ) → List ℕ
numbers_from n [] = []
numbers_from n (name ∷ names) = n ∷ numbers_from (n + 1) names

abbrev bits_from : ℕ → List (List ℕ) → List ℕ
bits_from b [] = []
bits_from b (name ∷ names) = b ∷ bits_from (b + b) names

abbrev pub among : List ℕ → ℕ → Bool
among l n = any (eqb n) l

-- one number more
among_here : (u x : ℕ) (l : List ℕ) → among (u ∷ x ∷ l) x ≡ true
among_here u x l = go (eqb x u)
  where
    go : (t : Bool) → t || (eqb x x || among l x) ≡ true
    go true = refl
    go false = ap (λ (t : Bool). t || among l x) (eq-eqb x x refl)

among_there : (u x n : ℕ) (l : List ℕ) → among (u ∷ l) n ≡ true → among (u ∷ x ∷ l) n ≡ true
among_there u x n l = go (eqb n u) (eqb n x)
  where
    go : (a b : Bool) → a || among l n ≡ true → a || (b || among l n) ≡ true
    go true b h = refl
    go false true h = refl
    go false false h = h

number_among : (n : ℕ) (names : List (List ℕ)) (word : List ℕ) → among (unknown ∷ numbers_from n names) (number_from n names word) ≡ true
number_among n [] word = refl
number_among n (name ∷ names) word =
    by_case (λ v. among (unknown ∷ n ∷ numbers_from (n + 1) names) v ≡ true) (same_list name word) n (number_from (n + 1) names word)
    (λ e. among_here unknown n (numbers_from (n + 1) names))
    (λ e. among_there unknown n (number_from (n + 1) names word) (numbers_from (n + 1) names) (number_among (n + 1) names word))

bit_among : (b : ℕ) (names : List (List ℕ)) (word : List ℕ) → among (unknown ∷ bits_from b names) (bit_from b names word) ≡ true
bit_among b [] word = refl
bit_among b (name ∷ names) word =
    by_case (λ v. among (unknown ∷ b ∷ bits_from (b + b) names) v ≡ true) (same_list name word) b (bit_from (b + b) names word)
    (λ e. among_here unknown b (bits_from (b + b) names))
    (λ e. among_there unknown b (bit_from (b + b) names word) (bits_from (b + b) names) (bit_among (b + b) names word))

-- the six lists; the keys, and unknown; the connection types
abbrev pub lists : List ℕ
lists = headway ∷ single_track ∷ dwell ∷ turnaround ∷ connection ∷ subnets ∷ []

abbrev pub keys : List ℕ
keys = unknown ∷ bits_from first_leg key_names

abbrev pub types : List ℕ
types = by_arrival ∷ by_departure ∷ []

pub list-known : (word : List ℕ) → eqb (list_named word) unknown ≡ false → among lists (list_named word) ≡ true
unfolding list_named
list-known word named = or_else (eqb (list_named word) unknown) _ (number_among 1 list_names word) named

pub key_known : (word : List ℕ) → among keys (key_named word) ≡ true
unfolding key_named
key_known word = bit_among 1 key_names word

-- and what it is called by in an edition
pub key_in-known : (edition list : ℕ) (word : List ℕ) → among keys (key_in edition list word) ≡ true
unfolding key_in
key_in-known edition list word = go (is_renamed edition list)
  where
    go : (b : Bool) → among keys (renamed b (key_named word)) ≡ true
    go true =
        by_case (λ key. among keys key ≡ true) (eqb (key_named word) min_dwell) min_turnaround (cond (eqb (key_named word) min_turnaround) min_dwell (key_named word))
        (λ e. refl)
        (λ e. by_case (λ key. among keys key ≡ true) (eqb (key_named word) min_turnaround) min_dwell (key_named word) (λ f. refl) (λ f. key_known word))
    go false = key_known word

pub type_known : (word : List ℕ) → eqb (type_named word) unknown ≡ false → among types (type_named word) ≡ true
unfolding type_named
type_known word named = or_else (eqb (type_named word) unknown) _ (number_among 1 type_names word) named

-- ---- sets of keys

-- a key is in a set
abbrev pub has : (set key : ℕ) → Bool
has set key = not (eqb (bit_and set key) 0)

and_half : (a b : ℕ) → bit_and a b / 2 ≡ bit_and (a / 2) (b / 2)
and_half a b = omega (arith, and_step a b)

and_odd : (a b : ℕ) → bit_and a b % 2 ≡ min (a % 2) (b % 2)
and_odd a b = omega (arith, and_step a b)

or_half : (a b : ℕ) → bit_or a b / 2 ≡ bit_or (a / 2) (b / 2)
or_half a b = omega (arith, or_step a b)

or_odd : (a b : ℕ) → bit_or a b % 2 ≡ max (a % 2) (b % 2)
or_odd a b = omega (arith, or_step a b)

min-max : (x y z : ℕ) → min (max x y) z ≡ max (min x z) (min y z)
min-max x y z = omega arith

and_or : (a b c : ℕ) → bit_and (bit_or a b) c ≡ bit_or (bit_and a c) (bit_and b c)
and_or a b c =
    bin_ind (λ (n : ℕ). (b c : ℕ) → bit_and (bit_or n b) c ≡ bit_or (bit_and n c) (bit_and b c)) (λ b c. refl)
    (λ n ih b c.
    and_step (bit_or n b) c
    ∙ ap₂ (λ (x y : ℕ). bit_and x (c / 2) * 2 + min y (c % 2)) (or_half n b) (or_odd n b)
    ∙ ap₂ (λ (x y : ℕ). x * 2 + y) (ih (b / 2) (c / 2)) (min-max (n % 2) (b % 2) (c % 2))
    ∙ sym (ap₂ (λ (x y : ℕ). bit_or x y * 2 + max (min (n % 2) (c % 2)) (min (b % 2) (c % 2))) (and_half n c) (and_half b c))
    ∙ sym (ap₂ (λ (x y : ℕ). bit_or (bit_and n c / 2) (bit_and b c / 2) * 2 + max x y) (and_odd n c) (and_odd b c))
    ∙ sym (or_step (bit_and n c) (bit_and b c)))
    a b c

-- one key more leaves the others as they are
pub has_other : (set key other : ℕ) → bit_and key other ≡ 0 → has (bit_or set key) other ≡ has set other
has_other set key other e =
    ap (λ (x : ℕ). not (eqb x 0)) (and_or set key other ∙ ap (bit_or (bit_and set other)) e ∙ or_zero_r (bit_and set other))

-- and is in the set itself
pub has_now : (set key : ℕ) → bit_and set key ≡ 0 → bit_and (bit_or set key) key ≡ key
has_now set key fresh = and_or set key key ∙ ap₂ bit_or fresh (and_self key)

-- two keys have no bit in common
pub apart : (other : ℕ) → every (λ k. eqb k other || eqb (bit_and k other) 0) keys ≡ true
    → (key : ℕ) → among keys key ≡ true → eqb key other ≡ false → bit_and key other ≡ 0
apart other table key known differ =
    eqb-true (bit_and key other) 0 (or_else (eqb key other) _ (passed (λ k. eqb k other || eqb (bit_and k other) 0) keys key table known) differ)

-- ---- which keys a record of a list carries, by the table of the kinds

-- a key that one list alone carries
only_in : (key owner : ℕ) → every (λ l. eqb l owner || not (has (keys_of l) key)) lists ≡ true
    → (list : ℕ) → among lists list ≡ true → has (keys_of list) key ≡ true → list ≡ owner
only_in key owner table list known carries =
    go (eqb list owner) refl (passed (λ l. eqb l owner || not (has (keys_of l) key)) lists list table known)
  where
    go : (t : Bool) → eqb list owner ≡ t → t || not (has (keys_of list) key) ≡ true → list ≡ owner
    go true e h = eqb-true list owner e
    go false e h = absurd (true≢false (sym h ∙ ap not carries))

pub most_of_connection : (list : ℕ) → among lists list ≡ true → has (keys_of list) max_connection ≡ true → list ≡ connection
unfolding keys_of
most_of_connection = only_in max_connection connection refl

pub type_of_connection : (list : ℕ) → among lists list ≡ true → has (keys_of list) connection_type ≡ true → list ≡ connection
unfolding keys_of
type_of_connection = only_in connection_type connection refl

pub id_of_subnet : (list : ℕ) → among lists list ≡ true → has (keys_of list) subnet_id ≡ true → list ≡ subnets
unfolding keys_of
id_of_subnet = only_in subnet_id subnets refl

pub tracks_of-subnet : (list : ℕ) → among lists list ≡ true → has (keys_of list) track_ids ≡ true → list ≡ subnets
unfolding keys_of
tracks_of-subnet = only_in track_ids subnets refl

-- a key that every kind carries
in_kinds : (key : ℕ) → every (λ l. eqb l subnets || has (keys_of l) key) lists ≡ true
    → (list : ℕ) → among lists list ≡ true → eqb list subnets ≡ false → has (keys_of list) key ≡ true
in_kinds key table list known kind =
    or_else (eqb list subnets) _ (passed (λ l. eqb l subnets || has (keys_of l) key) lists list table known) kind

pub first_of_kinds : (list : ℕ) → among lists list ≡ true → eqb list subnets ≡ false → has (keys_of list) first_leg ≡ true
unfolding keys_of
first_of_kinds = in_kinds first_leg refl

pub second_of_kinds : (list : ℕ) → among lists list ≡ true → eqb list subnets ≡ false → has (keys_of list) second_leg ≡ true
unfolding keys_of
second_of_kinds = in_kinds second_leg refl

pub connection_has_type : has (keys_of connection) connection_type ≡ true
unfolding keys_of
connection_has_type = refl

pub subnet_has_id : has (keys_of subnets) subnet_id ≡ true
unfolding keys_of
subnet_has_id = refl

-- no least seconds at kind 2
pub single_has_no_low : (key : ℕ) → among keys key ≡ true → has (keys_of single_track) key ≡ true → is_low key ≡ true → ⊥
unfolding keys_of
single_has_no_low key known carries low =
    exclude (has (keys_of single_track)) is_low keys refl key known carries low

-- a leg's key is of no other use
pub no_leg_lem : (other-use : ℕ → Bool) → every (λ k. not ((eqb k first_leg || eqb k second_leg) && other-use k)) keys ≡ true
    → (key : ℕ) → among keys key ≡ true → eqb key first_leg || eqb key second_leg ≡ true → other-use key ≡ true → ⊥
no_leg_lem other-use table key known leg used = exclude (λ k. eqb k first_leg || eqb k second_leg) other-use keys table key known leg used

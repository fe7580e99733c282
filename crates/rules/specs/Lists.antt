-- The words about lists that the definitions share. None of them knows what a timetable is.
use Rattle.std.specs.Prelude.{ℕ, suc, ◌+◌, Bool, true, false, cond, ◌&&◌, ◌||◌, List, [], ◌∷◌, ◌++◌, eqb, length, drop, Option, Some, None}

infixl 20 ◌>>=◌
-- what may be missing, and then what follows from it
abbrev pub ◌>>=◌ : {A B : Type 0} → Option A → (A → Option B) → Option B
None >>= k = None
Some a >>= k = k a

-- every element gives something: all of it in order
abbrev pub each : {A B : Type 0} → (A → Option B) → List A → Option (List B)
each f [] = Some []
each f (x ∷ xs) = f x >>= (λ y. each f xs >>= (λ ys. Some (y ∷ ys)))

abbrev pub every : {A : Type 0} → (A → Bool) → List A → Bool
every p [] = true
every p (x ∷ xs) = p x && every p xs

abbrev pub any : {A : Type 0} → (A → Bool) → List A → Bool
any p [] = false
any p (x ∷ xs) = p x || any p xs

-- those that pass a test, in order
abbrev pub only : {A : Type 0} → (A → Bool) → List A → List A
only p [] = []
only p (x ∷ xs) = cond (p x) (x ∷ only p xs) (only p xs)

-- the longest beginning of which every element passes a test
abbrev pub lead : {A : Type 0} → (A → Bool) → List A → List A
lead p [] = []
lead p (x ∷ xs) = cond (p x) (x ∷ lead p xs) []

-- the place of the first that passes a test, where the list starts at place n
abbrev pub place_from : {A : Type 0} → ℕ → (A → Bool) → List A → Option ℕ
place_from n p [] = None
place_from n p (x ∷ xs) = cond (p x) (Some n) (place_from (suc n) p xs)

abbrev pub first_place : {A : Type 0} → (A → Bool) → List A → Option ℕ
first_place = place_from 0

-- the first that passes a test
abbrev pub first : {A : Type 0} → (A → Bool) → List A → Option A
first p [] = None
first p (x ∷ xs) = cond (p x) (Some x) (first p xs)

abbrev pub sum_of : {A : Type 0} → (A → ℕ) → List A → ℕ
sum_of f [] = 0
sum_of f (x ∷ xs) = f x + sum_of f xs

-- two lists of numbers are the same
abbrev pub same_list : List ℕ → List ℕ → Bool
same_list [] [] = true
same_list [] (y ∷ ys) = false
same_list (x ∷ xs) [] = false
same_list (x ∷ xs) (y ∷ ys) = eqb x y && same_list xs ys

-- so are two lists of such lists
abbrev pub same_lists : List (List ℕ) → List (List ℕ) → Bool
same_lists [] [] = true
same_lists [] (y ∷ ys) = false
same_lists (x ∷ xs) [] = false
same_lists (x ∷ xs) (y ∷ ys) = same_list x y && same_lists xs ys

abbrev pub starts_with : List ℕ → List ℕ → Bool
starts_with [] s = true
starts_with (n ∷ ns) [] = false
starts_with (n ∷ ns) (b ∷ s) = eqb b n && starts_with ns s

-- records as the numbers of a table, one after the other
abbrev pub flat : {A B : Type 0} → (A → List B) → List A → List B
flat f [] = []
flat f (x ∷ xs) = f x ++ flat f xs

-- w written at the front of t: the rest of t keeps its contents
unfoldable pub over : {A : Type 0} → List A → List A → List A
over w t = w ++ drop (length w) t

-- The slots of a row: eight numbers before the list, then the three of an entry.
use Rattle.std.specs.Prelude.{ℕ, List, [], ◌∷◌, ◌++◌, get_or}
use Rattle.rules.specs.Bytes.{comma, space, underscore}
use Rattle.rules.specs.Timetable.{configuration}
use Rattle.rules.specs.declared.sizes.Configuration.{Configuration}

-- the nominal's
abbrev pub nominal_slot : ℕ
nominal_slot = 5

abbrev pub nominal_travel_slot : ℕ
nominal_travel_slot = 6

abbrev pub nominal_profile_slot : ℕ
nominal_profile_slot = 7

-- an entry's; the last is not kept
abbrev pub entry_slot : ℕ
entry_slot = 8

abbrev pub entry_travel_slot : ℕ
entry_travel_slot = 9

abbrev pub last_slot : ℕ
last_slot = 10

-- what follows each number before the list: five ids, then the nominal's three numbers
abbrev pub separators : List ℕ
separators = comma ∷ comma ∷ comma ∷ comma ∷ comma ∷ underscore ∷ underscore ∷ comma ∷ []

abbrev pub separator_of : (slot : ℕ) → ℕ
separator_of slot = get_or (separators ++ underscore ∷ underscore ∷ []) slot space

abbrev pub nominal_of : List ℕ → Configuration
nominal_of numbers = configuration (get_or numbers nominal_slot 0) (get_or numbers nominal_travel_slot 0) (get_or numbers nominal_profile_slot 0)

-- the entry that its third number p closes
abbrev pub entry_of : List ℕ → (p : ℕ) → Configuration
entry_of numbers p = configuration (get_or numbers entry_slot 0) (get_or numbers entry_travel_slot 0) p

abbrev pub held_ids : List ℕ → List ℕ
held_ids numbers = get_or numbers 0 0 ∷ get_or numbers 1 0 ∷ get_or numbers 2 0 ∷ get_or numbers 3 0 ∷ get_or numbers 4 0 ∷ []

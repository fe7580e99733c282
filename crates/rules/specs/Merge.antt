-- How two accepted solutions are merged (document 01, "Merged texts"): at each leg the earlier or the later choice is taken, and the draft is written with these
-- choices as a timetable.
use Rattle.std.specs.Prelude.{ℕ, suc, ◌≡◌, cond, List, [], ◌∷◌, ◌++◌, map, leb, eqb, Option, Some, None}
use Rattle.rules.specs.Lists.{flat}
use Rattle.rules.specs.Bytes.{spelled, joined, line_feed, comma, space, underscore}
use Rattle.rules.specs.Timetable.{Row, row, timetable_header}
use Rattle.rules.specs.declared.sizes.Configuration.{Configuration}
use Rattle.rules.specs.declared.outcomes.Direction.{Direction}
use Rattle.rules.specs.declared.outcomes.Direction.TheVariants.{Earlier, Later}

-- ---- the choices: at equal departures the earlier takes the first file's, the later the second's

abbrev pub sooner : Configuration → Configuration → Configuration
sooner a b = cond (leb a.departure b.departure) a b

abbrev pub tardier : Configuration → Configuration → Configuration
tardier a b = cond (leb a.departure b.departure) b a

abbrev pub zipped : {A B C : Type 0} → (A → B → C) → List A → List B → List C
zipped f [] bs = []
zipped f (a ∷ r) [] = []
zipped f (a ∷ r) (b ∷ bs) = f a b ∷ zipped f r bs

abbrev pub earlier : List Configuration → List Configuration → List Configuration
earlier = zipped sooner

abbrev pub later : List Configuration → List Configuration → List Configuration
later = zipped tardier

-- the choice of a direction at a leg; and its merge, which is `earlier` or `later`
abbrev pub chooser : Direction → Configuration → Configuration → Configuration
chooser Earlier = sooner
chooser Later = tardier

abbrev pub merge_of : Direction → List Configuration → List Configuration → List Configuration
merge_of direction = zipped (chooser direction)

-- equal travel times, leg by leg
abbrev pub SameTravel : List Configuration → List Configuration → Type 0
SameTravel [] [] = Unit {0}
SameTravel [] (b ∷ bs) = ⊥
SameTravel (a ∷ r) [] = ⊥
SameTravel (a ∷ r) (b ∷ bs) = (a.travel ≡ b.travel) × SameTravel r bs

-- 17: the first row, from row n on, whose two choices have unequal travel times
abbrev pub unequal_from : ℕ → List Configuration → List Configuration → Option ℕ
unequal_from n [] bs = None
unequal_from n (a ∷ r) [] = None
unequal_from n (a ∷ r) (b ∷ bs) = cond (eqb a.travel b.travel) (unequal_from (suc n) r bs) (Some n)

-- ---- the text: the header, then the draft's rows with the chosen configuration as nominal and the draft's list

abbrev pub spelled_configuration : Configuration → List ℕ
spelled_configuration c = joined underscore (spelled c.departure ∷ spelled c.travel ∷ spelled c.profile ∷ [])

abbrev pub spelled_row : Row → List ℕ
spelled_row r =
    joined comma
    (spelled r.leg
    ∷ spelled r.train
    ∷ spelled r.track
    ∷ spelled r.start
    ∷ spelled r.end
    ∷ spelled_configuration r.nominal
    ∷ joined space (map spelled_configuration r.list)
    ∷ [])
    ++ line_feed ∷ []

-- a timetable written
unfoldable pub text_of : List Row → List ℕ
text_of rows = timetable_header ++ flat spelled_row rows

abbrev pub choosing : Row → Configuration → Row
choosing r c = row r.leg r.train r.track r.start r.end c r.list

-- the draft's rows with these choices
abbrev pub chosen : List Row → List Configuration → List Row
chosen = zipped choosing

-- Names by number, in document 01's words. What has no name is empty.
use Rattle.std.specs.Prelude.{ℕ, ◌+◌, ◌*◌, List, [], ◌∷◌, get_or, take, drop}
use Rattle.rules.specs.Bytes.{bytes}
use Rattle.rules.specs.Kinds as kinds

-- the kinds: 0 to 5
abbrev pub kind_names : List (List ℕ)
kind_names =
    bytes "choice not offered"
    ∷ bytes "headway time"
    ∷ bytes "single-track headway"
    ∷ bytes "dwell time"
    ∷ bytes "terminal turnaround"
    ∷ bytes "connection"
    ∷ []

-- what is tested of each
abbrev pub test_names : List (List ℕ)
test_names = bytes "choice" ∷ drop 1 kind_names

-- the lists that hold their records; kind 0 has none
abbrev pub list_names : List (List ℕ)
list_names = [] ∷ take 5 kinds.list_names

-- the inequalities, in order: inequality i of kind k stands at 2k + i
abbrev pub formulas : List (List ℕ)
formulas =
    []
    ∷ []
    ∷ []
    ∷ bytes "d1+h <= d2"
    ∷ bytes "d1+t1+h <= d2+t2"
    ∷ bytes "d1+t1 <= d2"
    ∷ []
    ∷ bytes "d1+t1+w <= d2"
    ∷ []
    ∷ bytes "d1+t1+w <= d2"
    ∷ []
    ∷ bytes "x+a <= d2"
    ∷ bytes "d2 <= x+b"
    ∷ []

abbrev pub formula_of : (kind inequality : ℕ) → List ℕ
formula_of kind inequality = get_or formulas (2 * kind + inequality) []

-- "Refusal numbers": what each is given for, from 1 on; 18 to 20 are given for nothing
abbrev pub meanings : List (List ℕ)
meanings =
    []
    ∷ bytes "H out of range"
    ∷ bytes "text too long"
    ∷ bytes "header differs"
    ∷ bytes "CSV row breaks its form"
    ∷ bytes "number out of range, or departure plus travel past H"
    ∷ bytes "a count limit is passed"
    ∷ bytes "id already seen; a track listed twice in any subnets"
    ∷ bytes "nominal not in its list"
    ∷ bytes "JSON form broken, or a value of the wrong type"
    ∷ bytes "unknown list, key or connection type"
    ∷ bytes "list or key repeated, or missing"
    ∷ bytes "leg or profile does not exist"
    ∷ bytes "profile's sample count is not t"
    ∷ bytes "solution's first five columns differ from the draft's, row by row, or the row count does"
    ∷ bytes "a leg's track is in no subnet"
    ∷ bytes "lent room too short"
    ∷ bytes "two choices of a leg have unequal travel times"
    ∷ []
    ∷ []
    ∷ []
    ∷ bytes "an edition that is not known"
    ∷ []

-- the files: 0 where a refusal lies in none
abbrev pub file_names : List (List ℕ)
file_names =
    bytes "no file"
    ∷ bytes "timetable"
    ∷ bytes "profiles"
    ∷ bytes "constraints"
    ∷ bytes "solution"
    ∷ bytes "second solution"
    ∷ []

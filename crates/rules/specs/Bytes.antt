-- How a text writes whole numbers, decimals, pieces and lines, byte by byte (document 01, "The CSV rows"). Reading and writing are both held to this.
use Rattle.std.specs.Prelude.{ℕ, zero, suc, ◌+◌, ◌*◌, ◌-◌, ◌^◌, ◌/◌, ◌%◌, Bool, true, false, not, cond, ◌&&◌, List, [], ◌∷◌, ◌++◌, leb, ltb, eqb, length, ℤ, pos, neg_ℤ, Option, Some, None, option_map}
use Prim.Native.Char.{code}
use Prim.Native.String.{String, [] as end, ◌∷◌ as ◌then◌}
use Rattle.rules.specs.Lists.{◌>>=◌, each, every}

-- the bytes of a text that is written here as it stands in a file
abbrev pub bytes : String → List ℕ
bytes end = []
bytes (◌then◌ c s) = code c ∷ bytes s

-- ---- the signs of a CSV text

abbrev pub line_feed : ℕ
line_feed = code "\n"

-- one CR just before LF is dropped with it
abbrev pub carriage_return : ℕ
carriage_return = code "\r"

abbrev pub quote : ℕ
quote = code "\""

abbrev pub space : ℕ
space = code " "

abbrev pub comma : ℕ
comma = code ","

abbrev pub minus : ℕ
minus = code "-"

abbrev pub point : ℕ
point = code "."

abbrev pub digit_zero : ℕ
digit_zero = code "0"

abbrev pub digit_nine : ℕ
digit_nine = code "9"

abbrev pub underscore : ℕ
underscore = code "_"

-- ---- pieces between separators: one more than there are separators

abbrev pub onto : ℕ → List (List ℕ) → List (List ℕ)
onto b [] = (b ∷ []) ∷ []
onto b (p ∷ ps) = (b ∷ p) ∷ ps

abbrev pub split_on : ℕ → List ℕ → List (List ℕ)
split_on sep [] = [] ∷ []
split_on sep (b ∷ s) = cond (eqb b sep) ([] ∷ split_on sep s) (onto b (split_on sep s))

-- pieces with a separator between each two
abbrev pub joined : ℕ → List (List ℕ) → List ℕ
joined sep [] = []
joined sep (p ∷ []) = p
joined sep (p ∷ q ∷ ps) = p ++ sep ∷ joined sep (q ∷ ps)

-- where piece k starts
abbrev pub start_of : ℕ → List (List ℕ) → ℕ
start_of zero ps = 0
start_of (suc k) [] = 0
start_of (suc k) (p ∷ ps) = length p + 1 + start_of k ps

-- ---- a line, and the contents of its fields

-- a line that an LF ended, less one CR just before the LF
abbrev pub less_return : List ℕ → List ℕ
less_return [] = []
less_return (b ∷ []) = cond (eqb b carriage_return) [] (b ∷ [])
less_return (b ∷ c ∷ s) = b ∷ less_return (c ∷ s)

-- the pieces of a field between quotes: the content alone, or nothing, the content and nothing
abbrev pub between : List (List ℕ) → Option (List ℕ)
between [] = None
between (p ∷ []) = Some p
between (p ∷ q ∷ []) = None
between ([] ∷ q ∷ [] ∷ []) = Some q
between ([] ∷ q ∷ (b ∷ r) ∷ []) = None
between ((b ∷ p) ∷ q ∷ r ∷ []) = None
between (p ∷ q ∷ r ∷ x ∷ more) = None

-- "Any CSV field, header names too, may now stand in a pair of quotes"; a quote in the content breaks the form
abbrev pub content_of : List ℕ → Option (List ℕ)
content_of field = between (split_on quote field)

-- a comma parts two fields wherever it stands
abbrev pub contents_of : List ℕ → Option (List (List ℕ))
contents_of line = each content_of (split_on comma line)

-- ---- whole numbers: one or more digits with no needless leading zero

abbrev pub is_digit : ℕ → Bool
is_digit b = leb digit_zero b && leb b digit_nine

-- the number that n becomes when digits follow it
abbrev pub value_from : ℕ → List ℕ → ℕ
value_from n [] = n
value_from n (b ∷ bs) = value_from (n * 10 + (b - digit_zero)) bs

abbrev pub plain : List ℕ → Bool
plain [] = false
plain (b ∷ []) = true
plain (b ∷ c ∷ bs) = not (eqb b digit_zero)

abbrev pub whole_of : List ℕ → Option ℕ
whole_of s = cond (plain s && every is_digit s) (Some (value_from 0 s)) None

-- ---- decimals, read as thousandths: a sample in MW is read as whole kW

-- one to three digits after the point
abbrev pub thousandths_of : List ℕ → Option ℕ
thousandths_of s =
    cond (leb 1 (length s) && (leb (length s) 3 && every is_digit s)) (Some (value_from 0 s * 10 ^ (3 - length s))) None

abbrev pub decimal_of : List (List ℕ) → Option ℕ
decimal_of [] = None
decimal_of (w ∷ []) = None
decimal_of (w ∷ f ∷ []) = whole_of w >>= (λ n. thousandths_of f >>= (λ k. Some (n * 1_000 + k)))
decimal_of (w ∷ f ∷ g ∷ more) = None

-- an optional minus, a whole number, a point and one to three digits
abbrev pub sample_of : List ℕ → Option ℤ
sample_of [] = None
sample_of (b ∷ s) =
    cond (eqb b minus) (option_map (λ n. neg_ℤ (pos n)) (decimal_of (split_on point s))) (option_map pos (decimal_of (split_on point (b ∷ s))))

-- ---- a number written: its digits, with no needless zero

-- n's digits in front of what follows; the fuel is more than n needs
abbrev pub spelled_from : ℕ → ℕ → List ℕ → List ℕ
spelled_from zero n after = after
spelled_from (suc fuel) n after =
    elim (ltb n 10) [ true ↦ (digit_zero + n) ∷ after | false ↦ spelled_from fuel (n / 10) ((digit_zero + n % 10) ∷ after) ]

abbrev pub spelled : ℕ → List ℕ
spelled n = spelled_from (suc n) n []

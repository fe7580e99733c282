-- The five kinds with the keys that each must carry, in one table (document 01, "constraints.json").
use Rattle.std.specs.Prelude.{ℕ, ◌+◌, Bool, true, false, cond, ◌&&◌, List, [], ◌∷◌, eqb, get_or, take, Option, Some, None}
use Rattle.rules.specs.Lists.{same_list}
use Rattle.rules.specs.Bytes.{bytes}
use Rattle.rules.specs.declared.kinds.Kind.{Kind}
use Rattle.rules.specs.declared.kinds.Anchor.{Anchor}
use Rattle.rules.specs.declared.sizes.Configuration.{Configuration}

-- ---- the kinds by number; 0 is a choice that is not offered

abbrev pub not_offered : ℕ
not_offered = 0

abbrev pub headway : ℕ
headway = 1

abbrev pub single_track : ℕ
single_track = 2

abbrev pub dwell : ℕ
dwell = 3

abbrev pub turnaround : ℕ
turnaround = 4

abbrev pub connection : ℕ
connection = 5

-- the lists in that order; the sixth is no kind
abbrev pub subnets : ℕ
subnets = 6

abbrev pub list_names : List (List ℕ)
list_names =
    bytes "headway_time_constraints"
    ∷ bytes "single_track_headway_constraints"
    ∷ bytes "dwell_time_constraints"
    ∷ bytes "terminal_turnaround_constraints"
    ∷ bytes "connection_constraints"
    ∷ bytes "recuperation_subnets"
    ∷ []

-- ---- keys: a bit for each, so that a set of keys is a number

abbrev pub first_leg : ℕ
first_leg = 1

abbrev pub second_leg : ℕ
second_leg = 2

abbrev pub min_headway : ℕ
min_headway = 4

abbrev pub min_dwell : ℕ
min_dwell = 8

abbrev pub min_turnaround : ℕ
min_turnaround = 16

abbrev pub min_connection : ℕ
min_connection = 32

abbrev pub max_connection : ℕ
max_connection = 64

abbrev pub connection_type : ℕ
connection_type = 128

abbrev pub subnet_id : ℕ
subnet_id = 256

abbrev pub track_ids : ℕ
track_ids = 512

-- in the order of their bits
abbrev pub key_names : List (List ℕ)
key_names =
    bytes "first_leg_id"
    ∷ bytes "second_leg_id"
    ∷ bytes "min_headway_time"
    ∷ bytes "min_dwell_time"
    ∷ bytes "min_turnaround_time"
    ∷ bytes "min_connection_time"
    ∷ bytes "max_connection_time"
    ∷ bytes "connection_type"
    ∷ bytes "subnet_id"
    ∷ bytes "track_ids"
    ∷ []

-- ---- connection types: 1 by the first leg's arrival, 2 by its departure

abbrev pub no_type : ℕ
no_type = 0

abbrev pub by_arrival : ℕ
by_arrival = 1

abbrev pub by_departure : ℕ
by_departure = 2

abbrev pub type_names : List (List ℕ)
type_names = bytes "arrival_to_departure" ∷ bytes "departure_to_departure" ∷ []

-- ---- names: by number from 1, or by bit; 0 where the name is unknown

abbrev pub unknown : ℕ
unknown = 0

abbrev pub number_from : ℕ → List (List ℕ) → List ℕ → ℕ
number_from n [] word = unknown
number_from n (name ∷ names) word = cond (same_list name word) n (number_from (n + 1) names word)

abbrev pub bit_from : ℕ → List (List ℕ) → List ℕ → ℕ
bit_from b [] word = unknown
bit_from b (name ∷ names) word = cond (same_list name word) b (bit_from (b + b) names word)

unfoldable pub list_named : List ℕ → ℕ
list_named = number_from 1 list_names

unfoldable pub key_named : List ℕ → ℕ
key_named = bit_from 1 key_names

unfoldable pub type_named : List ℕ → ℕ
type_named = number_from 1 type_names

-- ---- two editions of kind 4's key: `min_dwell_time` by Table 3 of document 000, `min_turnaround_time` by its example and 001

abbrev pub table_edition : ℕ
table_edition = 1

abbrev pub example_edition : ℕ
example_edition = 2

-- the two names change places
abbrev pub renamed : Bool → (key : ℕ) → ℕ
renamed true key = cond (eqb key min_dwell) min_turnaround (cond (eqb key min_turnaround) min_dwell key)
renamed false key = key

-- where they do: in kind 4's records, by that table
abbrev pub is_renamed : (edition list : ℕ) → Bool
is_renamed edition list = eqb edition table_edition && eqb list turnaround

-- the key that a word names in a record of a list
unfoldable pub key_in : (edition list : ℕ) → List ℕ → ℕ
key_in edition list word = renamed (is_renamed edition list) (key_named word)

-- ---- the inequalities, in order, of a record's two choices

-- left ≤ right
pub record Inequality : Type 0 where
  pub left : ℕ
  pub right : ℕ

infix 40 ◌≤?◌
abbrev pub ◌≤?◌ : ℕ → ℕ → Inequality
◌≤?◌ l r = record { left = l; right = r }

-- d, and d + t
abbrev pub departure : Configuration → ℕ
departure c = c.departure

abbrev pub arrival : Configuration → ℕ
arrival c = c.departure + c.travel

-- What cannot hold: a record of no kind has this inequality, and so has a connection of no type. No reading gives such a record; no default can say that it is met
abbrev pub cannot_hold : Inequality
cannot_hold = 1 ≤? 0

-- x of kind 5; another type has none
abbrev pub anchored : (type : ℕ) → Configuration → Option ℕ
anchored type x = cond (eqb type by_arrival) (Some (arrival x)) (cond (eqb type by_departure) (Some (departure x)) None)

-- an inequality about a time: where there is none it cannot hold
abbrev pub about : Option ℕ → (ℕ → Inequality) → Inequality
about (Some x) asked = asked x
about None asked = cannot_hold

-- THE TABLE: a record's numbers low and high, its type, and the choices of its first and second leg
abbrev pub Rule : Type 0
Rule = (low high type : ℕ) → Configuration → Configuration → List Inequality

abbrev pub no_rule : Rule
no_rule low high type one two = cannot_hold ∷ []

abbrev pub headway_rule : Rule
headway_rule h high type one two = (departure one + h ≤? departure two) ∷ (arrival one + h ≤? arrival two) ∷ []

abbrev pub single_track_rule : Rule
single_track_rule low high type one two = (arrival one ≤? departure two) ∷ []

abbrev pub dwell_rule : Rule
dwell_rule w high type one two = (arrival one + w ≤? departure two) ∷ []

abbrev pub turnaround_rule : Rule
turnaround_rule w high type one two = (arrival one + w ≤? departure two) ∷ []

abbrev pub connection_rule : Rule
connection_rule a b type one two = about (anchored type one) (λ x. x + a ≤? departure two) ∷ about (anchored type one) (λ x. departure two ≤? x + b) ∷ []

abbrev pub rules : List Rule
rules = no_rule ∷ headway_rule ∷ single_track_rule ∷ dwell_rule ∷ turnaround_rule ∷ connection_rule ∷ []

unfoldable pub rule_of : (kind : ℕ) → Rule
rule_of kind = get_or rules kind no_rule

-- ---- the same table as the code's constant holds it: keys, number of inequalities, anchors

abbrev pub kind_row : (keys inequalities : ℕ) → List Anchor → Kind
kind_row keys inequalities anchors = record { keys = keys; inequalities = inequalities; anchors = anchors }

-- what is no kind: one inequality, and no anchors
abbrev pub no_kind : Kind
no_kind = kind_row 0 1 []

abbrev pub no_anchor : Anchor
no_anchor = Anchor.None

-- d, and d + t
abbrev pub by_d : Anchor
by_d = Anchor.Departure

abbrev pub by_d_t : Anchor
by_d_t = Anchor.Arrival

-- x, and x as what bounds the second leg from above
abbrev pub by_x : Anchor
by_x = Anchor.Connection

abbrev pub latest : Anchor
latest = Anchor.Latest

-- the number of an anchor, as the code counts them
abbrev pub anchor_number : Anchor → ℕ
anchor_number Anchor.None = 0
anchor_number Anchor.Departure = 1
anchor_number Anchor.Arrival = 2
anchor_number Anchor.Connection = 3
anchor_number Anchor.Latest = 4
anchor_number (Anchor.Unknown n) = n

-- and the anchor of a number, known or not
abbrev pub anchor_of : ℕ → Anchor
anchor_of n =
    cond (eqb n (anchor_number no_anchor)) no_anchor
    (cond (eqb n (anchor_number by_d)) by_d
    (cond (eqb n (anchor_number by_d_t)) by_d_t
    (cond (eqb n (anchor_number by_x)) by_x (cond (eqb n (anchor_number latest)) latest (Anchor.Unknown n)))))

abbrev pub is_latest : Anchor → Bool
is_latest Anchor.None = false
is_latest Anchor.Departure = false
is_latest Anchor.Arrival = false
is_latest Anchor.Connection = false
is_latest Anchor.Latest = true
is_latest (Anchor.Unknown n) = false

abbrev pub kind_table : List Kind
kind_table =
    kind_row (first_leg + second_leg + min_headway) 2 (by_d ∷ by_d ∷ by_d_t ∷ by_d_t ∷ [])
    ∷ kind_row (first_leg + second_leg) 1 (by_d_t ∷ by_d ∷ no_anchor ∷ no_anchor ∷ [])
    ∷ kind_row (first_leg + second_leg + min_dwell) 1 (by_d_t ∷ by_d ∷ no_anchor ∷ no_anchor ∷ [])
    ∷ kind_row (first_leg + second_leg + min_turnaround) 1 (by_d_t ∷ by_d ∷ no_anchor ∷ no_anchor ∷ [])
    ∷ kind_row (first_leg + second_leg + min_connection + max_connection + connection_type) 2 (by_x ∷ by_d ∷ latest ∷ by_d ∷ [])
    ∷ []

-- ---- the rule of a row of that table

-- a leg by an anchor; without one, and by one that nobody knows, it has no time
abbrev pub measured : Anchor → (type : ℕ) → Configuration → Option ℕ
measured Anchor.None type x = None
measured Anchor.Departure type x = Some (departure x)
measured Anchor.Arrival type x = Some (arrival x)
measured Anchor.Connection type x = anchored type x
measured Anchor.Latest type x = anchored type x
measured (Anchor.Unknown n) type x = None

-- the least seconds, where the kind has further keys than those of its two legs
abbrev pub with_least : (keys low : ℕ) → ℕ → ℕ
with_least keys low x = cond (eqb keys (first_leg + second_leg)) x (x + low)

-- one inequality, by the anchors of the first leg and of the second
abbrev pub by_anchor : (keys : ℕ) → (first second : Anchor) → (low high type : ℕ) → Configuration → Configuration → Inequality
by_anchor keys first second low high type one two =
    about (measured first type one) (λ x. about (measured second type two) (λ y. cond (is_latest first) (y ≤? x + high) (with_least keys low x ≤? y)))

-- the inequalities of a row, as many as it says: the first by its first two anchors, the second by its last two
unfoldable pub by_anchors : Kind → Rule
by_anchors row low high type one two =
    let at : ℕ → Anchor = λ i. get_or row.anchors i no_anchor in
    take row.inequalities
    (by_anchor row.keys (at 0) (at 1) low high type one two ∷ by_anchor row.keys (at 2) (at 3) low high type one two ∷ [])

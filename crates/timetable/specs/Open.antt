-- A row of a timetable byte by byte: eight numbers up to the list, then configurations, three numbers each.
use Rattle.std.specs.Prelude.{ℕ, Bool, false, cond, ◌||◌, List, [], ◌∷◌, ◌++◌, leb, ltb, eqb, length, get_or, Option, Some, None}
use Rattle.rules.specs.Lists.{◌>>=◌}
use Rattle.rules.specs.Answers.{Reading}
use Rattle.rules.specs.Bytes.{is_digit, space, underscore}
use Rattle.rules.specs.Timetable.{Row, row, configuration, timetable_names, judge_form}
use Rattle.rules.specs.declared.sizes.Configuration.{Configuration}
use Rattle.csv_machine.specs.Number.{Number, empty, zero, digits, number_step, number_end}
use Rattle.csv_machine.specs.Marks.{Marked}
use Rattle.csv_machine.specs.Names.{Named}
use Rattle.csv_machine.specs.Machine.{Machine, progress, finished}
use Rattle.csv_machine.specs.Contents.{Contents, Reached as TextReached, machine_of}
use Rattle.timetable_row.specs.Slots.{nominal_slot, entry_slot, separators}

-- the numbers closed before the list; the configurations closed; the numbers closed of the one that is open; the open number
pub record Open : Type 0 where
  pub closed : List ℕ
  pub list : List Configuration
  pub entry : List ℕ
  pub number : Number

abbrev pub partly : List ℕ → List Configuration → List ℕ → Number → Open
partly closed list entry number = record { closed = closed; list = list; entry = entry; number = number }

abbrev pub start : Open
start = partly [] [] [] empty

-- a number before the list, of value n, is closed by the byte b
abbrev pub close_head : Open → (b n : ℕ) → Option Open
close_head o b n = cond (eqb b (get_or separators (length o.closed) 0)) (Some (partly (o.closed ++ n ∷ []) [] [] empty)) None

-- a number of the list is closed: the third of an entry by a space
abbrev pub close_entry : List ℕ → List Configuration → List ℕ → (b n : ℕ) → Option Open
close_entry closed list [] b n = cond (eqb b underscore) (Some (partly closed list (n ∷ []) empty)) None
close_entry closed list (d ∷ []) b n = cond (eqb b underscore) (Some (partly closed list (d ∷ n ∷ []) empty)) None
close_entry closed list (d ∷ t ∷ []) b n = cond (eqb b space) (Some (partly closed (list ++ configuration d t n ∷ []) [] empty)) None
close_entry closed list (d ∷ t ∷ p ∷ more) b n = None

abbrev pub separate : Open → (b n : ℕ) → Option Open
separate o b n = cond (ltb (length o.closed) (length separators)) (close_head o b n) (close_entry o.closed o.list o.entry b n)

-- one byte of a row
unfoldable pub open_step : Open → ℕ → Option Open
open_step o b =
    cond (is_digit b)
    (number_step o.number b >>= (λ m. Some (partly o.closed o.list o.entry m)))
    (number_end o.number >>= (λ n. separate o b n))

-- a row that ends here
abbrev pub row_of : List ℕ → List Configuration → Option Row
row_of [] list = None
row_of (a ∷ []) list = None
row_of (a ∷ b ∷ []) list = None
row_of (a ∷ b ∷ c ∷ []) list = None
row_of (a ∷ b ∷ c ∷ d ∷ []) list = None
row_of (a ∷ b ∷ c ∷ d ∷ e ∷ []) list = None
row_of (a ∷ b ∷ c ∷ d ∷ e ∷ f ∷ []) list = None
row_of (a ∷ b ∷ c ∷ d ∷ e ∷ f ∷ g ∷ []) list = None
row_of (a ∷ b ∷ c ∷ d ∷ e ∷ f ∷ g ∷ h ∷ []) list = Some (row a b c d e (configuration f g h) list)
row_of (a ∷ b ∷ c ∷ d ∷ e ∷ f ∷ g ∷ h ∷ i ∷ more) list = None

abbrev pub close_last : List ℕ → List Configuration → List ℕ → (n : ℕ) → Option Row
close_last closed list [] n = None
close_last closed list (d ∷ []) n = None
close_last closed list (d ∷ t ∷ []) n = row_of closed (list ++ configuration d t n ∷ [])
close_last closed list (d ∷ t ∷ p ∷ more) n = None

unfoldable pub open_end : Open → Option Row
open_end o = number_end o.number >>= (λ n. close_last o.closed o.list o.entry n)

-- nothing of the open field is read: each of the first six fields, and the list
abbrev pub opens_field : List ℕ → List Configuration → List ℕ → Number → Bool
opens_field closed [] [] empty = leb (length closed) nominal_slot || eqb (length closed) entry_slot
opens_field closed [] [] zero = false
opens_field closed [] [] (digits n) = false
opens_field closed (c ∷ list) entry number = false
opens_field closed [] (n ∷ entry) number = false

abbrev pub open_begins : Open → Bool
open_begins o = opens_field o.closed o.list o.entry o.number

-- the whole text: how far it is read, byte by byte
abbrev pub Reached : Type 0
Reached = TextReached Row Open

module _ (H file : ℕ) (fits : List Row → Row → Bool) where
  abbrev pub contents : Contents Row Open
  contents = record { file = file; names = timetable_names; judge = judge_form H fits; start = start; step = open_step; close = open_end; begins = open_begins }

  abbrev pub machine : Machine Row (Marked Named) (Marked Open)
  machine = machine_of contents

  unfoldable pub reach : Reached → ℕ → Reached
  reach = progress machine

  unfoldable pub reached_end : Reached → Reading (List Row)
  reached_end = finished machine

-- A part of a text, and the whole samples in it.
use Rattle.std.specs.Prelude.{ℕ, ◌+◌, ◌≤◌, ◌<◌, ◌≡◌, true, false, cond, List, leb, length, drop, ℤ}
use Rattle.rules.specs.Answers.{bad_header}
use Rattle.rules.specs.Profiles.{profiles_names, profiles_header}
use Rattle.csv_machine.specs.Machine.{in_header}
use Rattle.csv_marks.specs.declared.Mark.{Mark}
use Rattle.csv_marks.specs.Turns.{marked, takes}
use Rattle.csv_header.specs.Heading.{name_at}
use Rattle.profiles_row.specs.declared.number.Number.TheVariants.{Empty}
use Rattle.profiles_row.specs.declared.row.Past.{Past}
use Rattle.profiles_row.specs.declared.row.Listed.{Listed}
use Rattle.profiles_state.specs.declared.state.State.{State}
use Rattle.profiles_state.specs.declared.state.State.TheVariants.{Id, Whole as InWhole, Fraction, Stopped}
use Rattle.profiles_state.specs.Open.{Read}
use Rattle.profiles_state.specs.Holds.{Stands, Live, reading, Leads, Leap}
use Rattle.profiles.specs.declared.reader.Reader.{Reader}
use Rattle.profiles.specs.declared.reader.Many.{Many}
use Rattle.profiles.specs.declared.reader.Moved.{Moved}
use Rattle.profiles.specs.declared.reader.Crossed.{Crossed}

-- the reader and the tables stand for what is read
pub data Held (profiles₀ : List ℕ) (samples₀ : List ℤ) (next head : ℕ) (mark : Mark) (state : State) (profiles : List ℕ) (samples : List ℤ) (text : Read) : Type 0 where
  in_header_lem : text ≡ in_header next (marked mark (name_at profiles_names head)) → head < length profiles_header → state ≡ Stopped bad_header 0 → profiles ≡ profiles₀ → samples ≡ samples₀
      → Held profiles₀ samples₀ next head mark state profiles samples text
  in_rows : length profiles_header ≤ head → Stands profiles₀ samples₀ next mark state profiles samples text
      → Held profiles₀ samples₀ next head mark state profiles samples text

pub record Feeds (reader : Reader) (profiles : List ℕ) (samples : List ℤ) (part : List ℕ) (r : Reader) (profiles' : List ℕ) (samples' : List ℤ) : Type 0 where
  pub place : r.next ≡ reader.next + length part
  pub reads : (profiles₀ : List ℕ) (samples₀ : List ℤ) (text : Read) → Held profiles₀ samples₀ reader.next reader.head reader.mark reader.state profiles samples text
      → Held profiles₀ samples₀ r.next r.head r.mark r.state profiles' samples' (reading profiles₀ samples₀ text part)

-- behind the header so much of some text stands behind the state
abbrev pub Alive : Reader → List ℕ → List ℤ → Type 0
Alive reader profiles samples = length profiles_header ≤ reader.head → Live reader.next reader.state profiles samples

-- the rows of a part from a place on
pub record Lined (next : ℕ) (state : State) (mark : Mark) (profiles : List ℕ) (samples : List ℤ) (part : List ℕ) (from : ℕ) (r : Reader) (profiles' : List ℕ) (samples' : List ℤ) : Type 0 where
  pub place : r.next ≡ next + length part
  pub head_whole : r.head ≡ length profiles_header
  pub lines : (profiles₀ : List ℕ) (samples₀ : List ℤ) (text : Read) → Stands profiles₀ samples₀ (next + from) mark state profiles samples text
      → Stands profiles₀ samples₀ r.next r.mark r.state profiles' samples' (reading profiles₀ samples₀ text (drop from part))

-- behind the header the first row opens
abbrev pub opened : ℕ → Past
opened at = record { place = at; profiles = 0; samples = 0; rising = 0; last = 0 }

abbrev pub begun_at : State → (head at : ℕ) → State
begun_at state head at = cond (leb (length profiles_header) head) state (Id (opened at) Empty)

-- the samples that the open row has
abbrev pub count_in : State → ℕ
count_in (Id past n) = 0
count_in (InWhole past l negative n) = l.count
count_in (Fraction past l t) = l.count
count_in (Stopped number place) = 0

-- whole samples from a place on
abbrev pub ManyRead : List ℕ → Past → Listed → (from : ℕ) → List ℤ → Many → List ℤ → Type 0
ManyRead part past l from samples r samples' =
    (mark : Mark) → takes mark ≡ true → (profiles : List ℕ) → Leap part mark from (InWhole past l false Empty) profiles samples r.next (InWhole past r.l false Empty) profiles samples'

-- nothing is left to read after a fault
abbrev pub Skips : List ℕ → (from : ℕ) → State → Moved → Type 0
Skips part from state r = (mark : Mark) (profiles : List ℕ) (samples : List ℤ) → Leap part mark from state profiles samples r.next r.state profiles samples

abbrev pub Quickens : List ℕ → (from : ℕ) → Mark → State → List ℤ → Moved → List ℤ → Type 0
Quickens part from mark state samples r samples' = (profiles : List ℕ) → Leap part mark from state profiles samples r.next r.state profiles samples'

-- a turn of the loop at a byte of a part: it goes on, but for a byte that is left once, under a mark that takes contents
pub record TurnedAt (gone : ℕ) (state : State) (mark : Mark) (profiles : List ℕ) (samples : List ℤ) (part : List ℕ) (i : ℕ) (state' : State) (mark' : Mark) (j : ℕ) (profiles' : List ℕ) (samples' : List ℤ) : Type 0 where
  pub onward : i ≤ j
  pub inside : j ≤ length part
  pub stays : j ≡ i → (takes mark ≡ false) × (takes mark' ≡ true)
  pub leads : (profiles₀ : List ℕ) (samples₀ : List ℤ) (text : Read) → Stands profiles₀ samples₀ (gone + i) mark state profiles samples text
      → Leads profiles₀ samples₀ (gone + j) mark' state' profiles' samples' (drop j part) (reading profiles₀ samples₀ text (drop i part))

-- such a turn that leaves the tables alone, wherever the part begins
abbrev pub CrossedTo : List ℕ → (from : ℕ) → Mark → State → Crossed → Type 0
CrossedTo part from mark state r =
    (gone : ℕ) (profiles : List ℕ) (samples : List ℤ) → TurnedAt gone state mark profiles samples part from r.state r.mark r.next profiles samples

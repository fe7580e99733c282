-- An id in quotes, its comma and the quote that opens the list: where its bytes lead.
use Rattle.std.specs.Prelude.{ℕ, ◌+◌, ◌≤◌, ◌<◌, ◌≡◌, false, List, ltb, length, get_or, drop, ℤ, Option, Some, None}
use Rattle.rules.specs.Limits.{most_id}
use Rattle.rules.specs.Bytes.{quote, comma}
use Rattle.csv_marks.specs.declared.Mark.{Mark}
use Rattle.csv_marks.specs.declared.Mark.TheVariants.{Bare, Within}
use Rattle.profiles_row.specs.declared.number.Number.TheVariants.{Empty}
use Rattle.profiles_row.specs.declared.row.Past.{Past}
use Rattle.profiles_row.specs.declared.row.Listed.{Listed}
use Rattle.profiles_state.specs.declared.state.State.{State}
use Rattle.profiles_state.specs.declared.state.State.TheVariants.{Id, Whole}
use Rattle.profiles_state.specs.Open.{Read}
use Rattle.profiles_state.specs.Holds.{Stands, reading, Leads}
use Rattle.profiles_sample.specs.declared.Headed.{Headed}

-- from byte i of a part under a mark to byte j under another, wherever the part begins; the tables are left alone
pub record Crosses (part : List ℕ) (i : ℕ) (mark : Mark) (state : State) (j : ℕ) (mark' : Mark) (state' : State) : Type 0 where
  pub onward : i ≤ j
  pub inside : j ≤ length part
  pub crosses : (base : ℕ) (profiles : List ℕ) (samples : List ℤ) (profiles₀ : List ℕ) (samples₀ : List ℤ) (text : Read)
      → Stands profiles₀ samples₀ (base + i) mark state profiles samples text
      → Leads profiles₀ samples₀ (base + j) mark' state' profiles samples (drop j part) (reading profiles₀ samples₀ text (drop i part))

-- the list after its id
abbrev pub ListAfter : (id : ℕ) → Listed → Type 0
ListAfter id l = (l.id ≡ id) × ((l.count ≡ 0) × (l.wide ≡ ltb most_id id))

pub data Joins (part : List ℕ) (from id : ℕ) : Option Headed → Type 0 where
  apart : Joins part from id None
  joined : from + 3 ≤ length part → get_or part from 0 ≡ quote → get_or part (from + 1) 0 ≡ comma → get_or part (from + 2) 0 ≡ quote → Joins part from id (Some (record { id = id; next = from + 3 }))

pub data Heads (part : List ℕ) (from : ℕ) : Option Headed → Type 0 where
  unheaded : Heads part from None
  headed : {h : Headed} → from < h.next → ((past : Past) (l : Listed) → ListAfter h.id l → Crosses part from Bare (Id past Empty) h.next Within (Whole past l false Empty))
      → Heads part from (Some h)

-- Quotes about fields and a CR at a line's end, byte by byte: what stands within goes to the machine of a line's contents.
use Rattle.std.specs.Prelude.{ℕ, Bool, cond, eqb, Option, Some, None}
use Rattle.rules.specs.Bytes.{carriage_return, quote, comma}

-- no quote is open; within a pair of quotes; behind the second of them
pub data Quotes : Type 0 where
  bare : Quotes
  within : Quotes
  behind : Quotes

-- a line whose contents have come to a state; behind a CR nothing but LF may stand
pub data Marked (O : Type 0) : Type 0 where
  on : Quotes → O → Marked O
  returned : O → Marked O

-- begins: nothing of the open field is read. step, close: the machine of a line's contents
module _ {A O : Type 0} (step : O → ℕ → Option O) (close : O → Option A) (begins : O → Bool) where
  abbrev pub under : Quotes → Option O → Option (Marked O)
  under q None = None
  under q (Some o) = Some (on q o)

  -- a byte that is no CR
  abbrev pub quote_step : Quotes → O → ℕ → Option (Marked O)
  quote_step bare o b = cond (eqb b quote) (cond (begins o) (Some (on within o)) None) (under bare (step o b))
  quote_step within o b = cond (eqb b quote) (Some (on behind o)) (cond (eqb b comma) None (under within (step o b)))
  quote_step behind o b = cond (eqb b comma) (under bare (step o b)) None

  -- a CR: within quotes it is a byte of the content, which no form takes
  abbrev pub on_return : Quotes → O → Option (Marked O)
  on_return bare o = Some (returned o)
  on_return within o = None
  on_return behind o = Some (returned o)

  abbrev pub mark_step : Marked O → ℕ → Option (Marked O)
  mark_step (on q o) b = cond (eqb b carriage_return) (on_return q o) (quote_step q o b)
  mark_step (returned o) b = None

  -- the line is over
  abbrev pub quote_close : Quotes → O → Option A
  quote_close bare o = close o
  quote_close within o = None
  quote_close behind o = close o

  abbrev pub mark_close : Marked O → Option A
  mark_close (on q o) = quote_close q o
  mark_close (returned o) = close o

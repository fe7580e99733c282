-- A CSV text byte by byte: its header, then rows; each line by a machine of its own. A line at fault is refused when it ends.
use Rattle.std.specs.Prelude.{ℕ, suc, Bool, cond, List, [], ◌∷◌, ◌++◌, eqb, is_some, Option, Some, None}
use Rattle.rules.specs.Lists.{◌>>=◌}
use Rattle.rules.specs.Answers.{refusal, bad_header, bad_row, Reading, refused, good, Judged, wrong, right}
use Rattle.rules.specs.Bytes.{line_feed}
use Rattle.rules.specs.declared.answers.Refusal.{Refusal}
use Rattle.csv_machine.specs.Fold.{run}

-- how far a text is read: into its header, with the place of the next byte; the rows before and the open row, with its place and the place of the next byte;
-- a line that is at fault and not yet over; or the first line at fault that is
pub data Progress (A K O : Type 0) : Type 0 where
  in_header : (next : ℕ) → K → Progress A K O
  in_row : (place next : ℕ) → List A → O → Progress A K O
  broken : (number place : ℕ) → Progress A K O
  stopped : (number place : ℕ) → Progress A K O

-- a line at fault, over or not
pub data Faulty {A K O : Type 0} (number place : ℕ) : Progress A K O → Type 0 where
  is_broken : Faulty number place (broken number place)
  is_stopped : Faulty number place (stopped number place)

-- the machines of a header and of a row's form; judge: what a row is after those before it, by its form
pub record Machine (A K O : Type 0) : Type 0 where
  pub file : ℕ
  pub head : K
  pub head_step : K → ℕ → Option K
  pub head_close : K → Bool
  pub judge : List A → Option A → Judged A
  pub start : O
  pub step : O → ℕ → Option O
  pub close : O → Option A

module _ {A K O : Type 0} (m : Machine A K O) where
  abbrev pub on_head : (next : ℕ) → Option K → Progress A K O
  on_head next None = broken bad_header 0
  on_head next (Some k) = in_header (suc next) k

  abbrev pub on_byte : (place next : ℕ) → List A → Option O → Progress A K O
  on_byte place next before None = broken bad_row place
  on_byte place next before (Some o) = in_row place (suc next) before o

  abbrev pub on_line : (place next : ℕ) → List A → Judged A → Progress A K O
  on_line place next before (wrong n) = stopped n place
  on_line place next before (right row) = in_row (suc next) (suc next) (before ++ row ∷ []) m.start

  abbrev pub progress : Progress A K O → ℕ → Progress A K O
  progress (in_header next k) b =
      cond (eqb b line_feed) (cond (m.head_close k) (in_row (suc next) (suc next) [] m.start) (stopped bad_header 0)) (on_head next (m.head_step k b))
  progress (in_row place next before o) b =
      cond (eqb b line_feed) (on_line place next before (m.judge before (m.close o))) (on_byte place next before (m.step o b))
  progress (broken n place) b = cond (eqb b line_feed) (stopped n place) (broken n place)
  progress (stopped n place) b = stopped n place

  abbrev pub begun : Progress A K O
  begun = in_header 0 m.head

  -- the text is over: the header lacks its LF, a row does, or all is read
  abbrev pub finished : Progress A K O → Reading (List A)
  finished (in_header next k) = refused (refusal bad_header m.file 0)
  finished (in_row place next before o) = cond (eqb place next) (good before) (refused (refusal bad_row m.file place))
  finished (broken n place) = refused (refusal n m.file place)
  finished (stopped n place) = refused (refusal n m.file place)

  -- what the lines that are over already refuse
  abbrev pub refused_so : Progress A K O → Option Refusal
  refused_so (in_header next k) = None
  refused_so (in_row place next before o) = None
  refused_so (broken n place) = None
  refused_so (stopped n place) = Some (refusal n m.file place)

  -- a line as the machines see it
  abbrev pub head_run : List ℕ → Bool
  head_run line = is_some (run m.head_step m.head line >>= (λ k. cond (m.head_close k) (Some k) None))

  abbrev pub form_run : List ℕ → Option A
  form_run line = run m.step m.start line >>= m.close

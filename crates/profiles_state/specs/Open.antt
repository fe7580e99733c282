-- A row of profiles byte by byte: the id, then samples with one space between.
use Rattle.std.specs.Prelude.{ℕ, suc, Bool, true, false, cond, List, [], ◌∷◌, ◌++◌, eqb, ℤ, Option, Some, None}
use Rattle.rules.specs.Lists.{◌>>=◌}
use Rattle.rules.specs.Answers.{bad_row, profiles_file, Reading, Judged, wrong, right}
use Rattle.rules.specs.Bytes.{line_feed, comma, space}
use Rattle.rules.specs.Profiles.{Curve, profiles_names, judge_form}
use Rattle.csv_machine.specs.Number.{Number, empty, zero, digits, number_step, number_end}
use Rattle.csv_machine.specs.Marks.{Marked}
use Rattle.csv_machine.specs.Names.{Named}
use Rattle.csv_machine.specs.Machine.{Machine, progress, finished}
use Rattle.csv_machine.specs.Contents.{Contents, Reached as TextReached, machine_of}
use Rattle.profiles_row.specs.Sample.{Sample, whole, fraction, fresh, sample_step, sample_end}
use Rattle.profiles_row.specs.Row.{curve}

-- ---- a row

-- the open id; past its comma, the id, the samples closed and the open one
pub data Open : Type 0 where
  in_id : Number → Open
  in_list : (id : ℕ) → List ℤ → Sample → Open

abbrev pub start : Open
start = in_id empty

unfoldable pub open_step : Open → ℕ → Option Open
open_step (in_id m) b =
    cond (eqb b comma) (number_end m >>= (λ id. Some (in_list id [] fresh))) (number_step m b >>= (λ next. Some (in_id next)))
open_step (in_list id samples x) b =
    cond (eqb b space)
    (sample_end x >>= (λ kw. Some (in_list id (samples ++ kw ∷ []) fresh)))
    (sample_step x b >>= (λ next. Some (in_list id samples next)))

-- a row that ends here
unfoldable pub open_end : Open → Option Curve
open_end (in_id m) = None
open_end (in_list id samples x) = sample_end x >>= (λ kw. Some (curve id (samples ++ kw ∷ [])))

-- nothing of the open field is read
abbrev pub no_digit : Number → Bool
no_digit empty = true
no_digit zero = false
no_digit (digits n) = false

abbrev pub is_fresh : Sample → Bool
is_fresh (whole false m) = no_digit m
is_fresh (whole true m) = false
is_fresh (fraction negative n count value) = false

abbrev pub open_begins : Open → Bool
open_begins (in_id m) = no_digit m
open_begins (in_list id [] x) = is_fresh x
open_begins (in_list id (kw ∷ samples) x) = false

-- ---- rows by their contents: the rows before and the open row, with its place and the place of the next byte; or the first fault

pub data Reached : Type 0 where
  in_row : (place next : ℕ) → List Curve → Open → Reached
  stopped : (number place : ℕ) → Reached

abbrev pub on_byte : (place next : ℕ) → List Curve → Option Open → Reached
on_byte place next before None = stopped bad_row place
on_byte place next before (Some o) = in_row place (suc next) before o

abbrev pub on_line : (place next : ℕ) → List Curve → Judged Curve → Reached
on_line place next before (wrong n) = stopped n place
on_line place next before (right row) = in_row (suc next) (suc next) (before ++ row ∷ []) start

-- ---- the whole text: how far it is read, byte by byte

abbrev pub Read : Type 0
Read = TextReached Curve Open

-- the lent room in profiles and in samples
module _ (profiles samples : ℕ) where
  -- a byte of the contents
  unfoldable pub reach : Reached → ℕ → Reached
  reach (in_row place next before o) b =
      cond (eqb b line_feed) (on_line place next before (judge_form profiles samples before (open_end o))) (on_byte place next before (open_step o b))
  reach (stopped n place) b = stopped n place

  abbrev pub contents : Contents Curve Open
  contents = record { file = profiles_file; names = profiles_names; judge = judge_form profiles samples; start = start; step = open_step; close = open_end; begins = open_begins }

  abbrev pub machine : Machine Curve (Marked Named) (Marked Open)
  machine = machine_of contents

  -- a byte of the text
  unfoldable pub read : Read → ℕ → Read
  read = progress machine

  unfoldable pub read_end : Read → Reading (List Curve)
  read_end = finished machine

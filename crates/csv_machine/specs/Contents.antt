-- A CSV text by the contents of its lines: what a file has of its own. Quotes and CR are the same for every file.
use Rattle.std.specs.Prelude.{ℕ, Bool, List, is_some, Option}
use Rattle.rules.specs.Answers.{Judged}
use Rattle.csv_machine.specs.Marks.{bare, Marked, on, mark_step, mark_close}
use Rattle.csv_machine.specs.Names.{Named, name_step, name_close, name_begins, names_start}
use Rattle.csv_machine.specs.Machine.{Progress, Machine}

-- the header's names; the machine of a row's contents, and where in them a field begins; what a row is after those before it, by its form
pub record Contents (A O : Type 0) : Type 0 where
  pub file : ℕ
  pub names : List (List ℕ)
  pub judge : List A → Option A → Judged A
  pub start : O
  pub step : O → ℕ → Option O
  pub close : O → Option A
  pub begins : O → Bool

-- how far such a text is read
abbrev pub Reached : (A O : Type 0) → Type 0
Reached A O = Progress A (Marked Named) (Marked O)

abbrev pub machine_of : {A O : Type 0} → Contents A O → Machine A (Marked Named) (Marked O)
machine_of c =
    record {
      file = c.file;
      head = on bare (names_start c.names);
      head_step = mark_step name_step name_close name_begins;
      head_close = λ k. is_some (mark_close name_step name_close name_begins k);
      judge = c.judge;
      start = on bare c.start;
      step = mark_step c.step c.close c.begins;
      close = mark_close c.step c.close c.begins;
    }

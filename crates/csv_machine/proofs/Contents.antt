-- A text by the contents of its lines is what `csv_of` says, byte by byte, whatever its names and its rows. Assumes nothing.
use Prim.Native.Nat.{ℕ, ◌≤◌}
use mathlib.Core.Path.{◌≡◌, refl, ◌∙◌}
use mathlib.Core.Bool.{true, cond}
use mathlib.Core.List.{List}
use lib.ListN.{length}
use Rattle.rules.specs.Limits.{most_text}
use Rattle.rules.specs.Lists.{◌>>=◌}
use Rattle.std.specs.Prelude.{is_some, Option, Some, None}
use Rattle.rules.specs.Answers.{bad_row, wrong}
use Rattle.rules.specs.Bytes.{less_return}
use Rattle.rules.specs.Rows.{heads, csv_of}
use Rattle.csv_machine.specs.Fold.{fold, run}
use Rattle.csv_machine.specs.Marks.{bare, on, mark_step, mark_close}
use Rattle.csv_machine.specs.Names.{can_head, name_step, name_close, name_begins, names_start}
use Rattle.csv_machine.specs.Machine.{progress, begun, finished, head_run, form_run}
use Rattle.csv_machine.specs.Contents.{Contents, machine_of}
use Rattle.csv_machine.proofs.Names.{heads-run}
use Rattle.csv_machine.proofs.Machine.{csv_by_bytes}

-- what closes is there
closed : {A B : Type 0} (x : Option A) (c : A → Option B) → is_some (x >>= c) ≡ is_some (x >>= (λ k. cond (is_some (c k)) (Some k) None))
closed None c = refl
closed {A} {B} (Some a) c = go (c a)
  where
    go : (y : Option B) → is_some y ≡ is_some (cond (is_some y) (Some a) None)
    go None = refl
    go (Some b) = refl

module _ {A O : Type 0} (c : Contents A O) (can : can_head c.names ≡ true) where
  head_run_lem : (line : List ℕ) → heads c.names line ≡ head_run (machine_of c) line
  head_run_lem line =
      heads-run c.names can line
      ∙ closed (run (mark_step name_step name_close name_begins) (on bare (names_start c.names)) line) (mark_close name_step name_close name_begins)

  pub text_by_bytes : (form_of : List ℕ → Option A) → ((line : List ℕ) → form_of (less_return line) ≡ form_run (machine_of c) line)
      → ((before : List A) → c.judge before None ≡ wrong bad_row) → (s : List ℕ) → length s ≤ most_text
      → csv_of c.file (λ before line. c.judge before (form_of line)) c.names s ≡ finished (machine_of c) (fold (progress (machine_of c)) (begun (machine_of c)) s)
  text_by_bytes form_of form_run_lem judge-none s h =
      csv_by_bytes (machine_of c) c.names form_of (λ line u. head_run_lem line) (λ line u. form_run_lem line) judge-none s h

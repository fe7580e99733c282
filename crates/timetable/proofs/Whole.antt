-- A whole text: the answer is the definition's, and so are the tables where nothing is refused. Assumes nothing.
use Prim.Native.Nat.{ℕ, suc, ◌/◌, ◌≤◌, ◌<◌}
use mathlib.Core.Path.{◌≡◌, refl, ap, sym, ◌∙◌}
use mathlib.Core.Bool.{Bool, true, false, cond}
use mathlib.Core.List.{List, [], ◌∷◌, append-nil}
use native.Mathlib.Omega.{arith}
use lib.Dec.{eqb}
use lib.ListN.{length}
use mir.Syntax.{w32}
use mir.Val.{Fits}
use borrow.Author.Tests.{lt-leb, eqb-true}
use Rattle.std.specs.Prelude.{Result, Err, is_some, Option, Some, None}
use Rattle.rules.specs.Limits.{most_text, leg_width, configuration_width}
use Rattle.rules.specs.Lists.{flat, over}
use Rattle.rules.specs.Answers.{refusal, too_long, bad_row, timetable_file, Reading, refused, good, Judged, wrong, right}
use Rattle.rules.specs.Bytes.{line_feed}
use Rattle.rules.specs.Rows.{csv_of}
use Rattle.rules.specs.Timetable.{Row, form_of, judge_form, timetable_names, timetable_of, configurations_of, configuration_numbers}
use Rattle.rules.specs.declared.sizes.Configuration.{Configuration}
use Rattle.csv_machine.specs.Fold.{fold}
use Rattle.csv_machine.specs.Marks.{bare, Marked, on, mark_step, mark_close}
use Rattle.csv_machine.specs.Names.{Named, name_step, name_close, name_begins, names_start}
use Rattle.csv_machine.specs.Machine.{in_header, in_row, broken, stopped, on_head, on_byte, on_line}
use Rattle.csv_machine.proofs.Contents.{text_by_bytes}
use Rattle.timetable_row.specs.declared.number.Number.TheVariants.{Empty}
use Rattle.timetable.specs.declared.reader.Reader.{Reader}
use Rattle.rules.specs.declared.answers.Fault.{Fault}
use Rattle.timetable_row.specs.Faults.{fault_at}
use Rattle.timetable.specs.declared.reader.Rows.{Rows}
use Rattle.timetable_row.specs.Digits.{most_held}
use Rattle.csv_marks.specs.declared.Mark.TheVariants.{Bare}
use Rattle.csv_marks.proofs.Follow.{inside, inside_marked}
use Rattle.timetable.specs.Open.{Open, Reached, start, open_step, open_end, open_begins, contents, machine, reach, reached_end}
use Rattle.timetable.specs.Held.{Tables, InLine}
use Rattle.timetable.specs.Ended.{draft_room}
use Rattle.timetable.specs.Promise.{Filled, Tabled, ReadAs}
use Rattle.timetable.specs.Text.{first_line, Stands, drafted, Fed, Finished}
use Rattle.timetable.proofs.Fields.{form_run_lem}

abbrev room_for : (H : ℕ) (lent : Tables) → List ℕ → Reading (List Row)
room_for H lent text = timetable_of H (length lent.legs / leg_width) (length lent.configurations / configuration_width) text

-- 2: the text is too long
long_text : (H : ℕ) (lent : Tables) (text : List ℕ) → most_text < length text → room_for H lent text ≡ refused (refusal too_long timetable_file 0)
unfolding timetable_of csv_of
long_text H lent text h = rw (lt-leb (length text) most_text h)

pub read_long : (H : ℕ) (lent now : Tables) (text : List ℕ) → most_text < length text → ReadAs H text lent (Err (fault_at too_long 0)) now
read_long H lent now text h =
    record { answers = rw (long_text H lent text h); fills = rw (long_text H lent text h) tt }

-- before the first byte
abbrev first : Reached
first = in_header 0 (on bare (names_start timetable_names))

-- else what the machine of the text reaches
by_bytes : (H : ℕ) (lent : Tables) (text : List ℕ) → length text ≤ most_text
    → room_for H lent text ≡ reached_end H timetable_file (draft_room lent) (fold (drafted H lent) first text)
unfolding timetable_of reach reached_end
by_bytes H lent text h = text_by_bytes (contents H timetable_file (draft_room lent)) refl form_of form_run_lem (λ before. refl) text h

-- ---- a row that has no byte yet is a row at its start

abbrev Fresh : Reached → Type 0
Fresh (in_header k m) = Unit {0}
Fresh (in_row place n before m) = (place ≤ n) × (place ≡ n → m ≡ on bare start)
Fresh (broken k place) = Unit {0}
Fresh (stopped k place) = Unit {0}

module _ (H : ℕ) (lent : Tables) where
  fresh_head : (n : ℕ) (k : Option (Marked Named)) → Fresh (on_head (machine H timetable_file (draft_room lent)) n k)
  fresh_head n None = tt
  fresh_head n (Some k) = tt

  fresh-byte : (place n : ℕ) (before : List Row) (o : Option (Marked Open)) → place ≤ n → Fresh (on_byte (machine H timetable_file (draft_room lent)) place n before o)
  fresh-byte place n before None h = tt
  fresh-byte place n before (Some o) h = (omega arith, λ e. absurd (omega arith))

  fresh-line : (place n : ℕ) (before : List Row) (j : Judged Row) → Fresh (on_line (machine H timetable_file (draft_room lent)) place n before j)
  fresh-line place n before (wrong k) = tt
  fresh-line place n before (right r) = (omega arith, λ e. refl)

  fresh_step : (p : Reached) (b : ℕ) → Fresh p → Fresh (drafted H lent p b)
  unfolding reach
  fresh_step (in_header n k) b h = go (eqb b line_feed) (is_some (mark_close name_step name_close name_begins k))
    where
      go : (t c : Bool) → Fresh (cond t (cond c (in_row (suc n) (suc n) [] (on bare start)) (stopped Rattle.rules.specs.Answers.bad_header 0))
          (on_head (machine H timetable_file (draft_room lent)) n (mark_step name_step name_close name_begins k b)))
      go true true = (omega arith, λ e. refl)
      go true false = tt
      go false c = fresh_head n (mark_step name_step name_close name_begins k b)
  fresh_step (in_row place n before m) b h = go (eqb b line_feed)
    where
      go : (t : Bool)
          → Fresh (cond t (on_line (machine H timetable_file (draft_room lent)) place n before (judge_form H (draft_room lent) before (mark_close open_step open_end open_begins m)))
          (on_byte (machine H timetable_file (draft_room lent)) place n before (mark_step open_step open_end open_begins m b)))
      go true = fresh-line place n before (judge_form H (draft_room lent) before (mark_close open_step open_end open_begins m))
      go false = fresh-byte place n before (mark_step open_step open_end open_begins m b) h.0
  fresh_step (broken k place) b h = go (eqb b line_feed)
    where
      go : (t : Bool) → Fresh (cond t (stopped k place) (broken k place))
      go true = tt
      go false = tt
  fresh_step (stopped k place) b h = tt

  fresh : (s : List ℕ) (p : Reached) → Fresh p → Fresh (fold (drafted H lent) p s)
  fresh [] p h = h
  fresh (b ∷ s) p h = fresh s (drafted H lent p b) (fresh_step p b h)

  -- the tables of what is reached
  tabled : (reader : Reader) (now : Tables) (p : Reached) → Fresh p → Stands H lent reader now p → Tabled lent (reached_end H timetable_file (draft_room lent) p) now
  unfolding reached_end
  tabled reader now (in_header k m) f h = tt
  tabled reader now (broken k place) f h = tt
  tabled reader now (stopped k place) f h = tt
  tabled reader now (in_row place n before m) f h = go (eqb place n) refl
    where
      filled : h.0 ≡ start → Filled lent before now
      filled e =
          let g : InLine H lent reader.line now place before [] [] [] = rw e at h.4 in
          record {
            legs_filled = g.rowed.legs_are_lem;
            configurations_filled =
                g.kept refl (omega arith) (omega (arith, g.rowed.configurations_fit))
                ∙ ap (λ (l : List Configuration). over (flat configuration_numbers l) lent.configurations) (append-nil (configurations_of before));
          }

      go : (t : Bool) → eqb place n ≡ t → Tabled lent (cond t (good before) (refused (refusal bad_row timetable_file place))) now
      go true e = filled (sym (inside_marked reader.mark h.0) ∙ ap inside (sym h.2 ∙ f.1 (eqb-true place n e)))
      go false e = tt

-- a whole text is one part, from the start to the end
pub read_fed : (H : ℕ) (lent now : Tables) (text : List ℕ) (reader reader' : Reader) (answer : Result Rows Fault) → Fits w32 H → length text ≤ most_text
    → (reader.read ≡ 0) × (reader.head ≡ 0) × (reader.mark ≡ Bare) × (reader.number ≡ Empty) × (reader.line ≡ first_line) → Fed H reader text reader' lent now → Finished reader' answer
    → ReadAs H text lent answer now
read_fed H lent now text reader reader' answer fits short begun fed finished =
    let horizon : H ≤ most_held = omega (arith, fits.fits) in
    let at : Reached = fold (drafted H lent) first text in
    let begins : Stands H lent reader lent first = rw (begun.0, begun.1, begun.2, begun.3, begun.4) (refl, refl, omega arith, refl, refl, refl, horizon) in
    let last : Stands H lent reader' now at = fed.feeds lent first begins in
    record {
      answers = rw (by_bytes H lent text short) (finished.finishes H lent now at last);
      fills = rw (by_bytes H lent text short) (tabled H lent reader' now at (fresh H lent text first tt) last);
    }

-- A whole text: what it is read as is what the definitions say. Assumes nothing.
use Rattle.std.specs.Prelude.{Result, Ok, Err}
use Prim.Native.Nat.{ℕ, ◌/◌, ◌≤◌, ◌<◌}
use mathlib.Core.Path.{◌≡◌, refl, sym, ◌∙◌}
use mathlib.Core.Bool.{Bool, true, false, cond}
use mathlib.Core.List.{List}
use native.Mathlib.Omega.{arith}
use lib.Dec.{eqb}
use lib.ListN.{length}
use lib.IntN.{ℤ}
use borrow.Author.Tests.{eq-eqb, ne_eqb, lt-leb}
use Rattle.rules.specs.Limits.{most_text, profile_width}
use Rattle.rules.specs.Lists.{over}
use Rattle.rules.specs.Answers.{refused, good, refusal, too_long, bad_header, bad_row, profiles_file}
use Rattle.rules.specs.Rows.{csv_of}
use Rattle.rules.specs.Profiles.{Curve, profiles_of, form_of, sample_table}
use Rattle.csv_machine.specs.Fold.{fold}
use Rattle.csv_machine.specs.Machine.{in_row as row_at, begun, Faulty, is_broken, is_stopped}
use Rattle.csv_machine.proofs.Contents.{text_by_bytes}
use Rattle.csv_marks.specs.declared.Mark.{Mark}
use Rattle.csv_marks.specs.declared.Mark.TheVariants.{Bare}
use Rattle.csv_marks.specs.Turns.{marked}
use Rattle.profiles_row.specs.declared.number.Number.{Number}
use Rattle.profiles_row.specs.declared.row.Past.{Past}
use Rattle.profiles_row.specs.declared.row.Listed.{Listed}
use Rattle.profiles_row.specs.declared.sample.Tail.{Tail}
use Rattle.profiles_state.specs.declared.state.State.{State}
use Rattle.profiles_state.specs.declared.state.State.TheVariants.{Id, Whole, Fraction, Stopped}
use Rattle.profiles.specs.declared.reader.Reader.{Reader}
use Rattle.profiles.specs.declared.reader.Rows.{Rows}
use Rattle.rules.specs.declared.answers.Refusal.{Refusal}
use Rattle.profiles_state.specs.Open.{Open, in_id, Reached, Read, contents, machine, read, read_end}
use Rattle.profiles_row.specs.Row.{profile_table}
use Rattle.profiles_state.specs.Holds.{Holds, in_id_lem, in_whole, in_fraction, at_stop, Under}
use Rattle.profiles.specs.Feeds.{Held, in_header_lem, in_rows, Feeds, Alive}
use Rattle.profiles.specs.Reads.{rows_of, Starts, Finishes, Reads}
use Rattle.profiles_state.proofs.Fields.{form_run_lem}

-- the profiles of a text, or its first fault in file order, byte by byte
pub profiles_by_bytes : (profiles samples : ℕ) (s : List ℕ) → length s ≤ most_text
    → profiles_of profiles samples s ≡ read_end profiles samples (fold (read profiles samples) (begun (machine profiles samples)) s)
unfolding profiles_of read read_end
profiles_by_bytes profiles samples s h = text_by_bytes (contents profiles samples) refl form_of form_run_lem (λ before. refl) s h

too_long_lem : (profiles samples : ℕ) (s : List ℕ) → most_text < length s → profiles_of profiles samples s ≡ refused (refusal too_long profiles_file 0)
unfolding profiles_of csv_of
too_long_lem profiles samples s h = rw (lt-leb (length s) most_text h)

-- ---- start

pub starts : Starts (record { next = 0; head = 0; mark = Bare; state = Stopped bad_header 0 })
starts = record { place = refl; no_head = refl; nothing = λ profiles samples. in_header_lem refl (omega arith) refl refl refl }

pub started : {reader : Reader} (profiles : List ℕ) (samples : List ℤ) → Starts reader → Alive reader profiles samples
started profiles samples s h = absurd (omega (arith, s.no_head))

-- ---- finish

abbrev Ended : (next : ℕ) → Mark → State → Result Rows Refusal → Type 0
Ended next mark state r =
    (profiles₀ profiles : List ℕ) (samples₀ samples : List ℤ) (text : Read) (c : Reached) → Holds profiles₀ samples₀ next state profiles samples c → Under mark c text
    → r ≡ rows_of (read_end (length profiles₀ / profile_width) (length samples₀) text)

module _ {reader : Reader} {r : Result Rows Refusal} where
  -- in the header the state is its fault; past it the text stands for what is read
  ended : (state : State) → reader.state ≡ state → (state ≡ Stopped bad_header 0 → r ≡ Err (refusal bad_header profiles_file 0)) → Ended reader.next reader.mark state r
      → Finishes reader r
  unfolding read_end
  ended state e h f profiles₀ profiles samples₀ samples text (in_header_lem t k q p s) = rw t (h (sym e ∙ q))
  ended state e h f profiles₀ profiles samples₀ samples text (in_rows k s) = f profiles₀ profiles samples₀ samples text s.contents (rw e at s.holds) s.under

  -- a row lacks its LF
  pub finish_id : (past : Past) (n : Number) → reader.state ≡ Id past n → (past.place ≡ reader.next → ⊥) → r ≡ Err (refusal bad_row profiles_file past.place) → Finishes reader r
  unfolding read_end
  finish_id past n s q e = ended (Id past n) s (λ z. let y : ◌≡◌ {A = ℕ} 0 1 = cc in absurd (omega arith)) go
    where
      go : Ended reader.next reader.mark (Id past n) r
      go profiles₀ profiles samples₀ samples text c (in_id_lem h k w x) u = rw (u, ne_eqb past.place reader.next q) e

  pub finish_whole : (past : Past) (l : Listed) (negative : Bool) (n : Number) → reader.state ≡ Whole past l negative n → r ≡ Err (refusal bad_row profiles_file past.place)
      → Finishes reader r
  unfolding read_end
  finish_whole past listed negative n s e = ended (Whole past listed negative n) s (λ z. let y : ◌≡◌ {A = ℕ} 0 1 = cc in absurd (omega arith)) go
    where
      go : Ended reader.next reader.mark (Whole past listed negative n) r
      go profiles₀ profiles samples₀ samples text c (in_whole k g x) u = rw (u, ne_eqb past.place reader.next (λ q. omega (arith, g.under_way))) e

  pub finish_fraction : (past : Past) (l : Listed) (t : Tail) → reader.state ≡ Fraction past l t → r ≡ Err (refusal bad_row profiles_file past.place) → Finishes reader r
  unfolding read_end
  finish_fraction past listed t s e = ended (Fraction past listed t) s (λ z. let y : ◌≡◌ {A = ℕ} 0 1 = cc in absurd (omega arith)) go
    where
      go : Ended reader.next reader.mark (Fraction past listed t) r
      go profiles₀ profiles samples₀ samples text c (in_fraction k g d) u = rw (u, ne_eqb past.place reader.next (λ q. omega (arith, g.under_way))) e

  pub finish_stopped : (number place : ℕ) → reader.state ≡ Stopped number place → r ≡ Err (refusal number profiles_file place) → Finishes reader r
  unfolding read_end
  finish_stopped number place s e =
      ended (Stopped number place) s (λ z. let a : number ≡ bad_header = cc in let b : place ≡ 0 = cc in e ∙ (rw (a, b))) go
    where
      faulty : (profiles samples : ℕ) (text : Read) → Faulty number place text → r ≡ rows_of (read_end profiles samples text)
      faulty profiles samples text is_broken = e
      faulty profiles samples text is_stopped = e

      go : Ended reader.next reader.mark (Stopped number place) r
      go profiles₀ profiles samples₀ samples text c at_stop u = faulty (length profiles₀ / profile_width) (length samples₀) text u

-- all is read
pub finish_all : {reader : Reader} (past : Past) (n : Number) → reader.state ≡ Id past n → past.place ≡ reader.next → Finishes reader (Ok (record { profiles = past.profiles; samples = past.samples }))
unfolding read_end
finish_all {reader} past n s q = ended {reader = reader} (Id past n) s (λ z. let y : ◌≡◌ {A = ℕ} 0 1 = cc in absurd (omega arith)) go
  where
    go : Ended reader.next reader.mark (Id past n) (Ok (record { profiles = past.profiles; samples = past.samples }))
    go profiles₀ profiles samples₀ samples text c (in_id_lem h k w x) u = rw (u, eq-eqb past.place reader.next q, k.counted, k.summed)

-- ---- the tables

abbrev Tabled : List ℕ → List ℕ → List ℤ → List ℤ → List Curve → Type 0
Tabled profiles₀ profiles samples₀ samples curves = (profiles ≡ over (profile_table curves) profiles₀) × (samples ≡ over (sample_table curves) samples₀)

row-over : (profiles samples : ℕ) (curves : List Curve) (mark : Mark) (place next : ℕ) (before : List Curve) (o : Open) (text : Read) → text ≡ row_at place next before (marked mark o)
    → read_end profiles samples text ≡ good curves → cond (eqb place next) (good before) (refused (refusal bad_row profiles_file place)) ≡ good curves
unfolding read_end
row-over profiles samples curves mark place next before o text t e = rw t at e

none_over : (profiles samples : ℕ) (curves : List Curve) {k place : ℕ} (text : Read) → Faulty k place text → read_end profiles samples text ≡ good curves → ⊥
unfolding read_end
none_over profiles samples curves text is_broken e = let z : ◌≡◌ {A = ℕ} 0 1 = cc in omega arith
none_over profiles samples curves text is_stopped e = let z : ◌≡◌ {A = ℕ} 0 1 = cc in omega arith

module _ {profiles₀ profiles : List ℕ} {samples₀ samples : List ℤ} (curves : List Curve) where
  -- where all is read, the entries stand at the front, and the other room is as it was lent
  rows_whole : {next : ℕ} {state : State} (mark : Mark) (text : Read) (c : Reached) → Holds profiles₀ samples₀ next state profiles samples c → Under mark c text
      → read_end (length profiles₀ / profile_width) (length samples₀) text ≡ good curves → Tabled profiles₀ profiles samples₀ samples curves
  rows_whole {next} mark text c (in_id_lem {past = past} {before = before} {m = m} h k w x) u e = go (eqb past.place next) (row-over (length profiles₀ / profile_width) (length samples₀) curves mark past.place next before (in_id m) text u e)
    where
      go : (t : Bool) → cond t (good before) (refused (refusal bad_row profiles_file past.place)) ≡ good curves → Tabled profiles₀ profiles samples₀ samples curves
      go true q = let same : before ≡ curves = cc in (rw same at k.entered, rw same at w)
      go false q = ((cc), (cc))
  rows_whole {next} mark text c (in_whole {past = past} {before = before} k g x) u e =
      let q : eqb past.place next ≡ false = ne_eqb past.place next (λ z. omega (arith, g.under_way)) in
      let f = rw q at (row-over (length profiles₀ / profile_width) (length samples₀) curves mark past.place next before _ text u e) in ((cc), (cc))
  rows_whole {next} mark text c (in_fraction {past = past} {before = before} k g d) u e =
      let q : eqb past.place next ≡ false = ne_eqb past.place next (λ z. omega (arith, g.under_way)) in
      let f = rw q at (row-over (length profiles₀ / profile_width) (length samples₀) curves mark past.place next before _ text u e) in ((cc), (cc))
  rows_whole mark text c at_stop u e = absurd (none_over (length profiles₀ / profile_width) (length samples₀) curves text u e)

  pub read_whole : {next head : ℕ} {mark : Mark} {state : State} {text : Read} → Held profiles₀ samples₀ next head mark state profiles samples text
      → read_end (length profiles₀ / profile_width) (length samples₀) text ≡ good curves → Tabled profiles₀ profiles samples₀ samples curves
  unfolding read_end
  read_whole (in_header_lem t k q p s) e = let f = rw t at e in ((cc), (cc))
  read_whole {mark = mark} {text = text} (in_rows k s) e = rows_whole mark text s.contents s.holds s.under e

-- ---- the whole text

pub reads_long : (text profiles : List ℕ) (samples : List ℤ) (r : Result Rows Refusal) → most_text < length text → r ≡ Err (refusal too_long profiles_file 0) → Reads text profiles samples r profiles samples
reads_long text profiles samples r h e =
    let long = too_long_lem (length profiles / profile_width) (length samples) text h in
    record {
      answer = rw long e;
      profile_table_lem = λ curves q. (cc);
      sample_table_lem = λ curves q. (cc);
    }

pub reads_text : {text profiles₀ profiles : List ℕ} {samples₀ samples : List ℤ} {started reader : Reader} {r : Result Rows Refusal} → length text ≤ most_text → Starts started
    → Feeds started profiles₀ samples₀ text reader profiles samples → Finishes reader r → Reads text profiles₀ samples₀ r profiles samples
reads_text {text} {profiles₀} {profiles} {samples₀} {samples} {started} {reader} {r} h starts feeds finishes =
    let held = feeds.reads profiles₀ samples₀ (begun (machine (length profiles₀ / profile_width) (length samples₀))) (starts.nothing profiles₀ samples₀) in
    let same = profiles_by_bytes (length profiles₀ / profile_width) (length samples₀) text h in
    record {
      answer = rw same (finishes profiles₀ profiles samples₀ samples _ held);
      profile_table_lem = λ curves q. (read_whole curves held (sym same ∙ q)).0;
      sample_table_lem = λ curves q. (read_whole curves held (sym same ∙ q)).1;
    }

pub ruleset texts = (starts, started, finish_id, finish_whole, finish_fraction, finish_stopped, finish_all, reads_long, reads_text)

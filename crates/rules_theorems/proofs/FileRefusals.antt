-- What the reading of each file can refuse: its own file, with a number of its line in specs/Cases.antt. Assumes nothing.
use Prim.Native.Nat.{ℕ, suc, ◌+◌}
use mathlib.Core.Bool.{Bool, true, false, cond, ◌&&◌, ◌||◌}
use mathlib.Core.List.{List, [], ◌∷◌, ◌++◌}
use lib.Dec.{T, leb, eqb}
use lib.ListN.{length}
use Rattle.rules.specs.Limits.{least_horizon, most_horizon, most_text}
use Rattle.rules.specs.Lists.{every}
use Rattle.std.specs.Prelude.{is_some, Option, Some, None}
use Rattle.rules.specs.Answers.{
  bad_horizon,
  too_long,
  bad_header,
  bad_row,
  bad_json,
  differs,
  unknown_edition,
  refusal,
  Reading,
  refused,
  good,
  ◌>>=◌,
  Test,
  Judged,
  wrong,
  right,
  judge,
}
use Rattle.rules.specs.Bytes.{line_feed, split_on, less_return}
use Rattle.rules.specs.Rows.{heads, on_row, last_line, rows_from, headed, csv_of, place_of_row, first_fault, or_else, passed}
use Rattle.rules.specs.Timetable.{Row, row_tests, judge_form, form_of, row_of, draft_fits, solution_fits, timetable_names, timetable_of, solution_of}
use Rattle.rules.specs.Profiles as Profiles
use Rattle.rules.specs.Profiles.{Curve, profiles_names, profiles_of, curve_of, lasts, profile_fault}
use Rattle.rules.specs.Kinds.{table_edition, example_edition, subnets, first_leg, second_leg, connection_type, subnet_id, track_ids}
use Rattle.rules.specs.Tokens.{Token, tokens_of}
use Rattle.rules.specs.Constraints.{
  Document,
  Turn,
  fault,
  on,
  finish,
  requires,
  empty,
  start as begin,
  action_of,
  list_name,
  document_ends,
  record_opens,
  key_name,
  record_ends,
  string_value,
  string_cut,
  leg_value,
  subnet_value,
  seconds_value,
  number_value,
  tracks_open,
  track_number,
  act,
  turn_of,
  onward,
  run,
  constraints_of,
  subnet_of,
  subnet_fault,
}
use Rattle.rules.specs.Stated.{rules_by, known}
use Rattle.rules.specs.Reading.{Rooms, Texts, Files, files_of, leg_ids, differs_from, matched, choices_read}
use Rattle.rules.specs.Verdict.{All}
use Rattle.rules.specs.declared.stated.Stated.{Stated}
use Rattle.rules.specs.declared.sizes.Track.{Track}
use Rattle.rules.specs.declared.answers.Refusal.{Refusal}
use Rattle.rules.specs.declared.tokens.Action.{Action}
use Rattle.rules.specs.declared.tokens.Action.TheVariants.{Broken, Early, Goes, ListName, DocumentEnds, RecordOpens, KeyName, RecordEnds, StringValue, StringCut, NumberValue, TracksOpen, TrackNumber, Finishes}
use Rattle.rules.specs.declared.tokens.Rules.{Rules}
use Rattle.rules.specs.declared.tokens.State.{State}
use Rattle.rules_theorems.specs.Cases.{Line, among, stated_line, timetable_line, profiles_line, constraints_line, solution_line}

-- ---- what is known of a refusal

-- a reading that, if it refuses, gives a refusal of which P holds
pub data Refuses {A : Type 0} (P : Refusal → Type 0) : Reading A → Type 0 where
  refuses : {r : Refusal} → P r → Refuses P (refused r)
  reads : {a : A} → Refuses P (good a)

-- P holds of every refusal of a line
pub record Allows (P : Refusal → Type 0) (l : Line) : Type 0 where
  pub at_start : (n : ℕ) → T (among n l.at_start) → P (refusal n l.file 0)
  pub at_place : (n place : ℕ) → T (among n l.inside) → P (refusal n l.file place)

-- a number that falls on a row or a token of a line's file
abbrev In : Line → ℕ → Type 0
In l n = T (among n l.inside)

either : {A : Type 0} (Q : A → Type 0) (b : Bool) {x y : A} → Q x → Q y → Q (cond b x y)
either Q true p q = p
either Q false p q = q

pub then : {A B : Type 0} {P : Refusal → Type 0} {m : Reading A} {k : A → Reading B} → Refuses P m → ((a : A) → Refuses P (k a)) → Refuses P (m >>= k)
then (refuses p) q = refuses p
then (reads {a}) q = q a

-- ---- numbered tests give one of their numbers

abbrev Wrongs : {A : Type 0} → (ℕ → Type 0) → Judged A → Type 0
Wrongs Q (wrong n) = Q n
Wrongs Q (right a) = Unit {0}

judged : {A : Type 0} (Q : ℕ → Type 0) (ts : List Test) (x : A) → All (λ t. Q t.number) ts → Wrongs Q (judge ts x)
judged Q [] x q = tt
judged Q (t ∷ ts) x q = either (Wrongs Q) t.holds (judged Q ts x q.1) q.0

abbrev Faults : (ℕ → Type 0) → Turn → Type 0
Faults Q (fault n place) = Q n
Faults Q (on st d) = Unit {0}
Faults Q (finish st d) = Unit {0}

required : (Q : ℕ → Type 0) (ts : List Test) (t : Token) (next : Turn) → All (λ x. Q x.number) ts → Faults Q next → Faults Q (requires ts t next)
required Q [] t next q n = n
required Q (x ∷ ts) t next q n = either (Faults Q) x.holds (required Q ts t next q.1 n) q.0

-- ---- a CSV text, by what its rows can give

module _ {P : Refusal → Type 0} {A : Type 0} (l : Line) (allows : Allows P l) (row_of : List A → List ℕ → Judged A) (form : In l bad_row) (row : (before : List A) (s : List ℕ) → Wrongs (In l) (row_of before s)) where
  on_row_lem : (place : ℕ) (j : Judged A) (more : A → Reading (List A)) → Wrongs (In l) j → ((a : A) → Refuses P (more a)) → Refuses P (on_row l.file row_of place j more)
  on_row_lem place (wrong n) more w q = refuses (allows.at_place n place w)
  on_row_lem place (right a) more w q = q a

  last_line_lem : (place : ℕ) (before : List A) (s : List ℕ) → Refuses P (last_line l.file row_of place before s)
  last_line_lem place before [] = reads
  last_line_lem place before (b ∷ s) = refuses (allows.at_place bad_row place form)

  rows_from_lem : (place : ℕ) (before : List A) (lines : List (List ℕ)) → Refuses P (rows_from l.file row_of place before lines)
  rows_from_lem place before [] = reads
  rows_from_lem place before (s ∷ []) = last_line_lem place before s
  rows_from_lem place before (s ∷ t ∷ lines) =
      on_row_lem place (row_of before (less_return s)) _ (row before (less_return s)) (λ a. rows_from_lem (place + length s + 1) (before ++ a ∷ []) (t ∷ lines))

  -- a CSV text's refusal has its file, and 2, 3, 4 or a number that the tests of a row can give
  lines_from : (names lines : List (List ℕ)) → T (among bad_header l.at_start) → Refuses P (headed l.file row_of names lines)
  lines_from names [] head = refuses (allows.at_start bad_header head)
  lines_from names (s ∷ []) head = refuses (allows.at_start bad_header head)
  lines_from names (s ∷ t ∷ lines) head =
      either (Refuses P) (heads names s) (rows_from_lem (length s + 1) [] (t ∷ lines)) (refuses (allows.at_start bad_header head))

  csv-refuses : (names : List (List ℕ)) (s : List ℕ) → T (among too_long l.at_start) → T (among bad_header l.at_start) → Refuses P (csv_of l.file row_of names s)
  unfolding csv_of
  csv-refuses names s long head =
      either (Refuses P) (leb (length s) most_text) (lines_from names (split_on line_feed s) head) (refuses (allows.at_start too_long long))

-- ---- timetable, solution, profiles

row_wrongs : (H : ℕ) (fits : List Row → Row → Bool) (Q : ℕ → Type 0) (before : List Row) (o : Option Row) → Q bad_row → ((r : Row) → All (λ t. Q t.number) (row_tests H fits before r)) → Wrongs Q (judge_form H fits before o)
row_wrongs H fits Q before None form tests = form
row_wrongs H fits Q before (Some r) form tests = judged Q (row_tests H fits before r) r (tests r)

curve_wrongs : (profiles samples : ℕ) (before : List Curve) (o : Option Curve) → Wrongs (In profiles_line) (Profiles.judge_form profiles samples before o)
curve_wrongs profiles samples before None = tt
curve_wrongs profiles samples before (Some c) = judged (In profiles_line) (Profiles.row_tests profiles samples before c) c (tt, (tt, (tt, (tt, tt))))

module _ {P : Refusal → Type 0} where
  pub timetable-refuses : (H legs configurations : ℕ) (s : List ℕ) → Allows P timetable_line → Refuses P (timetable_of H legs configurations s)
  unfolding timetable_of
  timetable-refuses H legs configurations s allows =
      csv-refuses timetable_line allows (row_of H (draft_fits legs configurations)) tt
      (λ before line. row_wrongs H (draft_fits legs configurations) (In timetable_line) before (form_of line) tt (λ r. (tt, (tt, (tt, (tt, (tt, tt)))))))
      timetable_names
      s
      tt
      tt

  solution-refuses : (H file choices : ℕ) (s : List ℕ) → Allows P (solution_line file) → Refuses P (solution_of H file choices s)
  unfolding solution_of
  solution-refuses H file choices s allows =
      csv-refuses (solution_line file) allows (row_of H (solution_fits choices)) tt
      (λ before line. row_wrongs H (solution_fits choices) (In (solution_line file)) before (form_of line) tt (λ r. (tt, (tt, (tt, (tt, (tt, tt)))))))
      timetable_names
      s
      tt
      tt

  profiles_refuse : (profiles samples : ℕ) (s : List ℕ) → Allows P profiles_line → Refuses P (profiles_of profiles samples s)
  unfolding profiles_of
  profiles_refuse profiles samples s allows =
      csv-refuses profiles_line allows (Profiles.row_of profiles samples) tt
      (λ before line. curve_wrongs profiles samples before (Profiles.form_of line))
      profiles_names
      s
      tt
      tt

-- ---- 12 and 13, 15, 14

abbrev Gives : (ℕ → Type 0) → Option ℕ → Type 0
Gives Q None = Unit {0}
Gives Q (Some n) = Q n

profile_fault_lem : (curves : List Curve) (r : Row) → Gives (In timetable_line) (profile_fault curves r)
profile_fault_lem curves r =
    either (Gives (In timetable_line)) (every (λ c. is_some (curve_of curves c.profile)) r.list)
    (either (Gives (In timetable_line)) (every (λ c. lasts c.travel (curve_of curves c.profile)) r.list) tt tt)
    tt

subnet_fault_lem : (tracks : List Track) (r : Row) → Gives (In timetable_line) (subnet_fault tracks r)
subnet_fault_lem tracks r = either (Gives (In timetable_line)) (is_some (subnet_of tracks r.track)) tt tt

module _ {P : Refusal → Type 0} (l : Line) (allows : Allows P l) where
  -- a test over a text's rows gives one of its numbers
  passed-refuses : {A B : Type 0} (text : List ℕ) (n : ℕ) (test : A → Option ℕ) (rows : List A) (x : B) → ((a : A) → Gives (In l) (test a)) → Refuses P (passed l.file text (first_fault n test rows) x)
  passed-refuses text n test [] x q = reads
  passed-refuses text n test (a ∷ rows) x q = go (test a) (q a) (passed-refuses text (suc n) test rows x q)
    where
      go : (o : Option ℕ) → Gives (In l) o → Refuses P (passed l.file text (first_fault (suc n) test rows) x) → Refuses P (passed l.file text (or_else n o (first_fault (suc n) test rows)) x)
      go None g later = later
      go (Some k) g later = refuses (allows.at_place k (place_of_row text n) g)

  matched-refuses : (o : Option ℕ) (rows : List Row) → In l differs → Refuses P (matched l.file o rows)
  matched-refuses None rows d = reads
  matched-refuses (Some place) rows d = refuses (allows.at_place differs place d)

-- ---- constraints.json: each action's numbers

module _ (legs : List ℕ) (constraints tracks : ℕ) where
  number_faults : (st : State) (d : Document) (t : Token) → Faults (In constraints_line) (number_value legs constraints tracks st d t)
  unfolding number_value leg_value subnet_value seconds_value
  number_faults st d t =
      either (Faults (In constraints_line)) (eqb st.key connection_type || eqb st.key track_ids) tt
      (either (Faults (In constraints_line)) (eqb st.key first_leg || eqb st.key second_leg) (search required)
      (either (Faults (In constraints_line)) (eqb st.key subnet_id) (search required)
      (search required)))

  act_faults : (a : Action) (st : State) (d : Document) (t : Token) → Faults (In constraints_line) (act legs constraints tracks a st d t)
  unfolding act list_name document_ends record_opens key_name record_ends string_value string_cut tracks_open track_number
  act_faults Broken st d t = tt
  act_faults Early st d t = tt
  act_faults (Goes p) st d t = tt
  act_faults ListName st d t = search required
  act_faults DocumentEnds st d t = search required
  act_faults RecordOpens st d t = either (Faults (In constraints_line)) (eqb st.list subnets) (search required) (search required)
  act_faults KeyName st d t = search required
  act_faults RecordEnds st d t = search required
  act_faults StringValue st d t = search required
  act_faults StringCut st d t = tt
  act_faults NumberValue st d t = number_faults st d t
  act_faults TracksOpen st d t = search required
  act_faults TrackNumber st d t = search required depth 8
  act_faults Finishes st d t = tt

  module _ {P : Refusal → Type 0} (allows : Allows P constraints_line) where
    onward-refuses : (u : Turn) (more : State → Document → Reading Document) → Faults (In constraints_line) u → ((st : State) (d : Document) → Refuses P (more st d)) → Refuses P (onward legs constraints tracks u more)
    onward-refuses (fault n place) more f q = refuses (allows.at_place n place f)
    onward-refuses (on st d) more f q = q st d
    onward-refuses (finish st d) more f q = reads

    run-refuses : (st : State) (d : Document) (ts : List Token) → Refuses P (run legs constraints tracks st d ts)
    unfolding run turn_of
    run-refuses st d [] = refuses (allows.at_place bad_json 0 tt)
    run-refuses st d (t ∷ ts) =
        onward-refuses (turn_of legs constraints tracks st d t) _ (act_faults (action_of st.phase t.class) st d t) (λ st d. run-refuses st d ts)

    pub constraints_refuse : (rules : Rules) (s : List ℕ) → Refuses P (constraints_of legs constraints tracks rules s)
    unfolding constraints_of
    constraints_refuse rules s =
        either (Refuses P) (leb (length s) most_text) (run-refuses (begin rules) empty (tokens_of s)) (refuses (allows.at_start too_long tt))

-- ---- all files in order

pub record AllowsFiles (P : Refusal → Type 0) : Type 0 where
  pub stated : Allows P stated_line
  pub timetable : Allows P timetable_line
  pub profiles : Allows P profiles_line
  pub constraints : Allows P constraints_line

known-refuses : {P : Refusal → Type 0} (S : Stated) → Allows P stated_line → Refuses P (known S)
unfolding known
known-refuses {P} S allows =
    then (either (Refuses P) (leb least_horizon S.horizon && leb S.horizon most_horizon) reads (refuses (allows.at_start bad_horizon tt)))
    (λ horizon. then (either (Refuses P) (eqb S.edition table_edition || eqb S.edition example_edition) reads (refuses (allows.at_start unknown_edition tt)))
    (λ edition. reads))

pub files_refuse : {P : Refusal → Type 0} (S : Stated) (x : Texts) (room : Rooms) → AllowsFiles P → Refuses P (files_of S x room)
unfolding files_of
files_refuse S x room allows =
    then (known-refuses S allows.stated)
    (λ within. then (timetable-refuses S.horizon _ _ x.timetable allows.timetable)
    (λ rows. then (profiles_refuse _ _ x.profiles allows.profiles)
    (λ curves. then (passed-refuses timetable_line allows.timetable x.timetable 0 (profile_fault curves) rows rows (profile_fault_lem curves))
    (λ powered. then (constraints_refuse (leg_ids rows) _ _ allows.constraints (rules_by S) x.constraints)
    (λ document. then (passed-refuses timetable_line allows.timetable x.timetable 0 (subnet_fault document.tracks) rows rows (subnet_fault_lem document.tracks))
    (λ placed. reads))))))

pub choices_refuse : {P : Refusal → Type 0} (H : ℕ) (f : Files) (file room : ℕ) (s : List ℕ) → Allows P (solution_line file) → Refuses P (choices_read H f file room s)
unfolding choices_read
choices_refuse H f file room s allows =
    then (solution-refuses H file _ s allows)
    (λ rows. then (matched-refuses (solution_line file) allows (differs_from 0 s f.rows rows) rows tt)
    (λ same. reads))

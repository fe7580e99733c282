-- What texts say does not depend on the room that was lent: two readings of them that are not refused give the same. Assumes nothing.
use Prim.Native.Nat.{ℕ, ◌+◌, ◌/◌, ◌≤◌}
use mathlib.Core.Path.{◌≡◌, refl, ap, sym, ◌∙◌}
use mathlib.Core.Bool.{Bool, true, false, not, cond}
use mathlib.Core.List.{List, [], ◌∷◌, ◌++◌}
use lib.Dec.{leb, ltb, eqb}
use lib.ListN.{length}
use Rattle.rules.specs.Limits.{most_text, most_id, most_constraints, most_tracks, configuration_width}
use Rattle.rules.specs.Lists.{any}
use Rattle.rules.specs.Kinds.{subnets}
use Rattle.rules.specs.Answers.{Reading, good, Judged, wrong, right, timetable_file, profiles_file, solution_file, second_file}
use Rattle.rules.specs.Bytes.{line_feed, split_on, less_return}
use Rattle.rules.specs.Rows.{heads, on_row, rows_from, headed, csv_of}
use Rattle.rules.specs.Timetable.{Row, row_of, form_of, timetable_names, timetable_of, solution_of, draft_fits, solution_fits, choices_of}
use Rattle.rules.specs.Profiles.{Curve, profiles_names, profiles_of, form_of as curve_form, row_of as curve_row}
use Rattle.rules.specs.Tokens.{Token, tokens_of}
use Rattle.rules.specs.Constraints.{action_of, Document, Turn, fault, on, finish, is_number, number_of, start, empty, list_name, document_ends, record_opens, key_name, record_ends, string_value, string_cut, leg_value, subnet_value, seconds_value, number_value, tracks_open, track_number, act, turn_of, onward, run, constraints_of}
use Rattle.rules.specs.Stated.{rules_by}
use Rattle.rules.specs.Reading.{Rooms, Texts, Files, leg_ids, files_of, choices_read}
use Rattle.rules.specs.Entries.{Whole, all_read, Both, both_read}
use Rattle.rules.specs.declared.stated.Stated.{Stated}
use Rattle.rules.specs.declared.sizes.Configuration.{Configuration}
use Rattle.rules.specs.declared.tokens.Action.{Action}
use Rattle.rules.specs.declared.tokens.Action.TheVariants.{Broken, Early, Goes, ListName, DocumentEnds, RecordOpens, KeyName, RecordEnds, StringValue, StringCut, NumberValue, TracksOpen, TrackNumber, Finishes}
use Rattle.rules.specs.declared.tokens.Rules.{Rules}
use Rattle.rules.specs.declared.tokens.State.{State}
use Rattle.rules_theorems.proofs.GoodText.{never_good, good_test}
use Rattle.rules_theorems.proofs.GoodRows.{form_right, curve_right, timetable_good, solution_good, profiles_good}
use Rattle.rules_theorems.proofs.LawfulRows.{choices_fit}
use Rattle.rules_theorems.proofs.GoodFiles.{files_good, columns_many, choices_good, good_choices, all_good, both_good}
use Rattle.std.specs.Prelude.{Option, Some}

-- ---- CSV: two judges that take a line for the same row, where neither finds it wrong

module _ {A : Type 0} (file : ℕ) (one two : List A → List ℕ → Judged A)
    (alike : (before : List A) (line : List ℕ) (r q : A) → one before line ≡ right r → two before line ≡ right q → r ≡ q) where
  rows_alike : (place : ℕ) (before : List A) (lines : List (List ℕ)) (rs qs : List A)
      → rows_from file one place before lines ≡ good rs → rows_from file two place before lines ≡ good qs → rs ≡ qs
  rows_alike place before [] rs qs e k = cc
  rows_alike place before ([] ∷ []) rs qs e k = cc
  rows_alike place before ((b ∷ line) ∷ []) rs qs e k = never_good _ rs e
  rows_alike place before (line ∷ next ∷ lines) rs qs e k =
      go (one before (less_return line)) (two before (less_return line)) refl refl (λ r. rows_alike (place + length line + 1) (before ++ r ∷ []) (next ∷ lines) rs qs) e k
    where
      more : (List A → List ℕ → Judged A) → A → Reading (List A)
      more judge r = rows_from file judge (place + length line + 1) (before ++ r ∷ []) (next ∷ lines)

      go : (j₁ j₂ : Judged A) → one before (less_return line) ≡ j₁ → two before (less_return line) ≡ j₂ → ((r : A) → more one r ≡ good rs → more two r ≡ good qs → rs ≡ qs)
          → on_row file one place j₁ (more one) ≡ good rs → on_row file two place j₂ (more two) ≡ good qs → rs ≡ qs
      go (wrong n) j₂ is₁ is₂ ih e k = never_good _ rs e
      go (right r) (wrong n) is₁ is₂ ih e k = never_good _ qs k
      go (right r) (right q) is₁ is₂ ih e k = ih r e (rw (alike before (less_return line) r q is₁ is₂) k)

  headed_alike : (names lines : List (List ℕ)) (rs qs : List A) → headed file one names lines ≡ good rs → headed file two names lines ≡ good qs → rs ≡ qs
  headed_alike names [] rs qs e k = never_good _ rs e
  headed_alike names (line ∷ []) rs qs e k = never_good _ rs e
  headed_alike names (line ∷ next ∷ lines) rs qs e k =
      rows_alike (length line + 1) [] (next ∷ lines) rs qs (good_test (heads names line) _ _ rs e).1 (good_test (heads names line) _ _ qs k).1

  csv_alike : (names : List (List ℕ)) (s : List ℕ) (rs qs : List A) → csv_of file one names s ≡ good rs → csv_of file two names s ≡ good qs → rs ≡ qs
  unfolding csv_of
  csv_alike names s rs qs e k =
      let short = leb (length s) most_text in
      headed_alike names (split_on line_feed s) rs qs (good_test short _ _ rs e).1 (good_test short _ _ qs k).1

one_form : {A : Type 0} (o : Option A) (r q : A) → o ≡ Some r → o ≡ Some q → r ≡ q
one_form o r q e k = cc

timetables_alike : (H legs₁ configurations₁ legs₂ configurations₂ : ℕ) (s : List ℕ) (rs qs : List Row)
    → timetable_of H legs₁ configurations₁ s ≡ good rs → timetable_of H legs₂ configurations₂ s ≡ good qs → rs ≡ qs
unfolding timetable_of
timetables_alike H legs₁ configurations₁ legs₂ configurations₂ s rs qs =
    let fits₁ = draft_fits legs₁ configurations₁ in
    let fits₂ = draft_fits legs₂ configurations₂ in
    csv_alike timetable_file (row_of H fits₁) (row_of H fits₂)
    (λ before line r q e k. one_form (form_of line) r q (form_right H fits₁ before (form_of line) r e).0 (form_right H fits₂ before (form_of line) q k).0)
    timetable_names s rs qs

solutions_alike : (H file choices₁ choices₂ : ℕ) (s : List ℕ) (rs qs : List Row)
    → solution_of H file choices₁ s ≡ good rs → solution_of H file choices₂ s ≡ good qs → rs ≡ qs
unfolding solution_of
solutions_alike H file choices₁ choices₂ s rs qs =
    csv_alike file (row_of H (solution_fits choices₁)) (row_of H (solution_fits choices₂))
    (λ before line r q e k.
    one_form (form_of line) r q (form_right H (solution_fits choices₁) before (form_of line) r e).0 (form_right H (solution_fits choices₂) before (form_of line) q k).0)
    timetable_names s rs qs

profiles_alike : (profiles₁ samples₁ profiles₂ samples₂ : ℕ) (s : List ℕ) (rs qs : List Curve)
    → profiles_of profiles₁ samples₁ s ≡ good rs → profiles_of profiles₂ samples₂ s ≡ good qs → rs ≡ qs
unfolding profiles_of
profiles_alike profiles₁ samples₁ profiles₂ samples₂ s rs qs =
    csv_alike profiles_file (curve_row profiles₁ samples₁) (curve_row profiles₂ samples₂)
    (λ before line r q e k.
    one_form (curve_form line) r q (curve_right profiles₁ samples₁ before (curve_form line) r e).0 (curve_right profiles₂ samples₂ before (curve_form line) q k).0)
    profiles_names s rs qs

-- ---- constraints.json: two turns that are the same, unless one of them is a fault

data Alike : Turn → Turn → Type 0 where
  one_faulty : {n p : ℕ} {u : Turn} → Alike (fault n p) u
  two_faulty : {n p : ℕ} {u : Turn} → Alike u (fault n p)
  same : {u : Turn} → Alike u u

-- a test of room, after tests that both make
room_alike : (a b : Bool) (u : Turn) (n p : ℕ) → Alike (cond a u (fault n p)) (cond b u (fault n p))
room_alike true true u n p = same
room_alike true false u n p = two_faulty
room_alike false b u n p = one_faulty

after_test : (b : Bool) (u v w : Turn) → Alike u v → Alike (cond b u w) (cond b v w)
after_test true u v w h = h
after_test false u v w h = same

after_other : (b : Bool) (u v w : Turn) → Alike v w → Alike (cond b u v) (cond b u w)
after_other true u v w h = same
after_other false u v w h = h

module _ (legs : List ℕ) (constraints₁ tracks₁ constraints₂ tracks₂ : ℕ) where
  act_alike : (a : Action) (st : State) (d : Document) (t : Token) → Alike (act legs constraints₁ tracks₁ a st d t) (act legs constraints₂ tracks₂ a st d t)
  unfolding act list_name document_ends record_opens key_name record_ends string_value string_cut leg_value subnet_value seconds_value number_value tracks_open track_number
  act_alike Broken st d t = same
  act_alike Early st d t = same
  act_alike (Goes p) st d t = same
  act_alike ListName st d t = same
  act_alike DocumentEnds st d t = same
  act_alike RecordOpens st d t =
      after_other (eqb st.list subnets) _ _ _
      (after_test (ltb (length d.constraints) most_constraints) _ _ _
      (room_alike (ltb (length d.constraints) constraints₁) (ltb (length d.constraints) constraints₂) _ _ _))
  act_alike KeyName st d t = same
  act_alike RecordEnds st d t = same
  act_alike StringValue st d t = same
  act_alike StringCut st d t = same
  act_alike NumberValue st d t = same
  act_alike TracksOpen st d t = same
  act_alike TrackNumber st d t =
      after_test (is_number t) _ _ _
      (after_test (leb (number_of t) most_id) _ _ _
      (after_test (ltb (length d.tracks) most_tracks) _ _ _
      (after_test (not (any (λ k. eqb k.id (number_of t)) d.tracks)) _ _ _
      (room_alike (ltb (length d.tracks) tracks₁) (ltb (length d.tracks) tracks₂) _ _ _))))
  act_alike Finishes st d t = same

  onward_alike : {u v : Turn} → Alike u v → (one two : State → Document → Reading Document) (c d : Document)
      → ((st : State) (e : Document) → one st e ≡ good c → two st e ≡ good d → c ≡ d)
      → onward legs constraints₁ tracks₁ u one ≡ good c → onward legs constraints₂ tracks₂ v two ≡ good d → c ≡ d
  onward_alike one_faulty one two c d ih e k = never_good _ c e
  onward_alike two_faulty one two c d ih e k = never_good _ d k
  onward_alike (same {u = fault n p}) one two c d ih e k = never_good _ c e
  onward_alike (same {u = on st x}) one two c d ih e k = ih st x e k
  onward_alike (same {u = finish st x}) one two c d ih e k = cc

  run_alike : (ts : List Token) (st : State) (x c d : Document) → run legs constraints₁ tracks₁ st x ts ≡ good c → run legs constraints₂ tracks₂ st x ts ≡ good d → c ≡ d
  unfolding run turn_of
  run_alike [] st x c d e k = never_good _ c e
  run_alike (t ∷ ts) st x c d e k = onward_alike (act_alike (action_of st.phase t.class) st x t) _ _ c d (λ st' x'. run_alike ts st' x' c d) e k

  documents_alike : (rules : Rules) (s : List ℕ) (c d : Document) → constraints_of legs constraints₁ tracks₁ rules s ≡ good c → constraints_of legs constraints₂ tracks₂ rules s ≡ good d → c ≡ d
  unfolding constraints_of
  documents_alike rules s c d e k =
      run_alike (tokens_of s) (start rules) empty c d (good_test (leb (length s) most_text) _ _ c e).1 (good_test (leb (length s) most_text) _ _ d k).1

-- ---- all files

pub files_alike : (S : Stated) (x : Texts) (room₁ room₂ : Rooms) (f g : Files) → files_of S x room₁ ≡ good f → files_of S x room₂ ≡ good g → f ≡ g
files_alike S x room₁ room₂ f g e k =
    let one = files_good S x room₁ f e in
    let two = files_good S x room₂ g k in
    let rows : f.rows ≡ g.rows =
    timetables_alike S.horizon _ _ _ _ x.timetable f.rows g.rows ((timetable_good S.horizon _ _ x.timetable f.rows).1 one.timetable)
    ((timetable_good S.horizon _ _ x.timetable g.rows).1 two.timetable) in
    let curves : f.curves ≡ g.curves =
    profiles_alike _ _ _ _ x.profiles f.curves g.curves ((profiles_good _ _ x.profiles f.curves).1 one.profiles)
    ((profiles_good _ _ x.profiles g.curves).1 two.profiles) in
    let document : f.document ≡ g.document =
    documents_alike (leg_ids f.rows) _ _ _ _ (rules_by S) x.constraints f.document g.document one.constraints
    (rw (← rows) at two.constraints) in
    λ i. record { rows = rows i; curves = curves i; document = document i }

-- choices that were read are read as the same in any room that takes one for each row, whichever file they are
pub choices_anywhere : (H : ℕ) (f : Files) (file₁ file₂ room₁ room₂ : ℕ) (text : List ℕ) (s : List Configuration) → length f.rows ≤ room₂ / configuration_width
    → choices_read H f file₁ room₁ text ≡ good s → choices_read H f file₂ room₂ text ≡ good s
choices_anywhere H f file₁ file₂ room₁ room₂ text s fits e =
    let g = choices_good H f file₁ room₁ text s e in
    good_choices H f file₂ room₂ text s
    (record {
      rows = g.rows;
      solution = record {
        lawful = g.solution.lawful;
        fitting = choices_fit (room₂ / configuration_width) g.rows (rw (columns_many f.rows g.rows g.columns) fits);
        spells = g.solution.spells;
        short = g.solution.short;
      };
      columns = g.columns;
      choices = g.choices;
    })

-- and two readings of them say the same
pub choices_alike : (H : ℕ) (f : Files) (file₁ file₂ room₁ room₂ : ℕ) (text : List ℕ) (s r : List Configuration)
    → choices_read H f file₁ room₁ text ≡ good s → choices_read H f file₂ room₂ text ≡ good r → s ≡ r
choices_alike H f file₁ file₂ room₁ room₂ text s r e k =
    let one = choices_good H f file₁ room₁ text s e in
    let two = choices_good H f file₂ room₂ text r k in
    let rows : one.rows ≡ two.rows =
    solutions_alike H solution_file _ _ text one.rows two.rows ((solution_good H solution_file _ text one.rows).1 one.solution)
    ((solution_good H solution_file _ text two.rows).1 two.solution) in
    sym one.choices ∙ ap choices_of rows ∙ two.choices

-- four texts: what they say is one
pub all_alike : (S : Stated) (x : Texts) (s : List ℕ) (room₁ room₂ : Rooms) (choices₁ choices₂ : ℕ) (w v : Whole)
    → all_read S x s room₁ choices₁ ≡ good w → all_read S x s room₂ choices₂ ≡ good v → w ≡ v
all_alike S x s room₁ room₂ choices₁ choices₂ w v e k =
    let one = all_good S x s room₁ choices₁ w e in
    let two = all_good S x s room₂ choices₂ v k in
    let files : w.files ≡ v.files = files_alike S x room₁ room₂ w.files v.files one.0 two.0 in
    let choices : w.choices ≡ v.choices =
    choices_alike S.horizon w.files solution_file solution_file choices₁ choices₂ s w.choices v.choices one.1 (rw files two.1) in
    λ i. record { files = files i; choices = choices i }

-- and so it is with two solutions
pub both_alike : (S : Stated) (x : Texts) (s r : List ℕ) (room₁ room₂ : Rooms) (choices₁ second₁ choices₂ second₂ : ℕ) (b : Both) (f : Files) (cs ds : List Configuration)
    → both_read S x s r room₁ choices₁ second₁ ≡ good b → files_of S x room₂ ≡ good f
    → choices_read S.horizon f solution_file choices₂ s ≡ good cs → choices_read S.horizon f solution_file second₂ r ≡ good ds → b ≡ record { files = f; first = cs; second = ds }
both_alike S x s r room₁ room₂ choices₁ second₁ choices₂ second₂ b f cs ds e k c d =
    let one = both_good S x s r room₁ choices₁ second₁ b e in
    let files : b.files ≡ f = files_alike S x room₁ room₂ b.files f one.0 k in
    let first : b.first ≡ cs = choices_alike S.horizon f solution_file solution_file choices₁ choices₂ s b.first cs (rw files at one.1) c in
    let second : b.second ≡ ds = choices_alike S.horizon f second_file solution_file second₁ second₂ r b.second ds (rw files at one.2) d in
    λ i. record { files = files i; first = first i; second = second i }

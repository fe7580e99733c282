-- Files and choices are read without refusal exactly where each of document 01's steps goes well. Assumes nothing.
use Prim.Native.Nat.{ℕ, suc, ◌/◌, ◌≤◌}
use mathlib.Core.Path.{◌≡◌, refl, ap, sym, ◌∙◌}
use mathlib.Core.Bool.{Bool, true, false, cond, ◌&&◌, ◌||◌, or-true}
use mathlib.Core.List.{List, [], ◌∷◌, map}
use mathlib.Core.Logic.{inl, inr}
use native.Mathlib.Omega.{arith}
use lib.Dec.{T, leb, eqb, leb→le, eqb→eq}
use lib.ListN.{length, length-map}
use borrow.Author.Tests.{le-leb, eq-eqb, eqb-true}
use Rattle.rules.specs.Limits.{least_horizon, most_horizon, leg_width, configuration_width, profile_width, constraint_width, track_width}
use Rattle.rules.specs.Lists.{every}
use Rattle.std.specs.Prelude.{is_some, Option, Some, None}
use Rattle.rules.specs.Answers.{refusal, unknown_edition, no_file, Reading, refused, good, ◌>>=◌, not_there, wrong_samples, no_subnet, timetable_file, solution_file, second_file}
use Rattle.rules.specs.Rows.{RowFault, or_else, first_fault, passed, place_of_row}
use Rattle.rules.specs.Timetable.{Row, ids_of, timetable_of, solution_of}
use Rattle.rules.specs.Profiles.{Curve, curve_of, lasts, profiles_of, profile_fault}
use Rattle.rules.specs.Kinds.{table_edition, example_edition}
use Rattle.rules.specs.Constraints.{Document, constraints_of, subnet_of, subnet_fault}
use Rattle.rules.specs.Stated.{horizon_of, edition_of, rules_by, known}
use Rattle.rules.specs.Reading.{Rooms, Texts, Files, leg_ids, files_of, same_leg, differs_from, matched, choices_read}
use Rattle.rules.specs.Entries.{Whole, all_read, Both, both_read}
use Rattle.rules.specs.Verdict.{All}
use Rattle.rules.specs.declared.stated.Stated.{Stated}
use Rattle.rules.specs.declared.sizes.Configuration.{Configuration}
use Rattle.rules.specs.declared.sizes.Track.{Track}
use Rattle.rules.proofs.Truth.{and_both, every_all, all_map, missing}
use Rattle.rules_theorems.specs.Files.{HasProfile, HasSubnet, KnownEdition, Saying, ByAutomaton, GoodFiles, GoodChoices}
use Rattle.rules_theorems.proofs.GoodText.{never_good, good_test}
use Rattle.rules_theorems.proofs.LawfulRows.{fit_choices}
use Rattle.rules_theorems.proofs.GoodRows.{timetable_good, solution_good, profiles_good}

-- a reading in steps went well: its first step did
pub good_first : {A B : Type 0} (m : Reading A) (k : A → Reading B) (y : B) → (m >>= k) ≡ good y → (x : A) × (m ≡ good x) × (k x ≡ good y)
good_first (refused r) k y e = never_good r y e
good_first (good x) k y e = (x, refl, e)

pub passed_good : {A : Type 0} (file : ℕ) (text : List ℕ) (o : Option RowFault) (x y : A) → passed file text o x ≡ good y → o ≡ None
passed_good file text None x y e = refl
passed_good file text (Some f) x y e = never_good _ y e

matched_good : (file : ℕ) (o : Option ℕ) (rows same : List Row) → matched file o rows ≡ good same → o ≡ None
matched_good file None rows same e = refl
matched_good file (Some place) rows same e = never_good _ same e

-- 1 to 176,400
pub horizon_good : (H n : ℕ) → horizon_of H ≡ good n → (least_horizon ≤ H) × (H ≤ most_horizon)
horizon_good H n e =
    let k = and_both (leb least_horizon H) (leb H most_horizon) (good_test (leb least_horizon H && leb H most_horizon) _ _ n e).0 in
    (leb→le least_horizon H k.0, leb→le H most_horizon k.1)

good_horizon : (H : ℕ) → (least_horizon ≤ H) × (H ≤ most_horizon) → horizon_of H ≡ good H
good_horizon H h = rw (le-leb least_horizon H h.0, le-leb H most_horizon h.1)

-- 1 or 2
edition_good : (e n : ℕ) → edition_of e ≡ good n → KnownEdition e
edition_good e n k = go (eqb e table_edition) refl k
  where
    go : (b : Bool) → eqb e table_edition ≡ b → cond (b || eqb e example_edition) (good e) (refused (refusal unknown_edition no_file 0)) ≡ good n → KnownEdition e
    go true p k = inl (eqb-true e table_edition p)
    go false p k = inr (eqb→eq e example_edition (good_test (eqb e example_edition) _ _ n k).0)

good_edition : (e : ℕ) → KnownEdition e → edition_of e ≡ good e
good_edition e (inl p) = rw (eq-eqb e table_edition p)
good_edition e (inr p) = rw (eq-eqb e example_edition p, or-true)

-- what is stated is known exactly where both are
known_good : (S s : Stated) → known S ≡ good s → (least_horizon ≤ S.horizon) × (S.horizon ≤ most_horizon) × KnownEdition S.edition
unfolding known
known_good S s e =
    let h = good_first (horizon_of S.horizon) _ s e in
    let k = good_first (edition_of S.edition) _ s h.2 in
    let range = horizon_good S.horizon h.0 h.1 in
    (range.0, range.1, edition_good S.edition k.0 k.1)

pub good_known : (S : Stated) → (least_horizon ≤ S.horizon) × (S.horizon ≤ most_horizon) → KnownEdition S.edition → known S ≡ good S
unfolding known
good_known S h e = rw (good_horizon S.horizon h, good_edition S.edition e)

-- ---- no row at fault

-- where the first row at fault is none, no row is
no_fault : {A : Type 0} (fault : A → Option ℕ) (n : ℕ) (xs : List A) → first_fault n fault xs ≡ None → All (λ x. fault x ≡ None) xs
no_fault fault n [] e = tt
no_fault fault n (x ∷ xs) e = go (fault x) e (no_fault fault (suc n) xs)
  where
    go : (o : Option ℕ) → or_else n o (first_fault (suc n) fault xs) ≡ None → (first_fault (suc n) fault xs ≡ None → All (λ x. fault x ≡ None) xs)
        → (o ≡ None) × All (λ x. fault x ≡ None) xs
    go None e ih = (refl, ih e)
    go (Some k) e ih = missing _ (sym e)

-- and the other way round
fault_none : {A : Type 0} (fault : A → Option ℕ) (n : ℕ) (xs : List A) → All (λ x. fault x ≡ None) xs → first_fault n fault xs ≡ None
fault_none fault n [] h = refl
fault_none fault n (x ∷ xs) h = rw h.0 (fault_none fault (suc n) xs h.1)

-- a test that gives no number holds
test-holds : (t : Bool) (o : Option ℕ) (k : ℕ) → cond t o (Some k) ≡ None → T t × (o ≡ None)
test-holds true o k e = (tt, e)
test-holds false o k e = missing k (sym e)

-- ---- 12 and 13: each entry of each list has a profile with a sample for each second

module _ (curves : List Curve) where
  has_profile : (c : Configuration) → T (is_some (curve_of curves c.profile)) → T (lasts c.travel (curve_of curves c.profile)) → HasProfile curves c
  has_profile c = go (curve_of curves c.profile) refl
    where
      go : (o : Option Curve) → curve_of curves c.profile ≡ o → T (is_some o) → T (lasts c.travel o) → HasProfile curves c
      go None e there counts = absurd there
      go (Some k) e there counts = record { curve = k; exists = e; counted = omega (arith, eqb→eq (length k.samples) c.travel counts) }

  profiles_there : (l : List Configuration) → All (λ c. T (is_some (curve_of curves c.profile))) l → All (λ c. T (lasts c.travel (curve_of curves c.profile))) l
      → All (HasProfile curves) l
  profiles_there [] there counts = tt
  profiles_there (c ∷ l) there counts = (has_profile c there.0 counts.0, profiles_there l there.1 counts.1)

  row_powered : (r : Row) → profile_fault curves r ≡ None → All (HasProfile curves) r.list
  row_powered r e =
      let a = test-holds (every (λ c. is_some (curve_of curves c.profile)) r.list) _ not_there e in
      let b = test-holds (every (λ c. lasts c.travel (curve_of curves c.profile)) r.list) None wrong_samples a.1 in
      profiles_there r.list (every_all _ r.list a.0) (every_all _ r.list b.0)

  all_there : (l : List Configuration) → All (HasProfile curves) l → every (λ c. is_some (curve_of curves c.profile)) l ≡ true
  all_there [] h = refl
  all_there (c ∷ l) h = rw h.0.exists (all_there l h.1)

  all_last : (l : List Configuration) → All (HasProfile curves) l → every (λ c. lasts c.travel (curve_of curves c.profile)) l ≡ true
  all_last [] h = refl
  all_last (c ∷ l) h = rw (h.0.exists, eq-eqb (length h.0.curve.samples) c.travel (omega (arith, h.0.counted))) (all_last l h.1)

  powered_row : (r : Row) → All (HasProfile curves) r.list → profile_fault curves r ≡ None
  powered_row r h = rw (all_there r.list h, all_last r.list h)

-- ---- 15: each row's track is in a subnet

module _ (tracks : List Track) where
  row-placed : (r : Row) → subnet_fault tracks r ≡ None → HasSubnet tracks r
  row-placed r = go (subnet_of tracks r.track) refl
    where
      go : (o : Option ℕ) → subnet_of tracks r.track ≡ o → cond (is_some o) None (Some no_subnet) ≡ None → HasSubnet tracks r
      go None e k = missing no_subnet (sym k)
      go (Some u) e k = record { subnet = u; inside = e }

  placed_row : (r : Row) → HasSubnet tracks r → subnet_fault tracks r ≡ None
  placed_row r h = rw h.inside

-- ---- all files

-- files that are read without refusal: what is stated is known, the texts write what is lawful, and no row is at fault
pub files_good : (S : Stated) (x : Texts) (room : Rooms) (files : Files) → files_of S x room ≡ good files → GoodFiles ByAutomaton S x room files
unfolding files_of
files_good S x room files e =
    let h = good_first (known S) _ files e in
    let t = good_first (timetable_of S.horizon (room.legs / leg_width) (room.configurations / configuration_width) x.timetable) _ files h.2 in
    let p = good_first (profiles_of (room.profiles / profile_width) room.samples x.profiles) _ files t.2 in
    let q = good_first (passed timetable_file x.timetable (first_fault 0 (profile_fault p.0) t.0) t.0) _ files p.2 in
    let d = good_first (constraints_of (leg_ids t.0) (room.constraints / constraint_width) (room.tracks / track_width) (rules_by S) x.constraints) _ files q.2 in
    let s = good_first (passed timetable_file x.timetable (first_fault 0 (subnet_fault d.0.tracks) t.0) t.0) _ files d.2 in
    made t.0 p.0 d.0 (known_good S h.0 h.1) t.1 p.1
    (passed_good timetable_file x.timetable _ t.0 q.0 q.1) d.1 (passed_good timetable_file x.timetable _ t.0 s.0 s.1) s.2
  where
    made : (rows : List Row) (curves : List Curve) (document : Document) → (least_horizon ≤ S.horizon) × (S.horizon ≤ most_horizon) × KnownEdition S.edition
        → timetable_of S.horizon (room.legs / leg_width) (room.configurations / configuration_width) x.timetable ≡ good rows
        → profiles_of (room.profiles / profile_width) room.samples x.profiles ≡ good curves
        → first_fault 0 (profile_fault curves) rows ≡ None
        → constraints_of (leg_ids rows) (room.constraints / constraint_width) (room.tracks / track_width) (rules_by S) x.constraints ≡ good document
        → first_fault 0 (subnet_fault document.tracks) rows ≡ None
        → ◌≡◌ {A = Reading Files} (good (record { rows = rows; curves = curves; document = document })) (good files)
        → GoodFiles ByAutomaton S x room files
    made rows curves document h t p q d s e =
        let k : ◌≡◌ {A = Files} (record { rows = rows; curves = curves; document = document }) files = cc in
        rw (← k)
        (record {
          horizon = (h.0, h.1);
          edition = h.2;
          timetable = (timetable_good S.horizon (room.legs / leg_width) (room.configurations / configuration_width) x.timetable rows).0 t;
          profiles = (profiles_good (room.profiles / profile_width) room.samples x.profiles curves).0 p;
          powered = all_map (λ r. profile_fault curves r ≡ None) _ (row_powered curves) rows (no_fault (profile_fault curves) 0 rows q);
          constraints = d;
          placed = all_map (λ r. subnet_fault document.tracks r ≡ None) _ (row-placed document.tracks) rows (no_fault (subnet_fault document.tracks) 0 rows s);
        })

-- and the other way round: such files are read
pub good_files : (S : Stated) (x : Texts) (room : Rooms) (files : Files) → GoodFiles ByAutomaton S x room files → files_of S x room ≡ good files
unfolding files_of
good_files S x room files g =
    rw (
      good_known S g.horizon g.edition,
      (timetable_good S.horizon (room.legs / leg_width) (room.configurations / configuration_width) x.timetable files.rows).1 g.timetable,
      (profiles_good (room.profiles / profile_width) room.samples x.profiles files.curves).1 g.profiles,
      fault_none (profile_fault files.curves) 0 files.rows (all_map _ (λ r. profile_fault files.curves r ≡ None) (powered_row files.curves) files.rows g.powered),
      g.constraints,
      fault_none (subnet_fault files.document.tracks) 0 files.rows
          (all_map (HasSubnet files.document.tracks) (λ r. subnet_fault files.document.tracks r ≡ None) (placed_row files.document.tracks) files.rows g.placed),
    )

-- whatever else says when constraints.json is read
pub said_so : (Says Says' : Saying) {S : Stated}
    → ((legs : List ℕ) (constraints tracks : ℕ) (s : List ℕ) (d : Document) → Says S legs constraints tracks s d → Says' S legs constraints tracks s d)
    → {x : Texts} {room : Rooms} {files : Files} → GoodFiles Says S x room files → GoodFiles Says' S x room files
said_so Says Says' so g =
    record {
      horizon = g.horizon;
      edition = g.edition;
      timetable = g.timetable;
      profiles = g.profiles;
      powered = g.powered;
      constraints = so _ _ _ _ _ g.constraints;
      placed = g.placed;
    }

-- ---- 14: the first five columns are the draft's

same-ids : (a b : Row) → T (same_leg a b) → ids_of b ≡ ids_of a
same-ids a b h =
    let p = and_both (eqb a.leg b.leg) _ h in
    let q = and_both (eqb a.train b.train) _ p.1 in
    let r = and_both (eqb a.track b.track) _ q.1 in
    let s = and_both (eqb a.start b.start) (eqb a.end b.end) r.1 in
    cc (eqb→eq a.leg b.leg p.0, eqb→eq a.train b.train q.0, eqb→eq a.track b.track r.0, eqb→eq a.start b.start s.0, eqb→eq a.end b.end s.1)

ids-same : (a b : Row) → ids_of b ≡ ids_of a → same_leg a b ≡ true
ids-same a b e =
    let p : a.leg ≡ b.leg = cc in
    let q : a.train ≡ b.train = cc in
    let r : a.track ≡ b.track = cc in
    let s : a.start ≡ b.start = cc in
    let t : a.end ≡ b.end = cc in
    rw (eq-eqb a.leg b.leg p, eq-eqb a.train b.train q, eq-eqb a.track b.track r, eq-eqb a.start b.start s, eq-eqb a.end b.end t)

columns-same : (n : ℕ) (text : List ℕ) (draft rows : List Row) → differs_from n text draft rows ≡ None → map ids_of rows ≡ map ids_of draft
columns-same n text [] [] e = refl
columns-same n text [] (b ∷ bs) e = missing _ (sym e)
columns-same n text (a ∷ r) [] e = missing _ (sym e)
columns-same n text (a ∷ r) (b ∷ bs) e = go (same_leg a b) (same-ids a b) e (columns-same (suc n) text r bs)
  where
    go : (t : Bool) → (T t → ids_of b ≡ ids_of a) → cond t (differs_from (suc n) text r bs) (Some (place_of_row text n)) ≡ None
        → (differs_from (suc n) text r bs ≡ None → map ids_of bs ≡ map ids_of r) → ids_of b ∷ map ids_of bs ≡ ids_of a ∷ map ids_of r
    go true same e ih = cc (same tt, ih e)
    go false same e ih = missing _ (sym e)

same-columns : (n : ℕ) (text : List ℕ) (draft rows : List Row) → map ids_of rows ≡ map ids_of draft → differs_from n text draft rows ≡ None
same-columns n text [] [] e = refl
same-columns n text [] (b ∷ bs) e = let z : ◌≡◌ {A = ℕ} 0 1 = cc in absurd (omega arith)
same-columns n text (a ∷ r) [] e = let z : ◌≡◌ {A = ℕ} 0 1 = cc in absurd (omega arith)
same-columns n text (a ∷ r) (b ∷ bs) e =
    let here : ids_of b ≡ ids_of a = cc in
    let rest : map ids_of bs ≡ map ids_of r = cc in
    rw (ids-same a b here) (same-columns (suc n) text r bs rest)

-- so a solution has as many rows
pub columns_many : (draft rows : List Row) → map ids_of rows ≡ map ids_of draft → length rows ≡ length draft
columns_many draft rows e = sym (length-map rows ids_of) ∙ ap length e ∙ length-map draft ids_of

-- choices that are read without refusal are the nominal column of lawful rows whose first five columns are the draft's
pub choices_good : (H : ℕ) (files : Files) (file room : ℕ) (text : List ℕ) (s : List Configuration) → choices_read H files file room text ≡ good s
    → GoodChoices H files room text s
unfolding choices_read
choices_good H files file room text s e =
    let r = good_first (solution_of H file (room / configuration_width) text) _ s e in
    let m = good_first (matched file (differs_from 0 text files.rows r.0) r.0) _ s r.2 in
    record {
      rows = r.0;
      solution = (solution_good H file (room / configuration_width) text r.0).0 r.1;
      columns = columns-same 0 text files.rows r.0 (matched_good file (differs_from 0 text files.rows r.0) r.0 m.0 m.1);
      choices = cc m.2;
    }

-- and the other way round, whichever file it is
-- a choice for each row of the draft
pub chosen_many : (H : ℕ) (files : Files) (room : ℕ) (text : List ℕ) (s : List Configuration) → GoodChoices H files room text s → length s ≡ length files.rows
chosen_many H files room text s g =
    ap length (sym g.choices) ∙ length-map g.rows (λ r. r.nominal) ∙ columns_many files.rows g.rows g.columns

pub good_choices : (H : ℕ) (files : Files) (file room : ℕ) (text : List ℕ) (s : List Configuration) → GoodChoices H files room text s
    → choices_read H files file room text ≡ good s
unfolding choices_read
good_choices H files file room text s g =
    rw ((solution_good H file (room / configuration_width) text g.rows).1 g.solution, same-columns 0 text files.rows g.rows g.columns) (ap good g.choices)

-- the choice table has room for them
pub choices_room : (H : ℕ) (files : Files) (room : ℕ) (text : List ℕ) (s : List Configuration) → GoodChoices H files room text s → length s ≤ room / configuration_width
choices_room H files room text s g =
    rw (← g.choices, length-map g.rows (λ r. r.nominal)) (fit_choices (room / configuration_width) g.rows g.solution.fitting)

-- ---- all texts together

-- four texts that are read without refusal: the files were, and then the solution
pub all_good : (S : Stated) (x : Texts) (s : List ℕ) (room : Rooms) (choices : ℕ) (w : Whole) → all_read S x s room choices ≡ good w
    → (files_of S x room ≡ good w.files) × (choices_read S.horizon w.files solution_file choices s ≡ good w.choices)
unfolding all_read
all_good S x s room choices w e =
    let f = good_first (files_of S x room) _ w e in
    let c = good_first (choices_read S.horizon f.0 solution_file choices s) _ w f.2 in
    made f.0 c.0 f.1 c.1 c.2
  where
    made : (files : Files) (cs : List Configuration) → files_of S x room ≡ good files → choices_read S.horizon files solution_file choices s ≡ good cs
        → ◌≡◌ {A = Reading Whole} (good (record { files = files; choices = cs })) (good w)
        → (files_of S x room ≡ good w.files) × (choices_read S.horizon w.files solution_file choices s ≡ good w.choices)
    made files cs f c e = let k : ◌≡◌ {A = Whole} (record { files = files; choices = cs }) w = cc in rw (← k) (f, c)

-- and the other way round
pub good_all : (S : Stated) (x : Texts) (s : List ℕ) (room : Rooms) (choices : ℕ) (files : Files) (cs : List Configuration)
    → files_of S x room ≡ good files → choices_read S.horizon files solution_file choices s ≡ good cs → all_read S x s room choices ≡ good (record { files = files; choices = cs })
unfolding all_read
good_all S x s room choices files cs f c = rw (f, c)

-- with a second solution
pub good_both : (S : Stated) (x : Texts) (s r : List ℕ) (room : Rooms) (choices second : ℕ) (files : Files) (a b : List Configuration)
    → files_of S x room ≡ good files → choices_read S.horizon files solution_file choices s ≡ good a → choices_read S.horizon files second_file second r ≡ good b
    → both_read S x s r room choices second ≡ good (record { files = files; first = a; second = b })
unfolding both_read
good_both S x s r room choices second files a b f c d = rw (f, c, d)

pub both_good : (S : Stated) (x : Texts) (s r : List ℕ) (room : Rooms) (choices second : ℕ) (b : Both) → both_read S x s r room choices second ≡ good b
    → (files_of S x room ≡ good b.files) × (choices_read S.horizon b.files solution_file choices s ≡ good b.first)
    × (choices_read S.horizon b.files second_file second r ≡ good b.second)
unfolding both_read
both_good S x s r room choices second b e =
    let f = good_first (files_of S x room) _ b e in
    let c = good_first (choices_read S.horizon f.0 solution_file choices s) _ b f.2 in
    let d = good_first (choices_read S.horizon f.0 second_file second r) _ b c.2 in
    made f.0 c.0 d.0 f.1 c.1 d.1 d.2
  where
    made : (files : Files) (cs ds : List Configuration) → files_of S x room ≡ good files → choices_read S.horizon files solution_file choices s ≡ good cs
        → choices_read S.horizon files second_file second r ≡ good ds → ◌≡◌ {A = Reading Both} (good (record { files = files; first = cs; second = ds })) (good b)
        → (files_of S x room ≡ good b.files) × (choices_read S.horizon b.files solution_file choices s ≡ good b.first)
        × (choices_read S.horizon b.files second_file second r ≡ good b.second)
    made files cs ds f c d e = let k : ◌≡◌ {A = Both} (record { files = files; first = cs; second = ds }) b = cc in rw (← k) (f, c, d)

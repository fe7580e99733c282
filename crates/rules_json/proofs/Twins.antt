-- A file that reads in one edition and its twin in another read as the same document, and so the files with them, and all that the entries answer and leave. Assumes nothing.
use Prim.Native.Nat.{ℕ, suc, ◌≤◌}
use mathlib.Core.Path.{◌≡◌, refl, ap}
use mathlib.Core.List.{List, [], ◌∷◌}
use native.Mathlib.Omega.{arith}
use lib.ListN.{length}
use lib.IntN.{ℤ}
use Rattle.rules.specs.Limits.{most_text}
use Rattle.rules.specs.Answers.{good}
use Rattle.rules.specs.Constraints.{Document, rules_in, constraints_of}
use Rattle.rules.specs.Reading.{Rooms, Texts, Files, leg_ids, files_of}
use Rattle.rules.specs.Entries.{Tables, rooms_of, all_read, checked, reported, both_read, merged}
use Rattle.rules.specs.declared.stated.Stated.{Stated}
use Rattle.rules.specs.declared.sizes.Configuration.{Configuration}
use Rattle.rules_theorems.proofs.GoodFiles.{files_good, good_files}
use Rattle.rules_json.specs.Value.{number, type, track_list, Value}
use Rattle.rules_json.specs.Twins.{relaid, Twin, TwinTexts}
use Rattle.rules_json.specs.Written.{Piece, Writes, close_brace, close_bracket, more, items, track_pieces, said_pieces, member_pieces, record_pieces, list_pieces, pieces, Laid, done, white, next}
use Rattle.rules_json.proofs.Completeness.{complete}
use Rattle.rules_json.proofs.Soundness.{sound}

-- ---- other pieces in the same places

relaid-laid : {xs : List Piece} {s : List ℕ} (k : Laid xs s) (ys : List Piece) → length xs ≡ length ys → Laid ys (relaid k ys)
unfolding relaid
relaid-laid done [] e = done
relaid-laid done (y ∷ ys) e = absurd (omega arith)
relaid-laid (white h k) ys e = white h (relaid-laid k ys e)
relaid-laid (next x k) [] e = absurd (omega arith)
relaid-laid (next x k) (y ∷ ys) e = next y (relaid-laid k ys (omega arith))

-- ---- a value has as many pieces in any edition

abbrev SameLength : {A : Type 0} → Writes A → Writes A → Type 0
SameLength {A} f g = (x : A) (r s : List Piece) → length r ≡ length s → length (f x r) ≡ length (g x s)

more_same : {A : Type 0} (f g : Writes A) (close : Piece) → SameLength f g → SameLength (more f close) (more g close)
more_same f g close h [] r s e = ap suc e
more_same f g close h (x ∷ xs) r s e = ap suc (h x (more f close xs r) (more g close xs s) (more_same f g close h xs r s e))

items-same : {A : Type 0} (f g : Writes A) (close : Piece) → SameLength f g → SameLength (items f close) (items g close)
items-same f g close h [] r s e = ap suc e
items-same f g close h (x ∷ xs) r s e = h x (more f close xs r) (more g close xs s) (more_same f g close h xs r s e)

said_same : SameLength said_pieces said_pieces
said_same (number key n) r s e = ap suc e
said_same (type t) r s e = ap suc e
said_same (track_list ids) r s e = ap suc (items-same track_pieces track_pieces close_bracket (λ id r s e. ap suc e) ids r s e)

module _ (E F : ℕ) where
  members_same : (list : ℕ) → SameLength (member_pieces E list) (member_pieces F list)
  members_same list m r s e = ap (λ n. suc (suc n)) (said_same m r s e)

  records-same : (list : ℕ) → SameLength (record_pieces E list) (record_pieces F list)
  records-same list ms r s e = ap suc (items-same (member_pieces E list) (member_pieces F list) close_brace (members_same list) ms r s e)

  lists_same : SameLength (list_pieces E) (list_pieces F)
  lists_same l r s e =
      ap (λ n. suc (suc (suc n))) (items-same (record_pieces E l.list) (record_pieces F l.list) close_bracket (records-same l.list) l.records r s e)

  pieces-same : (v : Value) → length (pieces E v) ≡ length (pieces F v)
  pieces-same v = ap suc (items-same (list_pieces E) (list_pieces F) close_brace lists_same v [] [] refl)

  -- every text that reads in edition E has a twin in edition F
  pub twin_is : (legs : List ℕ) (constraints tracks : ℕ) (s : List ℕ) (d : Document) → constraints_of legs constraints tracks (rules_in E) s ≡ good d
      → (s' : List ℕ) × Twin E F legs constraints tracks s d s'
  twin_is legs constraints tracks s d e =
      let w = sound E legs constraints tracks s d e in
      (relaid w.written (pieces F w.value), record { writing = w; renamed = refl })

  -- THE THEOREM of a text: within the text limit its twin reads in edition F, as the same document
  pub twin_reads : (legs : List ℕ) (constraints tracks : ℕ) (s : List ℕ) (d : Document) (s' : List ℕ) → Twin E F legs constraints tracks s d s'
      → length s' ≤ most_text → constraints_of legs constraints tracks (rules_in F) s' ≡ good d
  twin_reads legs constraints tracks s d s' t short =
      let w = t.writing in
      let laid : Laid (pieces F w.value) s' = rw t.renamed (relaid-laid w.written (pieces F w.value) (pieces-same w.value)) in
      complete F legs constraints tracks s' d (record { value = w.value; lawful = w.lawful; written = laid; short = short; means = w.means })

-- ---- all files

module _ (S R : Stated) (x y : Texts) (room : Rooms) (f : Files) (twins : TwinTexts S R x y room f) (read : files_of S x room ≡ good f) where
  -- THE THEOREM of the files: they say the same by R
  pub files_twin : files_of R y room ≡ good f
  files_twin =
      let g = files_good S x room f read in
      good_files R y room f
      (record {
        horizon = rw twins.horizon g.horizon;
        edition = twins.edition;
        timetable = rw (twins.horizon, twins.timetable) g.timetable;
        profiles = rw twins.profiles g.profiles;
        powered = g.powered;
        constraints = twin_reads S.edition R.edition (leg_ids f.rows) _ _ x.constraints f.document y.constraints twins.constraints twins.short;
        placed = g.placed;
      })

  all_twin : (s : List ℕ) (choices : ℕ) → all_read R y s room choices ≡ all_read S x s room choices
  unfolding all_read
  all_twin s choices = rw (files_twin, read, twins.horizon)

  both_twin : (a b : List ℕ) (choices second : ℕ) → both_read R y a b room choices second ≡ both_read S x a b room choices second
  unfolding both_read
  both_twin a b choices second = rw (files_twin, read, twins.horizon)

-- THE THEOREM of the entries: whatever the solutions, they answer and leave the same
module _ (S R : Stated) (x y : Texts) (t : Tables) (f : Files) (twins : TwinTexts S R x y (rooms_of t) f) (read : files_of S x (rooms_of t) ≡ good f) where
  pub check_twin : (s c : List ℕ) → checked R y s t c ≡ checked S x s t c
  unfolding checked
  check_twin s c = rw (all_twin S R x y (rooms_of t) f twins read s (length c))

  pub report_twin : (s c : List ℕ) (p : List ℤ) → reported R y s t c p ≡ reported S x s t c p
  unfolding reported
  report_twin s c p = rw (all_twin S R x y (rooms_of t) f twins read s (length c), twins.horizon)

  pub merge_twin : (merge : List Configuration → List Configuration → List Configuration) (a b c d text : List ℕ) → merged merge R y a b t c d text ≡ merged merge S x a b t c d text
  unfolding merged
  merge_twin merge a b c d text = rw (both_twin S R x y (rooms_of t) f twins read a b (length c) (length d))

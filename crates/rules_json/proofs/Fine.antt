-- The pieces of a value: its names are clean, and no two numbers stand side by side. Assumes nothing.
use Prim.Native.Nat.{ℕ}
use mathlib.Core.Path.{◌≡◌, refl}
use mathlib.Core.Bool.{true, false}
use mathlib.Core.List.{List, [], ◌∷◌}
use Rattle.rules.specs.Lists.{every}
use Rattle.rules.specs.Tokens.{in_string}
use Rattle.rules.specs.Verdict.{All}
use Rattle.rules_theorems.proofs.DocumentWords.{passed}
use Rattle.rules_theorems.proofs.Keys.{types}
use Rattle.rules_json.specs.Value.{Member, number, type, track_list, key_of, Listed, Value, six_lists, Among, in_range}
use Rattle.rules_json.specs.Written.{Piece, close_brace, close_bracket, more, items, Writes, track_pieces, said_pieces, member_pieces, record_pieces, list_pieces, pieces, list_name, key_name, type_name, all_keys}
use Rattle.rules_json.proofs.Same.{Allowed, OkMembers, OkLists}
use Rattle.rules_json.proofs.Names.{type_in, name_clean}
use Rattle.rules_json.proofs.Text.{starts_whole, Fine}

-- ---- names are clean

list_clean : (list : ℕ) → Among six_lists list → every in_string (list_name list) ≡ true
list_clean list known = passed (λ l. every in_string (list_name l)) six_lists list refl known

key_clean : (key : ℕ) → Among all_keys key → every in_string (key_name key) ≡ true
key_clean key known = passed (λ k. every in_string (key_name k)) all_keys key refl known

type_clean : (t : ℕ) → Among types t → every in_string (type_name t) ≡ true
type_clean t known = passed (λ k. every in_string (type_name k)) types t refl known

-- ---- what follows a number is no number

more_starts : {A : Type 0} (write : Writes A) (xs : List A) (rest : List Piece) → starts_whole (more write close_bracket xs rest) ≡ false
more_starts write [] rest = refl
more_starts write (x ∷ xs) rest = refl

more_members_start : (E list : ℕ) (ms : List Member) (rest : List Piece) → starts_whole (more (member_pieces E list) close_brace ms rest) ≡ false
more_members_start E list [] rest = refl
more_members_start E list (m ∷ ms) rest = refl

-- ---- all pieces

more-tracks_fine : (ids : List ℕ) (rest : List Piece) → Fine rest → Fine (more track_pieces close_bracket ids rest)
more-tracks_fine [] rest fine = (tt, fine)
more-tracks_fine (id ∷ ids) rest fine = (tt, (more_starts track_pieces ids rest, more-tracks_fine ids rest fine))

tracks_fine : (ids : List ℕ) (rest : List Piece) → Fine rest → Fine (items track_pieces close_bracket ids rest)
tracks_fine [] rest fine = (tt, fine)
tracks_fine (id ∷ ids) rest fine = (more_starts track_pieces ids rest, more-tracks_fine ids rest fine)

module _ (E : ℕ) (legs : List ℕ) where
  said_fine : (m : Member) (rest : List Piece) → in_range legs m ≡ true → starts_whole rest ≡ false → Fine rest → Fine (said_pieces m rest)
  said_fine (number key n) rest ok other fine = (other, fine)
  said_fine (type t) rest ok other fine = (type_clean t (type_in legs t ok), fine)
  said_fine (track_list ids) rest ok other fine = (tt, tracks_fine ids rest fine)

  module _ (list : ℕ) where
    member_fine : (m : Member) (seen : ℕ) (rest : List Piece) → Allowed legs list seen m → starts_whole rest ≡ false → Fine rest → Fine (member_pieces E list m rest)
    member_fine m seen rest allowed other fine = (name_clean (every in_string) key_clean E list (key_of m) allowed.in_keys, (tt, said_fine m rest allowed.value other fine))

    more_members_fine : (ms : List Member) (seen : ℕ) (rest : List Piece) → OkMembers legs list seen ms → Fine rest → Fine (more (member_pieces E list) close_brace ms rest)
    more_members_fine [] seen rest ok fine = (tt, fine)
    more_members_fine (m ∷ ms) seen rest ok fine =
        (tt, member_fine m seen (more (member_pieces E list) close_brace ms rest) ok.0 (more_members_start E list ms rest) (more_members_fine ms _ rest ok.1 fine))

    record_fine : (ms : List Member) (rest : List Piece) → OkMembers legs list 0 ms → Fine rest → Fine (record_pieces E list ms rest)
    record_fine [] rest ok fine = (tt, (tt, fine))
    record_fine (m ∷ ms) rest ok fine =
        (tt, member_fine m 0 (more (member_pieces E list) close_brace ms rest) ok.0 (more_members_start E list ms rest) (more_members_fine ms _ rest ok.1 fine))

    more-records_fine : (rs : List (List Member)) (rest : List Piece) → All (OkMembers legs list 0) rs → Fine rest → Fine (more (record_pieces E list) close_bracket rs rest)
    more-records_fine [] rest ok fine = (tt, fine)
    more-records_fine (ms ∷ rs) rest ok fine = (tt, record_fine ms (more (record_pieces E list) close_bracket rs rest) ok.0 (more-records_fine rs rest ok.1 fine))

    records_fine : (rs : List (List Member)) (rest : List Piece) → All (OkMembers legs list 0) rs → Fine rest → Fine (items (record_pieces E list) close_bracket rs rest)
    records_fine [] rest ok fine = (tt, fine)
    records_fine (ms ∷ rs) rest ok fine = record_fine ms (more (record_pieces E list) close_bracket rs rest) ok.0 (more-records_fine rs rest ok.1 fine)

  list_fine : (l : Listed) (rest : List Piece) → Among six_lists l.list → All (OkMembers legs l.list 0) l.records → Fine rest → Fine (list_pieces E l rest)
  list_fine l rest known ok fine = (list_clean l.list known, (tt, (tt, records_fine l.list l.records rest ok fine)))

  more_lists_fine : (v : Value) (seen : ℕ) → OkLists legs seen v → Fine (more (list_pieces E) close_brace v [])
  more_lists_fine [] seen ok = (tt, tt)
  more_lists_fine (l ∷ ls) seen ok = (tt, list_fine l (more (list_pieces E) close_brace ls []) ok.0.in_lists ok.0.records (more_lists_fine ls _ ok.1))

  pub pieces_fine : (v : Value) → OkLists legs 0 v → Fine (pieces E v)
  pieces_fine [] ok = (tt, (tt, tt))
  pieces_fine (l ∷ ls) ok = (tt, list_fine l (more (list_pieces E) close_brace ls []) ok.0.in_lists ok.0.records (more_lists_fine ls _ ok.1))

-- The twin of a file (document 02, E4): the same text in another edition. White bytes stay, and of the pieces the name of kind 4's key alone is another.
use Rattle.std.specs.Prelude.{ℕ, ◌/◌, ◌≤◌, ◌≡◌, List, [], ◌∷◌, ◌++◌, length}
use Rattle.rules.specs.Limits.{most_text, constraint_width, track_width}
use Rattle.rules.specs.Constraints.{Document}
use Rattle.rules.specs.Reading.{Rooms, Texts, Files, leg_ids}
use Rattle.rules.specs.declared.stated.Stated.{Stated}
use Rattle.rules_theorems.specs.Files.{KnownEdition}
use Rattle.rules_json.specs.Written.{Piece, bytes_of, pieces, Laid, done, white, next, Writing}

-- other pieces in the same places
unfoldable pub relaid : {xs : List Piece} {s : List ℕ} → Laid xs s → List Piece → List ℕ
relaid done ys = []
relaid (white {b = b} h k) ys = b ∷ relaid k ys
relaid (next x k) [] = []
relaid (next x k) (y ∷ ys) = bytes_of y ++ relaid k ys

-- s writes a lawful value in edition E, and s' the same in edition F
pub record Twin (E F : ℕ) (legs : List ℕ) (constraints tracks : ℕ) (s : List ℕ) (d : Document) (s' : List ℕ) : Type 0 where
  pub writing : Writing E legs constraints tracks s d
  pub renamed : s' ≡ relaid writing.written (pieces F writing.value)

-- of the three texts: f is what they say by S, and R states another edition
pub record TwinTexts (S R : Stated) (x y : Texts) (room : Rooms) (f : Files) : Type 0 where
  pub horizon : R.horizon ≡ S.horizon
  pub edition : KnownEdition R.edition
  pub timetable : y.timetable ≡ x.timetable
  pub profiles : y.profiles ≡ x.profiles
  pub constraints :
      Twin S.edition R.edition (leg_ids f.rows) (room.constraints / constraint_width) (room.tracks / track_width) x.constraints f.document y.constraints
  pub short : length y.constraints ≤ most_text

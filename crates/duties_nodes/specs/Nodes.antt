-- The nodes so far: two numbers for each, where its name stands in the text and how long it is.
use Rattle.std.specs.Prelude.{ℕ, zero, suc, ◌+◌, ◌*◌, ◌≡◌, List, [], ◌∷◌, length, get_or, Option}
use Rattle.std.proofs.lemmas.List.Edits.{sets}
use Rattle.rules.specs.Limits.{node_width}
use Rattle.rules.specs.Lists.{same_list, place_from}
use Rattle.rules.specs.Duties.{with_name, seen_at}
use Rattle.duties_fields.specs.Fields.{part_of}

abbrev pub name_at : (text table : List ℕ) → ℕ → List ℕ
name_at text table i = part_of text (get_or table (i * node_width) 0) (get_or table (i * node_width + 1) 0)

-- so many names, from name i on
abbrev pub names_from : (text table : List ℕ) → (i n : ℕ) → List (List ℕ)
names_from text table i zero = []
names_from text table i (suc n) = name_at text table i ∷ names_from text table (i + 1) n

abbrev pub view : (text table : List ℕ) → ℕ → List (List ℕ)
view text table n = names_from text table 0 n

abbrev pub place_of : List ℕ → List (List ℕ) → Option ℕ
place_of name nodes = (place_from 0 (same_list name) nodes)

abbrev pub with_both : List (List ℕ) → List ℕ → List ℕ → List (List ℕ)
with_both nodes from to = with_name (with_name nodes from) to

-- a name that stands at a place is put behind n others, where it is new
pub record Puts (text t : List ℕ) (n : ℕ) (name : List ℕ) (at r : ℕ) (t' : List ℕ) : Type 0 where
  pub table : t' ≡ sets t (n * node_width) (seen_at (view text t n) name at)
  pub count : r ≡ length (with_name (view text t n) name)

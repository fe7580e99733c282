-- A row of a timetable has one spelling: a row that was written is read back, and a row that was read was written so. Assumes nothing.
use Prim.Native.Nat.{ℕ, ◌<◌}
use mathlib.Core.Path.{◌≡◌, refl, ap, sym, ◌∙◌}
use mathlib.Core.Bool.{not}
use mathlib.Core.List.{List, [], ◌∷◌, map}
use native.Mathlib.Omega.{arith}
use lib.Dec.{T}
use lib.ListN.{length}
use borrow.Author.Tests.{ne_eqb}
use Rattle.rules.specs.Lists.{◌>>=◌, each}
use Rattle.rules.specs.Bytes.{carriage_return, line_feed, quote, comma, space, underscore, is_digit, whole_of, split_on, joined, less_return, content_of, contents_of, spelled}
use Rattle.rules.specs.Timetable.{Row, row, configuration, three_of, configuration_of, list_of, seven_of, form_of}
use Rattle.rules.specs.Merge.{spelled_configuration}
use Rattle.rules.specs.Verdict.{All}
use Rattle.rules.specs.declared.sizes.Configuration.{Configuration}
use Rattle.rules.proofs.Truth.{missing, found_first}
use Rattle.rules.proofs.Pieces.{Free, split_cons, split_alone, split_joined, joined_split, joined_free}
use Rattle.rules.proofs.Numbers.{whole_spelled, spelled_whole, spelled_free}
use Rattle.rules_theorems.specs.WellFormed.{fields_of}
use Rattle.std.specs.Prelude.{Option, Some}

-- the parts of a configuration, and its list
abbrev pub parts_of : Configuration → List (List ℕ)
parts_of c = spelled c.departure ∷ spelled c.travel ∷ spelled c.profile ∷ []

abbrev pub spelled_list : List Configuration → List ℕ
spelled_list l = joined space (map spelled_configuration l)

-- a row's line, without its LF
abbrev pub line_of : Row → List ℕ
line_of r = joined comma (fields_of r)

-- ---- a byte that is no digit and no separator of a field is not in the field

module _ (sep : ℕ) (no_digit : T (not (is_digit sep))) where
  parts_free : (c : Configuration) → All (Free sep) (parts_of c)
  parts_free c = (spelled_free sep c.departure no_digit, (spelled_free sep c.travel no_digit, (spelled_free sep c.profile no_digit, tt)))

  configuration_free : (underscore ≡ sep → ⊥) → (c : Configuration) → Free sep (spelled_configuration c)
  configuration_free n c = joined_free underscore sep (parts_of c) n (parts_free c)

  configurations_free : (underscore ≡ sep → ⊥) → (l : List Configuration) → All (Free sep) (map spelled_configuration l)
  configurations_free n [] = tt
  configurations_free n (c ∷ l) = (configuration_free n c, configurations_free n l)

  list_free : (underscore ≡ sep → ⊥) → (space ≡ sep → ⊥) → (l : List Configuration) → Free sep (spelled_list l)
  list_free n m l = joined_free space sep (map spelled_configuration l) m (configurations_free n l)

  fields_free : (underscore ≡ sep → ⊥) → (space ≡ sep → ⊥) → (r : Row) → All (Free sep) (fields_of r)
  fields_free n m r = (
    spelled_free sep r.leg no_digit,
    (
      spelled_free sep r.train no_digit,
      (
        spelled_free sep r.track no_digit,
        (
          spelled_free sep r.start no_digit,
          (
            spelled_free sep r.end no_digit,
            (configuration_free n r.nominal, (list_free n m r.list, tt)),
          ),
        ),
      ),
    ),
  )

-- no LF is in a row's line
pub line_free_lem : (r : Row) → Free line_feed (line_of r)
line_free_lem r = joined_free comma line_feed (fields_of r) (omega arith) (fields_free line_feed tt (omega arith) (omega arith) r)

-- ---- reading what was written

three-spelled : (c : Configuration) → three_of (parts_of c) ≡ Some c
three-spelled c = rw (whole_spelled c.departure, whole_spelled c.travel, whole_spelled c.profile)

pub configuration-spelled : (c : Configuration) → configuration_of (spelled_configuration c) ≡ Some c
configuration-spelled c =
    rw (split_joined underscore (spelled c.departure) (spelled c.travel ∷ spelled c.profile ∷ []) (parts_free underscore tt c)) (three-spelled c)

each-spelled : {A B : Type 0} (f : A → Option B) (g : B → A) → ((y : B) → f (g y) ≡ Some y) → (ys : List B) → each f (map g ys) ≡ Some ys
each-spelled f g h [] = refl
each-spelled f g h (y ∷ ys) = rw (h y, each-spelled f g h ys)

-- one or more configurations
pub list-spelled : (l : List Configuration) → 0 < length l → list_of (spelled_list l) ≡ Some l
list-spelled [] h = absurd (omega arith)
list-spelled (c ∷ l) h =
    rw (split_joined space (spelled_configuration c) (map spelled_configuration l) (configurations_free space tt (omega arith) (c ∷ l)))
    (each-spelled configuration_of spelled_configuration configuration-spelled (c ∷ l))

seven_spelled : (r : Row) → 0 < length r.list → seven_of (fields_of r) ≡ Some r
seven_spelled r h =
    rw (whole_spelled r.leg, whole_spelled r.train, whole_spelled r.track, whole_spelled r.start, whole_spelled r.end, configuration-spelled r.nominal, list-spelled r.list h)

-- ---- fields without quotes and lines without CR are their own contents

less_free : (s : List ℕ) → Free carriage_return s → less_return s ≡ s
less_free [] h = refl
less_free (b ∷ []) h = rw (ne_eqb b carriage_return h.0)
less_free (b ∷ c ∷ s) h = ap (λ (r : List ℕ). b ∷ r) (less_free (c ∷ s) h.1)

contents-plain : (fs : List (List ℕ)) → All (Free quote) fs → each content_of fs ≡ Some fs
contents-plain [] h = refl
contents-plain (f ∷ fs) h = rw (split_alone quote f h.0, contents-plain fs h.1)

-- the contents of a row's line
pub line-contents : (r : Row) → contents_of (less_return (line_of r)) ≡ Some (fields_of r)
line-contents r =
    ap contents_of (less_free (line_of r) (joined_free comma carriage_return (fields_of r) (omega arith) (fields_free carriage_return tt (omega arith) (omega arith) r)))
    ∙ ap (each content_of) (split_joined comma (spelled r.leg)
    (spelled r.train ∷ spelled r.track ∷ spelled r.start ∷ spelled r.end ∷ spelled_configuration r.nominal ∷ spelled_list r.list ∷ [])
    (fields_free comma tt (omega arith) (omega arith) r))
    ∙ contents-plain (fields_of r) (fields_free quote tt (omega arith) (omega arith) r)

-- a line with a row's contents is read as the row
pub form_spelled : (line : List ℕ) (r : Row) → contents_of line ≡ Some (fields_of r) → 0 < length r.list → form_of line ≡ Some r
form_spelled line r e h = ap (λ (x : Option (List (List ℕ))). x >>= seven_of) e ∙ seven_spelled r h

-- ---- writing what was read

made-three : (d t p : List ℕ) (a b g : ℕ) (c : Configuration) → whole_of d ≡ Some a → whole_of t ≡ Some b → whole_of p ≡ Some g → Some (configuration a b g) ≡ Some c
    → d ∷ t ∷ p ∷ [] ≡ parts_of c
made-three d t p a b g c i j k e =
    let q : configuration a b g ≡ c = cc in
    rw (← q) (cc (spelled_whole d a i, spelled_whole t b j, spelled_whole p g k))

three_one : (ps : List (List ℕ)) (c : Configuration) → three_of ps ≡ Some c → ps ≡ parts_of c
three_one [] c e = missing c e
three_one (d ∷ []) c e = missing c e
three_one (d ∷ t ∷ []) c e = missing c e
three_one (d ∷ t ∷ p ∷ []) c e =
    let x = found_first (whole_of d) _ c e in
    let y = found_first (whole_of t) _ c x.2 in
    let z = found_first (whole_of p) _ c y.2 in
    made-three d t p x.0 y.0 z.0 c x.1 y.1 z.1 z.2
three_one (d ∷ t ∷ p ∷ x ∷ more) c e = missing c e

pub configuration_one : (s : List ℕ) (c : Configuration) → configuration_of s ≡ Some c → s ≡ spelled_configuration c
configuration_one s c e = sym (joined_split underscore s) ∙ ap (joined underscore) (three_one (split_on underscore s) c e)

module _ {A B : Type 0} (f : A → Option B) (g : B → A) (one : (x : A) (y : B) → f x ≡ Some y → x ≡ g y) where
  each-made : (x : A) (xs : List A) (y : B) (ys zs : List B) → f x ≡ Some y → xs ≡ map g ys → Some (y ∷ ys) ≡ Some zs → x ∷ xs ≡ map g zs
  each-made x xs y ys zs p q e =
      let r : y ∷ ys ≡ zs = cc in
      rw (← r) (cc (one x y p))

  each_one : (xs : List A) (ys : List B) → each f xs ≡ Some ys → xs ≡ map g ys
  each_one [] ys e = let r : [] ≡ ys = cc in rw (← r)
  each_one (x ∷ xs) ys e =
      let a = found_first (f x) _ ys e in
      let b = found_first (each f xs) _ ys a.2 in
      each-made x xs a.0 b.0 ys a.1 (each_one xs b.0 b.1) b.2

-- a text's pieces, read one by one, are one or more
pub pieces_some : {A : Type 0} (f : List ℕ → Option A) (sep : ℕ) (s : List ℕ) (ys : List A) → each f (split_on sep s) ≡ Some ys → 0 < length ys
pieces_some f sep s (y ∷ ys) e = omega arith
pieces_some f sep s [] e =
    let c = split_cons sep s in
    let a = found_first (f c.0) _ [] (rw c.2 at e) in
    let b = found_first (each f c.1) _ [] a.2 in
    let z : ◌≡◌ {A = ℕ} 0 1 = cc b.2 in
    absurd (omega arith)

pub list_one : (s : List ℕ) (l : List Configuration) → list_of s ≡ Some l → s ≡ spelled_list l
list_one s l e = sym (joined_split space s) ∙ ap (joined space) (each_one configuration_of spelled_configuration configuration_one (split_on space s) l e)

made_seven : (a b c d e n l : List ℕ) (a' b' c' d' e' : ℕ) (n' : Configuration) (l' : List Configuration) (r : Row)
    → whole_of a ≡ Some a' → whole_of b ≡ Some b' → whole_of c ≡ Some c' → whole_of d ≡ Some d' → whole_of e ≡ Some e' → configuration_of n ≡ Some n' → list_of l ≡ Some l'
    → Some (row a' b' c' d' e' n' l') ≡ Some r → a ∷ b ∷ c ∷ d ∷ e ∷ n ∷ l ∷ [] ≡ fields_of r
made_seven a b c d e n l a' b' c' d' e' n' l' r p q s t u v w x =
    let y : row a' b' c' d' e' n' l' ≡ r = cc in
    rw (← y) (cc (spelled_whole a a' p, spelled_whole b b' q, spelled_whole c c' s, spelled_whole d d' t, spelled_whole e e' u, configuration_one n n' v, list_one l l' w))

seven_one : (ps : List (List ℕ)) (r : Row) → seven_of ps ≡ Some r → ps ≡ fields_of r
seven_one [] r x = missing r x
seven_one (a ∷ []) r x = missing r x
seven_one (a ∷ b ∷ []) r x = missing r x
seven_one (a ∷ b ∷ c ∷ []) r x = missing r x
seven_one (a ∷ b ∷ c ∷ d ∷ []) r x = missing r x
seven_one (a ∷ b ∷ c ∷ d ∷ e ∷ []) r x = missing r x
seven_one (a ∷ b ∷ c ∷ d ∷ e ∷ n ∷ []) r x = missing r x
seven_one (a ∷ b ∷ c ∷ d ∷ e ∷ n ∷ l ∷ []) r x =
    let a' = found_first (whole_of a) _ r x in
    let b' = found_first (whole_of b) _ r a'.2 in
    let c' = found_first (whole_of c) _ r b'.2 in
    let d' = found_first (whole_of d) _ r c'.2 in
    let e' = found_first (whole_of e) _ r d'.2 in
    let n' = found_first (configuration_of n) _ r e'.2 in
    let l' = found_first (list_of l) _ r n'.2 in
    made_seven a b c d e n l a'.0 b'.0 c'.0 d'.0 e'.0 n'.0 l'.0 r a'.1 b'.1 c'.1 d'.1 e'.1 n'.1 l'.1 l'.2
seven_one (a ∷ b ∷ c ∷ d ∷ e ∷ n ∷ l ∷ y ∷ more) r x = missing r x

-- the contents of a row that was read have no other spelling
pub form_one : (line : List ℕ) (r : Row) → form_of line ≡ Some r → contents_of line ≡ Some (fields_of r)
form_one line r e = let k = found_first (contents_of line) seven_of r e in k.1 ∙ ap (λ (x : List (List ℕ)). Some x) (seven_one k.0 r k.2)

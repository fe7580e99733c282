-- The machine of a row reads what the definition of a row's form says: number by number, configuration by configuration, field by field.
-- Assumes nothing.
use Prim.Native.Nat.{ℕ}
use mathlib.Core.Path.{◌≡◌, refl, ap, sym, ◌∙◌}
use mathlib.Core.Bool.{Bool, true, false}
use mathlib.Core.List.{List, [], ◌∷◌, ◌++◌, append_assoc, append-nil}
use native.Mathlib.Omega.{arith}
use lib.Dec.{ltb}
use lib.ListN.{length, get_or}
use borrow.Author.Tests.{ne_eqb}
use Rattle.rules.specs.Lists.{◌>>=◌, each}
use Rattle.rules.specs.Bytes.{is_digit, whole_of, comma, space, underscore, split_on, joined}
use Rattle.rules.specs.Timetable.{Row, row, configuration, three_of, configuration_of, list_of, seven_of}
use Rattle.rules.specs.Verdict.{All}
use Rattle.rules.specs.declared.sizes.Configuration.{Configuration}
use Rattle.rules.proofs.Pieces.{Free, split_cons, split_free, joined_split}
use Rattle.csv_machine.specs.Fold.{run}
use Rattle.csv_machine.specs.Number.{Number, empty, number_step, number_end}
use Rattle.csv_machine.proofs.Options.{then_none, then_same, then_then}
use Rattle.csv_machine.proofs.Number.{no_step, number_is_whole}
use Rattle.csv_machine.proofs.Marks.{split_within}
use Rattle.timetable.specs.Open.{Open, partly, start, separate, open_step, close_last, open_end}
use Rattle.timetable_row.specs.Slots.{separators}
use Rattle.std.specs.Prelude.{Option, Some, None}

-- ---- a number

abbrev number_run : Number → List ℕ → Option ℕ
number_run m s = run number_step m s >>= number_end

-- ---- the open number of a row, up to where it closes

abbrev with_number : Open → Number → Open
with_number o m = partly o.closed o.list o.entry m

-- what the row becomes when this is the rest of its line
abbrev rest : Open → List ℕ → Option Row
rest o s = run open_step o s >>= open_end

-- no other byte than the separator closes the open number
abbrev Wants : Open → ℕ → Type 0
Wants o sep = (b n : ℕ) → (b ≡ sep → ⊥) → separate o b n ≡ None

at_digit : (o : Open) (m : Number) (b : ℕ) (s : List ℕ) → is_digit b ≡ true
    → rest (with_number o m) (b ∷ s) ≡ (number_step m b >>= (λ next. rest (with_number o next) s))
unfolding open_step
at_digit o m b s d = rw d (then_some (number_step m b))
  where
    then_some : (x : Option Number) → (((x >>= (λ next. Some (with_number o next))) >>= (λ next. run open_step next s)) >>= open_end) ≡ (x >>= (λ next. rest (with_number o next) s))
    then_some None = refl
    then_some (Some next) = refl

at_other : (o : Open) (m : Number) (b : ℕ) (s : List ℕ) → is_digit b ≡ false
    → rest (with_number o m) (b ∷ s) ≡ (number_end m >>= (λ n. separate o b n >>= (λ next. rest next s)))
unfolding open_step
at_other o m b s d =
    rw d
    (ap (λ (x : Option Open). x >>= open_end) (then_then (number_end m) (λ n. separate o b n) (λ next. run open_step next s))
    ∙ then_then (number_end m) (λ n. separate o b n >>= (λ next. run open_step next s)) open_end
    ∙ then_same (number_end m) _ _ (λ n. then_then (separate o b n) (λ next. run open_step next s) open_end))

at-end : (o : Open) (m : Number) → rest (with_number o m) [] ≡ (number_end m >>= (λ n. close_last o.closed o.list o.entry n))
unfolding open_end
at-end o m = refl

-- bytes other than the separator, and then what closes the number or does not
module _ (o : Open) (sep : ℕ) (wants : Wants o sep) (tail : List ℕ) (more : ℕ → Option Row) (closes : (m : Number) → rest (with_number o m) tail ≡ (number_end m >>= more)) where
  up_to : (p : List ℕ) → Free sep p → (m : Number) → rest (with_number o m) (p ++ tail) ≡ (number_run m p >>= more)
  up_to [] f m = closes m
  up_to (b ∷ p) f m = go (is_digit b) refl (up_to p f.1)
    where
      stepped : (x : Option Number) → ((m : Number) → rest (with_number o m) (p ++ tail) ≡ (number_run m p >>= more))
          → (x >>= (λ next. rest (with_number o next) (p ++ tail))) ≡ (((x >>= (λ next. run number_step next p)) >>= number_end) >>= more)
      stepped None ih = refl
      stepped (Some next) ih = ih next

      go : (d : Bool) → is_digit b ≡ d → ((m : Number) → rest (with_number o m) (p ++ tail) ≡ (number_run m p >>= more))
          → rest (with_number o m) (b ∷ p ++ tail) ≡ (number_run m (b ∷ p) >>= more)
      go true d ih = at_digit o m b (p ++ tail) d ∙ stepped (number_step m b) ih
      go false d ih =
          at_other o m b (p ++ tail) d
          ∙ then_same (number_end m) _ (λ n. None) (λ n. ap (λ (x : Option Open). x >>= (λ next. rest next (p ++ tail))) (wants b n f.0))
          ∙ then_none (number_end m)
          ∙ sym (ap (λ (x : Option Number). ((x >>= (λ next. run number_step next p)) >>= number_end) >>= more) (no_step m b d))

  -- a whole piece
  piece : (p : List ℕ) → Free sep p → o.number ≡ empty → rest o (p ++ tail) ≡ (whole_of p >>= more)
  piece p f e = let q : o ≡ with_number o empty = ap (with_number o) e in rw (← number_is_whole p) (ap (λ (x : Open). rest x (p ++ tail)) q ∙ up_to p f empty)

none_of : {A B : Type 0} (x : Option A) (f : A → Option B) → ((a : A) → f a ≡ None) → (x >>= f) ≡ None
none_of x f h = then_same x f (λ a. None) h ∙ then_none x

-- the separator closes the number
past : (o : Open) (sep : ℕ) (next : ℕ → Open) → is_digit sep ≡ false → ((n : ℕ) → separate o sep n ≡ Some (next n))
    → (s : List ℕ) (m : Number) → rest (with_number o m) (sep ∷ s) ≡ (number_end m >>= (λ n. rest (next n) s))
past o sep next d to s m =
    at_other o m sep s d ∙ then_same (number_end m) _ _ (λ n. ap (λ (x : Option Open). x >>= (λ o. rest o s)) (to n))

-- another byte that is no digit does not
blocked : (o : Open) (sep b : ℕ) → Wants o sep → is_digit b ≡ false → (b ≡ sep → ⊥) → (s : List ℕ) (m : Number) → rest (with_number o m) (b ∷ s) ≡ None
blocked o sep b wants d other s m =
    at_other o m b s d ∙ none_of (number_end m) _ (λ n. ap (λ (x : Option Open). x >>= (λ o. rest o s)) (wants b n other))

field : (o : Open) (sep : ℕ) (next : ℕ → Open) → Wants o sep → is_digit sep ≡ false → ((n : ℕ) → separate o sep n ≡ Some (next n)) → o.number ≡ empty
    → (p s : List ℕ) → Free sep p → rest o (p ++ sep ∷ s) ≡ (whole_of p >>= (λ n. rest (next n) s))
field o sep next wants d to e p s f = piece o sep wants (sep ∷ s) (λ n. rest (next n) s) (past o sep next d to s) p f e

stuck : (o : Open) (sep : ℕ) → Wants o sep → o.number ≡ empty → (p tail : List ℕ) → Free sep p → ((m : Number) → rest (with_number o m) tail ≡ None) → rest o (p ++ tail) ≡ None
stuck o sep wants e p tail f h =
    piece o sep wants tail (λ n. None) (λ m. h m ∙ sym (then_none (number_end m))) p f e ∙ then_none (whole_of p)

-- ---- a configuration: what is left of it after its first and its second number

abbrev third : ℕ → ℕ → List ℕ → Option Configuration
third d t p = whole_of p >>= (λ p'. Some (configuration d t p'))

abbrev second : ℕ → List ℕ → List ℕ → Option Configuration
second d t p = whole_of t >>= (λ t'. third d t' p)

-- the states in which its three numbers are open, the third closed by the separator

record Three (sep : ℕ) : Type 0 where
  one : Open
  two : ℕ → Open
  three : ℕ → ℕ → Open
  wants_one : Wants one underscore
  wants_two : (d : ℕ) → Wants (two d) underscore
  wants_three : (d t : ℕ) → Wants (three d t) sep
  to_two : (d : ℕ) → separate one underscore d ≡ Some (two d)
  to_three : (d t : ℕ) → separate (two d) underscore t ≡ Some (three d t)
  empty_one : one.number ≡ empty
  empty_two : (d : ℕ) → (two d).number ≡ empty
  empty_three : (d t : ℕ) → (three d t).number ≡ empty

module _ (sep : ℕ) (apart : underscore ≡ sep → ⊥) (o : Three sep) (tail : List ℕ) (more : ℕ → ℕ → ℕ → Option Row)
    (no_one : (m : Number) → rest (with_number o.one m) tail ≡ None)
    (no-two : (d : ℕ) (m : Number) → rest (with_number (o.two d) m) tail ≡ None)
    (at-three : (d t : ℕ) (m : Number) → rest (with_number (o.three d t) m) tail ≡ (number_end m >>= more d t)) where
  abbrev then_more : Configuration → Option Row
  then_more c = more c.departure c.travel c.profile

  to_second : (p s : List ℕ) → Free underscore p → rest o.one (p ++ underscore ∷ s) ≡ (whole_of p >>= (λ d. rest (o.two d) s))
  to_second p s f = field o.one underscore o.two o.wants_one refl o.to_two o.empty_one p s f

  to_third : (d : ℕ) (p s : List ℕ) → Free underscore p → rest (o.two d) (p ++ underscore ∷ s) ≡ (whole_of p >>= (λ t. rest (o.three d t) s))
  to_third d p s f = field (o.two d) underscore (o.three d) (o.wants_two d) refl (o.to_three d) (o.empty_two d) p s f

  parts : (ps : List (List ℕ)) → All (Free underscore) ps → All (Free sep) ps → rest o.one (joined underscore ps ++ tail) ≡ (three_of ps >>= then_more)
  parts [] f g = stuck o.one underscore o.wants_one o.empty_one [] tail tt no_one
  parts (d ∷ []) f g = stuck o.one underscore o.wants_one o.empty_one d tail f.0 no_one
  parts (d ∷ t ∷ []) f g =
      rw (append_assoc d (underscore ∷ t) tail)
      (to_second d (t ++ tail) f.0
      ∙ none_of (whole_of d) _ (λ d'. stuck (o.two d') underscore (o.wants_two d') (o.empty_two d') t tail f.1.0 (no-two d')))
  parts (d ∷ t ∷ p ∷ []) f g =
      rw (append_assoc d (underscore ∷ (t ++ underscore ∷ p)) tail, append_assoc t (underscore ∷ p) tail)
      (to_second d (t ++ underscore ∷ (p ++ tail)) f.0
      ∙ then_same (whole_of d) _ _
      (λ d'. to_third d' t (p ++ tail) f.1.0
      ∙ then_same (whole_of t) _ _
      (λ t'. piece (o.three d' t') sep (o.wants_three d' t') tail (more d' t') (at-three d' t') p g.1.1.0 (o.empty_three d' t')
      ∙ sym (then_then (whole_of p) (λ p'. Some (configuration d' t' p')) then_more))
      ∙ sym (then_then (whole_of t) (λ t'. third d' t' p) then_more))
      ∙ sym (then_then (whole_of d) (λ d'. second d' t p) then_more))
  parts (d ∷ t ∷ p ∷ x ∷ ps) f g =
      let over : List ℕ = underscore ∷ joined underscore (x ∷ ps) in
      rw (append_assoc d (underscore ∷ (t ++ underscore ∷ (p ++ over))) tail, append_assoc t (underscore ∷ (p ++ over)) tail, append_assoc p over tail)
      (to_second d (t ++ underscore ∷ (p ++ (over ++ tail))) f.0
      ∙ none_of (whole_of d) _
      (λ d'. to_third d' t (p ++ (over ++ tail)) f.1.0
      ∙ none_of (whole_of t) _
      (λ t'. stuck (o.three d' t') sep (o.wants_three d' t') (o.empty_three d' t') p (over ++ tail) g.1.1.0
      (blocked (o.three d' t') sep underscore (o.wants_three d' t') refl apart (joined underscore (x ∷ ps) ++ tail)))))

  configuration-run : (s : List ℕ) → Free sep s → rest o.one (s ++ tail) ≡ (configuration_of s >>= then_more)
  configuration-run s f =
      ap (λ (x : List ℕ). rest o.one (x ++ tail)) (sym (joined_split underscore s))
      ∙ parts (split_on underscore s) (split_free underscore s) (split_within (λ b. b ≡ sep → ⊥) underscore s f)

-- ---- a list of configurations, after the eight numbers before it

module _ (closed : List ℕ) (whole : ltb (length closed) (length separators) ≡ false) where
  abbrev listed : List Configuration → Open
  listed list = partly closed list [] empty

  abbrev listed_three : List Configuration → Three space
  listed_three list =
      record {
        one = listed list;
        two = λ d. partly closed list (d ∷ []) empty;
        three = λ d t. partly closed list (d ∷ t ∷ []) empty;
        wants_one = λ b n h. rw (whole, ne_eqb b underscore h);
        wants_two = λ d b n h. rw (whole, ne_eqb b underscore h);
        wants_three = λ d t b n h. rw (whole, ne_eqb b space h);
        to_two = λ d. rw whole;
        to_three = λ d t. rw whole;
        empty_one = refl;
        empty_two = λ d. refl;
        empty_three = λ d t. refl;
      }

  -- what follows the list does not close an entry's first or second number
  module _ (tail : List ℕ) (more : List Configuration → Option Row)
      (no_one : (list : List Configuration) (m : Number) → rest (with_number (listed_three list).one m) tail ≡ None)
      (no-two : (list : List Configuration) (d : ℕ) (m : Number) → rest (with_number ((listed_three list).two d) m) tail ≡ None)
      (at-three : (list : List Configuration) (d t : ℕ) (m : Number)
      → rest (with_number ((listed_three list).three d t) m) tail ≡ (number_end m >>= (λ p. more (list ++ configuration d t p ∷ [])))) where
    entries : (list : List Configuration) (c : List ℕ) (cs : List (List ℕ)) → All (Free space) (c ∷ cs)
        → rest (listed list) (joined space (c ∷ cs) ++ tail) ≡ (each configuration_of (c ∷ cs) >>= (λ l. more (list ++ l)))
    entries list c [] f =
        configuration-run space (omega arith) (listed_three list) tail (λ d t p. more (list ++ configuration d t p ∷ [])) (no_one list) (no-two list) (at-three list) c f.0
        ∙ sym (then_then (configuration_of c) (λ y. Some (y ∷ [])) (λ l. more (list ++ l)))
    entries list c (e ∷ cs) f =
        let later : List ℕ = joined space (e ∷ cs) ++ tail in
        rw (append_assoc c (space ∷ joined space (e ∷ cs)) tail)
        (configuration-run space (omega arith) (listed_three list) (space ∷ later) (λ d t p. rest (listed (list ++ configuration d t p ∷ [])) later)
        (blocked (listed list) underscore space (listed_three list).wants_one refl (omega arith) later)
        (λ d. blocked ((listed_three list).two d) underscore space ((listed_three list).wants_two d) refl (omega arith) later)
        (λ d t. past ((listed_three list).three d t) space (λ p. listed (list ++ configuration d t p ∷ [])) refl (λ p. rw whole) later)
        c f.0
        ∙ then_same (configuration_of c) _ (λ y. each configuration_of (e ∷ cs) >>= (λ l. more (list ++ y ∷ l)))
        (λ y. entries (list ++ y ∷ []) e cs f.1
        ∙ then_same (each configuration_of (e ∷ cs)) _ (λ l. more (list ++ y ∷ l)) (λ l. ap more (append_assoc list (y ∷ []) l)))
        ∙ then_same (configuration_of c) _ (λ y. (each configuration_of (e ∷ cs) >>= (λ l. Some (y ∷ l))) >>= (λ l. more (list ++ l)))
        (λ y. sym (then_then (each configuration_of (e ∷ cs)) (λ l. Some (y ∷ l)) (λ l. more (list ++ l))))
        ∙ sym (then_then (configuration_of c) (λ y. each configuration_of (e ∷ cs) >>= (λ l. Some (y ∷ l))) (λ l. more (list ++ l))))

    list-run : (s : List ℕ) → rest (listed []) (s ++ tail) ≡ (list_of s >>= more)
    list-run s =
        let c = split_cons space s in
        let f : All (Free space) (c.0 ∷ c.1) = rw c.2 at (split_free space s) in
        ap (λ (x : List ℕ). rest (listed []) (x ++ tail)) (sym (joined_split space s) ∙ ap (joined space) c.2)
        ∙ entries [] c.0 c.1 f
        ∙ ap (λ (ps : List (List ℕ)). each configuration_of ps >>= more) (sym c.2)

-- ---- the fields of a row

-- the numbers closed so far are ids
module _ (closed : List ℕ) (few : ltb (length closed) (length separators) ≡ true) (id : get_or separators (length closed) 0 ≡ comma) where
  abbrev in_id : Open
  in_id = partly closed [] [] empty

  id_wants : Wants in_id comma
  id_wants b n h = rw (few, id, ne_eqb b comma h)

  id_run : (p s : List ℕ) → Free comma p → rest in_id (p ++ comma ∷ s) ≡ (whole_of p >>= (λ n. rest (partly (closed ++ n ∷ []) [] [] empty) s))
  id_run = field in_id comma (λ n. partly (closed ++ n ∷ []) [] [] empty) id_wants refl (λ n. rw (few, id)) refl

  -- a row that ends in an id
  id_last : (p : List ℕ) → Free comma p → rest in_id p ≡ None
  id_last p f =
      ap (rest in_id) (sym (append-nil p)) ∙ stuck in_id comma id_wants refl p [] f (λ m. at-end in_id m ∙ then_none (number_end m))

abbrev five_ids : ℕ → ℕ → ℕ → ℕ → ℕ → List ℕ
five_ids a b c d e = a ∷ b ∷ c ∷ d ∷ e ∷ []

abbrev nominal_three : ℕ → ℕ → ℕ → ℕ → ℕ → Three comma
nominal_three a b c d e =
    record {
      one = partly (five_ids a b c d e) [] [] empty;
      two = λ x. partly (five_ids a b c d e ++ x ∷ []) [] [] empty;
      three = λ x y. partly (five_ids a b c d e ++ x ∷ y ∷ []) [] [] empty;
      wants_one = λ s n h. rw (ne_eqb s underscore h);
      wants_two = λ x s n h. rw (ne_eqb s underscore h);
      wants_three = λ x y s n h. rw (ne_eqb s comma h);
      to_two = λ x. refl;
      to_three = λ x y. refl;
      empty_one = refl;
      empty_two = λ x. refl;
      empty_three = λ x y. refl;
    }

abbrev eight : ℕ → ℕ → ℕ → ℕ → ℕ → Configuration → List ℕ
eight a b c d e n = a ∷ b ∷ c ∷ d ∷ e ∷ n.departure ∷ n.travel ∷ n.profile ∷ []

module _ (a b c d e : ℕ) where
  abbrev in_nominal : Open
  in_nominal = partly (five_ids a b c d e) [] [] empty

  -- a row that ends in the nominal
  nominal_last : (s : List ℕ) → Free comma s → rest in_nominal s ≡ None
  nominal_last s f =
      let o : Three comma = nominal_three a b c d e in
      ap (rest in_nominal) (sym (append-nil s))
      ∙ configuration-run comma (omega arith) o [] (λ x y z. None)
      (λ m. at-end o.one m ∙ then_none (number_end m))
      (λ x m. at-end (o.two x) m ∙ then_none (number_end m))
      (λ x y m. at-end (o.three x y) m)
      s f
      ∙ then_none (configuration_of s)

  nominal_run : (s t : List ℕ) → Free comma s → rest in_nominal (s ++ comma ∷ t) ≡ (configuration_of s >>= (λ n. rest (partly (eight a b c d e n) [] [] empty) t))
  nominal_run s t f =
      let o : Three comma = nominal_three a b c d e in
      configuration-run comma (omega arith) o (comma ∷ t) (λ x y z. rest (partly (eight a b c d e (configuration x y z)) [] [] empty) t)
      (blocked o.one underscore comma o.wants_one refl (omega arith) t)
      (λ x. blocked (o.two x) underscore comma (o.wants_two x) refl (omega arith) t)
      (λ x y. past (o.three x y) comma (λ z. partly (eight a b c d e (configuration x y z)) [] [] empty) refl (λ z. refl) t)
      s f

  module _ (n : Configuration) where
    abbrev list_three : List Configuration → Three space
    list_three = listed_three (eight a b c d e n) refl

    -- the list is the last field
    list-last : (s : List ℕ) → rest (partly (eight a b c d e n) [] [] empty) s ≡ (list_of s >>= (λ l. Some (row a b c d e n l)))
    list-last s =
        ap (rest (partly (eight a b c d e n) [] [] empty)) (sym (append-nil s))
        ∙ list-run (eight a b c d e n) refl [] (λ l. Some (row a b c d e n l))
        (λ l m. at-end (list_three l).one m ∙ then_none (number_end m))
        (λ l x m. at-end ((list_three l).two x) m ∙ then_none (number_end m))
        (λ l x y m. at-end ((list_three l).three x y) m)
        s

    -- and no field follows it
    list_over : (s t : List ℕ) → rest (partly (eight a b c d e n) [] [] empty) (s ++ comma ∷ t) ≡ None
    list_over s t =
        list-run (eight a b c d e n) refl (comma ∷ t) (λ l. None)
        (λ l. blocked (list_three l).one underscore comma (list_three l).wants_one refl (omega arith) t)
        (λ l x. blocked ((list_three l).two x) underscore comma ((list_three l).wants_two x) refl (omega arith) t)
        (λ l x y m. blocked ((list_three l).three x y) space comma ((list_three l).wants_three x y) refl (omega arith) t m ∙ sym (then_none (number_end m)))
        s
        ∙ then_none (list_of s)

-- five ids and what follows them
abbrev after_ids : (a b c d e : List ℕ) → (ℕ → ℕ → ℕ → ℕ → ℕ → Option Row) → Option Row
after_ids a b c d e more =
    whole_of a >>= (λ a'. whole_of b >>= (λ b'. whole_of c >>= (λ c'. whole_of d >>= (λ d'. whole_of e >>= (λ e'. more a' b' c' d' e')))))

ids-run : (a b c d e s : List ℕ) → All (Free comma) (a ∷ b ∷ c ∷ d ∷ e ∷ []) → (more : ℕ → ℕ → ℕ → ℕ → ℕ → Option Row)
    → ((a' b' c' d' e' : ℕ) → rest (partly (five_ids a' b' c' d' e') [] [] empty) s ≡ more a' b' c' d' e')
    → rest start (a ++ comma ∷ (b ++ comma ∷ (c ++ comma ∷ (d ++ comma ∷ (e ++ comma ∷ s))))) ≡ after_ids a b c d e more
ids-run a b c d e s f more h =
    id_run [] refl refl a (b ++ comma ∷ (c ++ comma ∷ (d ++ comma ∷ (e ++ comma ∷ s)))) f.0
    ∙ then_same (whole_of a) _ _
    (λ a'. id_run (a' ∷ []) refl refl b (c ++ comma ∷ (d ++ comma ∷ (e ++ comma ∷ s))) f.1.0
    ∙ then_same (whole_of b) _ _
    (λ b'. id_run (a' ∷ b' ∷ []) refl refl c (d ++ comma ∷ (e ++ comma ∷ s)) f.1.1.0
    ∙ then_same (whole_of c) _ _
    (λ c'. id_run (a' ∷ b' ∷ c' ∷ []) refl refl d (e ++ comma ∷ s) f.1.1.1.0
    ∙ then_same (whole_of d) _ _
    (λ d'. id_run (a' ∷ b' ∷ c' ∷ d' ∷ []) refl refl e s f.1.1.1.1.0 ∙ then_same (whole_of e) _ _ (λ e'. h a' b' c' d' e')))))

-- ids and then nothing that makes a row
ids-none : (a b c d e : List ℕ) → after_ids a b c d e (λ a' b' c' d' e'. None) ≡ None
ids-none a b c d e =
    none_of (whole_of a) _ (λ a'. none_of (whole_of b) _ (λ b'. none_of (whole_of c) _ (λ c'. none_of (whole_of d) _ (λ d'. then_none (whole_of e)))))

seven : (ps : List (List ℕ)) → All (Free comma) ps → rest start (joined comma ps) ≡ seven_of ps
seven [] f = at-end start empty
seven (a ∷ []) f = id_last [] refl refl a f.0
seven (a ∷ b ∷ []) f = id_run [] refl refl a b f.0 ∙ none_of (whole_of a) _ (λ a'. id_last (a' ∷ []) refl refl b f.1.0)
seven (a ∷ b ∷ c ∷ []) f =
    id_run [] refl refl a (b ++ comma ∷ c) f.0
    ∙ none_of (whole_of a) _
    (λ a'. id_run (a' ∷ []) refl refl b c f.1.0 ∙ none_of (whole_of b) _ (λ b'. id_last (a' ∷ b' ∷ []) refl refl c f.1.1.0))
seven (a ∷ b ∷ c ∷ d ∷ []) f =
    id_run [] refl refl a (b ++ comma ∷ (c ++ comma ∷ d)) f.0
    ∙ none_of (whole_of a) _
    (λ a'. id_run (a' ∷ []) refl refl b (c ++ comma ∷ d) f.1.0
    ∙ none_of (whole_of b) _
    (λ b'. id_run (a' ∷ b' ∷ []) refl refl c d f.1.1.0
    ∙ none_of (whole_of c) _ (λ c'. id_last (a' ∷ b' ∷ c' ∷ []) refl refl d f.1.1.1.0)))
seven (a ∷ b ∷ c ∷ d ∷ e ∷ []) f =
    id_run [] refl refl a (b ++ comma ∷ (c ++ comma ∷ (d ++ comma ∷ e))) f.0
    ∙ none_of (whole_of a) _
    (λ a'. id_run (a' ∷ []) refl refl b (c ++ comma ∷ (d ++ comma ∷ e)) f.1.0
    ∙ none_of (whole_of b) _
    (λ b'. id_run (a' ∷ b' ∷ []) refl refl c (d ++ comma ∷ e) f.1.1.0
    ∙ none_of (whole_of c) _
    (λ c'. id_run (a' ∷ b' ∷ c' ∷ []) refl refl d e f.1.1.1.0
    ∙ none_of (whole_of d) _ (λ d'. id_last (a' ∷ b' ∷ c' ∷ d' ∷ []) refl refl e f.1.1.1.1.0))))
seven (a ∷ b ∷ c ∷ d ∷ e ∷ n ∷ []) f =
    ids-run a b c d e n (f.0, (f.1.0, (f.1.1.0, (f.1.1.1.0, (f.1.1.1.1.0, tt))))) (λ a' b' c' d' e'. None)
    (λ a' b' c' d' e'. nominal_last a' b' c' d' e' n f.1.1.1.1.1.0)
    ∙ ids-none a b c d e
seven (a ∷ b ∷ c ∷ d ∷ e ∷ n ∷ l ∷ []) f =
    ids-run a b c d e (n ++ comma ∷ l) (f.0, (f.1.0, (f.1.1.0, (f.1.1.1.0, (f.1.1.1.1.0, tt)))))
    (λ a' b' c' d' e'. configuration_of n >>= (λ n'. list_of l >>= (λ l'. Some (row a' b' c' d' e' n' l'))))
    (λ a' b' c' d' e'. nominal_run a' b' c' d' e' n l f.1.1.1.1.1.0 ∙ then_same (configuration_of n) _ _ (λ n'. list-last a' b' c' d' e' n' l))
seven (a ∷ b ∷ c ∷ d ∷ e ∷ n ∷ l ∷ x ∷ more) f =
    ids-run a b c d e (n ++ comma ∷ (l ++ comma ∷ joined comma (x ∷ more))) (f.0, (f.1.0, (f.1.1.0, (f.1.1.1.0, (f.1.1.1.1.0, tt)))))
    (λ a' b' c' d' e'. None)
    (λ a' b' c' d' e'.
    nominal_run a' b' c' d' e' n (l ++ comma ∷ joined comma (x ∷ more)) f.1.1.1.1.1.0
    ∙ none_of (configuration_of n) _ (λ n'. list_over a' b' c' d' e' n' l (joined comma (x ∷ more))))
    ∙ ids-none a b c d e

-- contents joined by commas are a row exactly where the machine ends in that row
pub contents-run : (f : List ℕ) (fs : List (List ℕ)) → All (Free comma) (f ∷ fs) → (run open_step start (joined comma (f ∷ fs)) >>= open_end) ≡ seven_of (f ∷ fs)
contents-run f fs h = seven (f ∷ fs) h

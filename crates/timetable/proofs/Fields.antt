-- A line of a timetable in quotes, byte by byte: the machine of its contents stays, and quotes and CR are the marks'. Assumes nothing.
use Prim.Native.Nat.{ℕ, zero, suc, ◌<◌}
use mathlib.Core.Path.{◌≡◌, refl, ap, sym, ◌∙◌}
use mathlib.Core.Bool.{Bool, true, false, cond, ◌||◌, false≢true}
use mathlib.Core.List.{List, [], ◌∷◌, ◌++◌}
use native.Mathlib.Omega.{arith}
use native.Mathlib.Numerals.{add-one}
use lib.Dec.{leb, ltb, eqb}
use lib.ListN.{length, get_or, length-append}
use borrow.Author.Tests.{eqb-true, ltb-true}
use Rattle.rules.specs.Lists.{◌>>=◌}
use Rattle.rules.specs.Bytes.{is_digit, carriage_return, comma, space, underscore, less_return}
use Rattle.rules.specs.Timetable.{configuration, seven_of, form_of}
use Rattle.rules.specs.declared.sizes.Configuration.{Configuration}
use Rattle.csv_machine.specs.Fold.{run}
use Rattle.csv_machine.specs.Number.{Number, empty, zero as lone, digits, number_step, number_end}
use Rattle.csv_machine.specs.Marks.{bare, on, mark_step, mark_close}
use Rattle.csv_machine.proofs.Options.{never, given}
use Rattle.csv_machine.proofs.Number.{pushed}
use Rattle.csv_machine.proofs.Marks.{marks_form}
use Rattle.timetable_row.specs.Slots.{nominal_slot, entry_slot, separators}
use Rattle.timetable.proofs.Form.{contents-run}
use Rattle.timetable.specs.Open.{Open, partly, start, close_head, close_entry, separate, open_step, open_end, opens_field, open_begins}
use Rattle.std.specs.Prelude.{Option, Some, None}

-- ---- the separators before the list

after-comma : (k : ℕ) → eqb comma (get_or separators k 0) ≡ true → (leb (suc k) nominal_slot || eqb (suc k) entry_slot) ≡ true
after-comma zero e = refl
after-comma (suc zero) e = refl
after-comma (suc (suc zero)) e = refl
after-comma (suc (suc (suc zero))) e = refl
after-comma (suc (suc (suc (suc zero)))) e = refl
after-comma (suc (suc (suc (suc (suc zero))))) e = absurd (false≢true e)
after-comma (suc (suc (suc (suc (suc (suc zero)))))) e = absurd (false≢true e)
after-comma (suc (suc (suc (suc (suc (suc (suc zero))))))) e = refl
after-comma (suc (suc (suc (suc (suc (suc (suc (suc k)))))))) e = absurd (false≢true e)

after_other : (k b : ℕ) → (b ≡ comma → ⊥) → ltb k (length separators) ≡ true → eqb b (get_or separators k 0) ≡ true → (leb (suc k) nominal_slot || eqb (suc k) entry_slot) ≡ false
after_other zero b n l e = absurd (n (eqb-true b comma e))
after_other (suc zero) b n l e = absurd (n (eqb-true b comma e))
after_other (suc (suc zero)) b n l e = absurd (n (eqb-true b comma e))
after_other (suc (suc (suc zero))) b n l e = absurd (n (eqb-true b comma e))
after_other (suc (suc (suc (suc zero)))) b n l e = absurd (n (eqb-true b comma e))
after_other (suc (suc (suc (suc (suc zero))))) b n l e = refl
after_other (suc (suc (suc (suc (suc (suc zero)))))) b n l e = refl
after_other (suc (suc (suc (suc (suc (suc (suc zero))))))) b n l e = absurd (n (eqb-true b comma e))
after_other (suc (suc (suc (suc (suc (suc (suc (suc k)))))))) b n l e =
    let q : suc (suc (suc (suc (suc (suc (suc (suc k))))))) < 8 = ltb-true (suc (suc (suc (suc (suc (suc (suc (suc k)))))))) 8 l in absurd (omega arith)

no_return_head : (k : ℕ) → eqb carriage_return (get_or separators k 0) ≡ false
no_return_head zero = refl
no_return_head (suc zero) = refl
no_return_head (suc (suc zero)) = refl
no_return_head (suc (suc (suc zero))) = refl
no_return_head (suc (suc (suc (suc zero)))) = refl
no_return_head (suc (suc (suc (suc (suc zero))))) = refl
no_return_head (suc (suc (suc (suc (suc (suc zero)))))) = refl
no_return_head (suc (suc (suc (suc (suc (suc (suc zero))))))) = refl
no_return_head (suc (suc (suc (suc (suc (suc (suc (suc k)))))))) = refl

-- ---- what a field's begin says

-- an open number has digits
pub not-empty : (closed : List ℕ) (list : List Configuration) (entry : List ℕ) (m : Number) → (m ≡ empty → ⊥) → opens_field closed list entry m ≡ false
not-empty closed [] [] empty n = absurd (n refl)
not-empty closed [] [] lone n = refl
not-empty closed [] [] (digits k) n = refl
not-empty closed [] (x ∷ entry) m n = refl
not-empty closed (c ∷ list) entry m n = refl

not_first : (closed : List ℕ) (list : List Configuration) (c : Configuration) (m : Number) → opens_field closed (list ++ c ∷ []) [] m ≡ false
not_first closed [] c m = refl
not_first closed (x ∷ list) c m = refl

more_closed : (closed : List ℕ) (n : ℕ) → length (closed ++ n ∷ []) ≡ suc (length closed)
more_closed closed n = length-append closed (n ∷ []) ∙ add-one (length closed)

-- what follows a test
settled : {A : Type 0} (t : Bool) (x y : A) → cond t (Some x) None ≡ Some y → (t ≡ true) × (x ≡ y)
settled true x y e = (refl, cc)
settled false x y e = never y e

head_comma : (o o' : Open) (n : ℕ) → close_head o comma n ≡ Some o' → open_begins o' ≡ true
head_comma o o' n e =
    let k = settled (eqb comma (get_or separators (length o.closed) 0)) (partly (o.closed ++ n ∷ []) [] [] empty) o' e in
    ap open_begins (sym k.1) ∙ ap (λ (x : ℕ). leb x nominal_slot || eqb x entry_slot) (more_closed o.closed n) ∙ after-comma (length o.closed) k.0

entry_comma : (closed : List ℕ) (list : List Configuration) (entry : List ℕ) (n : ℕ) (o' : Open) → close_entry closed list entry comma n ≡ Some o' → open_begins o' ≡ true
entry_comma closed list [] n o' e = never o' e
entry_comma closed list (d ∷ []) n o' e = never o' e
entry_comma closed list (d ∷ t ∷ []) n o' e = never o' e
entry_comma closed list (d ∷ t ∷ p ∷ more) n o' e = never o' e

pub at-comma : (o o' : Open) → open_step o comma ≡ Some o' → open_begins o' ≡ true
unfolding open_step
at-comma o o' e =
    let k = given (number_end o.number) (λ n. separate o comma n) o' e in
    go (ltb (length o.closed) (length separators)) k.0 k.2
  where
    go : (t : Bool) (n : ℕ) → cond t (close_head o comma n) (close_entry o.closed o.list o.entry comma n) ≡ Some o' → open_begins o' ≡ true
    go true n f = head_comma o o' n f
    go false n f = entry_comma o.closed o.list o.entry n o' f

head_other : (o o' : Open) (b n : ℕ) → (b ≡ comma → ⊥) → ltb (length o.closed) (length separators) ≡ true → close_head o b n ≡ Some o' → open_begins o' ≡ false
head_other o o' b n h l e =
    let k = settled (eqb b (get_or separators (length o.closed) 0)) (partly (o.closed ++ n ∷ []) [] [] empty) o' e in
    ap open_begins (sym k.1) ∙ ap (λ (x : ℕ). leb x nominal_slot || eqb x entry_slot) (more_closed o.closed n) ∙ after_other (length o.closed) b h l k.0

entry_other : (closed : List ℕ) (list : List Configuration) (entry : List ℕ) (b n : ℕ) (o' : Open) → close_entry closed list entry b n ≡ Some o' → open_begins o' ≡ false
entry_other closed [] [] b n o' e = ap open_begins (sym (settled (eqb b underscore) (partly closed [] (n ∷ []) empty) o' e).1)
entry_other closed (c ∷ list) [] b n o' e = ap open_begins (sym (settled (eqb b underscore) (partly closed (c ∷ list) (n ∷ []) empty) o' e).1)
entry_other closed [] (d ∷ []) b n o' e = ap open_begins (sym (settled (eqb b underscore) (partly closed [] (d ∷ n ∷ []) empty) o' e).1)
entry_other closed (c ∷ list) (d ∷ []) b n o' e = ap open_begins (sym (settled (eqb b underscore) (partly closed (c ∷ list) (d ∷ n ∷ []) empty) o' e).1)
entry_other closed list (d ∷ t ∷ []) b n o' e =
    ap open_begins (sym (settled (eqb b space) (partly closed (list ++ configuration d t n ∷ []) [] empty) o' e).1) ∙ not_first closed list (configuration d t n) empty
entry_other closed list (d ∷ t ∷ p ∷ more) b n o' e = never o' e

pub past-byte : (o o' : Open) (b : ℕ) → (b ≡ comma → ⊥) → open_step o b ≡ Some o' → open_begins o' ≡ false
unfolding open_step
past-byte o o' b h e = go (is_digit b) e
  where
    other : (t : Bool) → ltb (length o.closed) (length separators) ≡ t → (n : ℕ)
        → cond t (close_head o b n) (close_entry o.closed o.list o.entry b n) ≡ Some o' → open_begins o' ≡ false
    other true l n f = head_other o o' b n h l f
    other false l n f = entry_other o.closed o.list o.entry b n o' f

    go : (t : Bool) → cond t (number_step o.number b >>= (λ m. Some (partly o.closed o.list o.entry m))) (number_end o.number >>= (λ n. separate o b n)) ≡ Some o'
        → open_begins o' ≡ false
    go true f =
        let k = given (number_step o.number b) (λ m. Some (partly o.closed o.list o.entry m)) o' f in
        let q : partly o.closed o.list o.entry k.0 ≡ o' = cc k.2 in
        ap open_begins (sym q) ∙ not-empty o.closed o.list o.entry k.0 (pushed o.number k.0 b k.1)
    go false f =
        let k = given (number_end o.number) (λ n. separate o b n) o' f in
        other (ltb (length o.closed) (length separators)) refl k.0 k.2

entry_return : (closed : List ℕ) (list : List Configuration) (entry : List ℕ) (n : ℕ) → close_entry closed list entry carriage_return n ≡ None
entry_return closed list [] n = refl
entry_return closed list (d ∷ []) n = refl
entry_return closed list (d ∷ t ∷ []) n = refl
entry_return closed list (d ∷ t ∷ p ∷ more) n = refl

pub no_return : (o : Open) → open_step o carriage_return ≡ None
unfolding open_step
no_return o = go (number_end o.number)
  where
    both : (t : Bool) (n : ℕ) → cond t (close_head o carriage_return n) (close_entry o.closed o.list o.entry carriage_return n) ≡ None
    both true n = ap (λ (x : Bool). cond x (Some (partly (o.closed ++ n ∷ []) [] [] empty)) None) (no_return_head (length o.closed))
    both false n = entry_return o.closed o.list o.entry n

    go : (x : Option ℕ) → (x >>= (λ n. separate o carriage_return n)) ≡ None
    go None = refl
    go (Some n) = both (ltb (length o.closed) (length separators)) n

-- THE INSTANCE: what `Machine` asks of a row's machine
pub form_run_lem : (line : List ℕ) → form_of (less_return line) ≡ (run (mark_step open_step open_end open_begins) (on bare start) line >>= mark_close open_step open_end open_begins)
form_run_lem line = marks_form open_step open_end open_begins at-comma past-byte no_return start refl seven_of contents-run line

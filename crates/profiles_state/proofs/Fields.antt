-- A line of profiles.csv in quotes, byte by byte. Assumes nothing.
use Prim.Native.Nat.{ℕ, suc, ◌+◌, ◌*◌, ◌-◌}
use mathlib.Core.Path.{◌≡◌, refl, ap, sym, ◌∙◌}
use mathlib.Core.Bool.{Bool, true, false, cond, ◌&&◌}
use mathlib.Core.List.{List, [], ◌∷◌, ◌++◌}
use lib.Dec.{ltb, eqb}
use lib.IntN.{ℤ}
use Rattle.rules.specs.Lists.{◌>>=◌}
use Rattle.rules.specs.Bytes.{is_digit, digit_zero, carriage_return, comma, space, point, minus, less_return}
use Rattle.rules.specs.Profiles.{two_of, form_of}
use Rattle.csv_machine.specs.Fold.{run}
use Rattle.csv_machine.specs.Number.{Number, empty, zero, digits, number_step, number_end}
use Rattle.csv_machine.specs.Marks.{bare, on, mark_step, mark_close}
use Rattle.csv_machine.proofs.Options.{never, given}
use Rattle.csv_machine.proofs.Number.{no_step, pushed}
use Rattle.csv_machine.proofs.Marks.{marks_form}
use Rattle.profiles_row.specs.Sample.{Sample, whole, fraction, fresh, negated, sample_step, sample_end, most_digits}
use Rattle.profiles_state.specs.Open.{Open, in_id, in_list, start, open_step, open_end, no_digit, is_fresh, open_begins}
use Rattle.profiles_state.proofs.Form.{contents-run}
use Rattle.std.specs.Prelude.{Option, Some, None}

has_digit : (m : Number) → (m ≡ empty → ⊥) → no_digit m ≡ false
has_digit empty n = absurd (n refl)
has_digit zero n = refl
has_digit (digits k) n = refl

not_first : (id : ℕ) (samples : List ℤ) (kw : ℤ) (x : Sample) → open_begins (in_list id (samples ++ kw ∷ []) x) ≡ false
not_first id [] kw x = refl
not_first id (y ∷ samples) kw x = refl

not-fresh : (id : ℕ) (samples : List ℤ) (x : Sample) → is_fresh x ≡ false → open_begins (in_list id samples x) ≡ false
not-fresh id [] x e = e
not-fresh id (y ∷ samples) x e = refl

with_digit : (negative : Bool) (m : Number) → no_digit m ≡ false → is_fresh (whole negative m) ≡ false
with_digit true m e = refl
with_digit false m e = e

minus-fresh : (negative : Bool) (m : Number) (x : Sample) → negated negative m ≡ Some x → is_fresh x ≡ false
minus-fresh false empty x e = let y : whole true empty ≡ x = cc in ap is_fresh (sym y)
minus-fresh false zero x e = never x e
minus-fresh false (digits n) x e = never x e
minus-fresh true m x e = never x e

stepped : (x x' : Sample) (b : ℕ) → sample_step x b ≡ Some x' → is_fresh x' ≡ false
stepped (whole negative m) x' b e = go (is_digit b) (eqb b point) (eqb b minus) e
  where
    go : (d p n : Bool)
        → cond d (number_step m b >>= (λ next. Some (whole negative next))) (cond p (number_end m >>= (λ n. Some (fraction negative n 0 0))) (cond n (negated negative m) None)) ≡ Some x'
        → is_fresh x' ≡ false
    go true p n e =
        let k = given (number_step m b) (λ next. Some (whole negative next)) x' e in
        let y : whole negative k.0 ≡ x' = cc k.2 in
        ap is_fresh (sym y) ∙ with_digit negative k.0 (has_digit k.0 (pushed m k.0 b k.1))
    go false true n e =
        let k = given (number_end m) (λ n. Some (fraction negative n 0 0)) x' e in
        let y : fraction negative k.0 0 0 ≡ x' = cc k.2 in ap is_fresh (sym y)
    go false false true e = minus-fresh negative m x' e
    go false false false e = never x' e
stepped (fraction negative n count value) x' b e = go (is_digit b && ltb count most_digits) e
  where
    go : (t : Bool) → cond t (Some (fraction negative n (suc count) (value * 10 + (b - digit_zero)))) None ≡ Some x' → is_fresh x' ≡ false
    go true e = let y : fraction negative n (suc count) (value * 10 + (b - digit_zero)) ≡ x' = cc in ap is_fresh (sym y)
    go false e = never x' e

at-comma : (o o' : Open) → open_step o comma ≡ Some o' → open_begins o' ≡ true
unfolding open_step
at-comma (in_id m) o' e =
    let k = given (number_end m) (λ id. Some (in_list id [] fresh)) o' e in
    let y : in_list k.0 [] fresh ≡ o' = cc k.2 in ap open_begins (sym y)
at-comma (in_list id samples (whole negative m)) o' e = never o' e
at-comma (in_list id samples (fraction negative n count value)) o' e = never o' e

past-byte : (o o' : Open) (b : ℕ) → (b ≡ comma → ⊥) → open_step o b ≡ Some o' → open_begins o' ≡ false
unfolding open_step
past-byte (in_id m) o' b h e = go (eqb b comma) refl e
  where
    go : (t : Bool) → eqb b comma ≡ t → cond t (number_end m >>= (λ id. Some (in_list id [] fresh))) (number_step m b >>= (λ next. Some (in_id next))) ≡ Some o' → open_begins o' ≡ false
    go true q e = absurd (h (borrow.Author.Tests.eqb-true b comma q))
    go false q e =
        let k = given (number_step m b) (λ next. Some (in_id next)) o' e in
        let y : in_id k.0 ≡ o' = cc k.2 in ap open_begins (sym y) ∙ has_digit k.0 (pushed m k.0 b k.1)
past-byte (in_list id samples x) o' b h e = go (eqb b space) e
  where
    go : (t : Bool) → cond t (sample_end x >>= (λ kw. Some (in_list id (samples ++ kw ∷ []) fresh))) (sample_step x b >>= (λ next. Some (in_list id samples next))) ≡ Some o' → open_begins o' ≡ false
    go true e =
        let k = given (sample_end x) (λ kw. Some (in_list id (samples ++ kw ∷ []) fresh)) o' e in
        let y : in_list id (samples ++ k.0 ∷ []) fresh ≡ o' = cc k.2 in ap open_begins (sym y) ∙ not_first id samples k.0 fresh
    go false e =
        let k = given (sample_step x b) (λ next. Some (in_list id samples next)) o' e in
        let y : in_list id samples k.0 ≡ o' = cc k.2 in ap open_begins (sym y) ∙ not-fresh id samples k.0 (stepped x k.0 b k.1)

no_return : (o : Open) → open_step o carriage_return ≡ None
unfolding open_step
no_return (in_id m) = ap (λ (y : Option Number). y >>= (λ next. Some (in_id next))) (no_step m carriage_return refl)
no_return (in_list id samples (whole negative m)) = refl
no_return (in_list id samples (fraction negative n count value)) = refl

-- THE INSTANCE: what `Machine` asks of a row's machine
pub form_run_lem : (line : List ℕ) → form_of (less_return line) ≡ (run (mark_step open_step open_end open_begins) (on bare start) line >>= mark_close open_step open_end open_begins)
form_run_lem line = marks_form open_step open_end open_begins at-comma past-byte no_return start refl two_of contents-run line

-- A header in quotes or not, with its CR or not, is its names: byte by byte. Assumes nothing.
use Prim.Native.Nat.{ℕ}
use mathlib.Core.Path.{◌≡◌, refl, ap, sym, ◌∙◌}
use mathlib.Core.Bool.{Bool, true, false, cond, ◌&&◌, true≢false, false≢true}
use mathlib.Core.List.{List, [], ◌∷◌}
use native.Mathlib.Omega.{arith}
use lib.Dec.{eqb}
use borrow.Author.Tests.{eqb-true, ne_eqb}
use Rattle.rules.specs.Lists.{◌>>=◌, every, same_list, same_lists}
use Rattle.std.specs.Prelude.{is_some, Option, Some, None}
use Rattle.rules.specs.Bytes.{carriage_return, comma, split_on, joined, less_return, contents_of}
use Rattle.rules.specs.Rows.{are_names, heads}
use Rattle.rules.specs.Verdict.{All}
use Rattle.rules.proofs.Truth.{and_first, and_second}
use Rattle.rules.proofs.Lists.{same_self, all_self, same_equal, all_equal}
use Rattle.rules.proofs.Pieces.{Free, split_joined, joined_free}
use Rattle.csv_machine.specs.Fold.{run}
use Rattle.csv_machine.specs.Marks.{bare, on, mark_step, mark_close}
use Rattle.csv_machine.specs.Names.{name_byte, can_head, Named, named, name_step, name_close, name_begins, names_start}
use Rattle.csv_machine.proofs.Options.{never}
use Rattle.csv_machine.proofs.Marks.{marks_form}

-- ---- names that can head a text

every_all : {A : Type 0} (p : A → Bool) (P : A → Type 0) → ((x : A) → p x ≡ true → P x) → (s : List A) → every p s ≡ true → All P s
every_all p P f [] e = tt
every_all p P f (x ∷ s) e = (f x (and_first (p x) (every p s) e), every_all p P f s (and_second (p x) (every p s) e))

pub names_free : (sep : ℕ) → name_byte sep ≡ false → (names : List (List ℕ)) → can_head names ≡ true → All (Free sep) names
names_free sep f [] e = tt
names_free sep f (name ∷ names) e = every_all (every name_byte) (Free sep) (λ s q. every_all name_byte (λ b. b ≡ sep → ⊥) other s q) (name ∷ names) e
  where
    other : (b : ℕ) → name_byte b ≡ true → b ≡ sep → ⊥
    other b t q = true≢false (sym t ∙ ap name_byte q ∙ f)

-- ---- the names' machine

at-comma : (o o' : Named) → name_step o comma ≡ Some o' → name_begins o' ≡ true
at-comma (named f []) o' e = never o' e
at-comma (named f (c ∷ left)) o' e = go (eqb comma c) e
  where
    go : (t : Bool) → cond t (Some (named true left)) None ≡ Some o' → name_begins o' ≡ true
    go true e = let q : named true left ≡ o' = cc in ap name_begins (sym q)
    go false e = never o' e

past-byte : (o o' : Named) (b : ℕ) → (b ≡ comma → ⊥) → name_step o b ≡ Some o' → name_begins o' ≡ false
past-byte (named f []) o' b n e = never o' e
past-byte (named f (c ∷ left)) o' b n e = go (eqb b carriage_return) (eqb b c) e
  where
    go : (r t : Bool) → cond r None (cond t (Some (named (eqb b comma) left)) None) ≡ Some o' → name_begins o' ≡ false
    go true t e = never o' e
    go false true e = let q : named (eqb b comma) left ≡ o' = cc in ap name_begins (sym q) ∙ ne_eqb b comma n
    go false false e = never o' e

no_return : (o : Named) → name_step o carriage_return ≡ None
no_return (named f []) = refl
no_return (named f (c ∷ left)) = refl

-- ---- the names, where no CR is among them
names-run : (s left : List ℕ) (f : Bool) → Free carriage_return left → (run name_step (named f left) s >>= name_close) ≡ cond (same_list s left) (Some []) None
names-run [] [] f h = refl
names-run [] (c ∷ left) f h = refl
names-run (b ∷ s) [] f h = refl
names-run (b ∷ s) (c ∷ left) f h = go (eqb b carriage_return) refl (eqb b c) refl (names-run s left (eqb b comma) h.1)
  where
    go : (r : Bool) → eqb b carriage_return ≡ r → (t : Bool) → eqb b c ≡ t → (run name_step (named (eqb b comma) left) s >>= name_close) ≡ cond (same_list s left) (Some []) None
        → ((cond r None (cond t (Some (named (eqb b comma) left)) None) >>= (λ x. run name_step x s)) >>= name_close) ≡ cond (t && same_list s left) (Some []) None
    go true p true q ih = absurd (h.0 (sym (eqb-true b c q) ∙ eqb-true b carriage_return p))
    go true p false q ih = refl
    go false p true q ih = ih
    go false p false q ih = refl

-- ---- lists that are the same, joined or not

both : (a b : Bool) → (a ≡ true → b ≡ true) → (b ≡ true → a ≡ true) → a ≡ b
both true true f g = refl
both true false f g = sym (f refl)
both false true f g = g refl
both false false f g = refl

same-joined : (p : List ℕ) (ps : List (List ℕ)) (n : List ℕ) (ns : List (List ℕ)) → All (Free comma) (p ∷ ps) → All (Free comma) (n ∷ ns)
    → same_list (joined comma (p ∷ ps)) (joined comma (n ∷ ns)) ≡ same_lists (p ∷ ps) (n ∷ ns)
same-joined p ps n ns h k =
    both (same_list (joined comma (p ∷ ps)) (joined comma (n ∷ ns))) (same_lists (p ∷ ps) (n ∷ ns))
    (λ e. let q : p ∷ ps ≡ n ∷ ns = sym (split_joined comma p ps h) ∙ ap (split_on comma) (same_equal (joined comma (p ∷ ps)) (joined comma (n ∷ ns)) e) ∙ split_joined comma n ns k in
    ap (λ (x : List (List ℕ)). same_lists (p ∷ ps) x) (sym q) ∙ all_self (p ∷ ps))
    (λ e. let q : p ∷ ps ≡ n ∷ ns = all_equal (p ∷ ps) (n ∷ ns) e in
    ap (λ (x : List (List ℕ)). same_list (joined comma (p ∷ ps)) (joined comma x)) (sym q) ∙ same_self (joined comma (p ∷ ps)))

-- THE INSTANCE: a line is read as the header where the names' machine says so
pub heads-run : (names : List (List ℕ)) → can_head names ≡ true → (line : List ℕ)
    → heads names line ≡ is_some (run (mark_step name_step name_close name_begins) (on bare (names_start names)) line >>= mark_close name_step name_close name_begins)
heads-run [] e line = absurd (false≢true e)
heads-run (n ∷ ns) e line =
    by_form (contents_of (less_return line)) ∙ ap is_some (marks_form name_step name_close name_begins at-comma past-byte no_return (names_start (n ∷ ns)) refl form form_run_lem line)
  where
    form : List (List ℕ) → Option (List ℕ)
    form ps = cond (same_lists ps (n ∷ ns)) (Some []) None

    form_run_lem : (p : List ℕ) (ps : List (List ℕ)) → All (Free comma) (p ∷ ps) → (run name_step (names_start (n ∷ ns)) (joined comma (p ∷ ps)) >>= name_close) ≡ form (p ∷ ps)
    form_run_lem p ps h =
        names-run (joined comma (p ∷ ps)) (joined comma (n ∷ ns)) true (joined_free comma carriage_return (n ∷ ns) (omega arith) (names_free carriage_return refl (n ∷ ns) e))
        ∙ ap (λ (t : Bool). cond t (Some []) None) (same-joined p ps n ns h (names_free comma refl (n ∷ ns) e))

    when : (t : Bool) → t ≡ is_some {T = List ℕ} (cond t (Some []) None)
    when true = refl
    when false = refl

    by_form : (x : Option (List (List ℕ))) → are_names (n ∷ ns) x ≡ is_some (x >>= form)
    by_form None = refl
    by_form (Some ps) = when (same_lists ps (n ∷ ns))

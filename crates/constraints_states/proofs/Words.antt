-- What a word says as a number, and what a search says of its place, in the words of the definitions. Assumes nothing.
use Prim.Native.Nat.{ℕ, suc, ◌≤◌, ◌<◌}
use mathlib.Core.Path.{◌≡◌, refl, ap, sym, subst, ◌∙◌}
use mathlib.Core.Bool.{Bool, true, false, cond}
use mathlib.Core.List.{List, [], ◌∷◌}
use native.Mathlib.Omega.{arith}
use lib.Dec.{leb, eqb}
use lib.ListN.{length}
use borrow.Author.Tests.{leb-false, lt-leb}
use Rattle.rules.specs.Limits.{most_id}
use Rattle.rules.specs.Lists.{any}
use Rattle.std.specs.Prelude.{is_some, Option, Some, None, Result, Ok, Err, unwrap_or}
use Rattle.rules.specs.declared.sizes.Track.{Track}
use Rattle.rules.proofs.Truth.{eqb_swap}
use Rattle.text_read.specs.Held.{whole_held}
use Rattle.tables_ids.specs.Column.{track_ids_of, place_of}
use Rattle.rules.specs.Constraints.{row_of_leg}
use Rattle.rules_theorems.proofs.Entries.{row_within}
use Rattle.text_read.specs.declared.numbers.Unread.{Unread}
use Rattle.text_read.specs.declared.numbers.Unread.TheVariants.{Beyond, Malformed}

-- ---- numbers: none, one past a limit, one within every id's

pub held_none : (n : Result ℕ Unread) (o : Option ℕ) → n ≡ (Err Malformed) → n ≡ whole_held o → is_some o ≡ false
held_none n None is e = refl
held_none n (Some v) is e = go (leb v most_id) (sym is ∙ e)
  where
    go : (t : Bool) → (Err Malformed) ≡ cond t (Ok v) (Err Beyond) → true ≡ false
    go true q = cc
    go false q = cc

pub held_some : (n : Result ℕ Unread) (o : Option ℕ) → n ≡ (Err Beyond) → n ≡ whole_held o → is_some o ≡ true
held_some n None is e = cc
held_some n (Some v) is e = refl

pub held-past : (limit : ℕ) (n : Result ℕ Unread) (o : Option ℕ) → limit ≤ most_id → n ≡ (Err Beyond) → n ≡ whole_held o → leb (unwrap_or o 0) limit ≡ false
held-past limit n None low is e = cc
held-past limit n (Some v) low is e = go (leb v most_id) refl (sym is ∙ e)
  where
    go : (t : Bool) → leb v most_id ≡ t → (Err Beyond) ≡ cond t (Ok v) (Err Beyond) → leb v limit ≡ false
    go true q r = cc
    go false q r = lt-leb v limit (omega (arith, leb-false v most_id q))

pub record Says_number (v : ℕ) (o : Option ℕ) : Type 0 where
  pub is : o ≡ Some v
  pub low : leb v most_id ≡ true

pub held_number : (v : ℕ) (n : Result ℕ Unread) (o : Option ℕ) → n ≡ Ok v → n ≡ whole_held o → Says_number v o
held_number v n None is e = let z : ◌≡◌ {A = ℕ} 0 1 = cc in absurd (omega arith)
held_number v n (Some w) is e = go (leb w most_id) refl (sym is ∙ e)
  where
    go : (t : Bool) → leb w most_id ≡ t → Ok v ≡ cond t (Ok w) (Err Beyond) → Says_number v (Some w)
    go true q r = let same : w ≡ v = cc in record { is = ap Some same; low = subst (λ (x : ℕ). leb x most_id ≡ true) same q }
    go false q r = let z : ◌≡◌ {A = ℕ} 0 1 = cc in absurd (omega arith)

-- ---- places: an id stands somewhere in a list where some entry has it

pub any_swap : (id : ℕ) (ids : List ℕ) → any (eqb id) ids ≡ any (λ x. eqb x id) ids
any_swap id [] = refl
any_swap id (x ∷ ids) = rw (eqb_swap id x, any_swap id ids)

pub any_track : (id : ℕ) (ts : List Track) → any (λ k. eqb k.id id) ts ≡ any (λ x. eqb x id) (track_ids_of ts)
any_track id [] = refl
any_track id (t ∷ ts) = rw (any_track id ts)

-- as many ids as tracks
pub ids-length : (ts : List Track) → length (track_ids_of ts) ≡ length ts
ids-length [] = refl
ids-length (t ∷ ts) = ap suc (ids-length ts)

-- an id that was found has a row
pub row_there : (id row : ℕ) (ids : List ℕ) (f : Option ℕ) → f ≡ place_of id ids → f ≡ Some row → row < length ids
row_there id row ids f e is =
    let at : row_of_leg ids id ≡ Some row = sym (sym is ∙ e) in
    rw at at (row_within ids id (ap is_some at))

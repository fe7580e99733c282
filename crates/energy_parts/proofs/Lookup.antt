-- Where an id stands in a table's column, its record is the first of the table's records with that id. Assumes nothing.
use Prim.Native.Nat.{ℕ, zero, suc, ◌+◌, ◌*◌}
use native.Mathlib.Omega.{arith}
use native.Mathlib.Nat.{add-zero, mul_comm, zero-add}
use mathlib.Core.Path.{◌≡◌, refl, sym, ap, ◌∙◌}
use mathlib.Core.Bool.{Bool, true, false, cond}
use mathlib.Core.List.{List, [], ◌∷◌}
use lib.Dec.{eqb}
use lib.ListN.{get_or}
use Rattle.rules.specs.Limits.{profile_width, track_width}
use Rattle.rules.specs.Lists.{first, place_from, first_place}
use Rattle.rules.specs.Constraints.{subnet_of}
use Rattle.rules.specs.Energy.{tabulate}
use Rattle.rules.specs.declared.sizes.Profile.{Profile}
use Rattle.rules.specs.declared.sizes.Track.{Track}
use Rattle.tables_views.specs.View.{entry_at, profile_at, track_at, tracks_in}
use Rattle.tables_ids.specs.Column.{column, place_of}
use Rattle.rules.proofs.Lists.{tabulate_ext}
use Rattle.energy_parts.specs.Seen.{profile_or, profile_seen}
use Rattle.std.specs.Prelude.{Option, Some, None}

module _ {A : Type 0} (F : ℕ → A) where
  -- what stands at a place
  abbrev at_place : Option ℕ → Option A
  at_place None = None
  at_place (Some i) = Some (F i)

  abbrev at_found : Option ℕ → Option A
  at_found None = None
  at_found (Some i) = Some (F i)

  found_place : (o : Option ℕ) → at_found (o) ≡ at_place o
  found_place None = refl
  found_place (Some i) = refl

  module _ (id_of : A → ℕ) (id : ℕ) where
    -- from place m on
    first_from_lem : (m n : ℕ)
        → first (λ a. eqb (id_of a) id) (tabulate n (λ i. F (m + i))) ≡ at_place (place_from m (λ x. eqb x id) (tabulate n (λ i. id_of (F (m + i)))))
    first_from_lem m zero = refl
    first_from_lem m (suc n) = go (eqb (id_of (F (m + 0))) id) (first_from_lem (suc m) n)
      where
        next : (i : ℕ) → suc m + i ≡ m + suc i
        next i = omega arith

        go : (b : Bool)
            → first (λ a. eqb (id_of a) id) (tabulate n (λ i. F (suc m + i)))
            ≡ at_place (place_from (suc m) (λ x. eqb x id) (tabulate n (λ i. id_of (F (suc m + i)))))
            → cond b (Some (F (m + 0))) (first (λ a. eqb (id_of a) id) (tabulate n (λ i. F (m + suc i))))
            ≡ at_place (cond b (Some m) (place_from (suc m) (λ x. eqb x id) (tabulate n (λ i. id_of (F (m + suc i))))))
        go true ih = ap (λ k. Some (F k)) (add-zero m)
        go false ih =
            ap (first (λ a. eqb (id_of a) id)) (tabulate_ext n _ _ (λ i. ap F (sym (next i))))
            ∙ ih
            ∙ ap (λ l. at_place (place_from (suc m) (λ x. eqb x id) l)) (tabulate_ext n _ _ (λ i. ap (λ k. id_of (F k)) (next i)))

    -- the ids as a column holds them
    pub first_found : (width n : ℕ) (t : List ℕ) → ((i : ℕ) → id_of (F i) ≡ entry_at width t i 0)
        → first (λ a. eqb (id_of a) id) (tabulate n F) ≡ at_found (place_of id (column width n t))
    unfolding column
    first_found width n t e =
        ap (first (λ a. eqb (id_of a) id)) (tabulate_ext n _ _ (λ i. ap F (sym (zero-add i))))
        ∙ first_from_lem 0 n
        ∙ ap (λ l. at_place (first_place (λ x. eqb x id) l)) (tabulate_ext n _ _ same)
        ∙ sym (found_place (first_place (λ x. eqb x id) (tabulate n (λ i. get_or t (i * width) 0))))
      where
        place : (i : ℕ) → width * (0 + i) + 0 ≡ i * width
        place i = add-zero (width * (0 + i)) ∙ ap (λ k. width * k) (zero-add i) ∙ mul_comm width i

        same : (i : ℕ) → id_of (F (0 + i)) ≡ get_or t (i * width) 0
        same i = e (0 + i) ∙ ap (λ k. get_or t k 0) (place i)

-- ---- profiles

module _ (n : ℕ) (t : List ℕ) (id : ℕ) (r : Option ℕ) (at : r ≡ place_of id (column profile_width n t)) where
  profile_first : profile_seen n t id ≡ profile_or (at_found (profile_at t) r)
  unfolding profile_seen
  profile_first =
      ap profile_or (first_found (profile_at t) (λ p. p.id) id profile_width n t (λ i. refl)) ∙ ap (λ f. profile_or (at_found (profile_at t) f)) (sym at)

  pub profile_found : (k : ℕ) → r ≡ Some k → (p : Profile) → p ≡ profile_at t k → p ≡ profile_seen n t id
  profile_found k e p ep = ep ∙ sym (profile_first ∙ ap (λ f. profile_or (at_found (profile_at t) f)) e)

  pub profile_missing : r ≡ None → record { id = 0; first = 0; count = 0 } ≡ profile_seen n t id
  profile_missing e = sym (profile_first ∙ ap (λ f. profile_or (at_found (profile_at t) f)) e)

-- ---- tracks

abbrev subnet_at : Option Track → Option ℕ
subnet_at None = None
subnet_at (Some t) = Some t.subnet

subnet-first : (track : ℕ) (ts : List Track) → subnet_of ts track ≡ subnet_at (first (λ t. eqb t.id track) ts)
subnet-first track [] = refl
subnet-first track (t ∷ ts) = go (eqb t.id track) (subnet-first track ts)
  where
    go : (b : Bool) → subnet_of ts track ≡ subnet_at (first (λ t. eqb t.id track) ts)
        → cond b (Some t.subnet) (subnet_of ts track) ≡ subnet_at (cond b (Some t) (first (λ t. eqb t.id track) ts))
    go true ih = refl
    go false ih = ih

module _ (n : ℕ) (t : List ℕ) (track : ℕ) (r : Option ℕ) (at : r ≡ place_of track (column track_width n t)) where
  home_first : (subnet_of (tracks_in n t) track) ≡ (subnet_at (at_found (track_at t) r))
  home_first =
      (subnet-first track (tracks_in n t))
      ∙ ap (λ o. (subnet_at o)) (first_found (track_at t) (λ e. e.id) track track_width n t (λ i. refl) ∙ ap (at_found (track_at t)) (sym at))

  pub home_found : (k : ℕ) → r ≡ Some k → (e : Track) → e ≡ track_at t k → Some e.subnet ≡ (subnet_of (tracks_in n t) track)
  home_found k h e he = ap (λ x. Some x.subnet) he ∙ sym (home_first ∙ ap (λ f. (subnet_at (at_found (track_at t) f))) h)

  pub home_missing : r ≡ None → None ≡ (subnet_of (tracks_in n t) track)
  home_missing h = sym (home_first ∙ ap (λ f. (subnet_at (at_found (track_at t) f))) h)

-- The first row whose track is in no subnet, by a walk over the legs. Assumes nothing.
use Prim.Native.Nat.{ℕ, suc, ◌+◌, ◌*◌, ◌≤◌, ◌<◌}
use mathlib.Core.Path.{◌≡◌, refl, ap, sym, ◌∙◌}
use mathlib.Core.Bool.{Bool, true, false, not, cond, ◌||◌}
use mathlib.Core.List.{List, [], ◌∷◌, map}
use native.Mathlib.Omega.{arith}
use native.Mathlib.Numerals.{add-one}
use lib.Dec.{eqb}
use lib.ListN.{length, get_or, drop, drop_of_length-le}
use lib.Seq.{drop-cons}
use Rattle.rules.specs.Limits.{leg_width, track_width}
use Rattle.rules.specs.Lists.{any, place_from}
use Rattle.std.specs.Prelude.{is_some, Option, Some, None}
use Rattle.rules.specs.Answers.{no_subnet}
use Rattle.rules.specs.Rows.{or_else, first_fault}
use Rattle.rules.specs.Timetable.{Row}
use Rattle.rules.specs.Constraints.{subnet_of, subnet_fault}
use Rattle.rules.specs.declared.sizes.Track.{Track}
use Rattle.rules.proofs.Lists.{tabulate-length, tabulate-at}
use Rattle.tables_ids.specs.Column.{Records, column, track_ids_of, place_of}
use Rattle.tables_ids.proofs.Places.{some_there, none_there}
use Rattle.tables_views.specs.View.{leg_at}
use Rattle.files_tests.specs.Subnets.{track_place, leg_tracks, unlisted, fault_at, Fifteen}

-- ---- by lists of tracks alone

subnet_some : (ts : List Track) (track : ℕ) → is_some (subnet_of ts track) ≡ any (λ x. eqb x track) (track_ids_of ts)
subnet_some [] track = refl
subnet_some (t ∷ ts) track = go (eqb t.id track) (subnet_some ts track)
  where
    go : (b : Bool) → is_some (subnet_of ts track) ≡ any (λ x. eqb x track) (track_ids_of ts)
        → is_some (cond b (Some t.subnet) (subnet_of ts track)) ≡ b || any (λ x. eqb x track) (track_ids_of ts)
    go true e = refl
    go false e = e

first-unlisted : (n : ℕ) (ts : List Track) (rows : List Row)
    → fault_at ((place_from n (unlisted (track_ids_of ts)) (map (λ r. r.track) rows))) ≡ first_fault n (subnet_fault ts) rows
first-unlisted n ts [] = refl
first-unlisted n ts (r ∷ rows) =
    rw (subnet_some ts r.track) (go (any (λ x. eqb x r.track) (track_ids_of ts)) (first-unlisted (suc n) ts rows))
  where
    go : (b : Bool) → fault_at ((place_from (suc n) (unlisted (track_ids_of ts)) (map (λ r. r.track) rows))) ≡ first_fault (suc n) (subnet_fault ts) rows
        → fault_at ((cond (not b) (Some n) (place_from (suc n) (unlisted (track_ids_of ts)) (map (λ r. r.track) rows))))
        ≡ or_else n (cond b None (Some no_subnet)) (first_fault (suc n) (subnet_fault ts) rows)
    go true e = e
    go false e = refl

-- ---- the walk

-- from row i on
abbrev pub unlisted_from : (legs : List ℕ) (n : ℕ) (tracks : List ℕ) (m i : ℕ) → Option ℕ
unlisted_from legs n tracks m i = place_from i (unlisted (column track_width m tracks)) (drop i (leg_tracks n legs))

module _ (legs : List ℕ) (n : ℕ) where
  tracks-length : length (leg_tracks n legs) ≡ n
  unfolding leg_tracks
  tracks-length = tabulate-length n (λ i. (leg_at legs i).track)

  track_at_lem : (i : ℕ) → i < n → get_or (leg_tracks n legs) i 0 ≡ (leg_at legs i).track
  unfolding leg_tracks
  track_at_lem i h = tabulate-at n (λ j. (leg_at legs j).track) 0 i h

-- a track stands in the table
pub in_legs : {legs : List ℕ} {n i : ℕ} → Records leg_width n legs → i < n → leg_width * i + track_place < length legs
in_legs r h = omega (arith, r.whole)

-- every track before row i is listed: what is left has the fault that all has
pub record Listed (legs : List ℕ) (n : ℕ) (tracks : List ℕ) (m i : ℕ) : Type 0 where
  pub left : unlisted_from legs n tracks m i ≡ unlisted_from legs n tracks m 0

module _ {legs : List ℕ} {n : ℕ} {tracks : List ℕ} {m : ℕ} where
  pub listed-none : Listed legs n tracks m 0
  listed-none = record { left = refl }

  -- the walk's answer is that of the definition
  fifteen : (r : Option ℕ) → r ≡ (unlisted_from legs n tracks m 0) → Fifteen legs n tracks m r
  fifteen r e rows ts held =
      ap fault_at e ∙ rw (held.of_rows, held.of_tracks) (first-unlisted 0 ts rows)

  module _ {i track : ℕ} {f : Option ℕ} (l : Listed legs n tracks m i) (h : i < n) (e : track ≡ (leg_at legs i).track)
      (q : f ≡ place_of track (column track_width m tracks)) where
    found_by_lem : f ≡ place_of (leg_at legs i).track (column track_width m tracks)
    found_by_lem = q ∙ ap (λ (x : ℕ). place_of x (column track_width m tracks)) e

    pub listed_next : (f ≡ None → ⊥) → Listed legs n tracks m (i + 1)
    listed_next is = go f refl
      where
        go : (g : Option ℕ) → f ≡ g → Listed legs n tracks m (i + 1)
        go None same = absurd (is same)
        go (Some row) same =
            let there = some_there (leg_at legs i).track (column track_width m tracks) f found_by_lem row same in
            let on : unlisted_from legs n tracks m i ≡ unlisted_from legs n tracks m (i + 1) =
            simp add-one (rw (drop-cons (leg_tracks n legs) i 0 (rw (tracks-length legs n) h), track_at_lem legs n i h, there)) in
            record { left = sym on ∙ l.left }

    pub listed_gone : f ≡ None → Fifteen legs n tracks m (Some i)
    listed_gone is =
        let nowhere = none_there (leg_at legs i).track (column track_width m tracks) f found_by_lem is in
        let here : unlisted_from legs n tracks m i ≡ Some i =
        rw (drop-cons (leg_tracks n legs) i 0 (rw (tracks-length legs n) h), track_at_lem legs n i h, nowhere) in
        fifteen _ ((sym here ∙ l.left))

  pub listed-end : {i : ℕ} → Listed legs n tracks m i → n ≤ i → Fifteen legs n tracks m None
  listed-end {i} l h =
      let all : length (leg_tracks n legs) ≤ i = rw (tracks-length legs n) h in
      let over : unlisted_from legs n tracks m i ≡ None = rw (drop_of_length-le (leg_tracks n legs) all) in
      fifteen _ ((sym over ∙ l.left))

pub ruleset listing = (in_legs, listed-none, listed_next, listed_gone, listed-end)

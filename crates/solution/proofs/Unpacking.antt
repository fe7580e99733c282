-- The last pass puts each choice in the place of its id and itself, and a solution's choices come out. Assumes nothing.
use Prim.Native.Nat.{ℕ, suc, ◌+◌, ◌*◌, ◌/◌, ◌%◌, ◌≤◌, ◌<◌}
use mathlib.Core.Path.{◌≡◌, refl, ap, ap₂, sym, ◌∙◌}
use mathlib.Core.Bool.{true}
use mathlib.Core.List.{List, [], ◌∷◌, ◌++◌}
use native.Mathlib.Omega.{arith}
use native.Mathlib.Numerals.{add-one}
use lib.Dec.{leb}
use lib.ListN.{length, get_or, drop}
use lib.Seq.{sets, get_or-append-add, get_or-drop, drop_at}
use borrow.Author.Tests.{leb-true}
use Rattle.rules.specs.Limits.{least_travel, most_travel, configuration_width}
use Rattle.rules.specs.Lists.{flat, over}
use Rattle.rules.specs.Timetable.{Row, in_range, choices_of, configuration_numbers}
use Rattle.rules.specs.Energy.{tabulate}
use Rattle.rules.specs.Verdict.{All}
use Rattle.rules.specs.declared.sizes.Configuration.{Configuration}
use Rattle.rules.proofs.Lists.{tabulate-length, tabulate_ext, tabulate-more, flat_append, flat-length, over-more, over-length}
use Rattle.rules.proofs.Truth.{and_first, and_second}
use Rattle.timetable_row.specs.RowOver.{stored_at}
use Rattle.timetable.proofs.Words.{stored_fits}
use Rattle.solution.specs.Before.{travels, times_at, profile_at, packed_row}
use Rattle.solution.specs.Whole.{unpacked_at, unpacked}
use Rattle.solution.proofs.Judging.{packed-length}
use Rattle.solution.proofs.Differing.{choices-length}

numbers-length : (cs : List Configuration) → length (flat configuration_numbers cs) ≡ length cs * configuration_width
numbers-length cs = flat-length configuration_numbers configuration_width (λ c. refl) cs

-- ---- the loop

-- the first i entries are unpacked
pub record Unpacks (n : ℕ) (table : List ℕ) (i : ℕ) (now : List ℕ) : Type 0 where
  pub within : i ≤ n
  pub long : length now ≡ length table
  pub now_is : now ≡ unpacked i table

module _ (n : ℕ) (table : List ℕ) (fits : n * configuration_width ≤ length table) where
  abbrev written : ℕ → List ℕ
  written i = flat configuration_numbers (tabulate i (unpacked_at table))

  written-length : (i : ℕ) → length (written i) ≡ i * configuration_width
  written-length i = numbers-length (tabulate i (unpacked_at table)) ∙ ap (λ (k : ℕ). k * configuration_width) (tabulate-length i (unpacked_at table))

  pub unpack_first : Unpacks n table 0 table
  unfolding over
  unpack_first = record { within = omega arith; long = refl; now_is = refl }

  -- what is not yet written is as it was
  later : (i k : ℕ) → get_or (unpacked i table) (i * configuration_width + k) 0 ≡ get_or table (i * configuration_width + k) 0
  unfolding over
  later i k =
      ap (λ (x : ℕ). get_or (written i ++ drop (length (written i)) table) (x + k) 0) (sym (written-length i))
      ∙ get_or-append-add (written i) (drop (length (written i)) table) k 0
      ∙ get_or-drop (length (written i)) table k 0
      ∙ ap (λ (x : ℕ). get_or table (x + k) 0) (written-length i)

  module _ (i : ℕ) (now : List ℕ) (u : Unpacks n table i now) where
    pub unpack_on : (times profile : ℕ) (now' : List ℕ) → i < n → times ≡ get_or now (i * configuration_width + times_at) 0 → profile ≡ get_or now (i * configuration_width + profile_at) 0
        → now' ≡ stored_at configuration_width i (times / travels ∷ times % travels ∷ profile ∷ []) now → Unpacks n table (i + 1) now'
    unpack_on times profile now' h b p s =
        record {
          within = omega arith;
          long = ap length now_is ∙ over-length (written (i + 1)) table (omega (arith, written-length (i + 1)));
          now_is = now_is;
        }
      where
        one : List ℕ
        one = configuration_numbers (unpacked_at table i)

        read : times / travels ∷ times % travels ∷ profile ∷ [] ≡ one
        read =
            let b' : times ≡ get_or table (i * configuration_width + times_at) 0 = b ∙ ap (λ (t : List ℕ). get_or t (i * configuration_width + times_at) 0) u.now_is ∙ later i times_at in
            let p' : profile ≡ get_or table (i * configuration_width + profile_at) 0 = p ∙ ap (λ (t : List ℕ). get_or t (i * configuration_width + profile_at) 0) u.now_is ∙ later i profile_at in
            rw (b', p')

        more : written (i + 1) ≡ written i ++ one
        more =
            ap (λ (k : ℕ). written k) (add-one i)
            ∙ ap (flat configuration_numbers) (tabulate-more i (unpacked_at table))
            ∙ flat_append configuration_numbers (tabulate i (unpacked_at table)) (unpacked_at table i ∷ [])

        now_is : now' ≡ unpacked (i + 1) table
        now_is =
            s
            ∙ stored_fits configuration_width i (times / travels ∷ times % travels ∷ profile ∷ []) now (omega (arith, u.long))
            ∙ ap (λ (x : List ℕ). sets now (i * configuration_width) x) read
            ∙ ap (λ (x : List ℕ). sets x (i * configuration_width) one) u.now_is
            ∙ ap (λ (x : ℕ). sets (unpacked i table) x one) (sym (written-length i))
            ∙ over-more (written i) table one (omega (arith, written-length i))
            ∙ ap (λ (x : List ℕ). over x table) (sym more)

    pub unpack_end : n ≤ i → now ≡ unpacked n table
    unpack_end h = let all : i ≡ n = omega (arith, u.within) in u.now_is ∙ ap (λ (k : ℕ). unpacked k table) all

-- ---- what comes out

-- an entry in front
entry_past : (r : Row) (t : List ℕ) (i : ℕ) → unpacked_at (packed_row r ++ t) (suc i) ≡ unpacked_at t i
entry_past r t i =
    let a : suc i * configuration_width + times_at ≡ suc (suc (suc (i * configuration_width + times_at))) = omega arith in
    let b : suc i * configuration_width + profile_at ≡ suc (suc (suc (i * configuration_width + profile_at))) = omega arith in
    rw (a, b)

-- a choice in range comes out as it went in
entry_first : (H : ℕ) (r : Row) (t : List ℕ) → in_range H r.nominal ≡ true → unpacked_at (packed_row r ++ t) 0 ≡ r.nominal
entry_first H r t e =
    let c : Configuration = r.nominal in
    let low : c.travel ≤ most_travel = leb-true c.travel most_travel (and_first (leb c.travel most_travel) _ (and_second (leb least_travel c.travel) _ e)) in
    let d : (c.departure * travels + c.travel) / travels ≡ c.departure = omega arith in
    let m : (c.departure * travels + c.travel) % travels ≡ c.travel = omega arith in
    rw (d, m)

entries_out : (H : ℕ) (rows : List Row) (rest : List ℕ) → All (λ r. in_range H r.nominal ≡ true) rows → tabulate (length rows) (unpacked_at (flat packed_row rows ++ rest)) ≡ choices_of rows
entries_out H [] rest h = refl
entries_out H (r ∷ rows) rest h =
    ap₂ (λ (x : Configuration) (xs : List Configuration). x ∷ xs) (entry_first H r (flat packed_row rows ++ rest) h.0)
    (tabulate_ext (length rows) _ _ (entry_past r (flat packed_row rows ++ rest)) ∙ entries_out H rows rest h.1)

-- the choices stand where ids and choices stood
pub choices_out : (H : ℕ) (rows : List Row) (lent : List ℕ) → All (λ r. in_range H r.nominal ≡ true) rows
    → unpacked (length rows) (over (flat packed_row rows) lent) ≡ over (flat configuration_numbers (choices_of rows)) lent
unfolding over
choices_out H rows lent h =
    let rest : List ℕ = drop (length (flat packed_row rows)) lent in
    let as_long : length (flat packed_row rows) ≡ length (flat configuration_numbers (choices_of rows)) =
    packed-length rows ∙ sym (numbers-length (choices_of rows) ∙ ap (λ (k : ℕ). k * configuration_width) (choices-length rows)) in
    ap (λ (cs : List Configuration). over (flat configuration_numbers cs) (over (flat packed_row rows) lent)) (entries_out H rows rest h)
    ∙ ap (λ (t : List ℕ). flat configuration_numbers (choices_of rows) ++ t)
    (drop_at (flat packed_row rows) rest (length (flat configuration_numbers (choices_of rows))) as_long ∙ ap (λ (k : ℕ). drop k lent) as_long)

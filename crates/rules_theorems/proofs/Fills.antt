-- "A number that no field can have": nothing that an entry writes into a table is what fills it after a refusal. Assumes nothing.
use Prim.Native.Nat.{ℕ, suc, ◌+◌, ◌≤◌, ◌<◌}
use mathlib.Core.Path.{◌≡◌, refl}
use mathlib.Core.Bool.{Bool, true, false}
use mathlib.Core.List.{List, [], ◌∷◌}
use mathlib.Core.Logic.{◌⊎◌, inl, inr}
use native.Mathlib.Omega.{arith}
use lib.Dec.{eqb}
use lib.ListN.{length, length-map}
use lib.IntN.{ℤ, nat_abs}
use borrow.Author.Tests.{eqb-true, eqb-false}
use Rattle.rules.specs.Limits.{most_horizon, most_legs, most_kw, most_configurations, most_samples, most_subnets, unsigned_fill, signed_fill}
use Rattle.rules.specs.Lists.{place_from}
use Rattle.rules.specs.Answers.{good}
use Rattle.rules.specs.Kinds.{connection, by_arrival, by_departure}
use Rattle.rules.specs.Timetable.{Row, same, listed, legs_from, legs_of, configurations_of, leg_numbers, configuration_numbers, nominal_place}
use Rattle.rules.specs.Profiles.{Curve, sampled, profiles_from, profile_numbers}
use Rattle.rules.specs.Constraints.{constraint_numbers, track_numbers, ordered}
use Rattle.rules.specs.Reading.{Rooms, Texts, Files, leg_ids, files_of, choices_read}
use Rattle.rules.specs.Verdict.{All, accepted}
use Rattle.rules.specs.Energy.{curves_of}
use Rattle.rules.specs.Entries.{verdict_of, Whole, all_read}
use Rattle.rules.specs.declared.stated.Stated.{Stated}
use Rattle.rules.specs.declared.sizes.Configuration.{Configuration}
use Rattle.rules.specs.declared.sizes.Constraint.{Constraint}
use Rattle.rules.specs.declared.sizes.Track.{Track}
use Rattle.rules.proofs.Truth.{by_case, all_map}
use Rattle.rules_theorems.specs.WellFormed.{InRange, KeptRow, KeptCurve}
use Rattle.rules_theorems.specs.LawfulDocument.{LawfulConstraint, LawfulTrack}
use Rattle.rules_theorems.specs.Demands.{Unfilled, NoFieldIsFill, NoChoiceIsFill, NoPowerIsFill}
use Rattle.rules_theorems.specs.Sized.{most_power}
use Rattle.rules_theorems.proofs.All.{all_mapped, all_flat}
use Rattle.rules_theorems.proofs.LawfulRows.{rows_kept, legs_most, listed_most, curves_kept, sampled_most}
use Rattle.rules_theorems.proofs.Documents.{good_is_lawful}
use Rattle.rules_theorems.proofs.Ordered.{ordered_keeps}
use Rattle.rules_theorems.proofs.GoodFiles.{files_good, choices_good}
use Rattle.rules_theorems.proofs.Sized.{figures_bounded}
use Rattle.std.specs.Prelude.{Some, unwrap_or}

-- ---- timetables

configuration_unfilled : (H : ℕ) → H ≤ most_horizon → (c : Configuration) → InRange H c → Unfilled (configuration_numbers c)
configuration_unfilled H h c k = (omega (arith, k.ends), (omega (arith, k.travel_most), (omega (arith, k.profile_id), tt)))

-- a place in a list is at most its length
place_most : {A : Type 0} (p : A → Bool) (l : List A) (n : ℕ) → unwrap_or (place_from n p l) 0 ≤ n + length l
place_most p [] n = omega arith
place_most p (x ∷ l) n =
    by_case (λ o. unwrap_or o 0 ≤ n + suc (length l)) (p x) (Some n) (place_from (suc n) p l) (λ e. omega arith) (λ e. omega (arith, place_most p l (suc n)))

legs_unfilled : (H first : ℕ) (rows : List Row) → All (KeptRow H) rows → first + listed rows ≤ most_configurations → All (λ l. Unfilled (leg_numbers l)) (legs_from first rows)
legs_unfilled H first [] h k = tt
legs_unfilled H first (r ∷ rows) h k =
    let i = h.0.ids in
    let place : nominal_place r ≤ length r.list = omega (arith, place_most (same r.nominal) r.list 0) in
    let most = h.0.most in (
      (omega arith, (omega arith, (omega arith, (omega arith, (omega arith, (omega arith, (omega arith, (omega arith, tt)))))))),
      legs_unfilled H (first + length r.list) rows h.1 (omega arith),
    )

-- ---- profiles

profiles_unfilled : (n : ℕ) (curves : List Curve) → All KeptCurve curves → n + sampled curves ≤ most_samples → All (λ p. Unfilled (profile_numbers p)) (profiles_from n curves)
profiles_unfilled n [] h k = tt
profiles_unfilled n (c ∷ curves) h k =
    let id = h.0.id_most in
    let most = h.0.most in
    ((omega arith, (omega arith, (omega arith, tt))), profiles_unfilled (n + length c.samples) curves h.1 (omega arith))

sample_unfilled : (x : ℤ) → nat_abs x ≤ most_kw → x ≡ signed_fill → ⊥
sample_unfilled x h e = let k : nat_abs signed_fill ≤ most_kw = rw e at h in omega arith

power_unfilled : (p : ℤ) → nat_abs p ≤ most_power → p ≡ signed_fill → ⊥
power_unfilled p h e = let k : nat_abs signed_fill ≤ most_power = rw e at h in omega arith

-- ---- constraints.json

type_low : (c : Constraint) (legs : List ℕ) → LawfulConstraint legs c → c.connection < unsigned_fill
type_low c legs h = go (eqb c.kind connection) refl
  where
    known : (c.connection ≡ by_arrival) ⊎ (c.connection ≡ by_departure) → c.connection < unsigned_fill
    known (inl e) = omega arith
    known (inr e) = omega arith

    go : (b : Bool) → eqb c.kind connection ≡ b → c.connection < unsigned_fill
    go true e = known (h.a_type (eqb-true c.kind connection e))
    go false e = omega (arith, h.no_type_lem (eqb-false c.kind connection e))

constraint_unfilled : (legs : List ℕ) → length legs ≤ most_legs → (c : Constraint) → LawfulConstraint legs c → Unfilled (constraint_numbers c)
constraint_unfilled legs few c h =
    let kind = h.to_last_kind in
    let one = h.first_is_row in
    let two = h.second_is_row in
    let low = h.low_in_range in
    let high = h.high_in_range in
    (omega arith, (omega arith, (omega arith, (omega arith, (omega arith, (type_low c legs h, tt))))))

track_unfilled : (opened : ℕ) → opened ≤ most_subnets → (t : Track) → LawfulTrack opened t → Unfilled (track_numbers t)
track_unfilled opened few t h = (omega (arith, h.id_in_range), (omega (arith, h.subnet_is_there), tt))

-- ---- all tables

-- of files that are read without refusal, no field of a table is the number that fills it after a refusal
pub no_field_is_fill : (S : Stated) (x : Texts) (room : Rooms) (f : Files) → files_of S x room ≡ good f → NoFieldIsFill f
no_field_is_fill S x room f e =
    let g = files_good S x room f e in
    let rows = f.rows in
    let curves = f.curves in
    let low : ℕ → Type 0 = λ n. n < unsigned_fill in
    let kept = rows_kept S.horizon rows g.timetable.lawful in
    let sound = curves_kept _ _ curves g.profiles.lawful in
    let document = (good_is_lawful (leg_ids rows) _ _ _ x.constraints f.document g.constraints).tables in
    let each = configuration_unfilled S.horizon g.horizon.1 in
    let few : length (leg_ids rows) ≤ most_legs = rw (length-map rows (λ r. r.leg)) (legs_most S.horizon rows g.timetable.lawful) in
    record {
      legs = all_flat low leg_numbers (legs_of rows) (legs_unfilled S.horizon 0 rows kept (omega (arith, listed_most S.horizon rows g.timetable.lawful)));
      configurations =
          all_flat low configuration_numbers (configurations_of rows)
          (all_flat (λ c. Unfilled (configuration_numbers c)) (λ r. r.list) rows
          (all_map (KeptRow S.horizon) _ (λ r k. all_map (InRange S.horizon) _ each r.list k.list_in) rows kept));
      profiles = all_flat low profile_numbers (profiles_from 0 curves) (profiles_unfilled 0 curves sound (omega (arith, sampled_most _ _ curves g.profiles.lawful)));
      samples =
          all_flat (λ x. x ≡ signed_fill → ⊥) (λ c. c.samples) curves
          (all_map KeptCurve _ (λ c k. all_map (λ x. nat_abs x ≤ most_kw) _ sample_unfilled c.samples k.sizes) curves sound);
      constraints =
          all_flat low constraint_numbers (ordered f.document.constraints)
          (ordered_keeps (λ c. Unfilled (constraint_numbers c)) f.document.constraints
          (all_map (LawfulConstraint (leg_ids rows)) _ (constraint_unfilled (leg_ids rows) few) f.document.constraints document.constraints_lawful.each));
      tracks =
          all_flat low track_numbers f.document.tracks
          (all_map (LawfulTrack f.document.opened) _ (track_unfilled f.document.opened document.subnets_in_limit) f.document.tracks document.tracks_lawful.each);
    }

-- of a solution that is read without refusal, whichever file it is, no number of a choice is
pub no_choice_is_fill : (S : Stated) (x : Texts) (room : Rooms) (f : Files) → files_of S x room ≡ good f → (file choices : ℕ) (s : List ℕ) (cs : List Configuration)
    → choices_read S.horizon f file choices s ≡ good cs → NoChoiceIsFill cs
no_choice_is_fill S x room f e file choices s cs k =
    let solution = choices_good S.horizon f file choices s cs k in
    all_flat (λ n. n < unsigned_fill) configuration_numbers cs
    (rw (← solution.choices)
    (all_mapped (λ c. Unfilled (configuration_numbers c)) (λ r. r.nominal) solution.rows
    (all_map (KeptRow S.horizon) _ (λ r k. configuration_unfilled S.horizon (files_good S x room f e).horizon.1 r.nominal k.nominal_in) solution.rows
    (rows_kept S.horizon solution.rows solution.solution.lawful))))

-- and of an accepted solution no power of its curves is
pub no_power_is_fill : (S : Stated) (x : Texts) (s : List ℕ) (room : Rooms) (choices : ℕ) (w : Whole) → all_read S x s room choices ≡ good w
    → (verdict_of w.files w.choices).finding ≡ accepted → NoPowerIsFill S.horizon w.files w.choices
no_power_is_fill S x s room choices w e v =
    all_map (λ p. nat_abs p ≤ most_power) _ power_unfilled (curves_of S.horizon w.files w.choices) (figures_bounded S x s room choices w e v).curves

-- The draft's rows with offered choices: lawful as the draft's are, their nominal column the choices, their first five columns the draft's. Assumes nothing.
use Prim.Native.Nat.{ℕ, suc}
use mathlib.Core.Path.{◌≡◌, refl, ap, sym, ◌∙◌}
use mathlib.Core.Bool.{Bool, true, false, ◌&&◌, ◌||◌, or_assoc}
use mathlib.Core.List.{List, [], ◌∷◌, ◌++◌}
use lib.Dec.{T, leb, eqb}
use lib.ListN.{length}
use borrow.Author.Tests.{eq-eqb}
use Rattle.rules.specs.Limits.{most_id}
use Rattle.rules.specs.Lists.{every, any}
use Rattle.rules.specs.Timetable.{Row, same, offers, ids_of, in_range, listed, row_tests, choices_of}
use Rattle.rules.specs.Reading.{same_leg, differs_from}
use Rattle.rules.specs.Verdict.{All, offered, Offered}
use Rattle.rules.specs.Merge.{choosing, chosen}
use Rattle.rules.specs.declared.sizes.Configuration.{Configuration}
use Rattle.rules.proofs.Truth.{and_both, both_and, every_all}
use Rattle.rules_theorems.specs.Lists.{EachAfter}
use Rattle.rules_theorems.specs.WellFormed.{Passed, any_room, Lawful}
use Rattle.rules_theorems.proofs.Sums.{sum_more, length_more}
use Rattle.rules_theorems.proofs.Tables.{same_eq}
use Rattle.std.specs.Prelude.{None}

-- what every entry of a list keeps, an offered choice keeps
pub offered_keeps : (P : Configuration → Type 0) (l : List Configuration) (c : Configuration) → T (offers l c) → All P l → P c
offered_keeps P [] c h k = absurd h
offered_keeps P (x ∷ l) c h k = go (same c x) refl h (offered_keeps P l c)
  where
    go : (t : Bool) → same c x ≡ t → T (t || offers l c) → (T (offers l c) → All P l → P c) → P c
    go true e h ih = rw (same_eq c x (rw e tt)) k.0
    go false e h ih = ih h k.1

-- and so, row by row, what every entry of every list keeps, every choice keeps
pub choices_keep : (P : Configuration → Type 0) (rows : List Row) (s : List Configuration) → Offered (offered rows) s → All (λ r. All P r.list) rows → All P s
choices_keep P [] [] o h = tt
choices_keep P [] (c ∷ s) o h = absurd o
choices_keep P (r ∷ rows) [] o h = absurd o
choices_keep P (r ∷ rows) (c ∷ s) o h = (offered_keeps P r.list c o.0 h.0, choices_keep P rows s o.1 h.1)

-- there are as many choices as rows
pub offered-length : (rows : List Row) (s : List Configuration) → Offered (offered rows) s → length rows ≡ length s
offered-length [] [] o = refl
offered-length [] (c ∷ s) o = absurd o
offered-length (r ∷ rows) [] o = absurd o
offered-length (r ∷ rows) (c ∷ s) o = ap suc (offered-length rows s o.1)

any_append : {A : Type 0} (p : A → Bool) (s t : List A) → any p (s ++ t) ≡ any p s || any p t
any_append p [] t = refl
any_append p (x ∷ s) t = rw (any_append p s t) (sym (or_assoc (p x) (any p s) (any p t)))

-- rows that a row's tests after them cannot tell apart
record Alike (b q : List Row) : Type 0 where
  many : length b ≡ length q
  entries : listed b ≡ listed q
  seen : (leg : ℕ) → any (λ r. eqb r.leg leg) b ≡ any (λ r. eqb r.leg leg) q

alike_more : (b q : List Row) (r : Row) (c : Configuration) → Alike b q → Alike (b ++ r ∷ []) (q ++ choosing r c ∷ [])
alike_more b q r c a =
    record {
      many = length_more b r ∙ rw a.many (sym (length_more q (choosing r c)));
      entries = sum_more (λ (x : Row). length x.list) b r ∙ rw a.entries (sym (sum_more (λ (x : Row). length x.list) q (choosing r c)));
      seen = λ leg. any_append (λ x. eqb x.leg leg) b (r ∷ []) ∙ rw (a.seen leg) (sym (any_append (λ x. eqb x.leg leg) q (choosing r c ∷ [])));
    }

chosen-tests : (H : ℕ) (b q : List Row) (r : Row) (c : Configuration) → Alike b q → T (offers r.list c)
    → Passed (row_tests H any_room b r) → Passed (row_tests H any_room q (choosing r c))
chosen-tests H b q r c a o h =
    let i = and_both (every (λ id. leb id most_id) (ids_of r)) (in_range H r.nominal && every (in_range H) r.list) h.0 in
    let j = and_both (in_range H r.nominal) (every (in_range H) r.list) i.1 in (
      both_and (every (λ id. leb id most_id) (ids_of r)) (in_range H c && every (in_range H) r.list) i.0
          (both_and (in_range H c) (every (in_range H) r.list) (offered_keeps (λ c. T (in_range H c)) r.list c o (every_all (in_range H) r.list j.1)) j.1),
      (rw (← a.many, ← a.entries) h.1.0, (rw (← a.seen r.leg) h.1.1.0, (o, (tt, tt)))),
    )

lawful-after : (H : ℕ) (b q rows : List Row) (s : List Configuration) → Alike b q → EachAfter (λ before r. Passed (row_tests H any_room before r)) b rows
    → Offered (offered rows) s → EachAfter (λ before r. Passed (row_tests H any_room before r)) q (chosen rows s)
lawful-after H b q [] s a h o = tt
lawful-after H b q (r ∷ rows) [] a h o = absurd o
lawful-after H b q (r ∷ rows) (c ∷ s) a h o =
    (chosen-tests H b q r c a o.0 h.0, lawful-after H (b ++ r ∷ []) (q ++ choosing r c ∷ []) rows s (alike_more b q r c a) h.1 o.1)

-- lawful rows with offered choices are lawful
pub chosen-lawful : (H : ℕ) (rows : List Row) (s : List Configuration) → Lawful H rows → Offered (offered rows) s → Lawful H (chosen rows s)
chosen-lawful H rows s = lawful-after H [] [] rows s (record { many = refl; entries = refl; seen = λ leg. refl })

-- their nominal column is the choices
pub chosen-choices : (rows : List Row) (s : List Configuration) → Offered (offered rows) s → choices_of (chosen rows s) ≡ s
chosen-choices [] [] o = refl
chosen-choices [] (c ∷ s) o = absurd o
chosen-choices (r ∷ rows) [] o = absurd o
chosen-choices (r ∷ rows) (c ∷ s) o = ap (λ (l : List Configuration). c ∷ l) (chosen-choices rows s o.1)

-- they are as many
pub chosen-length : (rows : List Row) (s : List Configuration) → Offered (offered rows) s → length (chosen rows s) ≡ length rows
chosen-length [] s o = refl
chosen-length (r ∷ rows) [] o = absurd o
chosen-length (r ∷ rows) (c ∷ s) o = ap suc (chosen-length rows s o.1)

chosen-leg : (r : Row) (c : Configuration) → same_leg r (choosing r c) ≡ true
chosen-leg r c =
    rw (eq-eqb r.leg r.leg refl, eq-eqb r.train r.train refl, eq-eqb r.track r.track refl, eq-eqb r.start r.start refl, eq-eqb r.end r.end refl)

-- their first five columns are the draft's
pub chosen_matches : (n : ℕ) (text : List ℕ) (rows : List Row) (s : List Configuration) → Offered (offered rows) s → differs_from n text rows (chosen rows s) ≡ None
chosen_matches n text [] s o = refl
chosen_matches n text (r ∷ rows) [] o = absurd o
chosen_matches n text (r ∷ rows) (c ∷ s) o = rw (chosen-leg r c) (chosen_matches (suc n) text rows s o.1)

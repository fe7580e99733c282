-- The machine of a row reads what the form of a row says. Assumes nothing.
use Prim.Native.Nat.{ℕ}
use mathlib.Core.Path.{◌≡◌, refl, sym, ◌∙◌, ap}
use mathlib.Core.Bool.{Bool, true, false, cond}
use mathlib.Core.List.{List, [], ◌∷◌, ◌++◌, append_assoc}
use lib.Dec.{eqb}
use lib.IntN.{ℤ}
use Rattle.rules.specs.Lists.{◌>>=◌, each}
use Rattle.rules.specs.Bytes.{comma, space, split_on, joined, onto, sample_of}
use Rattle.rules.specs.Profiles.{Curve, samples_of, two_of}
use Rattle.rules.specs.Verdict.{All}
use Rattle.rules.proofs.Pieces.{Free, split_joined}
use Rattle.csv_machine.specs.Fold.{run}
use Rattle.csv_machine.specs.Number.{Number, empty, number_step, number_end}
use Rattle.csv_machine.proofs.Number.{number_is_whole}
use Rattle.profiles_row.specs.Sample.{Sample, fresh, sample_step, sample_end, whole, fraction}
use Rattle.profiles_row.specs.Row.{curve}
use Rattle.profiles_state.specs.Open.{Open, in_id, in_list, start, open_step, open_end}
use Rattle.profiles_state.proofs.Pieces.{Has, here, later, Pieces, alone, several, pieces_of, then_none}
use Rattle.profiles_state.proofs.Sample.{sample_run}
use Rattle.std.specs.Prelude.{Option, Some, None}

-- what a row becomes when this is the rest of its line
abbrev rest : Open → List ℕ → Option Curve
rest o s = run open_step o s >>= open_end

-- ---- the samples

-- a list of which some samples are closed and one is open
abbrev list_from : ℕ → List ℤ → Sample → List (List ℕ) → Option Curve
list_from id done x [] = None
list_from id done x (p ∷ ps) = run sample_step x p >>= sample_end >>= (λ kw. each sample_of ps >>= (λ kws. Some (curve id (done ++ kw ∷ kws))))

list_cons : (id : ℕ) (done : List ℤ) (x : Sample) (b : ℕ) (p : List ℕ) (ps : List (List ℕ))
    → sample_step x b >>= (λ next. list_from id done next (p ∷ ps)) ≡ list_from id done x ((b ∷ p) ∷ ps)
list_cons id done x b p ps = go (sample_step x b)
  where
    go : (y : Option Sample) → y >>= (λ next. list_from id done next (p ∷ ps))
        ≡ y >>= (λ next. run sample_step next p) >>= sample_end >>= (λ kw. each sample_of ps >>= (λ kws. Some (curve id (done ++ kw ∷ kws))))
    go None = refl
    go (Some next) = refl

list-onto : (id : ℕ) (done : List ℤ) (x : Sample) (b : ℕ) {s : List ℕ} {ps : List (List ℕ)} → Pieces space s ps
    → sample_step x b >>= (λ next. list_from id done next ps) ≡ list_from id done x (onto b ps)
list-onto id done x b {s} alone = list_cons id done x b s []
list-onto id done x b (several {p} {q} {ps} h) = list_cons id done x b p (q ∷ ps)

-- from a sample's beginning on, the pieces are samples
list-fresh : (id : ℕ) (done : List ℤ) {s : List ℕ} {ps : List (List ℕ)} → Pieces space s ps
    → list_from id done fresh ps ≡ each sample_of ps >>= (λ kws. Some (curve id (done ++ kws)))
list-fresh id done {s} alone = rw (sample_run s) (go (sample_of s))
  where
    go : (x : Option ℤ) → x >>= (λ kw. Some (curve id (done ++ kw ∷ []))) ≡ x >>= (λ kw. Some (kw ∷ [])) >>= (λ kws. Some (curve id (done ++ kws)))
    go None = refl
    go (Some kw) = refl
list-fresh id done (several {p} {q} {ps} h) = rw (sample_run p) (go (sample_of p) (each sample_of (q ∷ ps)))
  where
    go : (x : Option ℤ) (y : Option (List ℤ)) → x >>= (λ kw. y >>= (λ kws. Some (curve id (done ++ kw ∷ kws))))
        ≡ x >>= (λ kw. y >>= (λ kws. Some (kw ∷ kws))) >>= (λ kws. Some (curve id (done ++ kws)))
    go None y = refl
    go (Some kw) None = refl
    go (Some kw) (Some kws) = refl

abbrev ListRuns : List ℕ → Type 0
ListRuns s = (id : ℕ) (done : List ℤ) (x : Sample) → rest (in_list id done x) s ≡ list_from id done x (split_on space s)

-- what follows after a byte
abbrev after : List ℕ → Option Open → Option Curve
after s o = o >>= (λ next. run open_step next s) >>= open_end

list-run : (s : List ℕ) → ListRuns s
unfolding open_step open_end
list-run [] id done x = refl
list-run (b ∷ s) id done x = go (eqb b space) (list-run s)
  where
    closed : (y : Option ℤ) → ListRuns s
        → after s (y >>= (λ kw. Some (in_list id (done ++ kw ∷ []) fresh)))
        ≡ y >>= (λ kw. each sample_of (split_on space s) >>= (λ kws. Some (curve id (done ++ kw ∷ kws))))
    closed None on = refl
    closed (Some kw) on = on id (done ++ kw ∷ []) fresh ∙ list-fresh id (done ++ kw ∷ []) (pieces_of space s) ∙ simp append_assoc

    taken : (y : Option Sample) → ListRuns s
        → after s (y >>= (λ next. Some (in_list id done next))) ≡ y >>= (λ next. list_from id done next (split_on space s))
    taken None on = refl
    taken (Some next) on = on id done next

    go : (t : Bool) → ListRuns s
        → after s (cond t (sample_end x >>= (λ kw. Some (in_list id (done ++ kw ∷ []) fresh))) (sample_step x b >>= (λ next. Some (in_list id done next))))
        ≡ list_from id done x (cond t ([] ∷ split_on space s) (onto b (split_on space s)))
    go true on = closed (sample_end x) on
    go false on = taken (sample_step x b) on ∙ list-onto id done x b (pieces_of space s)

-- a comma among the samples breaks the form
no_comma : (x : Sample) → sample_step x comma ≡ None
no_comma (whole negative m) = refl
no_comma (fraction negative n count value) = refl

comma_stops : {s : List ℕ} → Has comma s → (id : ℕ) (done : List ℤ) (x : Sample) → rest (in_list id done x) s ≡ None
unfolding open_step
comma_stops here id done x = rw no_comma
comma_stops (later {b} {s} h) id done x = go (eqb b space) (sample_end x) (sample_step x b) (comma_stops h)
  where
    go : (t : Bool) (y : Option ℤ) (z : Option Sample) → ((id : ℕ) (done : List ℤ) (x : Sample) → rest (in_list id done x) s ≡ None)
        → after s (cond t (y >>= (λ kw. Some (in_list id (done ++ kw ∷ []) fresh))) (z >>= (λ next. Some (in_list id done next)))) ≡ None
    go true None z on = refl
    go true (Some kw) z on = on id (done ++ kw ∷ []) fresh
    go false y None on = refl
    go false y (Some next) on = on id done next

-- ---- the id

abbrev list_of : ℕ → List (List ℕ) → Option Curve
list_of id [] = None
list_of id (l ∷ []) = samples_of l >>= (λ samples. Some (curve id samples))
list_of id (l ∷ x ∷ more) = None

past-comma : (id : ℕ) (s : List ℕ) → rest (in_list id [] fresh) s ≡ list_of id (split_on comma s)
past-comma id s = go (pieces_of comma s)
  where
    go : {ps : List (List ℕ)} → Pieces comma s ps → rest (in_list id [] fresh) s ≡ list_of id ps
    go alone = list-run s id [] fresh ∙ list-fresh id [] (pieces_of space s)
    go (several h) = comma_stops h id [] fresh

-- a row of which some of the id was read
abbrev row_from : Number → List (List ℕ) → Option Curve
row_from m [] = None
row_from m (i ∷ ps) = run number_step m i >>= number_end >>= (λ id. list_of id ps)

row_cons : (m : Number) (b : ℕ) (p : List ℕ) (ps : List (List ℕ)) → number_step m b >>= (λ next. row_from next (p ∷ ps)) ≡ row_from m ((b ∷ p) ∷ ps)
row_cons m b p ps = go (number_step m b)
  where
    go : (y : Option Number) → y >>= (λ next. row_from next (p ∷ ps)) ≡ y >>= (λ next. run number_step next p) >>= number_end >>= (λ id. list_of id ps)
    go None = refl
    go (Some next) = refl

row-onto : (m : Number) (b : ℕ) {s : List ℕ} {ps : List (List ℕ)} → Pieces comma s ps → number_step m b >>= (λ next. row_from next ps) ≡ row_from m (onto b ps)
row-onto m b {s} alone = row_cons m b s []
row-onto m b (several {p} {q} {ps} h) = row_cons m b p (q ∷ ps)

id_run : (s : List ℕ) (m : Number) → rest (in_id m) s ≡ row_from m (split_on comma s)
unfolding open_step open_end
id_run [] m = sym (then_none (number_end m))
id_run (b ∷ s) m = go (eqb b comma) (id_run s)
  where
    closed : (y : Option ℕ) → after s (y >>= (λ id. Some (in_list id [] fresh))) ≡ y >>= (λ id. list_of id (split_on comma s))
    closed None = refl
    closed (Some id) = past-comma id s

    taken : (y : Option Number) → ((m : Number) → rest (in_id m) s ≡ row_from m (split_on comma s))
        → after s (y >>= (λ next. Some (in_id next))) ≡ y >>= (λ next. row_from next (split_on comma s))
    taken None on = refl
    taken (Some next) on = on next

    go : (t : Bool) → ((m : Number) → rest (in_id m) s ≡ row_from m (split_on comma s))
        → after s (cond t (number_end m >>= (λ id. Some (in_list id [] fresh))) (number_step m b >>= (λ next. Some (in_id next))))
        ≡ row_from m (cond t ([] ∷ split_on comma s) (onto b (split_on comma s)))
    go true on = closed (number_end m)
    go false on = taken (number_step m b) on ∙ row-onto m b (pieces_of comma s)

row_two : (ps : List (List ℕ)) → row_from empty ps ≡ two_of ps
row_two [] = refl
row_two (i ∷ []) = rw (number_is_whole i, then_none)
row_two (i ∷ l ∷ []) = rw (number_is_whole i)
row_two (i ∷ l ∷ x ∷ more) = rw (number_is_whole i, then_none)

-- contents joined by commas are a row exactly where the machine ends in that row
pub contents-run : (p : List ℕ) (ps : List (List ℕ)) → All (Free comma) (p ∷ ps) → (run open_step start (joined comma (p ∷ ps)) >>= open_end) ≡ two_of (p ∷ ps)
contents-run p ps h = id_run (joined comma (p ∷ ps)) empty ∙ row_two (split_on comma (joined comma (p ∷ ps))) ∙ ap two_of (split_joined comma p ps h)

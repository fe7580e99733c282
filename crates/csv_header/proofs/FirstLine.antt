-- A whole text's header: the comparison byte by byte ends where the text's first line does, and says what the definition says of that line, whatever the names.
-- Assumes nothing.
use Prim.Native.Nat.{ℕ, suc, ◌+◌, ◌≤◌, ◌<◌}
use mathlib.Core.Path.{◌≡◌, refl, ap, sym, subst, ◌∙◌}
use mathlib.Core.Bool.{Bool, true, false, cond, ◌&&◌, true≢false, false≢true}
use mathlib.Core.List.{List, [], ◌∷◌}
use Rattle.std.specs.Prelude.{Option, Some, None, Result, Ok, Err, is_ok, is_some}
use native.Mathlib.Omega.{arith}
use lib.Dec.{leb, eqb}
use lib.ListN.{length, length-append}
use borrow.Author.Tests.{lt-ltb, le-leb, lt-leb}
use Rattle.rules.specs.Lists.{◌>>=◌}
use Rattle.rules.specs.Bytes.{line_feed, comma, onto, split_on, joined}
use Rattle.rules.specs.Rows.{header_of}
use Rattle.rules.proofs.Pieces.{split_cons}
use Rattle.csv_machine.specs.Fold.{run}
use Rattle.csv_machine.specs.Marks.{bare, Marked, on}
use Rattle.csv_machine.specs.Names.{can_head, Named, names_start}
use Rattle.csv_machine.proofs.Names.{heads-run}
use Rattle.csv_marks.specs.declared.Mark.{Mark}
use Rattle.csv_marks.specs.declared.Mark.TheVariants.{Bare}
use Rattle.csv_marks.specs.Turns.{marked}
use Rattle.csv_header.specs.declared.Headed.{Headed}
use Rattle.csv_header.specs.declared.Stepped.{Stepped}
use Rattle.csv_header.specs.Heading.{headed, stepped_in, after_step, compared_from, name_at, end_in}
use Rattle.csv_header.proofs.Byte.{head_step, head_close, Goes, Stops, compares-at}
use Rattle.csv_header.proofs.Part.{reached, past_header}

-- ---- a line by the names' machine

abbrev runs_to : Option (Marked Named) → List ℕ → Bool
runs_to None line = false
runs_to (Some m) line = is_some (run head_step m line >>= head_close)

-- the first line, which another follows
abbrev heads_in : Option (Marked Named) → List (List ℕ) → Bool
heads_in x [] = false
heads_in x (line ∷ []) = false
heads_in x (line ∷ next ∷ lines) = runs_to x line

heads-none : (ps : List (List ℕ)) → heads_in None ps ≡ false
heads-none [] = refl
heads-none (p ∷ []) = refl
heads-none (p ∷ q ∷ ps) = refl

runs_on : (m : Marked Named) (b : ℕ) (line : List ℕ) → runs_to (Some m) (b ∷ line) ≡ runs_to (head_step m b) line
runs_on m b line = go (head_step m b)
  where
    go : (x : Option (Marked Named)) → is_some ((x >>= (λ next. run head_step next line)) >>= head_close) ≡ runs_to x line
    go None = refl
    go (Some m) = refl

heads_on : (m : Marked Named) (b : ℕ) (ps : List (List ℕ)) → (p : List ℕ) × (more : List (List ℕ)) × (ps ≡ p ∷ more) → heads_in (Some m) (onto b ps) ≡ heads_in (head_step m b) ps
heads_on m b ps c = subst (λ (x : List (List ℕ)). heads_in (Some m) (onto b x) ≡ heads_in (head_step m b) x) (sym c.2) (go c.1)
  where
    go : (more : List (List ℕ)) → heads_in (Some m) ((b ∷ c.0) ∷ more) ≡ heads_in (head_step m b) (c.0 ∷ more)
    go [] = refl
    go (q ∷ more) = runs_on m b c.0

heads-at : (x : Option (Marked Named)) (ps : List (List ℕ)) → (p : List ℕ) × (more : List (List ℕ)) × (ps ≡ p ∷ more) → heads_in x ([] ∷ ps) ≡ runs_to x []
heads-at x ps c = ap (λ (y : List (List ℕ)). heads_in x ([] ∷ y)) c.2

abbrev first_long : List (List ℕ) → ℕ
first_long [] = 0
first_long (p ∷ ps) = length p

first_on : (b : ℕ) (ps : List (List ℕ)) → (p : List ℕ) × (more : List (List ℕ)) × (ps ≡ p ∷ more) → first_long (onto b ps) ≡ suc (first_long ps)
first_on b ps c = subst (λ (x : List (List ℕ)). first_long (onto b x) ≡ suc (first_long x)) (sym c.2) refl

-- ---- the bytes of a text

module _ (names : List (List ℕ)) (can : can_head names ≡ true) where
  abbrev header : List ℕ
  header = header_of names

  abbrev whole : Result Headed Headed → Bool
  whole r = is_ok r && leb (length header) (reached r).head

  record Found (x : Option (Marked Named)) (i : ℕ) (ps : List (List ℕ)) (r : Result Headed Headed) : Type 0 where
    is : whole r ≡ heads_in x ps
    at : whole r ≡ true → (reached r).next ≡ i + first_long ps + 1

  abbrev onward : (s : List ℕ) (i : ℕ) → Stepped → Result Headed Headed
  onward s i x = compared_from header x.mark x.head (i + 1) s

  found_head : (s : List ℕ) (mark : Mark) (k i : ℕ) → k < length header → Found (Some (marked mark (name_at names k))) i (split_on line_feed s) (compared_from header mark k i s)
  found_head [] mark k i h = record { is = lt-leb (length header) k h; at = λ e. absurd (true≢false (sym e ∙ lt-leb (length header) k h)) }
  found_head (b ∷ s) mark k i h =
      subst (λ (t : Bool). Found x i (split_on line_feed (b ∷ s)) (cond t (after_step (stepped_in header mark k b) (onward s i) (Err (headed i k mark))) (Ok (headed i k mark))))
      (sym (lt-ltb k (length header) h))
      (go (stepped_in header mark k b) refl (eqb b line_feed) refl (found_head s))
    where
      x : Option (Marked Named)
      x = Some (marked mark (name_at names k))

      ps : List (List ℕ)
      ps = split_on line_feed s

      cons : (p : List ℕ) × (more : List (List ℕ)) × (ps ≡ p ∷ more)
      cons = split_cons line_feed s

      go : (r : Option Stepped) → stepped_in header mark k b ≡ r → (l : Bool) → eqb b line_feed ≡ l
          → ((m : Mark) (a j : ℕ) → a < length header → Found (Some (marked m (name_at names a))) j ps (compared_from header m a j s))
          → Found x i (cond l ([] ∷ ps) (onto b ps)) (after_step r (onward s i) (Err (headed i k mark)))
      go (Some r) q true l ih =
          let g : Goes names can mark k b r = compares-at names can mark k b h (Some r) q in
          let w = g.end l in
          let p : onward s i r ≡ Ok (headed (i + 1) r.head r.mark) = past_header header s r.mark r.head (i + 1) w.1 in
          record {
            is = ap whole p ∙ le-leb (length header) r.head w.1 ∙ sym (heads-at x ps cons ∙ w.0);
            at = λ e. ap (λ (y : Result Headed Headed). (reached y).next) p ∙ omega arith;
          }
      go None q true l ih =
          let g : Stops names can mark k b = compares-at names can mark k b h None q in
          record {
            is = sym (heads-at x ps cons ∙ g.end l);
            at = λ e. absurd (false≢true e);
          }
      go (Some r) q false l ih =
          let g : Goes names can mark k b r = compares-at names can mark k b h (Some r) q in
          let w = g.byte l in
          let f = ih r.mark r.head (i + 1) w.1 in
          record {
            is = f.is ∙ sym (heads_on (marked mark (name_at names k)) b ps cons ∙ ap (λ (y : Option (Marked Named)). heads_in y ps) w.0);
            at = λ e. f.at e ∙ omega (arith, first_on b ps cons);
          }
      go None q false l ih =
          let g : Stops names can mark k b = compares-at names can mark k b h None q in
          record {
            is = sym (heads_on (marked mark (name_at names k)) b ps cons ∙ ap (λ (y : Option (Marked Named)). heads_in y ps) (g.byte l) ∙ heads-none ps);
            at = λ e. absurd (false≢true e);
          }

  -- ---- where it ends

  by_names : (ps : List (List ℕ)) (t : Bool) → heads_in (Some (on bare (names_start names))) ps ≡ t → end_in names ps ≡ cond t (first_long ps + 1) 0
  by_names [] true e = absurd (false≢true e)
  by_names [] false e = refl
  by_names (p ∷ []) true e = absurd (false≢true e)
  by_names (p ∷ []) false e = refl
  by_names (p ∷ q ∷ ps) t e = ap (λ (x : Bool). cond x (length p + 1) 0) (heads-run names can p ∙ e)

  module _ (text : List ℕ) (r : Result Headed Headed) (is : r ≡ compared_from header Bare 0 0 text) where
    found : Found (Some (on bare (names_start names))) 0 (split_on line_feed text) r
    found = subst (λ (x : Result Headed Headed). Found (Some (on bare (names_start names))) 0 (split_on line_feed text) x) (sym is)
        (found_head text Bare 0 0 (omega (arith, length-append (joined comma names) (line_feed ∷ []))))

    ends_at : whole r ≡ true → (reached r).next ≡ end_in names (split_on line_feed text)
    ends_at t = found.at t ∙ omega (arith, by_names (split_on line_feed text) true (sym found.is ∙ t))

    no_end : whole r ≡ false → 0 ≡ end_in names (split_on line_feed text)
    no_end t = sym (by_names (split_on line_feed text) false (sym found.is ∙ t))

  module _ (text : List ℕ) (r : Headed) where
    pub head_right : Ok r ≡ compared_from header Bare 0 0 text → length header ≤ r.head → r.next ≡ end_in names (split_on line_feed text)
    head_right is l = ends_at text (Ok r) is (le-leb (length header) r.head l)

    pub head_short : Ok r ≡ compared_from header Bare 0 0 text → r.head < length header → 0 ≡ end_in names (split_on line_feed text)
    head_short is l = no_end text (Ok r) is (lt-leb (length header) r.head l)

    pub head_wrong : Err r ≡ compared_from header Bare 0 0 text → 0 ≡ end_in names (split_on line_feed text)
    head_wrong is = no_end text (Err r) is refl

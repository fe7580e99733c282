-- A byte of the header is compared as the names' machine takes it, whatever the names. Assumes nothing.
use Prim.Native.Nat.{ℕ, zero, suc, ◌+◌, ◌-◌, ◌≤◌, ◌<◌}
use mathlib.Core.Path.{◌≡◌, refl, ap, sym, subst, ◌∙◌}
use mathlib.Core.Bool.{Bool, true, false, cond, false≢true}
use mathlib.Core.List.{List, [], ◌∷◌, ◌++◌}
use Rattle.std.specs.Prelude.{Option, Some, None, is_some}
use native.Mathlib.Omega.{arith}
use native.Mathlib.Numerals.{add-one}
use lib.Dec.{ltb, eqb}
use lib.ListN.{length, get_or, drop, length-append, get_or-append}
use lib.Seq.{drop-cons, drop-length}
use borrow.Author.Tests.{ltb-true, ltb-false, eqb-true, eqb-false, eq-eqb, ne_eqb}
use Rattle.rules.specs.Bytes.{line_feed, carriage_return, comma, joined}
use Rattle.rules.specs.Rows.{header_of}
use Rattle.rules.proofs.Pieces.{Free, joined_free}
use Rattle.csv_machine.specs.Marks.{Marked, mark_step, mark_close}
use Rattle.csv_machine.specs.Names.{can_head, Named, named, name_step, name_close, name_begins}
use Rattle.csv_machine.proofs.Names.{names_free}
use Rattle.csv_marks.specs.declared.Mark.{Mark}
use Rattle.csv_marks.specs.declared.Mark.TheVariants.{Bare}
use Rattle.csv_marks.specs.declared.Act.{Act}
use Rattle.csv_marks.specs.declared.Act.TheVariants.{To, Content, Broken}
use Rattle.csv_marks.specs.Turns.{marked, marked_step, turned}
use Rattle.csv_marks.proofs.Follow.{Follows, follows-at}
use Rattle.csv_header.specs.declared.Stepped.{Stepped}
use Rattle.csv_header.specs.Heading.{begins_in, stepped_by, stepped_in, name_at}

abbrev pub head_step : Marked Named → ℕ → Option (Marked Named)
head_step = mark_step name_step name_close name_begins

abbrev pub head_close : Marked Named → Option (List ℕ)
head_close = mark_close name_step name_close name_begins

free_at : (sep : ℕ) (s : List ℕ) (k : ℕ) → Free sep s → k < length s → get_or s k 0 ≡ sep → ⊥
free_at sep [] k f h = absurd (omega arith)
free_at sep (b ∷ s) zero f h = f.0
free_at sep (b ∷ s) (suc k) f h = free_at sep s k f.1 (omega arith)

last-at : (s : List ℕ) (b : ℕ) → get_or (s ++ b ∷ []) (length s) 0 ≡ b
last-at [] b = refl
last-at (x ∷ s) b = last-at s b

module _ (names : List (List ℕ)) (can : can_head names ≡ true) where
  abbrev all : List ℕ
  all = joined comma names

  abbrev header : List ℕ
  header = header_of names

  -- a place of the header: a byte of the names, or the LF behind them
  data At (k : ℕ) : Type 0 where
    in_names : k < length all → At k
    at_end : k ≡ length all → At k

  place : (k : ℕ) → k < length header → At k
  place k h = go (ltb k (length all)) refl
    where
      go : (t : Bool) → ltb k (length all) ≡ t → At k
      go true e = in_names (ltb-true k (length all) e)
      go false e = at_end (let l : length all ≤ k = ltb-false k (length all) e in omega (arith, length-append all (line_feed ∷ [])))

  -- ---- the names' bytes

  module _ (k : ℕ) (h : k < length all) where
    byte_is : get_or header k 0 ≡ get_or all k 0
    byte_is = get_or-append all (line_feed ∷ []) 0 k h

    left_is : drop k all ≡ get_or header k 0 ∷ drop (suc k) all
    left_is = drop-cons all k 0 h ∙ ap (λ (b : ℕ). b ∷ drop (suc k) all) (sym byte_is)

    within : k + 1 < length header
    within = omega (arith, length-append all (line_feed ∷ []))

    no_end : (b : ℕ) → b ≡ get_or header k 0 → b ≡ line_feed → ⊥
    no_end b e q = free_at line_feed all k (joined_free comma line_feed names (omega arith) (names_free line_feed refl names can)) h (sym byte_is ∙ sym e ∙ q)

    no_return : (b : ℕ) → b ≡ get_or header k 0 → b ≡ carriage_return → ⊥
    no_return b e q = free_at carriage_return all k (joined_free comma carriage_return names (omega arith) (names_free carriage_return refl names can)) h (sym byte_is ∙ sym e ∙ q)

    begins_next : begins_in header (k + 1) ≡ eqb (get_or header k 0) comma
    begins_next =
        let q : k + 1 - 1 ≡ k = omega arith in
        rw (ne_eqb (k + 1) 0 (λ e. omega arith)) (ap (λ (x : ℕ). eqb (get_or header x 0) comma) q)

    name_right : (b : ℕ) → b ≡ get_or header k 0 → name_step (name_at names k) b ≡ Some (name_at names (k + 1))
    name_right b e =
        ap (λ (l : List ℕ). name_step (named (begins_in header k) l) b) left_is
        ∙ (rw (ne_eqb b carriage_return (no_return b e), eq-eqb b (get_or header k 0) e, e, ← begins_next, ← add-one k))

    name_wrong : (b : ℕ) → (b ≡ get_or header k 0 → ⊥) → name_step (name_at names k) b ≡ None
    name_wrong b n = ap (λ (l : List ℕ). name_step (named (begins_in header k) l) b) left_is ∙ go (eqb b carriage_return)
      where
        go : (t : Bool) → cond t None (cond (eqb b (get_or header k 0)) (Some (named (eqb b comma) (drop (suc k) all))) None) ≡ None
        go true = refl
        go false = rw (ne_eqb b (get_or header k 0) n)

    close_short : name_close (name_at names k) ≡ None
    close_short = ap (λ (l : List ℕ). name_close (named (begins_in header k) l)) left_is

  module _ (k : ℕ) (e : k ≡ length all) where
    nothing_left : drop k all ≡ []
    nothing_left = ap (λ (x : ℕ). drop x all) e ∙ drop-length all

    end_is : get_or header k 0 ≡ line_feed
    end_is = ap (λ (x : ℕ). get_or header x 0) e ∙ last-at all line_feed

    past : length header ≤ k + 1
    past = omega (arith, length-append all (line_feed ∷ []))

    name_past : (b : ℕ) → name_step (name_at names k) b ≡ None
    name_past b = ap (λ (l : List ℕ). name_step (named (begins_in header k) l) b) nothing_left

    close_end : name_close (name_at names k) ≡ Some []
    close_end = ap (λ (l : List ℕ). name_close (named (begins_in header k) l)) nothing_left

  -- ---- a byte

  -- what the comparison says of the names' machine: at LF its end, else its step

  -- where the byte agrees
  pub record Goes (mark : Mark) (k b : ℕ) (x : Stepped) : Type 0 where
    pub byte : eqb b line_feed ≡ false → (head_step (marked mark (name_at names k)) b ≡ Some (marked x.mark (name_at names x.head))) × (x.head < length header)
    pub end : eqb b line_feed ≡ true → (is_some (head_close (marked mark (name_at names k))) ≡ true) × (length header ≤ x.head) × (x.mark ≡ Bare)

  -- where it differs
  pub record Stops (mark : Mark) (k b : ℕ) : Type 0 where
    pub byte : eqb b line_feed ≡ false → head_step (marked mark (name_at names k)) b ≡ None
    pub end : eqb b line_feed ≡ true → is_some (head_close (marked mark (name_at names k))) ≡ false

  abbrev pub Compares : Mark → (k b : ℕ) → Option Stepped → Type 0
  Compares mark k b (Some x) = Goes mark k b x
  Compares mark k b None = Stops mark k b

  module _ (mark : Mark) (k b : ℕ) (h : k < length header) where
    -- a byte of the contents
    content : (m : Mark) → Follows name_step name_close name_begins mark (name_at names k) b (Content m) → At k → (s : Bool) → eqb b (get_or header k 0) ≡ s
        → Compares mark k b (cond s (Some (record { head = k + 1; mark = m })) None)
    content m f (in_names i) true s =
        let same : b ≡ get_or header k 0 = eqb-true b (get_or header k 0) s in
        record {
          byte = λ e. (f.0 e ∙ ap (marked_step m) (name_right k i b same), within k i);
          end = λ e. absurd (no_end k i b same (eqb-true b line_feed e));
        }
    content m f (in_names i) false s =
        record {
          byte = λ e. f.0 e ∙ ap (marked_step m) (name_wrong k i b (eqb-false b (get_or header k 0) s));
          end = λ e. ap is_some ((f.1 e).1 ∙ close_short k i);
        }
    content m f (at_end i) true s =
        record {
          byte = λ e. absurd (eqb-false b line_feed e (eqb-true b (get_or header k 0) s ∙ end_is k i));
          end = λ e. (ap is_some ((f.1 e).1 ∙ close_end k i), past k i, (f.1 e).0);
        }
    content m f (at_end i) false s =
        record {
          byte = λ e. f.0 e ∙ ap (marked_step m) (name_past k i b);
          end = λ e. absurd (eqb-false b (get_or header k 0) s (eqb-true b line_feed e ∙ sym (end_is k i)));
        }

    by_act : (a : Act) → a ≡ turned mark b (begins_in header k) → Compares mark k b (stepped_by k (eqb b (get_or header k 0)) a)
    by_act (To m) t =
        let f : Follows name_step name_close name_begins mark (name_at names k) b (To m) = follows-at name_step name_close name_begins mark (name_at names k) b (To m) t in
        record { byte = λ e. (f.1, h); end = λ e. absurd (false≢true (sym f.0 ∙ e)) }
    by_act (Content m) t = content m (follows-at name_step name_close name_begins mark (name_at names k) b (Content m) t) (place k h) (eqb b (get_or header k 0)) refl
    by_act Broken t =
        let f : Follows name_step name_close name_begins mark (name_at names k) b Broken = follows-at name_step name_close name_begins mark (name_at names k) b Broken t in
        record { byte = f.0; end = λ e. ap is_some (f.1 e) }

    -- THE LAW of a byte
    pub compares : Compares mark k b (stepped_in header mark k b)
    compares = by_act (turned mark b (begins_in header k)) refl

    pub compares-at : (r : Option Stepped) → stepped_in header mark k b ≡ r → Compares mark k b r
    compares-at r q = subst (λ (y : Option Stepped). Compares mark k b y) q compares

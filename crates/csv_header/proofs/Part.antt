-- Where the header's bytes lead a text, in quotes or not, whole or in parts, whatever its names and its rows. Assumes nothing.
use Prim.Native.Nat.{ℕ, suc, ◌+◌, ◌≤◌, ◌<◌}
use mathlib.Core.Path.{◌≡◌, refl, ap, sym, subst, ◌∙◌}
use mathlib.Core.Bool.{Bool, true, false, cond, true≢false, false≢true}
use mathlib.Core.List.{List, [], ◌∷◌}
use Rattle.std.specs.Prelude.{Option, Some, None, Result, Ok, Err, is_ok, is_some}
use native.Mathlib.Omega.{arith}
use native.Mathlib.Nat.{add-zero, zero-add}
use lib.Dec.{ltb, eqb}
use lib.ListN.{length, drop}
use lib.Seq.{drop-length}
use borrow.Author.Tests.{ltb-true, ltb-false, lt-ltb, le-ltb}
use Rattle.rules.specs.Answers.{bad_header}
use Rattle.rules.specs.Bytes.{line_feed}
use Rattle.rules.specs.Rows.{header_of}
use Rattle.csv_machine.specs.Fold.{fold}
use Rattle.csv_machine.specs.Marks.{bare, Marked, on}
use Rattle.csv_machine.specs.Names.{can_head, Named}
use Rattle.csv_machine.specs.Machine.{in_header, in_row, stopped, Faulty, is_broken, is_stopped, on_head, progress}
use Rattle.csv_machine.specs.Contents.{Contents, Reached, machine_of}
use Rattle.csv_machine.proofs.Machine.{faulty_fold}
use Rattle.csv_marks.specs.declared.Mark.{Mark}
use Rattle.csv_marks.specs.Turns.{marked}
use Rattle.csv_header.specs.declared.Headed.{Headed}
use Rattle.csv_header.specs.declared.Stepped.{Stepped}
use Rattle.csv_header.specs.Heading.{headed, stepped_in, after_step, compared_from, name_at, Headings}
use Rattle.csv_header.proofs.Byte.{head_step, head_close, Goes, Stops, compares-at}

-- ---- the comparison alone

-- past the header nothing of a part is the header's
pub past_header : (header s : List ℕ) (mark : Mark) (k i : ℕ) → length header ≤ k → compared_from header mark k i s ≡ Ok (headed i k mark)
past_header header [] mark k i h = refl
past_header header (b ∷ s) mark k i h = rw (le-ltb k (length header) h)

abbrev pub reached : Result Headed Headed → Headed
reached (Ok h) = h
reached (Err h) = h

inside : (header s : List ℕ) (mark : Mark) (k i : ℕ) → (reached (compared_from header mark k i s)).next ≤ i + length s
inside header [] mark k i = omega arith
inside header (b ∷ s) mark k i = go (ltb k (length header)) (stepped_in header mark k b) (inside header s)
  where
    go : (t : Bool) (y : Option Stepped) → ((m : Mark) (l j : ℕ) → (reached (compared_from header m l j s)).next ≤ j + length s)
        → (reached (cond t (after_step y (λ x. compared_from header x.mark x.head (i + 1) s) (Err (headed i k mark))) (Ok (headed i k mark)))).next ≤ i + suc (length s)
    go true (Some x) ih = omega (arith, ih x.mark x.head (i + 1))
    go true None ih = omega arith
    go false y ih = omega arith

-- the comparison ends in the part
pub header_inside : (header part : List ℕ) (mark : Mark) (k : ℕ) (r : Headed) → Ok r ≡ compared_from header mark k 0 part → r.next ≤ length part
header_inside header part mark k r e = omega (arith, inside header part mark k 0, ap (λ (x : Result Headed Headed). (reached x).next) e)

-- and so does one that found another byte
pub header_differs_inside : (header part : List ℕ) (mark : Mark) (k : ℕ) (r : Headed) → Err r ≡ compared_from header mark k 0 part → r.next ≤ length part
header_differs_inside header part mark k r e = omega (arith, inside header part mark k 0, ap (λ (x : Result Headed Headed). (reached x).next) e)

-- ---- a text

module _ {A O : Type 0} (c : Contents A O) (can : can_head c.names ≡ true) where
  abbrev header : List ℕ
  header = header_of c.names

  abbrev step : Reached A O → ℕ → Reached A O
  step = progress (machine_of c)

  abbrev at : Mark → (k n : ℕ) → Reached A O
  at mark k n = in_header n (marked mark (name_at c.names k))

  abbrev begun : Mark → (n : ℕ) → Reached A O
  begun mark n = in_row n n [] (marked mark c.start)

  -- after k bytes of the header and n of the text
  abbrev state : Mark → (k n : ℕ) → Reached A O
  state mark k n = cond (ltb k (length header)) (at mark k n) (begun mark n)

  state_in : (mark : Mark) (k n : ℕ) → k < length header → state mark k n ≡ at mark k n
  state_in mark k n h = rw (lt-ltb k (length header) h)

  state-past : (mark : Mark) (k n : ℕ) → length header ≤ k → state mark k n ≡ begun mark n
  state-past mark k n h = rw (le-ltb k (length header) h)

  at_byte : (n : ℕ) (m : Marked Named) (b : ℕ) → eqb b line_feed ≡ false → step (in_header n m) b ≡ on_head (machine_of c) n (head_step m b)
  at_byte n m b e = rw e

  at-line : (n : ℕ) (m : Marked Named) (b : ℕ) → eqb b line_feed ≡ true
      → step (in_header n m) b ≡ cond (is_some (head_close m)) (in_row (suc n) (suc n) [] (on bare c.start)) (stopped bad_header 0)
  at-line n m b e = rw e

  module _ (mark : Mark) (k n b : ℕ) (h : k < length header) where
    byte_leads : (x : Stepped) → stepped_in header mark k b ≡ Some x → step (at mark k n) b ≡ state x.mark x.head (suc n)
    byte_leads x q = go (eqb b line_feed) refl
      where
        w : Goes c.names can mark k b x
        w = compares-at c.names can mark k b h (Some x) q

        go : (l : Bool) → eqb b line_feed ≡ l → step (at mark k n) b ≡ state x.mark x.head (suc n)
        go false e =
            at_byte n (marked mark (name_at c.names k)) b e
            ∙ ap (λ (y : Option (Marked Named)). on_head (machine_of c) n y) (w.byte e).0
            ∙ sym (state_in x.mark x.head (suc n) (w.byte e).1)
        go true e =
            at-line n (marked mark (name_at c.names k)) b e
            ∙ ap (λ (t : Bool). cond t (in_row (suc n) (suc n) [] (on bare c.start)) (stopped bad_header 0)) (w.end e).0
            ∙ ap (λ (m : Mark). begun m (suc n)) (sym (w.end e).2)
            ∙ sym (state-past x.mark x.head (suc n) (w.end e).1)

    byte-differs : stepped_in header mark k b ≡ None → Faulty bad_header 0 (step (at mark k n) b)
    byte-differs q = go (eqb b line_feed) refl
      where
        w : Stops c.names can mark k b
        w = compares-at c.names can mark k b h None q

        go : (l : Bool) → eqb b line_feed ≡ l → Faulty bad_header 0 (step (at mark k n) b)
        go false e =
            subst (λ (p : Reached A O). Faulty bad_header 0 p)
            (sym (at_byte n (marked mark (name_at c.names k)) b e ∙ ap (λ (x : Option (Marked Named)). on_head (machine_of c) n x) (w.byte e))) is_broken
        go true e =
            subst (λ (p : Reached A O). Faulty bad_header 0 p)
            (sym (at-line n (marked mark (name_at c.names k)) b e
            ∙ ap (λ (t : Bool). cond t (in_row (suc n) (suc n) [] (on bare c.start)) (stopped bad_header 0)) (w.end e))) is_stopped

  -- ---- the bytes of a part

  -- a byte that differs is the text's fault
  wrong_part : (s : List ℕ) (mark : Mark) (k i n : ℕ) → is_ok (compared_from header mark k i s) ≡ false → Faulty bad_header 0 (fold step (state mark k n) s)
  wrong_part [] mark k i n e = absurd (true≢false e)
  wrong_part (b ∷ s) mark k i n e = go (ltb k (length header)) refl (stepped_in header mark k b) refl (wrong_part s) e
    where
      go : (t : Bool) → ltb k (length header) ≡ t → (y : Option Stepped) → stepped_in header mark k b ≡ y
          → ((m : Mark) (l j d : ℕ) → is_ok (compared_from header m l j s) ≡ false → Faulty bad_header 0 (fold step (state m l d) s))
          → is_ok (cond t (after_step y (λ x. compared_from header x.mark x.head (i + 1) s) (Err (headed i k mark))) (Ok (headed i k mark))) ≡ false
          → Faulty bad_header 0 (fold step (step (cond t (at mark k n) (begun mark n)) b) s)
      go true f (Some x) q ih e =
          subst (λ (p : Reached A O). Faulty bad_header 0 (fold step p s)) (sym (byte_leads mark k n b (ltb-true k (length header) f) x q)) (ih x.mark x.head (i + 1) (suc n) e)
      go true f None q ih e = faulty_fold (machine_of c) (step (at mark k n) b) s (byte-differs mark k n b (ltb-true k (length header) f) q)
      go false f y q ih e = absurd (true≢false e)

  -- bytes that agree lead on
  record Agrees (mark : Mark) (k i n : ℕ) (s : List ℕ) (r : Headed) : Type 0 where
    count : ℕ
    next_is : r.next ≡ i + count
    ends : r.head < length header → count ≡ length s
    same : fold step (state r.mark r.head (n + count)) (drop count s) ≡ fold step (state mark k n) s

  right_part : (s : List ℕ) (mark : Mark) (k i n : ℕ) → is_ok (compared_from header mark k i s) ≡ true → Agrees mark k i n s (reached (compared_from header mark k i s))
  right_part [] mark k i n e = record { count = 0; next_is = sym (add-zero i); ends = λ h. refl; same = ap (state mark k) (add-zero n) }
  right_part (b ∷ s) mark k i n e = go (ltb k (length header)) refl (stepped_in header mark k b) refl (right_part s) e
    where
      go : (t : Bool) → ltb k (length header) ≡ t → (y : Option Stepped) → stepped_in header mark k b ≡ y
          → ((m : Mark) (l j d : ℕ) → is_ok (compared_from header m l j s) ≡ true → Agrees m l j d s (reached (compared_from header m l j s)))
          → is_ok (cond t (after_step y (λ x. compared_from header x.mark x.head (i + 1) s) (Err (headed i k mark))) (Ok (headed i k mark))) ≡ true
          → Agrees mark k i n (b ∷ s) (reached (cond t (after_step y (λ x. compared_from header x.mark x.head (i + 1) s) (Err (headed i k mark))) (Ok (headed i k mark))))
      go true f (Some x) q ih e =
          let w = ih x.mark x.head (i + 1) (suc n) e in
          let l : n + suc w.count ≡ suc n + w.count = omega arith in
          let next : Headed = reached (compared_from header x.mark x.head (i + 1) s) in
          record {
            count = suc w.count;
            next_is = w.next_is ∙ omega arith;
            ends = λ h. ap suc (w.ends h);
            same =
                ap (λ (y : ℕ). fold step (state next.mark next.head y) (drop w.count s)) l
                ∙ w.same
                ∙ ap (λ (p : Reached A O). fold step p s) (sym (byte_leads mark k n b (ltb-true k (length header) f) x q))
                ∙ ap (λ (p : Reached A O). fold step (step p b) s) (sym (state_in mark k n (ltb-true k (length header) f)));
          }
      go true f None q ih e = absurd (false≢true e)
      go false f y q ih e =
          record {
            count = 0;
            next_is = sym (add-zero i);
            ends = λ h. let l : length header ≤ k = ltb-false k (length header) f in absurd (omega arith);
            same = ap (λ (y : ℕ). fold step (state mark k y) (b ∷ s)) (add-zero n);
          }

  module _ (part : List ℕ) (mark : Mark) (k n : ℕ) (r : Result Headed Headed) (h : k < length header) (is : r ≡ compared_from header mark k 0 part) where
    first : state mark k n ≡ at mark k n
    first = state_in mark k n h

    differs : (w : Headed) → r ≡ Err w → Faulty bad_header 0 (fold step (at mark k n) part)
    differs w e = subst (λ (p : Reached A O). Faulty bad_header 0 (fold step p part)) first (wrong_part part mark k 0 n (ap is_ok (sym is ∙ e)))

    module _ (w : Headed) (e : r ≡ Ok w) where
      agrees : Agrees mark k 0 n part w
      agrees = subst (λ (x : Headed). Agrees mark k 0 n part x) (ap reached (sym is ∙ e)) (right_part part mark k 0 n (ap is_ok (sym is ∙ e)))

      goes_on : w.head < length header → fold step (at mark k n) part ≡ at w.mark w.head (n + length part)
      goes_on l =
          ap (λ (p : Reached A O). fold step p part) (sym first)
          ∙ sym agrees.same
          ∙ ap (λ (x : ℕ). fold step (state w.mark w.head (n + x)) (drop x part)) (agrees.ends l)
          ∙ ap (λ (s : List ℕ). fold step (state w.mark w.head (n + length part)) s) (drop-length part)
          ∙ state_in w.mark w.head (n + length part) l

      is_over : length header ≤ w.head → fold step (begun w.mark (n + w.next)) (drop w.next part) ≡ fold step (at mark k n) part
      is_over l =
          ap (λ (p : Reached A O). fold step p (drop w.next part)) (sym (state-past w.mark w.head (n + w.next) l))
          ∙ ap (λ (x : ℕ). fold step (state w.mark w.head (n + x)) (drop x part)) (agrees.next_is ∙ zero-add agrees.count)
          ∙ agrees.same
          ∙ ap (λ (p : Reached A O). fold step p part) first

    -- THE LAW of a part
    pub header_law : Headings c step part mark k n r
    header_law = record { differs = differs; goes_on = goes_on; is_over = is_over }

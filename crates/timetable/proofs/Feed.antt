-- A part of a text, and its end: the reader holds what the machine of the text reaches, and answers what that says. Assumes nothing.
use Prim.Native.Nat.{ℕ, ◌+◌, ◌≤◌, ◌<◌}
use mathlib.Core.Path.{◌≡◌, refl, ap, sym, subst, ◌∙◌}
use mathlib.Core.Bool.{Bool, true, false, cond}
use mathlib.Core.List.{List, []}
use native.Mathlib.Omega.{arith}
use lib.Dec.{leb}
use lib.ListN.{length, drop}
use lib.Seq.{drop-length}
use borrow.Author.Tests.{le-leb, lt-leb, eq-eqb, ne_eqb}
use Rattle.std.specs.Prelude.{None, Some, Result, Ok, Err}
use Rattle.rules.specs.Limits.{most_text}
use Rattle.rules.specs.Lists.{over}
use Rattle.rules.specs.Answers.{bad_header, bad_row, timetable_file}
use Rattle.rules.specs.Timetable.{timetable_names, timetable_header}
use Rattle.csv_machine.specs.Fold.{fold}
use Rattle.csv_machine.specs.Machine.{in_header, in_row, broken, stopped, Faulty, is_broken, is_stopped}
use Rattle.timetable_row.specs.declared.line.Line.{Line}
use Rattle.timetable_row.specs.Faults.{fault_at}
use Rattle.timetable_row.specs.Digits.{most_held}
use Rattle.csv_marks.specs.declared.Mark.{Mark}
use Rattle.csv_marks.specs.Turns.{marked}
use Rattle.csv_header.specs.declared.Headed.{Headed}
use Rattle.csv_header.specs.Heading.{headed, compared_from, name_at, Headings}
use Rattle.csv_header.proofs.Part.{past_header, header_inside, header_law}
use Rattle.timetable.specs.declared.reader.Reader.{Reader}
use Rattle.timetable.specs.Open.{Reached, start, contents, reach, reached_end}
use Rattle.timetable.specs.Held.{in_head, Tables, InLine}
use Rattle.timetable.specs.Ended.{draft_room}
use Rattle.timetable.specs.Promise.{answer_of}
use Rattle.timetable.specs.Text.{first_line, placed_at, begun_at, Holds, drafted, Placed, Lined, Stands, Fed, Finished}
use Rattle.timetable.proofs.Faults.{faulty_fold, faulty_held}

-- ---- before the first row

pub first_row_lem : (H : ℕ) (lent : Tables) (at : ℕ) → H ≤ most_held → InLine H lent (placed_at first_line at) lent at [] [] [] []
unfolding over
first_row_lem H lent at h =
    record {
      horizon = h;
      going = refl;
      placed = refl;
      opened =
          record {
            shaped = in_head {closed = []} (omega arith);
            slot_is = refl;
            ten = refl;
            numbers_are = refl;
            entries_are = refl;
            wide_is = refl;
            nominal_is = λ k. refl;
          };
      rowed =
          record {
            rows_are = refl;
            configurations_are_lem = refl;
            below = tt;
            few = omega arith;
            many = omega arith;
            legs_fit = omega arith;
            configurations_fit = omega arith;
            legs_are_lem = refl;
          };
      long = refl;
      kept = λ ranged few room. refl;
    }

-- ---- a part

module _ (H : ℕ) (reader : Reader) (part : List ℕ) (now : Tables) where
  -- after a fault nothing is looked at
  pub fed_stopped : (reader.line.fault ≡ None → ⊥)
      → Fed H reader part (record { read = reader.read + length part; head = reader.head; mark = reader.mark; number = reader.number; line = reader.line }) now now
  fed_stopped fault = record { fed_to = refl; feeds = λ lent reached h. go lent reached h }
    where
      stays : (lent : Tables) (p : Reached) {k place : ℕ} → Faulty k place p → reader.line.fault ≡ Some k → reader.line.place ≡ place → 0 < k
          → Holds H lent (reader.read + length part) reader.mark reader.head reader.number reader.line now (fold (drafted H lent) p part)
      stays lent p f l q z =
          faulty_held H lent (fold (drafted H lent) p part) (reader.read + length part) reader.mark reader.head reader.number reader.line now (faulty_fold H lent p part f) l q z

      go : (lent : Tables) (reached : Reached) → Stands H lent reader now reached
          → Holds H lent (reader.read + length part) reader.mark reader.head reader.number reader.line now (fold (drafted H lent) reached part)
      go lent (in_header k m) h = absurd (fault (ap (λ (x : Line). x.fault) h.4))
      go lent (broken k place) h = stays lent (broken k place) is_broken h.0 h.1 h.2
      go lent (stopped k place) h = stays lent (stopped k place) is_stopped h.0 h.1 h.2
      go lent (in_row place n before m) h = absurd (fault h.4.going)

  module _ (r : Result Headed Headed) (r-is : r ≡ compared_from timetable_header reader.mark reader.head 0 part) where
    heading : (lent : Tables) → reader.head < length timetable_header
        → Headings (contents H timetable_file (draft_room lent)) (drafted H lent) part reader.mark reader.head reader.read r
    unfolding reach
    heading lent h = header_law (contents H timetable_file (draft_room lent)) refl part reader.mark reader.head reader.read r h r-is

    -- past the header nothing of the part is the header's
    past_right : length timetable_header ≤ reader.head → r ≡ Ok (headed 0 reader.head reader.mark)
    past_right h = r-is ∙ past_header timetable_header part reader.mark reader.head 0 h

    -- the header differs
    pub fed_wrong : (w : Headed) → r ≡ Err w → reader.line.fault ≡ None → (line' : Line) → line'.fault ≡ Some bad_header → line'.place ≡ 0
        → Fed H reader part (record { read = reader.read + length part; head = reader.head; mark = reader.mark; number = reader.number; line = line' }) now now
    fed_wrong w e clear line' f p = record { fed_to = refl; feeds = λ lent reached h. go lent reached h }
      where
        go : (lent : Tables) (reached : Reached) → Stands H lent reader now reached
            → Holds H lent (reader.read + length part) reader.mark reader.head reader.number line' now (fold (drafted H lent) reached part)
        go lent (in_header k m) h =
            let v : Faulty bad_header 0 (fold (drafted H lent) (in_header k m) part) =
            rw (h.0, h.1) ((heading lent h.2).differs w e) in
            faulty_held H lent (fold (drafted H lent) (in_header k m) part) (reader.read + length part) reader.mark reader.head reader.number line' now v f p (omega arith)
        go lent (broken k place) h = cc (h.0)
        go lent (stopped k place) h = cc (h.0)
        go lent (in_row place n before m) h = let q = past_right h.5 in cc

  module _ (head : Headed) (head-is : Ok head ≡ compared_from timetable_header reader.mark reader.head 0 part) (clear : reader.line.fault ≡ None) where
    past_is : length timetable_header ≤ reader.head → head ≡ headed 0 reader.head reader.mark
    past_is h = let q = past_right (Ok head) head-is h in cc

    -- the part ends in the header
    pub fed_header : head.head < length timetable_header
        → Fed H reader part (record { read = reader.read + length part; head = head.head; mark = head.mark; number = reader.number; line = reader.line }) now now
    fed_header short = record { fed_to = refl; feeds = λ lent reached h. go lent reached h }
      where
        go : (lent : Tables) (reached : Reached) → Stands H lent reader now reached
            → Holds H lent (reader.read + length part) head.mark head.head reader.number reader.line now (fold (drafted H lent) reached part)
        go lent (in_header k m) h =
            let q : fold (drafted H lent) (in_header k m) part ≡ in_header (reader.read + length part) (marked head.mark (name_at timetable_names head.head)) =
            rw (h.0, h.1) ((heading (Ok head) head-is lent h.2).goes_on head refl short) in
            subst (λ (x : Reached). Holds H lent (reader.read + length part) head.mark head.head reader.number reader.line now x) (sym q)
            (refl, refl, short, h.3, h.4, h.5, h.6)
        go lent (broken k place) h = cc (h.0)
        go lent (stopped k place) h = cc (h.0)
        go lent (in_row place n before m) h = absurd (omega (arith, h.5, ap (λ (x : Headed). x.head) (past_is h.5)))

    -- the header is whole, and the rows are read
    pub fed_ran : (first : Line) (at : ℕ) (reader' : Reader) (now' : Tables) → length timetable_header ≤ head.head → at ≡ reader.read + head.next
        → first ≡ begun_at reader.line reader.head at → Lined H first reader.number head.mark reader.read part head.next reader' now now'
        → Fed H reader part reader' now now'
    fed_ran first at reader' now' whole at-is first_is ran = record { fed_to = ran.ran_to; feeds = λ lent reached h. finish lent reached (go lent reached h) }
      where
        go : (lent : Tables) (reached : Reached) → Stands H lent reader now reached
            → (at : Reached) × Holds H lent (reader.read + head.next) head.mark (length timetable_header) reader.number first now at
            × (fold (drafted H lent) at (drop head.next part) ≡ fold (drafted H lent) reached part)
        go lent (in_header k m) h =
            let line-is : first ≡ placed_at first_line at =
            first_is ∙ ap (λ (x : Line). begun_at x reader.head at) h.4 ∙ (rw (lt-leb (length timetable_header) reader.head h.2)) in
            let row : InLine H lent first now at [] [] [] [] =
            subst (λ (t : Tables). InLine H lent first t at [] [] [] []) (sym h.5)
            (subst (λ (x : Line). InLine H lent x lent at [] [] [] []) (sym line-is) (first_row_lem H lent at h.6)) in (
              in_row at at [] (marked head.mark start),
              (start, at-is, refl, h.3, row, omega arith),
              rw (at-is, h.0, h.1) ((heading (Ok head) head-is lent h.2).is_over head refl whole),
            )
        go lent (broken k place) h = cc (h.0)
        go lent (stopped k place) h = cc (h.0)
        go lent (in_row place n before m) h =
            let past = past_is h.5 in
            let z : head.next ≡ 0 = ap (λ (x : Headed). x.next) past in
            let k : n ≡ reader.read + head.next = omega (arith, h.1) in
            let same-mark : head.mark ≡ reader.mark = ap (λ (x : Headed). x.mark) past in
            let line-is : first ≡ reader.line = first_is ∙ (rw (le-leb (length timetable_header) reader.head h.5)) in (
              in_row place n before m,
              (h.0, k, h.2 ∙ ap (λ (x : Mark). marked x h.0) (sym same-mark), h.3, subst (λ (x : Line). InLine H lent x now place before h.0.closed h.0.list h.0.entry) (sym line-is) h.4, omega arith),
              ap (λ (x : ℕ). fold (drafted H lent) (in_row place n before m) (drop x part)) z,
            )

        finish : (lent : Tables) (reached : Reached)
            → (at : Reached) × Holds H lent (reader.read + head.next) head.mark (length timetable_header) reader.number first now at
            × (fold (drafted H lent) at (drop head.next part) ≡ fold (drafted H lent) reached part)
            → Stands H lent reader' now' (fold (drafted H lent) reached part)
        finish lent reached a =
            let b = ran.lines.leads lent a.0 a.1 in
            let q : b.0 ≡ fold (drafted H lent) reached part = sym (ap (λ (s : List ℕ). fold (drafted H lent) b.0 s) (drop-length part)) ∙ b.2 ∙ a.2 in
            rw (ran.ran_to, ran.head_whole, ← q) b.1

begun_fault : (line : Line) (head at : ℕ) → (begun_at line head at).fault ≡ line.fault
begun_fault line head at = go (leb (length timetable_header) head)
  where
    go : (t : Bool) → (cond t line (placed_at line at)).fault ≡ line.fault
    go true = refl
    go false = refl

pub placed-rows : (part : List ℕ) (read head : ℕ) (mark : Mark) (r : Headed) (line first : Line) (at : ℕ) → read + length part ≤ most_text → Ok r ≡ compared_from timetable_header mark head 0 part → line.fault ≡ None
    → first ≡ begun_at line head at → Placed read part r.next first
placed-rows part read head mark r line first at h e c f =
    record {
      in_limit = h;
      inside = header_inside timetable_header part mark head r e;
      no_fault = ap (λ (x : Line). x.fault) f ∙ begun_fault line head at ∙ c;
    }

-- ---- the end of a text

module _ (reader : Reader) where
  pub finish_fault : (j : ℕ) → reader.line.fault ≡ Some j → Finished reader (Err (fault_at j reader.line.place))
  unfolding reached_end
  finish_fault j fault = record { finishes = λ H lent now reached h. go H lent now reached h }
    where
      go : (H : ℕ) (lent now : Tables) (reached : Reached) → Stands H lent reader now reached
          → Err (fault_at j reader.line.place) ≡ answer_of (reached_end H timetable_file (draft_room lent) reached)
      go H lent now (in_header k m) h = cc (fault, ap (λ (x : Line). x.fault) h.4)
      go H lent now (broken k place) h = cc (fault, h.0, h.1)
      go H lent now (stopped k place) h = cc (fault, h.0, h.1)
      go H lent now (in_row place n before m) h = cc (fault, h.4.going)

  module _ (clear : reader.line.fault ≡ None) where
    pub finish_header : reader.head < length timetable_header → Finished reader (Err (fault_at bad_header 0))
    unfolding reached_end
    finish_header short = record { finishes = λ H lent now reached h. go H lent now reached h }
      where
        go : (H : ℕ) (lent now : Tables) (reached : Reached) → Stands H lent reader now reached
            → Err (fault_at bad_header 0) ≡ answer_of (reached_end H timetable_file (draft_room lent) reached)
        go H lent now (in_header k m) h = refl
        go H lent now (broken k place) h = cc (h.0)
        go H lent now (stopped k place) h = cc (h.0)
        go H lent now (in_row place n before m) h = absurd (omega (arith, h.5))

    module _ (whole : length timetable_header ≤ reader.head) where
      pub finish_row : (reader.line.place ≡ reader.read → ⊥) → Finished reader (Err (fault_at bad_row reader.line.place))
      unfolding reached_end
      finish_row apart = record { finishes = λ H lent now reached h. go H lent now reached h }
        where
          go : (H : ℕ) (lent now : Tables) (reached : Reached) → Stands H lent reader now reached
              → Err (fault_at bad_row reader.line.place) ≡ answer_of (reached_end H timetable_file (draft_room lent) reached)
          go H lent now (in_header k m) h = absurd (omega (arith, h.2))
          go H lent now (broken k place) h = cc (h.0)
          go H lent now (stopped k place) h = cc (h.0)
          go H lent now (in_row place n before m) h = rw (ne_eqb place n (λ q. apart (h.4.placed ∙ q ∙ h.1)), h.4.placed)

      pub finish_read : reader.line.place ≡ reader.read → Finished reader (Ok (record { rows = reader.line.rows; configurations = reader.line.configurations }))
      unfolding reached_end
      finish_read together = record { finishes = λ H lent now reached h. go H lent now reached h }
        where
          go : (H : ℕ) (lent now : Tables) (reached : Reached) → Stands H lent reader now reached
              → Ok (record { rows = reader.line.rows; configurations = reader.line.configurations }) ≡ answer_of (reached_end H timetable_file (draft_room lent) reached)
          go H lent now (in_header k m) h = absurd (omega (arith, h.2))
          go H lent now (broken k place) h = cc (h.0)
          go H lent now (stopped k place) h = cc (h.0)
          go H lent now (in_row place n before m) h =
              rw (eq-eqb place n (sym h.4.placed ∙ together ∙ sym h.1), h.4.rowed.rows_are, h.4.rowed.configurations_are_lem)

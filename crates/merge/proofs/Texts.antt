-- The ways out of a merge of two accepted solutions: 17, 16, or the text. Assumes nothing.
use Prim.Native.Nat.{ℕ, ◌≤◌, ◌<◌}
use mathlib.Core.Path.{◌≡◌, refl, sym, ap, ap₂, ◌∙◌, subst}
use mathlib.Core.Bool.{Bool, true, false, ◌&&◌}
use mathlib.Core.List.{List}
use native.Mathlib.Omega.{arith}
use lib.Dec.{leb}
use lib.ListN.{length}
use borrow.Author.Tests.{leb-true}
use Rattle.rules.specs.Limits.{most_text}
use Rattle.rules.specs.Answers.{refusal, unequal_travel, no_room, no_file, solution_file, second_file, is_accepted, good}
use Rattle.rules.specs.Rows.{place_of_row}
use Rattle.rules.specs.Reading.{Files, choices_read}
use Rattle.rules.specs.Merge.{unequal_from, chosen, text_of, merge_of}
use Rattle.rules.specs.Entries.{rooms_of, written_tables, written_choices, merge_fitted, merge_travel}
use Rattle.rules.specs.declared.answers.Refusal.{Refusal}
use Rattle.rules.specs.declared.answers.Answer.{Answer}
use Rattle.rules.specs.declared.answers.Answer.TheVariants.{Accepted, Refused}
use Rattle.rules.specs.declared.outcomes.Merged.{Merged}
use Rattle.rules.specs.declared.outcomes.Direction.{Direction}
use Rattle.rules_theorems.proofs.DocumentWords.{and_first}
use Rattle.rules_theorems.proofs.GoodFiles.{choices_good}
use Rattle.tables_views.specs.View.{configurations_in}
use Rattle.tables_lent.specs.declared.Counts.{Counts}
use Rattle.verdict.proofs.GoodReading.{choices_many}
use Rattle.text_write.specs.Written.{last_place, Written}
use Rattle.merge_text.specs.Merges.{merged_in}
use Rattle.std.specs.Prelude.{Option, Some, None}
use Rattle.text_write.proofs.Writing.{written-length}
use Rattle.merge_text.proofs.Filled.{unequal_seen, merged-fits, merged_whole}
use Rattle.merge_order.specs.Order.{travel_answer, room_answer, first_of}
use Rattle.merge.specs.Left.{written_as, not_written, Made, Mergeable, both_of, merged_equal}
use Rattle.merge.proofs.Standing.{never}

-- ---- the answer of the test for travel times

-- ---- over what was left

module _ {counts : Counts} {second legs configurations choices second_choices : List ℕ} (k : Mergeable counts second legs configurations choices second_choices) where
  abbrev f : Files
  f = k.left.files

  rows_many : counts.legs ≡ length f.rows
  rows_many = ap (λ (c : Counts). c.legs) k.left.counted

  -- both were read by the horizon that was stated
  a_stated : choices_read k.left.stated.horizon f solution_file (length k.lent) k.first ≡ good k.both.a
  a_stated = subst (λ (h : ℕ). choices_read h f solution_file (length k.lent) k.first ≡ good k.both.a) (sym k.left.at) k.both.a_read

  b_stated : choices_read k.left.stated.horizon f second_file (length k.lent_second) second ≡ good k.both.b
  b_stated = subst (λ (h : ℕ). choices_read h f second_file (length k.lent_second) second ≡ good k.both.b) (sym k.left.at) k.both.b_read

  a_many : length k.both.a ≡ length f.rows
  a_many = choices_many k.left.stated k.left.texts (rooms_of k.left.lent) f k.left.read solution_file (length k.lent) k.first k.both.a a_stated

  b_many : length k.both.b ≡ length f.rows
  b_many = choices_many k.left.stated k.left.texts (rooms_of k.left.lent) f k.left.read second_file (length k.lent_second) second k.both.b b_stated

  -- a solution that was read is no longer than a text may be
  pub second_short : length second ≤ most_text
  second_short = (choices_good k.H f second_file (length k.lent_second) second k.both.b k.both.b_read).solution.short

  travels_seen : unequal_from 0 (configurations_in counts.legs choices) (configurations_in counts.legs second_choices) ≡ unequal_from 0 k.both.a k.both.b
  travels_seen =
      (λ j. unequal_from 0 (configurations_in (rows_many j) (k.both.choices_are j)) (configurations_in (rows_many j) (k.both.second_are j)))
      ∙ unequal_seen f.rows k.left.lent.legs k.left.lent.configurations k.both.a k.both.b k.lent k.lent_second a_many b_many

  abbrev written : Direction → List ℕ
  written d = text_of (chosen f.rows (merge_of d k.both.a k.both.b))

  module _ (d : Direction) (text : List ℕ) {v : Option ℕ}
      (told : v ≡ (unequal_from 0 (configurations_in counts.legs choices) (configurations_in counts.legs second_choices))) where
    -- 17
    unequal_way : {row : ℕ} {x : Refusal} {r : Merged} {text' : List ℕ} → v ≡ Some row → x ≡ refusal unequal_travel second_file (place_of_row second row)
        → r ≡ not_written (Refused x) → Made (merged_equal k d text) r text'
    unequal_way {row} {x} {r} {text'} e q s =
        subst (λ o. Made (merge_travel k.left.lent k.lent k.lent_second text second (merge_of d) o (both_of k)) r text')
        (sym e ∙ told ∙ travels_seen)
        (rw (s, q) (record { answer = refl; tally = refl; length = refl; puts = λ z. never (sym z) }))

    module _ (e : v ≡ None) {text' : List ℕ} {n : ℕ} (small : length text < last_place)
        (put : Written text 0 (text_of (merged_in d counts.legs legs configurations choices second_choices)) text' n)
        {fits : Bool} (tested : fits ≡ (leb n (length text') && leb n most_text)) where
      put_left : Written text 0
          (text_of
          (merged_in d (length f.rows) (written_tables f k.left.lent).legs (written_tables f k.left.lent).configurations (written_choices k.both.a k.lent)
          (written_choices k.both.b k.lent_second))) text' n
      put_left =
          subst (λ rows. Written text 0 (text_of rows) text' n)
          (λ j. merged_in d (rows_many j) (k.legs_are_lem j) (k.configurations_are_lem j) (k.both.choices_are j) (k.both.second_are j)) put

      -- the buffer is as long as it was
      fits-at : fits ≡ (leb n (length text) && leb n most_text)
      fits-at = tested ∙ ap (λ m. leb n m && leb n most_text) (written-length put)

      fits_seen : fits ≡ (leb (length (written d)) (length text) && leb (length (written d)) most_text)
      fits_seen =
          fits-at
          ∙ ap₂ ◌&&◌
          (merged-fits f.rows k.left.lent.legs k.left.lent.configurations k.both.a k.both.b k.lent k.lent_second a_many b_many d text text' n put_left (length text) small)
          (merged-fits f.rows k.left.lent.legs k.left.lent.configurations k.both.a k.both.b k.lent k.lent_second a_many b_many d text text' n put_left most_text (omega arith))

      fitted : {r : Merged} → Made (merge_fitted k.left.lent k.lent k.lent_second text fits (written d) (both_of k)) r text' → Made (merged_equal k d text) r text'
      fitted {r} m =
          subst (λ o. Made (merge_travel k.left.lent k.lent k.lent_second text second (merge_of d) o (both_of k)) r text')
          (sym e ∙ told ∙ travels_seen)
          (subst (λ b. Made (merge_fitted k.left.lent k.lent k.lent_second text b (written d) (both_of k)) r text') fits_seen m)

      -- the text
      text_way : fits ≡ true → Made (merged_equal k d text) (written_as Accepted n) text'
      text_way h =
          let room : n ≤ length text = leb-true n (length text) (and_first (leb n (length text)) (leb n most_text) (sym fits-at ∙ h)) in
          let whole = merged_whole f.rows k.left.lent.legs k.left.lent.configurations k.both.a k.both.b k.lent k.lent_second a_many b_many d text text' n put_left small room in
          fitted (rw h (record { answer = refl; tally = refl; length = whole.0; puts = λ z. whole.1 }))

      -- 16
      room_way : {x : Refusal} {r : Merged} → fits ≡ false → x ≡ refusal no_room no_file 0 → r ≡ not_written (Refused x) → Made (merged_equal k d text) r text'
      room_way h q s = fitted (rw (h, s, q) (record { answer = refl; tally = refl; length = refl; puts = λ z. never (sym z) }))

    module _ {text' : List ℕ} {n : ℕ} (small : length text < last_place) (put : Written text 0 (text_of (merged_in d counts.legs legs configurations choices second_choices)) text' n)
        {answer : Answer} (first : answer ≡ first_of (travel_answer second v) (room_answer (leb n (length text') && leb n most_text))) where
      abbrev Ends : Type 0
      Ends =
          (is_accepted answer ≡ true → Made (merged_equal k d text) (written_as answer n) text')
          × (is_accepted answer ≡ false → Made (merged_equal k d text) (not_written answer) text')

      -- both tests passed, or one of them did not
      ends_accepted : answer ≡ Accepted → Made (merged_equal k d text) (written_as Accepted n) text' → Ends
      ends_accepted e m = (λ h. subst (λ a. Made (merged_equal k d text) (written_as a n) text') (sym e) m, λ h. never (sym (ap is_accepted e) ∙ h))

      ends_refused : {x : Refusal} → answer ≡ Refused x → Made (merged_equal k d text) (not_written (Refused x)) text' → Ends
      ends_refused e m = (λ h. never (sym h ∙ ap is_accepted e), λ h. subst (λ a. Made (merged_equal k d text) (not_written a) text') (sym e) m)

      ends : Ends
      ends = go v refl
        where
          room : v ≡ None → (fits : Bool) → (leb n (length text') && leb n most_text) ≡ fits → Ends
          room e true h =
              ends_accepted (first ∙ (λ j. first_of (travel_answer second (e j)) (room_answer (h j)))) (text_way e small put refl h)
          room e false h =
              ends_refused (first ∙ (λ j. first_of (travel_answer second (e j)) (room_answer (h j)))) (room_way e small put refl h refl refl)

          go : (w : Option ℕ) → v ≡ w → Ends
          go (Some row) e = ends_refused (first ∙ (λ j. first_of (travel_answer second (e j)) (room_answer (leb n (length text') && leb n most_text)))) (unequal_way e refl refl)
          go None e = room e (leb n (length text') && leb n most_text) refl

      pub text_ends : is_accepted answer ≡ true → {r : Merged} → r ≡ written_as answer n → Made (merged_equal k d text) r text'
      text_ends h {r} e = subst (λ q. Made (merged_equal k d text) q text') (sym e) (ends.0 h)

      pub refusal_ends : is_accepted answer ≡ false → {r : Merged} → r ≡ not_written answer → Made (merged_equal k d text) r text'
      refusal_ends h {r} e = subst (λ q. Made (merged_equal k d text) q text') (sym e) (ends.1 h)

-- Every row keeps every rule (document 02, E13), as a statement, rule by rule.
use Rattle.std.specs.Prelude.{◌+◌, ◌<◌, ◌≡◌, false, List, [], ◌∷◌, Some}
use Rattle.rules.specs.Lists.{any, same_list}
use Rattle.rules.specs.Duties.{is_train, time_text, Event, Before, after, follows}

-- a row e, after the duties that were seen and the event that is last
pub record Keeps (b : Before) (e : Event) : Type 0 where
  -- 1: it ends after it starts
  pub later : e.start < e.end
  -- 2: only TRAIN ends at another node
  pub stays : is_train e.type ≡ false → e.from ≡ e.to
  -- 3: a duty that begins was not seen before
  pub together : follows b.last e ≡ false → any (same_list e.duty) b.seen ≡ false
  -- 4: SEQ is 1 where a duty begins, and one more within it
  pub begins : follows b.last e ≡ false → e.seq ≡ 1
  pub goes_on : (p : Event) → b.last ≡ Some p → p.duty ≡ e.duty → e.seq ≡ p.seq + 1
  -- 5: within a duty it starts at the time and node at which the one before ended
  pub time : (p : Event) → b.last ≡ Some p → p.duty ≡ e.duty → e.start ≡ p.end
  pub node : (p : Event) → b.last ≡ Some p → p.duty ≡ e.duty → p.to ≡ e.from
  -- 6: both texts are those of their seconds
  pub start_text_lem : time_text e.start ≡ e.start_text
  pub end_text_lem : time_text e.end ≡ e.end_text

abbrev pub AllKeep : Before → List Event → Type 0
AllKeep b [] = Unit {0}
AllKeep b (e ∷ es) = Keeps b e × AllKeep (after b e) es

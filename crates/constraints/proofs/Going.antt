-- What holds of a walk between two tokens, and what each kind of step makes of it. Assumes nothing.
use Prim.Native.Nat.{ℕ, ◌+◌, ◌*◌, ◌-◌, ◌/◌, ◌≤◌, ◌<◌}
use mathlib.Core.Path.{◌≡◌, refl, ap, sym, subst, ◌∙◌}
use mathlib.Core.Bool.{Bool, true, false, cond, true≢false}
use mathlib.Core.List.{List, [], ◌∷◌, ◌++◌}
use native.Mathlib.Omega.{arith}
use native.Mathlib.Nat.{div-mul-le_self}
use lib.ListN.{length, get_or, take, set, replicate, length-append, length-set}
use lib.Seq.{sets}
use Rattle.rules.specs.Limits.{most_constraints, most_subnets, most_tracks, leg_width, constraint_width, track_width}
use Rattle.rules.specs.Lists.{flat, over}
use Rattle.rules.specs.Answers.{refusal, constraints_file, Reading, refused, good}
use Rattle.rules.specs.Tokens.{Token}
use Rattle.rules.specs.Constraints.{Document, empty, with_constraint, with_subnet, with_id, with_track, start, Turn, fault, on, finish, act, action_of, turn_of, onward, run, past, constraint_numbers, track_numbers}
use Rattle.rules.specs.declared.tokens.Class.{Class}
use Rattle.rules.specs.declared.tokens.Class.TheVariants.{OpenBrace, CloseBrace, OpenBracket, CloseBracket, Colon, Comma, Quoted, Run, End, Unclosed, Forbidden}
use Rattle.rules.specs.declared.tokens.Phase.{Phase}
use Rattle.rules.specs.declared.tokens.Phase.TheVariants.{Document as Text, FirstName, Name, NameColon, ListOpen, AfterList, FirstRecord, Record, AfterRecord, FirstKey, NextKey, KeyColon, Value, AfterValue, FirstTrack, NextTrack, AfterTrack, Done}
use Rattle.rules.specs.declared.tokens.Rules.{Rules}
use Rattle.rules.specs.declared.tokens.State.{State}
use Rattle.rules.specs.Verdict.{All}
use Rattle.rules_theorems.specs.LawfulDocument.{LawfulDocument, LawfulTrack}
use Rattle.rules_theorems.proofs.Phases.{Holds, Keeps}
use Rattle.rules_theorems.proofs.Run.{Safe, goes_on}
use Rattle.rules_theorems.proofs.Documents.{turn_keeps, start_keeps}
use Rattle.rules.proofs.TokenLaws.{tokens_start}
use Rattle.tables_ids.specs.Column.{column}
use Rattle.constraints_tokens.specs.declared.Token.{Token as Found}
use Rattle.constraints_tokens.specs.Seen.{tokens_at, found, is_end, Seen, Within}
use Rattle.constraints_states.specs.declared.Counts.{Counts}
use Rattle.constraints_states.specs.declared.Step.{Step}
use Rattle.constraints_states.specs.declared.Step.TheVariants.{On, Emit, Opened, Named, Listed, Finish}
use Rattle.rules.specs.declared.answers.Fault.{Fault}
use Rattle.std.proofs.Common.{Result, Ok, Err}
use Rattle.rules.proofs.Lists.{flat_append, flat-length, over-length, over-more}
use Rattle.rules.specs.declared.sizes.Track.{Track}
use Rattle.constraints_states.specs.Steps.{told, counts_of, Tied, Ready}
use Rattle.constraints_tables.specs.Places.{bumped, nexts, written}
use Rattle.constraints_tables.proofs.Places.{nexts-more, nexts_low, written-more}
use Rattle.constraints.specs.Tables.{outcome, Able, Walks}
use Rattle.constraints_turn.proofs.ByAction.{past-found}
use Rattle.constraints.proofs.Filling.{track_long, tracks_held, ids_held, id_held}

-- ---- no token comes after the text's end

is_end_lem : (c : Class) → is_end c ≡ true → c ≡ End
is_end_lem OpenBrace e = cc
is_end_lem CloseBrace e = cc
is_end_lem OpenBracket e = cc
is_end_lem CloseBracket e = cc
is_end_lem Colon e = cc
is_end_lem Comma e = cc
is_end_lem Quoted e = cc
is_end_lem Run e = cc
is_end_lem End e = refl
is_end_lem Unclosed e = cc
is_end_lem Forbidden e = cc

abbrev turn_goes_on : Turn → Bool
turn_goes_on (fault n p) = false
turn_goes_on (on st d) = true
turn_goes_on (finish st d) = false

module _ (legs : List ℕ) (constraints tracks : ℕ) where
  end_stops : (p : Phase) (st : State) (d : Document) (t : Token) → turn_goes_on (act legs constraints tracks (action_of p End) st d t) ≡ false
  unfolding action_of act
  end_stops Text st d t = refl
  end_stops FirstName st d t = refl
  end_stops Name st d t = refl
  end_stops NameColon st d t = refl
  end_stops ListOpen st d t = refl
  end_stops AfterList st d t = refl
  end_stops FirstRecord st d t = refl
  end_stops Record st d t = refl
  end_stops AfterRecord st d t = refl
  end_stops FirstKey st d t = refl
  end_stops NextKey st d t = refl
  end_stops KeyColon st d t = refl
  end_stops Value st d t = refl
  end_stops AfterValue st d t = refl
  end_stops FirstTrack st d t = refl
  end_stops NextTrack st d t = refl
  end_stops AfterTrack st d t = refl
  end_stops Done st d t = refl

  -- a token after which the run goes on is not the end
  pub goes_on_inner : (st after : State) (d d' : Document) (t : Token) → on after d' ≡ turn_of legs constraints tracks st d t → is_end t.class ≡ false
  unfolding turn_of
  goes_on_inner st after d d' t e = go (is_end t.class) refl
    where
      go : (b : Bool) → is_end t.class ≡ b → b ≡ false
      go false q = refl
      go true q =
          ap turn_goes_on e
          ∙ ap (λ (c : Class). turn_goes_on (act legs constraints tracks (action_of st.phase c) st d t)) (is_end_lem t.class q)
          ∙ end_stops st.phase st d t

  -- ---- what the laws say of a turn

  pub on_keeps : (n : ℕ) (st after : State) (d d' : Document) (t : Token) → past t ≤ n → Keeps legs constraints tracks st d
      → on after d' ≡ turn_of legs constraints tracks st d t → Keeps legs constraints tracks after d'
  on_keeps n st after d d' t in_text kept e =
      go (subst (Safe n (Keeps legs constraints tracks) (LawfulDocument legs constraints tracks)) (sym e) (turn_keeps legs constraints tracks n st d t in_text kept))
    where
      go : Safe n (Keeps legs constraints tracks) (LawfulDocument legs constraints tracks) (on after d') → Keeps legs constraints tracks after d'
      go (goes_on k) = k

  -- no more ids than subnets
  pub few_ids : (st : State) (d : Document) → Keeps legs constraints tracks st d → length d.ids ≤ most_subnets
  few_ids st d kept = go st.phase kept.holds
    where
      most : d.opened ≤ most_subnets
      most = kept.tables.subnets_in_limit

      go : (p : Phase) → Holds legs constraints p st d → length d.ids ≤ most_subnets
      go Text h = omega arith
      go FirstName h = omega arith
      go Name h = omega arith
      go NameColon h = omega (arith, h.ids)
      go ListOpen h = omega (arith, h.ids)
      go AfterList h = omega arith
      go FirstRecord h = omega (arith, h.ids)
      go Record h = omega (arith, h.ids)
      go AfterRecord h = omega (arith, h.ids)
      go FirstKey h = omega (arith, h.ids)
      go NextKey h = omega (arith, h.ids)
      go KeyColon h = omega (arith, h.before.ids)
      go Value h = omega (arith, h.before.ids)
      go AfterValue h = omega (arith, h.ids)
      go FirstTrack h = omega (arith, h.inside.ids)
      go NextTrack h = omega (arith, h.inside.ids)
      go AfterTrack h = omega (arith, h.inside.ids)
      go Done h = omega arith

-- ---- steps that go on, and the last of a list

abbrev pub step_goes : Result Step Fault → Bool
step_goes (Ok (On x)) = true
step_goes (Ok (Emit x)) = true
step_goes (Ok (Opened x)) = true
step_goes (Ok (Named x id)) = true
step_goes (Ok (Listed x id)) = true
step_goes (Ok (Finish x)) = false
step_goes (Err f) = false

all_last : {A : Type 0} (P : A → Type 0) (xs : List A) (x : A) → All P (xs ++ x ∷ []) → P x
all_last P [] x h = h.0
all_last P (y ∷ xs) x h = all_last P xs x h.1

-- no count is past its limit
pub record Few (seen : Counts) : Type 0 where
  pub constraints : seen.constraints ≤ most_constraints
  pub tracks : seen.tracks ≤ most_tracks
  pub subnets : seen.subnets ≤ most_subnets
  pub ids : seen.ids ≤ most_subnets

-- ---- the rules of a walk are those of its first state

pub began_by : {rules : Rules} {st : State} → st ≡ start rules → st.rules ≡ rules
began_by e = ap (λ (s : State). s.rules) e

pub started : {rules : Rules} {st : State} → st ≡ start rules → st ≡ start st.rules
started e = e ∙ ap start (sym (began_by e))

-- ---- between two tokens

module _ (rules : Rules) (text legs : List ℕ) (n : ℕ) (c₀ t₀ s₀ : List ℕ) (sorts : Bool) where
  -- d is what has been read; what is left of the run gives the whole run's outcome
  pub record Going (at : ℕ) (st : State) (seen : Counts) (ids next c t : List ℕ) : Type 0 where
    pub d : Document
    pub runs : outcome rules text legs n c₀ t₀ ≡ run (column leg_width n legs) (length c₀ / constraint_width) (length t₀ / track_width) st d (tokens_at text at)
    pub keeps : Keeps (column leg_width n legs) (length c₀ / constraint_width) (length t₀ / track_width) st d
    pub inside : at ≤ length text
    pub counted : seen ≡ counts_of d
    pub ids_long : length ids ≡ most_subnets
    pub ids_there : take (length d.ids) ids ≡ d.ids
    pub places : next ≡ nexts s₀ d.constraints
    pub table : c ≡ written sorts s₀ c₀ d.constraints
    pub tracks : t ≡ over (flat track_numbers d.tracks) t₀

  pub going_start : {st : State} {seen : Counts} → st ≡ start rules → seen ≡ counts_of empty
      → Going 0 st seen (replicate most_subnets 0) s₀ c₀ t₀
  unfolding over
  going_start e q =
      record {
        d = empty;
        runs = rw (e, tokens_start text);
        keeps = rw e (start_keeps (column leg_width n legs) (length c₀ / constraint_width) (length t₀ / track_width) rules);
        inside = omega arith;
        counted = q;
        ids_long = refl;
        ids_there = refl;
        places = refl;
        table = at_first sorts;
        tracks = refl;
      }
    where
      at_first : (w : Bool) → c₀ ≡ written w s₀ c₀ []
      at_first true = refl
      at_first false = refl

module _ {rules : Rules} {text legs : List ℕ} {n : ℕ} {c₀ t₀ s₀ : List ℕ} {sorts : Bool} {at : ℕ} {st : State} {seen : Counts} {ids next c t : List ℕ}
    (g : Going rules text legs n c₀ t₀ s₀ sorts at st seen ids next c t) where
  abbrev Legs : List ℕ
  Legs = column leg_width n legs

  abbrev C : ℕ
  C = length c₀ / constraint_width

  abbrev T : ℕ
  T = length t₀ / track_width

  tracks_fit : length (flat track_numbers g.d.tracks) ≤ length t₀
  tracks_fit =
      let room : length g.d.tracks ≤ T = g.keeps.tables.tracks_lawful.in_room in
      omega (arith, flat-length track_numbers track_width track_long g.d.tracks, div-mul-le_self (length t₀) track_width)

  pub tracks_long : length t ≡ length t₀
  tracks_long = ap length g.tracks ∙ over-length (flat track_numbers g.d.tracks) t₀ tracks_fit

  -- what the code holds is what has been read
  pub tied : Tied seen t ids g.d
  tied =
      record {
        constraints = ap (λ (x : Counts). x.constraints) g.counted;
        opened = ap (λ (x : Counts). x.subnets) g.counted;
        tracks_held = rw (g.counted, g.tracks) (tracks_held g.d.tracks t₀);
        ids_held = rw g.counted (ids_held g.d.ids ids (omega (arith, g.ids_long, few_ids Legs C T st g.d g.keeps)) g.ids_there);
      }

  pub ready : {rising : ℕ} (tk : Found) → Able text legs n rising s₀ → Seen text at tk → Ready legs n rising t ids seen tk
  ready tk able s =
      record {
        legs_there = able.legs_there;
        few_legs = able.few_legs;
        tracks_there = record { one = omega arith; whole = rw g.counted (omega (arith, tracks_long, tracks_fit, flat-length track_numbers track_width track_long g.d.tracks)) };
        ids_there = record { one = omega arith; whole = rw g.counted (omega (arith, g.ids_long, few_ids Legs C T st g.d g.keeps)) };
        starts = s.starts;
      }

  pub able_at : {rising : ℕ} → Able text legs n rising s₀ → Within text at
  able_at able = record { short = able.short; inside = g.inside }

  few_constraints : length g.d.constraints ≤ most_constraints
  few_constraints = g.keeps.tables.constraints_lawful.in_limit

  pub few : Few seen
  few =
      record {
        constraints = rw g.counted few_constraints;
        tracks = rw g.counted g.keeps.tables.tracks_lawful.in_limit;
        subnets = rw g.counted g.keeps.tables.subnets_in_limit;
        ids = rw g.counted (few_ids Legs C T st g.d g.keeps);
      }

  pub next_low : {rising : ℕ} → Able text legs n rising s₀ → (k : ℕ) → get_or next k 0 ≤ most_constraints + most_constraints
  next_low able k = rw g.places (omega (arith, nexts_low s₀ g.d.constraints k, able.low k, few_constraints))

  -- ---- a step from a token that was found; rc and rt are the room that the code has worked out

  module _ (tk : Found) (s : Seen text at tk) {rc rt : ℕ} (room : (rc ≡ C) × (rt ≡ T)) (r : Result Step Fault)
      (acts : (d : Document) → Tied seen t ids d → told r d ≡ turn_of Legs rc rt st d (found tk)) where
    abbrev Rest : State → Document → Reading Document
    Rest st' d' = run Legs C T st' d' (cond (is_end tk.class) [] (tokens_at text tk.next))

    taken : told r g.d ≡ turn_of Legs C T st g.d (found tk)
    taken = rw (room.0, room.1) at (acts g.d tied)

    left : outcome rules text legs n c₀ t₀ ≡ onward Legs C T (told r g.d) Rest
    unfolding run
    left = g.runs ∙ ap (run Legs C T st g.d) s.tokens ∙ ap (λ (x : Turn). onward Legs C T x Rest) (sym taken)

    in_text : past (found tk) ≤ length text
    in_text = omega (arith, past-found tk s.starts, s.within)

    record Next (x : State) (d' : Document) : Type 0 where
      runs : outcome rules text legs n c₀ t₀ ≡ run Legs C T x d' (tokens_at text tk.next)
      keeps : Keeps Legs C T x d'
      onward : at < tk.next

    next_on : (x : State) (d' : Document) → told r g.d ≡ on x d' → Next x d'
    next_on x d' e =
        let inner : is_end tk.class ≡ false = goes_on_inner Legs C T st x g.d d' (found tk) (sym e ∙ taken) in
        record {
          runs = left ∙ ap (λ (y : Turn). onward Legs C T y Rest) e ∙ ap (λ (b : Bool). run Legs C T x d' (cond b [] (tokens_at text tk.next))) inner;
          keeps = on_keeps Legs C T (length text) st x g.d d' (found tk) in_text g.keeps (sym e ∙ taken);
          onward = s.onward inner;
        }

    -- a step that goes on comes nearer to the end
    pub nearer : step_goes r ≡ true → length text - tk.next < length text - at
    nearer goes = go r refl goes
      where
        far : (x : State) (d' : Document) → told r g.d ≡ on x d' → length text - tk.next < length text - at
        far x d' e = omega (arith, (next_on x d' e).onward, s.within)

        go : (q : Result Step Fault) → r ≡ q → step_goes q ≡ true → length text - tk.next < length text - at
        go (Ok (On x)) e h = far x _ (ap (λ (y : Result Step Fault). told y g.d) e)
        go (Ok (Emit x)) e h = far x _ (ap (λ (y : Result Step Fault). told y g.d) e)
        go (Ok (Opened x)) e h = far x _ (ap (λ (y : Result Step Fault). told y g.d) e)
        go (Ok (Named x id)) e h = far x _ (ap (λ (y : Result Step Fault). told y g.d) e)
        go (Ok (Listed x id)) e h = far x _ (ap (λ (y : Result Step Fault). told y g.d) e)
        go (Ok (Finish x)) e h = absurd (true≢false (sym h))
        go (Err f) e h = absurd (true≢false (sym h))

    pub going_on : {x : State} → r ≡ Ok (On x) → Going rules text legs n c₀ t₀ s₀ sorts tk.next x seen ids next c t
    going_on {x} is =
        let to = next_on x g.d (ap (λ (y : Result Step Fault). told y g.d) is) in
        record {
          d = g.d;
          runs = to.runs;
          keeps = to.keeps;
          inside = s.within;
          counted = g.counted;
          ids_long = g.ids_long;
          ids_there = g.ids_there;
          places = g.places;
          table = g.table;
          tracks = g.tracks;
        }

    pub going_opened : {x : State} → r ≡ Ok (Opened x)
        → Going rules text legs n c₀ t₀ s₀ sorts tk.next x record { constraints = seen.constraints; tracks = seen.tracks; subnets = seen.subnets + 1; ids = seen.ids } ids next c t
    going_opened {x} is =
        let to = next_on x (with_subnet g.d) (ap (λ (y : Result Step Fault). told y g.d) is) in
        record {
          d = with_subnet g.d;
          runs = to.runs;
          keeps = to.keeps;
          inside = s.within;
          counted = rw g.counted;
          ids_long = g.ids_long;
          ids_there = g.ids_there;
          places = g.places;
          table = g.table;
          tracks = g.tracks;
        }

    pub going_emit : {x y : State} {k : ℕ} {c' next' : List ℕ} → r ≡ Ok (Emit x)
        → c' ≡ sets c (cond sorts (get_or next x.entry.kind 0) seen.constraints * constraint_width) (constraint_numbers x.entry)
        → next' ≡ bumped next x.entry.kind
        → k ≡ seen.constraints + 1
        → y ≡ x
        → Going rules text legs n c₀ t₀ s₀ sorts tk.next y record { constraints = k; tracks = seen.tracks; subnets = seen.subnets; ids = seen.ids } ids next' c' t
    going_emit {x} {y} {k} {c'} {next'} is put bump more same =
        let to = next_on x (with_constraint x.entry g.d) (ap (λ (y : Result Step Fault). told y g.d) is) in
        let room : length (g.d.constraints ++ x.entry ∷ []) ≤ C = to.keeps.tables.constraints_lawful.in_room in
        let fits : (length g.d.constraints + 1) * constraint_width ≤ length c₀ =
        omega (arith, length-append g.d.constraints (x.entry ∷ []), div-mul-le_self (length c₀) constraint_width) in
        rw same
        (record {
          d = with_constraint x.entry g.d;
          runs = to.runs;
          keeps = to.keeps;
          inside = s.within;
          counted = rw (more, g.counted, ← length-append g.d.constraints (x.entry ∷ []));
          ids_long = g.ids_long;
          ids_there = g.ids_there;
          places = bump ∙ rw g.places (sym (nexts-more s₀ g.d.constraints x.entry));
          table = put ∙ rw (g.places, g.table, g.counted) (sym (written-more sorts s₀ c₀ g.d.constraints x.entry fits));
          tracks = g.tracks;
        })

    -- there is a place for one id more
    pub id_room : {x : State} {id : ℕ} → r ≡ Ok (Named x id) → seen.ids < length ids
    id_room {x} {id} is =
        let to = next_on x (with_id id g.d) (ap (λ (y : Result Step Fault). told y g.d) is) in
        rw (g.counted, g.ids_long) (omega (arith, few_ids Legs C T x (with_id id g.d) to.keeps, length-append g.d.ids (id ∷ [])))

    pub going_named : {x y : State} {id k : ℕ} {ids' : List ℕ} → r ≡ Ok (Named x id) → ids' ≡ set ids seen.ids id → k ≡ seen.ids + 1 → y ≡ x
        → Going rules text legs n c₀ t₀ s₀ sorts tk.next y record { constraints = seen.constraints; tracks = seen.tracks; subnets = seen.subnets; ids = k } ids' next c t
    going_named {x} {y} {id} {k} {ids'} is put more same =
        let to = next_on x (with_id id g.d) (ap (λ (y : Result Step Fault). told y g.d) is) in
        let at-end : ids' ≡ set ids (length g.d.ids) id = put ∙ rw g.counted in
        let room : length g.d.ids < length ids = rw g.counted at (id_room is) in
        rw same
        (record {
          d = with_id id g.d;
          runs = to.runs;
          keeps = to.keeps;
          inside = s.within;
          counted = rw (more, g.counted, ← length-append g.d.ids (id ∷ []));
          ids_long = ap length at-end ∙ length-set ids (length g.d.ids) id ∙ g.ids_long;
          ids_there = rw at-end (id_held g.d.ids ids id room g.ids_there);
          places = g.places;
          table = g.table;
          tracks = g.tracks;
        })

    -- a track is listed by a subnet that is open
    pub track_open : {x : State} {id : ℕ} → r ≡ Ok (Listed x id) → 1 ≤ seen.subnets
    track_open {x} {id} is =
        let to = next_on x (with_track id g.d) (ap (λ (y : Result Step Fault). told y g.d) is) in
        let last = all_last (LawfulTrack g.d.opened) g.d.tracks (record { id = id; subnet = g.d.opened - 1 }) to.keeps.tables.tracks_lawful.each in
        rw g.counted (omega (arith, last.subnet_is_there))

    pub going_listed : {x y : State} {id k : ℕ} {t' : List ℕ} → r ≡ Ok (Listed x id)
        → t' ≡ sets t (seen.tracks * track_width) (id ∷ (seen.subnets - 1) ∷ [])
        → k ≡ seen.tracks + 1
        → y ≡ x
        → Going rules text legs n c₀ t₀ s₀ sorts tk.next y record { constraints = seen.constraints; tracks = k; subnets = seen.subnets; ids = seen.ids } ids next c t'
    going_listed {x} {y} {id} {k} {t'} is put more same =
        let to = next_on x (with_track id g.d) (ap (λ (y : Result Step Fault). told y g.d) is) in
        let one : Track = record { id = id; subnet = g.d.opened - 1 } in
        let size = flat-length track_numbers track_width track_long g.d.tracks in
        let room : length (g.d.tracks ++ one ∷ []) ≤ T = to.keeps.tables.tracks_lawful.in_room in
        let fits : length (flat track_numbers g.d.tracks) + length (track_numbers one) ≤ length t₀ =
        omega (arith, size, length-append g.d.tracks (one ∷ []), div-mul-le_self (length t₀) track_width) in
        rw same
        (record {
          d = with_track id g.d;
          runs = to.runs;
          keeps = to.keeps;
          inside = s.within;
          counted = rw (more, g.counted, ← length-append g.d.tracks (one ∷ []));
          ids_long = g.ids_long;
          ids_there = g.ids_there;
          places = g.places;
          table = g.table;
          tracks = put ∙ rw (g.counted, g.tracks, ← size)
              (over-more (flat track_numbers g.d.tracks) t₀ (track_numbers one) fits
              ∙ ap (λ (w : List ℕ). over w t₀) (sym (flat_append track_numbers g.d.tracks (one ∷ []))));
        })

    -- ---- the last token, by the rules that the walk began with

    module _ {by : Rules} (same : rules ≡ by) where
      ends_by : outcome by text legs n c₀ t₀ ≡ onward Legs C T (told r g.d) Rest
      ends_by = ap (λ (q : Rules). outcome q text legs n c₀ t₀) (sym same) ∙ left

      pub ends_good : {x : State} → r ≡ Ok (Finish x) → Walks s₀ sorts (outcome by text legs n c₀ t₀) c₀ t₀ (Ok seen) next c t
      unfolding Walks
      ends_good {x} is =
          let whole : outcome by text legs n c₀ t₀ ≡ good g.d = ends_by ∙ ap (λ (y : Result Step Fault). onward Legs C T (told y g.d) Rest) is in
          subst (λ (o : Reading Document). Walks s₀ sorts o c₀ t₀ (Ok seen) next c t) (sym whole)
          (record { answer = ap Ok g.counted; places = g.places; table = g.table; tracks = g.tracks })

      pub ends_refused : {f : Fault} → r ≡ Err f → Walks s₀ sorts (outcome by text legs n c₀ t₀) c₀ t₀ (Err f) next c t
      unfolding Walks
      ends_refused {f} is =
          let whole : outcome by text legs n c₀ t₀ ≡ refused (refusal f.number constraints_file f.place) =
          ends_by ∙ ap (λ (y : Result Step Fault). onward Legs C T (told y g.d) Rest) is in
          subst (λ (o : Reading Document). Walks s₀ sorts o c₀ t₀ (Err f) next c t) (sym whole) refl

-- A set of lists, or of keys, is one number, a bit for each: that each of the wanted is given once is what the tests of those numbers say. Assumes nothing.
use Prim.Native.Nat.{ℕ, ◌+◌, ◌*◌, ◌/◌, ◌%◌, max}
use mathlib.Core.Path.{◌≡◌, refl, sym, ap, ap₂, subst, ◌∙◌}
use mathlib.Core.Bool.{Bool, true, false, not, ◌||◌, true≢false}
use mathlib.Core.List.{List, [], ◌∷◌}
use native.Mathlib.Omega.{arith}
use lib.Dec.{eqb}
use lib.Bits.{bit_and, bit_or, or_step, or_zero_l, or_comm, or_self, or_add_and, and_comm, and_zero_l}
use lib.Arith.{bin_ind}
use borrow.Author.Tests.{eqb-true, eqb-false, eq-eqb, ne_eqb, not-true, not-false}
use Rattle.rules.specs.Lists.{any, every}
use Rattle.rules.specs.Verdict.{All}
use Rattle.rules.proofs.Truth.{all_map}
use Rattle.rules_theorems.specs.Lists.{Distinct}
use Rattle.rules_theorems.proofs.DocumentWords.{passed, and_first, and_second, or_else, or_first, or_second}
use Rattle.rules_theorems.proofs.Keys.{has, has_other, has_now}
use Rattle.rules_json.specs.Value.{Among, Once}

-- ---- one number within another

or_assoc : (a b c : ℕ) → bit_or (bit_or a b) c ≡ bit_or a (bit_or b c)
or_assoc a b c =
    bin_ind (λ (n : ℕ). (b c : ℕ) → bit_or (bit_or n b) c ≡ bit_or n (bit_or b c))
    (λ b c. ap (λ (x : ℕ). bit_or x c) (or_zero_l b) ∙ sym (or_zero_l (bit_or b c)))
    (λ n ih b c.
    let half : bit_or n b / 2 ≡ bit_or (n / 2) (b / 2) = omega (arith, or_step n b) in
    let odd : bit_or n b % 2 ≡ max (n % 2) (b % 2) = omega (arith, or_step n b) in
    let half' : bit_or b c / 2 ≡ bit_or (b / 2) (c / 2) = omega (arith, or_step b c) in
    let odd' : bit_or b c % 2 ≡ max (b % 2) (c % 2) = omega (arith, or_step b c) in
    or_step (bit_or n b) c
    ∙ ap₂ (λ (x y : ℕ). bit_or x (c / 2) * 2 + max y (c % 2)) half odd
    ∙ ap₂ (λ (x y : ℕ). x * 2 + y) (ih (b / 2) (c / 2)) (max_assoc (n % 2) (b % 2) (c % 2))
    ∙ sym (ap₂ (λ (x y : ℕ). bit_or (n / 2) x * 2 + max (n % 2) y) half' odd')
    ∙ sym (or_step n (bit_or b c)))
    a b c
  where
    max_assoc : (x y z : ℕ) → max (max x y) z ≡ max x (max y z)
    max_assoc x y z = omega arith

-- all bits of x are bits of s
abbrev pub Within : (x s : ℕ) → Type 0
Within x s = bit_or x s ≡ s

within_more : (x s b : ℕ) → Within x s → Within x (bit_or s b)
within_more x s b h = sym (or_assoc x s b) ∙ ap (λ (y : ℕ). bit_or y b) h

within_last : (s b : ℕ) → Within b (bit_or s b)
within_last s b = or_comm b (bit_or s b) ∙ or_assoc s b b ∙ ap (bit_or s) (or_self b)

within_both : (x y s : ℕ) → Within x s → Within y s → Within (bit_or x y) s
within_both x y s h k = or_assoc x y s ∙ ap (bit_or x) k ∙ h

-- what holds of all holds of one that is among them
pub among_all : (P : ℕ → Type 0) (l : List ℕ) → All P l → (n : ℕ) → Among l n → P n
among_all P [] h n there = absurd (true≢false (sym there))
among_all P (x ∷ l) h n there = go (eqb n x) refl there (among_all P l h.1 n)
  where
    go : (b : Bool) → eqb n x ≡ b → b || any (eqb n) l ≡ true → (Among l n → P n) → P n
    go true e k ih = subst P (sym (eqb-true n x e)) h.0
    go false e k ih = ih k

-- and each that is tested is among them
pub tested-among : (l ns : List ℕ) → every (λ n. any (eqb n) l) ns ≡ true → All (Among l) ns
tested-among l [] h = tt
tested-among l (n ∷ ns) h = (and_first (any (eqb n) l) _ h, tested-among l ns (and_second (any (eqb n) l) _ h))

-- ---- a set of things that have a bit each

no_bit : (s b : ℕ) → has s b ≡ false → bit_and s b ≡ 0
no_bit s b h = eqb-true (bit_and s b) 0 (not-false _ h)

bit_out : (s b : ℕ) → bit_and s b ≡ 0 → has s b ≡ false
bit_out s b e = ap not (eq-eqb (bit_and s b) 0 e)

-- the things one after the other: each is new, and the set of all
module _ (bit : ℕ → ℕ) where
  abbrev pub Fresh : (seen : ℕ) → List ℕ → Type 0
  Fresh seen [] = Unit {0}
  Fresh seen (n ∷ ns) = (bit_and seen (bit n) ≡ 0) × Fresh (bit_or seen (bit n)) ns

  abbrev pub union : (seen : ℕ) → List ℕ → ℕ
  union seen [] = seen
  union seen (n ∷ ns) = union (bit_or seen (bit n)) ns

-- table: all the things. Two of them have no bit in common
module _ (table : List ℕ) (bit : ℕ → ℕ)
    (some-bit : every (λ a. not (eqb (bit a) 0)) table ≡ true)
    (no-common : every (λ a. every (λ b. eqb a b || eqb (bit_and (bit a) (bit b)) 0) table) table ≡ true) where
  apart : (a b : ℕ) → Among table a → Among table b → (a ≡ b → ⊥) → bit_and (bit a) (bit b) ≡ 0
  apart a b in-a in_b differ =
      let row = passed (λ a. every (λ b. eqb a b || eqb (bit_and (bit a) (bit b)) 0) table) table a no-common in-a in
      eqb-true (bit_and (bit a) (bit b)) 0
      (or_else (eqb a b) _ (passed (λ b. eqb a b || eqb (bit_and (bit a) (bit b)) 0) table b row in_b) (ne_eqb a b differ))

  -- another thing is out before and after
  still_out : (seen a b : ℕ) → Among table a → Among table b → (a ≡ b → ⊥) → bit_and seen (bit b) ≡ 0 → bit_and (bit_or seen (bit a)) (bit b) ≡ 0
  still_out seen a b in-a in_b differ out =
      no_bit (bit_or seen (bit a)) (bit b) (has_other seen (bit a) (bit b) (apart a b in-a in_b differ) ∙ bit_out seen (bit b) out)

  out_before : (seen a b : ℕ) → Among table a → Among table b → (a ≡ b → ⊥) → bit_and (bit_or seen (bit a)) (bit b) ≡ 0 → bit_and seen (bit b) ≡ 0
  out_before seen a b in-a in_b differ out =
      no_bit seen (bit b) (sym (has_other seen (bit a) (bit b) (apart a b in-a in_b differ)) ∙ bit_out (bit_or seen (bit a)) (bit b) out)

  -- and what is out differs from what came in
  differs : (seen a b : ℕ) → Among table a → bit_and seen (bit a) ≡ 0 → bit_and (bit_or seen (bit a)) (bit b) ≡ 0 → a ≡ b → ⊥
  differs seen a b in-a out-a out-b same =
      eqb-false (bit a) 0 (not-true _ (passed (λ a. not (eqb (bit a) 0)) table a some-bit in-a))
      (sym (has_now seen (bit a) out-a) ∙ ap (λ (k : ℕ). bit_and (bit_or seen (bit a)) (bit k)) same ∙ out-b)

  -- ---- distinct, and new one after the other

  distinct_fresh : (ns : List ℕ) (seen : ℕ) → All (Among table) ns → Distinct (λ n. n) ns → All (λ n. bit_and seen (bit n) ≡ 0) ns → Fresh bit seen ns
  distinct_fresh [] seen known distinct out = tt
  distinct_fresh (n ∷ ns) seen known distinct out =
      (out.0, distinct_fresh ns (bit_or seen (bit n)) known.1 distinct.1 (go ns known.1 distinct.0 out.1))
    where
      go : (ms : List ℕ) → All (Among table) ms → All (λ m. n ≡ m → ⊥) ms → All (λ m. bit_and seen (bit m) ≡ 0) ms
          → All (λ m. bit_and (bit_or seen (bit n)) (bit m) ≡ 0) ms
      go [] h k l = tt
      go (m ∷ ms) h k l = (still_out seen n m known.0 h.0 k.0 l.0, go ms h.1 k.1 l.1)

  fresh_out : (ns : List ℕ) (seen : ℕ) → All (Among table) ns → Fresh bit seen ns → All (λ n. bit_and seen (bit n) ≡ 0) ns
  fresh_out [] seen known fresh = tt
  fresh_out (n ∷ ns) seen known fresh = (fresh.0, go ns known.1 (fresh_out ns (bit_or seen (bit n)) known.1 fresh.1))
    where
      go : (ms : List ℕ) → All (Among table) ms → All (λ m. bit_and (bit_or seen (bit n)) (bit m) ≡ 0) ms → All (λ m. bit_and seen (bit m) ≡ 0) ms
      go [] h k = tt
      go (m ∷ ms) h k = (out_before seen n m known.0 h.0 (differs seen n m known.0 fresh.0 k.0) k.0, go ms h.1 k.1)

  fresh_distinct : (ns : List ℕ) (seen : ℕ) → All (Among table) ns → Fresh bit seen ns → Distinct (λ n. n) ns
  fresh_distinct [] seen known fresh = tt
  fresh_distinct (n ∷ ns) seen known fresh = (
    all_map (λ m. bit_and (bit_or seen (bit n)) (bit m) ≡ 0) (λ m. n ≡ m → ⊥) (λ m out. differs seen n m known.0 fresh.0 out) ns
        (fresh_out ns (bit_or seen (bit n)) known.1 fresh.1),
    fresh_distinct ns (bit_or seen (bit n)) known.1 fresh.1,
  )

  -- ---- the set of all

  kept : (x : ℕ) (ns : List ℕ) (seen : ℕ) → Within x seen → Within x (union bit seen ns)
  kept x [] seen h = h
  kept x (n ∷ ns) seen h = kept x ns (bit_or seen (bit n)) (within_more x seen (bit n) h)

  among_within : (n : ℕ) (ns : List ℕ) (seen : ℕ) → Among ns n → Within (bit n) (union bit seen ns)
  among_within n [] seen there = absurd (true≢false (sym there))
  among_within n (m ∷ ns) seen there = go (eqb n m) refl there (among_within n ns (bit_or seen (bit m)))
    where
      go : (b : Bool) → eqb n m ≡ b → b || any (eqb n) ns ≡ true
          → (Among ns n → Within (bit n) (union bit (bit_or seen (bit m)) ns)) → Within (bit n) (union bit (bit_or seen (bit m)) ns)
      go true e h ih =
          kept (bit n) ns (bit_or seen (bit m)) (subst (λ (k : ℕ). Within (bit k) (bit_or seen (bit m))) (sym (eqb-true n m e)) (within_last seen (bit m)))
      go false e h ih = ih h

  pub all_within : (ns : List ℕ) (seen s : ℕ) → Within seen s → All (λ n. Within (bit n) s) ns → Within (union bit seen ns) s
  all_within [] seen s h k = h
  all_within (n ∷ ns) seen s h k = all_within ns (bit_or seen (bit n)) s (within_both seen (bit n) s h k.0) k.1

  each_within : (ns : List ℕ) (seen : ℕ) → All (λ n. Within (bit n) (union bit seen ns)) ns
  each_within [] seen = tt
  each_within (n ∷ ns) seen = (kept (bit n) ns (bit_or seen (bit n)) (within_last seen (bit n)), each_within ns (bit_or seen (bit n)))

  missing_out : (w : ℕ) → Among table w → (ns : List ℕ) (seen : ℕ) → All (Among table) ns → any (eqb w) ns ≡ false
      → bit_and seen (bit w) ≡ 0 → bit_and (union bit seen ns) (bit w) ≡ 0
  missing_out w in-w [] seen known away out = out
  missing_out w in-w (n ∷ ns) seen known away out =
      missing_out w in-w ns (bit_or seen (bit n)) known.1 (or_second (eqb w n) (any (eqb w) ns) away)
      (still_out seen n w known.0 in-w (λ e. eqb-false w n (or_first (eqb w n) (any (eqb w) ns) away) (sym e)) out)

  -- ---- THE LAWS. wanted: things of the table, whose set is full

  module _ (wanted : List ℕ) (in_table : All (Among table) wanted) (ns : List ℕ) where
    -- each of the wanted once: each is new, and all together are the full set
    pub once_passes : Once wanted ns → Fresh bit 0 ns × (union bit 0 ns ≡ union bit 0 wanted)
    once_passes once = (
      distinct_fresh ns 0 (all_map (Among wanted) (Among table) (among_all (Among table) wanted in_table) ns once.known) once.distinct (none_yet ns),
      sym (each_in wanted ns once.present) ∙ or_comm (union bit 0 wanted) (union bit 0 ns) ∙ each_in ns wanted once.known,
    )
      where
        none_yet : (ms : List ℕ) → All (λ m. bit_and 0 (bit m) ≡ 0) ms
        none_yet [] = tt
        none_yet (m ∷ ms) = (and_zero_l (bit m), none_yet ms)

        each_in : (s t : List ℕ) → All (Among t) s → Within (union bit 0 s) (union bit 0 t)
        each_in s t h =
            all_within s 0 (union bit 0 t) (or_zero_l (union bit 0 t)) (all_map (Among t) (λ n. Within (bit n) (union bit 0 t)) (λ n there. among_within n t 0 there) s h)

    -- and back
    pub passes_once : All (Among wanted) ns → Fresh bit 0 ns → union bit 0 ns ≡ union bit 0 wanted → Once wanted ns
    passes_once known fresh full =
        record {
          known = known;
          distinct = fresh_distinct ns 0 in_all fresh;
          present = present wanted in_table (subst (λ (s : ℕ). All (λ n. Within (bit n) s) wanted) (sym full) (each_within wanted 0));
        }
      where
        in_all : All (Among table) ns
        in_all = all_map (Among wanted) (Among table) (among_all (Among table) wanted in_table) ns known

        there : (w : ℕ) → Among table w → Within (bit w) (union bit 0 ns) → (b : Bool) → any (eqb w) ns ≡ b → b ≡ true
        there w in-w inside true e = refl
        there w in-w inside false e =
            let out : bit_and (union bit 0 ns) (bit w) ≡ 0 = missing_out w in-w ns 0 in_all e (and_zero_l (bit w)) in
            let both = or_add_and (bit w) (union bit 0 ns) in
            let turned = and_comm (bit w) (union bit 0 ns) in
            let none : bit w ≡ 0 = omega arith in
            absurd (eqb-false (bit w) 0 (not-true _ (passed (λ a. not (eqb (bit a) 0)) table w some-bit in-w)) none)

        present : (ws : List ℕ) → All (Among table) ws → All (λ w. Within (bit w) (union bit 0 ns)) ws → All (Among ns) ws
        present [] h k = tt
        present (w ∷ ws) h k = (there w h.0 k.0 (any (eqb w) ns) refl, present ws h.1 k.1)

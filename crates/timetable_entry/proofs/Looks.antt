-- A number and its byte, then three of them, and one in quotes: what is found where nothing is missed. Assumes nothing.
use Prim.Native.Nat.{ℕ, ◌+◌, ◌≤◌}
use native.Mathlib.Omega.{arith}
use mathlib.Core.Path.{◌≡◌, refl}
use mathlib.Core.Bool.{Bool, true, false, cond}
use Rattle.std.specs.Prelude.{Option, Some, None}
use mathlib.Core.List.{List}
use lib.Dec.{eqb}
use lib.ListN.{length, get_or}
use borrow.Author.Tests.{eqb-true}
use Rattle.rules.specs.Bytes.{space, underscore, comma, quote}
use Rattle.timetable_entry.specs.declared.Cut.{Cut}
use Rattle.timetable_entry.specs.Spots.{number_bytes, cut, spotted, NumberAt, Cuts, missed, cuts, Spots, unspotted, spots, Quotes, unquoted, quoted}

cut_number : {part : List ℕ} {from closes : ℕ} {r : Option Cut} (c : Cut) → Cuts part from closes r → r ≡ Some c → NumberAt part from closes c.number c.next
cut_number {part} {from} {closes} {r} c m e = go (rw e at m)
  where
    go : Cuts part from closes (Some c) → NumberAt part from closes c.number c.next
    go (cuts n) = n

-- a number that is there ends within its bytes
pub cut_near : (part : List ℕ) (from closes : ℕ) (r : Option Cut) (c : Cut) → Cuts part from closes r → r ≡ Some c → c.next ≤ from + number_bytes
cut_near part from closes r c m e = (cut_number c m e).near

pub spotted_at : (part : List ℕ) (from : ℕ) (a b c : Option Cut) (d t p : Cut) → Cuts part from underscore a → a ≡ Some d → Cuts part d.next underscore b → b ≡ Some t
    → Cuts part t.next space c → c ≡ Some p → Spots part from (Some (spotted d.number t.number p.number p.next))
spotted_at part from a b c d t p x e y f z g =
    spots (record { second = d.next; third = t.next; departure = cut_number d x e; travel = cut_number t y f; profile = cut_number p z g })

pub quoted-at : (part : List ℕ) (from : ℕ) (a r : Option Cut) (n : Cut) → from + (number_bytes + 2) ≤ length part → get_or part from 0 ≡ quote → Cuts part (from + 1) quote a → a ≡ Some n
    → r ≡ cond (eqb (get_or part n.next 0) comma) (Some (cut n.number (n.next + 1))) None → Quotes part from r
quoted-at part from a r n h o m e q = rw q (go (eqb (get_or part n.next 0) comma) refl)
  where
    go : (t : Bool) → eqb (get_or part n.next 0) comma ≡ t → Quotes part from (cond t (Some (cut n.number (n.next + 1))) None)
    go true b =
        let at = cut_number n m e in
        quoted (record { shut = n.next; opens = o; number = at; comma_there = eqb-true (get_or part n.next 0) comma b; behind = refl; within = omega (arith, at.near) })
    go false b = unquoted

pub ruleset looks = (missed, unspotted, spotted_at)

pub ruleset quoting = (unquoted)

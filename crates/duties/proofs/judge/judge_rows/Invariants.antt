-- `duties::judge::judge_rows` meets its contract: what the rows left will give, given to what the table holds, is the whole. Assumes nothing.
use Prim.Native.Nat.{◌-◌}
use lib.ListN.{length}
use Rattle.duties.proofs.Judging.{Judging}
use Rattle.duties.proofs.judge.judge_rows.Given as goal

abbrev pub invariant-loop-place : goal.invariant-loop-place
invariant-loop-place l =
    Judging l.text l.nodes l.n l.initial.duties l.initial.balance l.from l.place l.last l.row l.count l.duties l.balance

abbrev pub decreases-loop-place : goal.decreases-loop-place
decreases-loop-place l = length l.text - l.place

-- Whole samples one after the other. Assumes nothing.
use native.Mathlib.Omega.{arith}
use borrow.Author.Rules.{rules}
use Rattle.profiles.proofs.Feed.{sampling_after, feeding}
use Rattle.profiles.proofs.reader.samples_run.Goals as goal

pub close_sample-cur-requires : goal.close_sample-cur-requires
close_sample-cur-requires c =
    let after = sampling_after c.loop-read.invariant c.sample_at.ensures c.in-Some.is in
    omega (arith, after.0, after.1, c.loop-read.invariant.few, c.requires.1)

pub overflow_add-i : goal.overflow_add-i
overflow_add-i c = let after = sampling_after c.loop-read.invariant c.sample_at.ensures c.in-Some.is in omega (arith, after.1)

pub loop-read-smaller : goal.loop-read-smaller
loop-read-smaller c = let after = sampling_after c.loop-read.invariant c.sample_at.ensures c.in-Some.is in omega (arith, after.0, after.1)

pub loop-read-preserved : goal.loop-read-preserved
loop-read-preserved c = search (feeding, rules)

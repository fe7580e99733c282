-- `profiles::reader::run_rows` meets its contract. The invariant: the state stands for a reading from which the bytes left lead where all from the first place lead. Assumes nothing.
use mathlib.Core.List.{[]}
use borrow.Author.Rules.{rules}
use Rattle.profiles.proofs.Feed.{turn_count, turned_plain, turned_less, fed_next, not_plain, feeding}
use Rattle.profiles.proofs.reader.run_rows.Goals as goal

pub loop-i-init : goal.loop-i-init
loop-i-init c = search (feeding, rules)

pub bounds-part-i : goal.bounds-part-i
bounds-part-i c = search (feeding, rules)

pub plain-requires : goal.plain-requires
plain-requires c = search (feeding, rules)

pub overflow_cast-i : goal.overflow_cast-i
overflow_cast-i c = search (feeding, rules)

pub overflow_add-next : goal.overflow_add-next
overflow_add-next c = search (feeding, rules)

pub step-one-requires : goal.step-one-requires
step-one-requires c = search (feeding, rules)

pub overflow_add-i : goal.overflow_add-i
overflow_add-i c = search (feeding, rules)

pub quicken-moved-requires : goal.quicken-moved-requires
quicken-moved-requires c = (search rules, turn_count _ _ _ _ c.step-one.ensures c.loop-i.invariant.live c.requires.1.0)

pub loop-i-smaller-then-plain : goal.loop-i-smaller-then-plain
loop-i-smaller-then-plain c =
    let gone = c.args.next in
    let inside = c.loop-i-test.true in
    let turned = turned_plain {gone = gone} inside c.step-one.ensures c.plain.result c.plain.ensures c.if-plain.true c.quicken-moved.ensures in
    turned_less turned inside

pub loop-i-preserved-then-plain : goal.loop-i-preserved-then-plain
loop-i-preserved-then-plain c =
    let gone = c.args.next in
    let inside = c.loop-i-test.true in
    let turned = turned_plain {gone = gone} inside c.step-one.ensures c.plain.result c.plain.ensures c.if-plain.true c.quicken-moved.ensures in
    fed_next c.loop-i.invariant turned (search rules) (search rules)

pub cross-crossed-requires : goal.cross-crossed-requires
cross-crossed-requires c = search (not_plain, feeding, rules)

pub loop-i-smaller : goal.loop-i-smaller
loop-i-smaller c = turned_less (c.cross-crossed.ensures 0 [] []) (search rules)

pub loop-i-preserved : goal.loop-i-preserved
loop-i-preserved c = fed_next c.loop-i.invariant (c.cross-crossed.ensures _ _ _) (search rules) (search rules)

pub overflow_cast-result : goal.overflow_cast-result
overflow_cast-result c = search (feeding, rules)

pub overflow_add-result : goal.overflow_add-result
overflow_add-result c = search (feeding, rules)

pub returns : goal.returns
returns c = search (feeding, rules)

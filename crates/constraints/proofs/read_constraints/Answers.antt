-- `constraints::read_constraints` meets its contract: one walk, or two. Assumes nothing.
use Rattle.constraints.proofs.Both.{able_first, able_second, few_counted, long_enough, reads_long, reads_refused, reads_once, reads_whole}
use Rattle.std.proofs.lemmas.Result.{err_from_is_err_and}
use Rattle.constraints.proofs.read_constraints.Goals as goal

pub returns-then-text-gt-MOST : goal.returns-then-text-gt-MOST
returns-then-text-gt-MOST c = reads_long c.args.rules c.args.text.now c.args.legs.now c.args.n c.args.constraints.now c.args.tracks.now _ c.new.ensures c.if-text-gt-MOST.true

pub walk-requires : goal.walk-requires
walk-requires c = able_first _ _ _ _ c.if-text-gt-MOST.false c.requires.0 c.requires.1 c.rising_of-rising.ensures

pub returns-in_err-seen : goal.returns-in_err-seen
returns-in_err-seen c =
    let given = c.args in
    let walk = c.walk in
    let p = err_from_is_err_and c.from_residual.result c.from_residual.ensures.1 in
    rw (p.1, p.2) (reads_refused given.rules given.text.now given.legs.now given.n given.constraints.now given.tracks.now c.if-text-gt-MOST.false _ walk.new.next walk.new.constraints walk.new.tracks walk.ensures _ c.in_err-seen.was)

pub in_order-requires : goal.in_order-requires
in_order-requires c =
    let given = c.args in
    let walk = c.walk in
    long_enough given.rules given.text.now given.legs.now given.n given.constraints.now given.tracks.now c.if-text-gt-MOST.false _ walk.new.next walk.new.constraints walk.new.tracks walk.ensures _ c.in_ok-seen.was walk.auto.constraints

pub returns-then-in_order : goal.returns-then-in_order
returns-then-in_order c =
    let given = c.args in
    let walk = c.walk in
    reads_once given.rules given.text.now given.legs.now given.n given.constraints.now given.tracks.now c.if-text-gt-MOST.false _ walk.new.next walk.new.constraints walk.new.tracks walk.ensures _ c.in_ok-seen.was (c.in_order.ensures c.if-in_order.true)

pub starts_of-next-requires : goal.starts_of-next-requires
starts_of-next-requires c =
    let given = c.args in
    let walk = c.walk in
    few_counted given.rules given.text.now given.legs.now given.n given.constraints.now given.tracks.now c.if-text-gt-MOST.false _ walk.new.next walk.new.constraints walk.new.tracks walk.ensures _ c.in_ok-seen.was

pub walk-requires-2 : goal.walk-requires-2
walk-requires-2 c =
    let given = c.args in
    let walk = c.walk in
    able_second _ _ _ _ walk.new.next _ c.if-text-gt-MOST.false c.requires.0 c.requires.1 c.rising_of-rising.ensures (few_counted given.rules given.text.now given.legs.now given.n given.constraints.now given.tracks.now c.if-text-gt-MOST.false _ walk.new.next walk.new.constraints walk.new.tracks walk.ensures _ c.in_ok-seen.was) c.starts_of-next.ensures

pub returns : goal.returns
returns c =
    let given = c.args in
    let walk = c.walk in
    let again = c.walk-2 in
    reads_whole given.rules given.text.now given.legs.now given.n given.constraints.now given.tracks.now c.if-text-gt-MOST.false _ walk.new.next walk.new.constraints walk.new.tracks walk.ensures _ c.in_ok-seen.was _ _ again.new.next again.new.constraints again.new.tracks c.starts_of-next.ensures walk.auto.constraints walk.auto.tracks again.ensures

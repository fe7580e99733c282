-- A text is too long, or lacks its header, or its rows are read and their choices unpacked. Assumes nothing.
use Rattle.std.proofs.Common.{arith}
use borrow.Author.Rules.{rules}
use Rattle.std.proofs.lemmas.Result.{err_from_is_err_and}
use Rattle.solution.proofs.Wholly.{headed, unpack_room, read_long, read_headless, read_fault, read_right}
use Rattle.solution.proofs.reader.read_choices.Goals as goal

pub returns-then-text-gt-MOST : goal.returns-then-text-gt-MOST
returns-then-text-gt-MOST c = search (read_long, rules)

pub returns-then-from-eq0 : goal.returns-then-from-eq0
returns-then-from-eq0 c = search (read_headless, rules)

pub read_rows-requires : goal.read_rows-requires
read_rows-requires c = search (headed, rules)

pub returns-in_err-rows : goal.returns-in_err-rows
returns-in_err-rows c =
    let p = err_from_is_err_and c.from_residual.result c.from_residual.ensures.1 in
    rw (p.1, p.2) (read_fault _ _ _ _ _ _ (omega arith) _ c.head_end-from.ensures c.if-from-eq0.false _ c.read_rows.ensures _ c.in_err-rows.was)

pub unpack-requires : goal.unpack-requires
unpack-requires c = search (unpack_room, rules)

pub returns : goal.returns
returns c = search (read_right, rules)

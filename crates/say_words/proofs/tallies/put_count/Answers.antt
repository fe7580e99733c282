-- `say_words::tallies::put_count` meets its contract: the number, the name, and the plural where it is not one. Assumes nothing.
use Rattle.say_words.proofs.Texts.{one_written, many_written}
use native.Mathlib.Omega.{arith}
use Rattle.say_words.proofs.tallies.put_count.Goals as goal

pub returns-then-count-eq-ONE : goal.returns-then-count-eq-ONE
returns-then-count-eq-ONE c =
    one_written _ c.put_whole-space.ensures c.put_byte-name.ensures c.put_test-end.ensures c.if-count-eq-ONE.true (omega arith)

pub returns : goal.returns
returns c =
    many_written _ c.put_whole-space.ensures c.put_byte-name.ensures c.put_test-end.ensures c.if-count-eq-ONE.false c.put_byte.ensures (omega arith)

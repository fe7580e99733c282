-- `say_words::numbers::put_three` meets its contract: a zero in front where the number is short of a digit. Assumes nothing.
use Rattle.say_words.proofs.Spellings.{zero_three-written}
use native.Mathlib.Omega.{arith}
use Rattle.say_words.proofs.numbers.put_three.Goals as goal

pub returns-then-n-lt-HUNDRED : goal.returns-then-n-lt-HUNDRED
returns-then-n-lt-HUNDRED c = zero_three-written c.if-n-lt-HUNDRED.true c.put_byte-after.ensures c.put_two.ensures (omega arith)

-- The digits but the last, by a call of itself on a smaller number, and then the last.
use Rattle.std.proofs.Common.{arith}
use Rattle.say_words.proofs.Spellings.{digits_written}
use Rattle.say_words.proofs.numbers.+put_whole.Goals as goal

pub returns : goal.returns
returns t c = digits_written c.if-n-lt-TEN.false c.put_whole-after.ensures c.put_byte-2.ensures (omega arith)

-- `say_words::energies::put_decimals` meets its contract: the whole units, the point, the thousandths. Assumes nothing.
use Rattle.say_words.proofs.Texts.{decimals_written}
use native.Mathlib.Omega.{arith}
use Rattle.say_words.proofs.energies.put_decimals.Goals as goal

pub returns : goal.returns
returns c = decimals_written _ _ c.put_whole-point.ensures c.put_byte-decimals.ensures c.put_three.ensures (omega arith)

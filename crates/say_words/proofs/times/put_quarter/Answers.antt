-- `say_words::times::put_quarter` meets its contract: the clock at both ends. Assumes nothing.
use Rattle.say_words.proofs.Texts.{quarter-written}
use native.Mathlib.Omega.{arith}
use Rattle.say_words.proofs.times.put_quarter.Goals as goal

pub returns : goal.returns
returns c = quarter-written _ _ c.put_clock-to.ensures c.put_bytes-last.ensures c.quarter_end-end.ensures c.put_clock.ensures (omega arith)

-- `say_words::times::put_time` meets its contract: the seconds, then the clock in brackets. Assumes nothing.
use Rattle.say_words.proofs.Texts.{time_written}
use native.Mathlib.Omega.{arith}
use Rattle.say_words.proofs.times.put_time.Goals as goal

pub returns : goal.returns
returns c = time_written _ c.put_whole-unit.ensures c.put_bytes-clock.ensures c.put_clock-end.ensures c.put_byte.ensures (omega arith)

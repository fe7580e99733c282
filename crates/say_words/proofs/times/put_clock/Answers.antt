-- `say_words::times::put_clock` meets its contract: hours, minutes and seconds, a colon between. Assumes nothing.
use Rattle.say_words.proofs.Texts.{clock-written}
use native.Mathlib.Omega.{arith}
use Rattle.say_words.proofs.times.put_clock.Goals as goal

pub returns : goal.returns
returns c = clock-written _ c.put_two-hours.ensures c.put_byte-minutes.ensures c.put_two-colon.ensures c.put_byte-last.ensures c.put_two.ensures (omega arith)

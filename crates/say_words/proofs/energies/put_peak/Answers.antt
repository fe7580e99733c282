-- `say_words::energies::put_peak` meets its contract: the energy, the power and the time, one after the other. Assumes nothing.
use Rattle.say_words.proofs.Texts.{peak-written}
use native.Mathlib.Omega.{arith}
use Rattle.say_words.proofs.energies.put_peak.Goals as goal

pub returns : goal.returns
returns c =
    peak-written _ _ c.put_whole-unit.ensures c.put_bytes-power.ensures c.put_mw-mw.ensures c.put_bytes-time.ensures c.put_quarter.ensures (omega arith)

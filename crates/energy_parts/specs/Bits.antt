-- The bit patterns of the desk tool's doubles.
use Rattle.std.specs.Float.{binary64}
use Rattle.std.specs.Float.Ieee.{to_bits}
use Rattle.rules.specs.declared.figures.Desk.{Desk}
use Rattle.energy_parts.specs.declared.desk.Bits.{Bits}

abbrev pub bits_of : Desk → Bits
bits_of d =
    record {
      before = to_bits binary64 d.before;
      drawn = to_bits binary64 d.drawn;
      lost = to_bits binary64 d.lost;
      peak = to_bits binary64 d.peak;
    }

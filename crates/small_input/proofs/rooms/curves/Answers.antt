-- As many zeros as were asked, whose number is not written out.
use Rattle.std.proofs.Common.{sym, pos}
use Rattle.std.proofs.lemmas.List.{length-replicate}
use Rattle.small_input.specs.Rooms.{most_curves}
use Rattle.small_input.proofs.rooms.curves.Goals as goal

pub returns : goal.returns
returns c = sym (length-replicate most_curves (pos 0))

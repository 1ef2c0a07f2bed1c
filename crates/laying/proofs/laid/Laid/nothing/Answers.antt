use Rattle.std.proofs.Common.{refl}
use Rattle.laying.specs.Events.{size, types, arounds}
use Rattle.laying.specs.Beginning.{starts, beginning_of}
use Rattle.laying.specs.Lays.{shown}
use Rattle.laying.proofs.laid.Laid.nothing.Goals as goal

pub returns-clause-shown : goal.returns-clause-shown
unfolding shown beginning_of size types arounds starts
returns-clause-shown c = refl

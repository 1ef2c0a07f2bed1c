use Rattle.std.proofs.Common.{refl}
use Rattle.laying.specs.Lays.{shown}
use Rattle.laying.proofs.laid.Laid.starts.Goals as goal

pub returns-clause-starts : goal.returns-clause-starts
unfolding shown
returns-clause-starts c = refl

use Rattle.std.proofs.Common.{arith}
use Rattle.std.proofs.lemmas.Grind.{common_steps}
use Rattle.std.proofs.lemmas.List.{length-map}
use Rattle.laying.specs.Lays.{shown}
use Rattle.bridge.proofs.events_at.Goals as goal

pub returns-clause-events : goal.returns-clause-events
unfolding shown
returns-clause-events c = grind (arith, common_steps, length-map)

use Rattle.std.proofs.Common.{◌≡◌, drop, Some}
use Rattle.lines.specs.Argument.{number_on}
use Rattle.lines.proofs.argument.number_said.Given as goal

abbrev pub invariant-loop-digit : goal.invariant-loop-digit
invariant-loop-digit l = number_on (Some l.number) (drop l.digit-index l.argument) ≡ number_on (Some 0) l.argument

use Rattle.std.proofs.Common.{◌≡◌, ◌+◌, ◌++◌, take, drop}
use Rattle.rows.specs.Row.{value}
use Rattle.laying.specs.Lays.{preceding}
use Rattle.laying.proofs.laid.Laid.precede.Given as goal

abbrev pub invariant-loop-i : goal.invariant-loop-i
invariant-loop-i l =
    take l.i l.events ++ preceding (value l.earlier) (value l.later) (l.from + l.i) (drop l.i l.events) ≡ preceding (value l.earlier) (value l.later) l.from l.initial.events

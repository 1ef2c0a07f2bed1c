use Rattle.std.proofs.Common.{◌*◌, ◌≤◌, length}
use Rattle.laying.specs.Lays.{shown}
use Rattle.lines.specs.Card.{most_line}
use Rattle.lines.specs.Laid.{first_lines}
use Rattle.lines.proofs.laid.write_events.Given as goal

abbrev pub invariant-loop-event : goal.invariant-loop-event
invariant-loop-event g l = record {
  written : g.P.Page.adds l.initial.page (first_lines (shown l.laid) l.event-index) l.page;
  short : length (first_lines (shown l.laid) l.event-index) ≤ most_line * l.event-index;
}

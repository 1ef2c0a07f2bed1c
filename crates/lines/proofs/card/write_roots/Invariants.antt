use Rattle.std.proofs.Common.{◌*◌, ◌≤◌, length, take}
use Rattle.lines.specs.Card.{most_line, entry_lines}
use Rattle.lines.proofs.card.write_roots.Given as goal

abbrev pub invariant-loop-root : goal.invariant-loop-root
invariant-loop-root g l = (g.P.Page.adds l.initial.page (entry_lines (take l.root-index l.roots)) l.page) × (length (entry_lines (take l.root-index l.roots)) ≤ most_line * l.root-index)

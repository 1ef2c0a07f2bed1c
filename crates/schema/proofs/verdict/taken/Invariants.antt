use Rattle.std.proofs.Common.{◌≡◌, ◌-◌}
use Rattle.schema.specs.Bytes.{item_count}
use Rattle.schema.specs.Questions.{verdict, from}
use Rattle.schema.specs.Progress.{KnowsMade, Holds}
use Rattle.schema.proofs.verdict.taken.Given as goal

abbrev pub invariant-loop-i : goal.invariant-loop-i
invariant-loop-i l =
    Holds l.bytes l.i-counter l.progress × (l.progress.scope ≡ l.scope)
    × (verdict l.bytes l.scope ≡ from l.bytes l.scope l.i-counter (item_count l.bytes - l.i-counter))
    × KnowsMade l.bytes l.progress.scope l.progress.known

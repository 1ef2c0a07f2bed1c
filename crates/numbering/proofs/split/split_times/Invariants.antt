-- The rest is still to be taken apart, from so many times on.
use Rattle.std.proofs.Common.{◌≡◌, ◌-◌, ◌^◌, ◌≤◌}
use Rattle.numbering.specs.Numbers.{occurrences}
use Rattle.numbering.specs.Splits.{power_capped}
use Rattle.numbering.proofs.split.split_times.Given as goal

abbrev pub invariant-loop-times : goal.invariant-loop-times
invariant-loop-times l =
    (occurrences l.fn.once (l.most - l.fn.least) l.fn.least l.number ≡ occurrences l.fn.once (l.most - l.times) l.times l.rest)
    × (l.power ≡ power_capped (l.fn.once ^ l.times))
    × (l.rest ≤ l.number)

abbrev pub decreases-loop-times : goal.decreases-loop-times
decreases-loop-times l = l.most - l.times

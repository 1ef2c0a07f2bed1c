use Rattle.std.proofs.Common.{◌+◌, ◌*◌}
use Rattle.laying.proofs.pattern.+lay_pattern_lay_run.Given as goal

abbrev pub decreases-lay_pattern : goal.decreases-lay_pattern
decreases-lay_pattern l = 20 * l.i

abbrev pub decreases-lay_run : goal.decreases-lay_run
decreases-lay_run l = 20 * l.i + l.run.left.times + 1

use Rattle.std.proofs.Common.{◌≡◌, ℕ, suc, ◌+◌, ◌-◌, ◌^◌, ◌≤◌, ◌∙◌, arith}
use Rattle.grammar.proofs.Caps.{min_pow_more}
use Rattle.numbering.specs.Numbers.{occurrences}
use Rattle.numbering.proofs.split.split_times.Goals as goal

-- the number is past all with k occurrences
passes : (c j m k n p : ℕ) → j ≡ suc m → p ≡ c ^ k → p ≤ n → occurrences c j k n ≡ occurrences c m (k + 1) (n - p)
passes c j m k n p e f h = grind arith

pub loop-times-preserved : goal.loop-times-preserved
loop-times-preserved c = (
  c.loop-times.invariant.0 ∙ passes c.args.once _ (c.args.most - (c.loop-times.times + 1)) c.loop-times.times c.loop-times.rest _ (omega arith) (omega arith) (omega arith),
  grind (arith, min_pow_more (2 ^ 32) c.args.once c.loop-times.times),
  omega arith,
)

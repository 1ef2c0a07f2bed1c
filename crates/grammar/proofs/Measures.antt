-- The measure of a pattern follows from the measures of its parts.
use Rattle.std.proofs.Common.{◌≡◌, ℕ, ◌+◌, arith}
use Rattle.questions.specs.Limits.{most_events}
use Rattle.grammar.specs.Pattern.{Pattern, event, both, either, repeat, most, span, count, len}
use Rattle.grammar.specs.Measures.{measure_of, inside_measure, both_measure, either_measure, repeat_measure}
use Rattle.grammar.specs.declared.part.Order.{Order}
use Rattle.grammar.proofs.Caps.{min_mul_right, capped_mul, capped_powers}

pub inside_measures : (s t : ℕ) (p : Pattern) → inside_measure (measure_of s p) ≡ measure_of s (event t p)
inside_measures s t p = grind arith

pub both_measures : (s : ℕ) (o : Order) (p q : Pattern) → both_measure (measure_of s p) (measure_of s q) ≡ measure_of s (both o p q)
both_measures s o p q = grind (arith, capped_mul (count s p) (count s q))

pub either_measures : (s : ℕ) (p q : Pattern) → either_measure (measure_of s p) (measure_of s q) ≡ measure_of s (either p q)
either_measures s p q = grind arith

pub repeat_measures : (s : ℕ) (o : Order) (a b : ℕ) (p : Pattern) → repeat_measure a (most s b) (measure_of s p) ≡ measure_of s (repeat o a b p)
repeat_measures s o a b p = grind (arith, capped_powers (count s p) (span a (most s b)) a, min_mul_right (most_events + 1) (most s b) (len s p))

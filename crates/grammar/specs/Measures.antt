-- The measure of a pattern, and how it follows from those of its parts. Assumes nothing.
use Rattle.std.specs.Prelude.{ℕ, ◌+◌, ◌*◌, min, max}
use Rattle.questions.specs.Limits.{most_items, most_candidates, most_events}
use Rattle.grammar.specs.Pattern.{Pattern, powers, span, count, len, size}
use Rattle.grammar.specs.declared.measure.Measure.{Measure}

-- a number of choices, as far as one past the limit
abbrev pub count_capped : ℕ → ℕ
count_capped n = min n (most_candidates + 1)

-- of so many items, choices and events, each as far as one past its limit
abbrev pub capped : ℕ → ℕ → ℕ → Measure
capped n c l = record { items = min n (most_items + 1); count = count_capped c; length = min l (most_events + 1) }

-- the measure of a pattern at scope s
abbrev pub measure_of : ℕ → Pattern → Measure
measure_of s p = capped (size p) (count s p) (len s p)

abbrev pub nothing_measure : Measure
nothing_measure = record { items = 1; count = 1; length = 0 }

abbrev pub atom_measure : Measure
atom_measure = record { items = 1; count = 1; length = 1 }

abbrev pub inside_measure : Measure → Measure
inside_measure m = capped (m.items + 1) m.count (m.length + 1)

abbrev pub both_measure : Measure → Measure → Measure
both_measure m n = capped (m.items + n.items + 1) (m.count * n.count) (m.length + n.length)

abbrev pub either_measure : Measure → Measure → Measure
either_measure m n = capped (m.items + n.items + 1) (m.count + n.count) (max m.length n.length)

-- from a to b times
abbrev pub repeat_measure : ℕ → ℕ → Measure → Measure
repeat_measure a b m = capped (m.items + 1) (powers m.count (span a b) a) (b * m.length)

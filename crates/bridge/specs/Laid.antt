-- How many events candidates lay. Assumes nothing.
use Rattle.std.specs.Prelude.{ℕ, List, length, map, sum, Some, None, Ok, Err, Option, Result}
use Rattle.std.specs.List.{range_with_len}
use Rattle.questions.specs.declared.refusal.Refusal.{Refusal}
use Rattle.schema.specs.Reading.{schema_of}
use Rattle.laying.specs.Beginning.{Beginning}
use Rattle.laying.specs.Laying.{laid_at}

abbrev pub events_in : Option Beginning → ℕ
events_in (Some l) = length l.precedes
events_in None = 0

-- of candidate n; none where there is no such candidate
abbrev pub events_at : List ℕ → ℕ → ℕ → ℕ
events_at b s n = events_in (laid_at b s n (length (schema_of b).roots))

-- of k candidates from n on
abbrev pub events_from : List ℕ → ℕ → ℕ → ℕ → ℕ
events_from b s n k = sum (map (events_at b s) (range_with_len n k))

abbrev pub told_events : Result ℕ Refusal → ℕ → ℕ
told_events (Ok t) m = m
told_events (Err e) m = 0

-- What the calls that take a number apart give. Assumes nothing.
use Rattle.std.specs.Prelude.{ℕ, ◌-◌, ◌^◌, min, if◌then◌else◌, nat_lt}
use Rattle.numbering.specs.Numbers.{occurrences}
use Rattle.numbering.specs.declared.split.Taken.{Taken}
use Rattle.numbering.specs.declared.split.Taken.TheVariants.{Earlier, Later}
use Rattle.numbering.specs.declared.split.Repeated.{Repeated}

-- the side of an alternative, whose earlier pattern has c choices, and the number there
abbrev pub side_at : ℕ → ℕ → Taken
side_at c n = if nat_lt n c then Earlier n else Later (n - c)

-- a number of choices, as far as one past the largest number that 32 bits hold
abbrev pub power_capped : ℕ → ℕ
power_capped n = min n (2 ^ 32)

-- how often a pattern of c choices occurs, from least to most times, the number among as many, and how many those are
abbrev pub times_at : ℕ → ℕ → ℕ → ℕ → Repeated
times_at c least most n = let w : ℕ × ℕ = occurrences c (most - least) least n in record { times = w.0; number = w.1; power = power_capped (c ^ w.0) }

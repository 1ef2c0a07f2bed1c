-- Patterns as data: how many choices one has at a scope, how many events it lays at most, how many items write it. Assumes nothing.
use Rattle.std.specs.Prelude.{ℕ, zero, suc, ◌+◌, ◌-◌, ◌*◌, ◌^◌, max, if◌then◌else◌, ◌==◌}
use Rattle.questions.specs.Limits.{scope_mark}
use Rattle.grammar.specs.declared.part.Order.{Order}

pub data Pattern : Type 0 where
  nothing : Pattern
  -- an event of a type
  atom : ℕ → Pattern
  -- an event of a type, with a pattern inside
  event : ℕ → Pattern → Pattern
  -- the earlier pattern and the later one, as a sequence or as a set
  both : Order → Pattern → Pattern → Pattern
  -- the earlier pattern or the later one
  either : Pattern → Pattern → Pattern
  -- the pattern, from a least to a most number of times, in order or as a set
  repeat : Order → ℕ → ℕ → Pattern → Pattern

-- the most of a repetition at scope s
abbrev pub most : ℕ → ℕ → ℕ
most s b = if b == scope_mark then s else b

-- c^a + c^(a+1) + .., n powers in all
abbrev pub powers : ℕ → ℕ → ℕ → ℕ
powers c zero a = 0
powers c (suc n) a = c ^ a + powers c n (suc a)

-- how many numbers there are from a to b
abbrev pub span : ℕ → ℕ → ℕ
span a b = suc b - a

-- how many choices a pattern has
abbrev pub count : ℕ → Pattern → ℕ
count s nothing = 1
count s (atom t) = 1
count s (event t p) = count s p
count s (both o p q) = count s p * count s q
count s (either p q) = count s p + count s q
count s (repeat o a b p) = powers (count s p) (span a (most s b)) a

-- how many events its longest choice lays
abbrev pub len : ℕ → Pattern → ℕ
len s nothing = 0
len s (atom t) = 1
len s (event t p) = len s p + 1
len s (both o p q) = len s p + len s q
len s (either p q) = max (len s p) (len s q)
len s (repeat o a b p) = most s b * len s p

-- how many items write it
abbrev pub size : Pattern → ℕ
size nothing = 1
size (atom t) = 1
size (event t p) = size p + 1
size (both o p q) = size p + size q + 1
size (either p q) = size p + size q + 1
size (repeat o a b p) = size p + 1

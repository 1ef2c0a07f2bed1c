-- Choices as trees: what one way through a pattern says. Assumes nothing.
use Rattle.std.specs.Prelude.{ℕ}
use Rattle.grammar.specs.declared.part.Order.{Order}

-- the side of an alternative
pub data Side : Type 0 where
  earlier : Side
  later : Side

pub data Choice : Type 0 where
  -- no event
  empty : Choice
  -- an event of a type, with what is chosen inside it
  node : ℕ → Choice → Choice
  -- one part and then the other, in order or as a set; repetitions are pairs of the first occurrence and the others
  pair : Order → Choice → Choice → Choice
  -- one side of an alternative
  took : Side → Choice → Choice

-- Schemas as data: roots, each with a pattern, and the operations that compose them. Assumes nothing.
use Rattle.std.specs.Prelude.{ℕ, ◌+◌, ◌*◌, List, [], ◌∷◌}
use Rattle.grammar.specs.Pattern.{Pattern, count, len}
use Rattle.grammar.specs.declared.part.Relation.{Relation}
use Rattle.grammar.specs.declared.part.Selection.{Selection}

-- a root: an event of a type, with a pattern inside
pub record Rooted : Type 0 where
  pub event : ℕ
  pub pattern : Pattern

pub data Operation : Type 0 where
  -- of two selections, A and then B
  relate : Relation → Selection → Selection → Operation
  -- at most so many events are selected
  at_most : ℕ → Selection → Operation

pub record Schema : Type 0 where
  pub roots : List Rooted
  pub operations : List Operation

-- how many choices the roots have together: the product of their counts
abbrev pub candidates : ℕ → List Rooted → ℕ
candidates s [] = 1
candidates s (r ∷ rs) = count s r.pattern * candidates s rs

-- how many events they lay at most: the sum of their lengths, each with the root's own event
abbrev pub events : ℕ → List Rooted → ℕ
events s [] = 0
events s (r ∷ rs) = (len s r.pattern + 1) + events s rs

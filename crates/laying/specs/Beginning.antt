-- Beginnings: what the first roots of a schema lay. Assumes nothing.
use Rattle.std.specs.Prelude.{ℕ, ◌+◌, List, [], ◌∷◌, map, None, Option}
use Rattle.std.specs.List.{range_with_len}
use Rattle.grammar.specs.declared.part.Order.TheVariants.{AsSet}
use Rattle.numbering.specs.Choice.{Choice, empty, pair}
use Rattle.laying.specs.Pairs.{row}
use Rattle.laying.specs.Events.{size, types, arounds, precs}

-- the choices of the roots laid one after another, none before another
abbrev pub whole : List Choice → Choice
whole [] = empty
whole (x ∷ xs) = pair AsSet x (whole xs)

-- where each root starts
unfoldable pub starts : ℕ → List Choice → List ℕ
unfolding size
starts n [] = []
starts n (x ∷ xs) = n ∷ starts (n + size x) xs

-- the events in laying order: their types, the nearest event around each, the row of the places that each precedes; and where each root starts
pub record Beginning : Type 0 where
  pub types : List ℕ
  pub around : List (Option ℕ)
  pub precedes : List ℕ
  pub starts : List ℕ

-- what the choices of the first roots lay
unfoldable pub beginning_of : List Choice → Beginning
unfolding size types arounds precs row starts
beginning_of xs = record {
  types = types (whole xs);
  around = arounds None 0 (whole xs);
  precedes = map (row (precs 0 (whole xs))) (range_with_len 0 (size (whole xs)));
  starts = starts 0 xs;
}

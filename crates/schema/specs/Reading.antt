-- How the items of a table read, one after another, to a schema. Assumes nothing.
use Rattle.std.specs.Prelude.{ℕ, zero, suc, List, [], ◌∷◌, ◌++◌, length, slice_index_or}
use Rattle.grammar.specs.Pattern.{Pattern, nothing, atom, event, both, either, repeat}
use Rattle.grammar.specs.Schema.{Rooted, Operation, relate, at_most, Schema}
use Rattle.grammar.specs.declared.part.Selection.{Selection}
use Rattle.schema.specs.Bytes.{item_count, root_count, item_at}
use Rattle.items.specs.declared.ask.Tally.{Tally}
use Rattle.items.specs.declared.item.Item.{Item}
use Rattle.items.specs.declared.item.Item.TheVariants.{Nothing, Atom, Event, Both, Either, Repeat, Root, Pick, Relate, AtMost, Unknown}

-- what was read so far: the patterns and the picks that wait, the latest first, and the roots and operations, in order
pub record State : Type 0 where
  pub patterns : List Pattern
  pub roots : List Rooted
  pub picks : List Selection
  pub operations : List Operation

-- the patterns that wait after an item; where it does not find what it takes, or takes none, none does
abbrev pub stacked : Item → List Pattern → List Pattern
stacked Nothing ps = nothing ∷ ps
stacked (Atom t) ps = atom t ∷ ps
stacked (Event t) [] = []
stacked (Event t) (p ∷ ps) = event t p ∷ ps
stacked (Both o) [] = []
stacked (Both o) (q ∷ []) = []
stacked (Both o) (q ∷ (p ∷ ps)) = both o p q ∷ ps
stacked Either [] = []
stacked Either (q ∷ []) = []
stacked Either (q ∷ (p ∷ ps)) = either p q ∷ ps
stacked (Repeat o a b) [] = []
stacked (Repeat o a b) (p ∷ ps) = repeat o a b p ∷ ps
stacked (Root t) ps = []
stacked (Pick x) ps = []
stacked (Relate r) ps = []
stacked (AtMost n) ps = []
stacked Unknown ps = []

-- the pattern that waits most recently
abbrev pub top : List Pattern → Pattern
top [] = nothing
top (p ∷ ps) = p

abbrev pub rooted : Item → List Pattern → List Rooted → List Rooted
rooted Nothing ps rs = rs
rooted (Atom t) ps rs = rs
rooted (Event t) ps rs = rs
rooted (Both o) ps rs = rs
rooted Either ps rs = rs
rooted (Repeat o a b) ps rs = rs
rooted (Root t) ps rs = rs ++ (record { event = t; pattern = top ps } ∷ [])
rooted (Pick x) ps rs = rs
rooted (Relate r) ps rs = rs
rooted (AtMost n) ps rs = rs
rooted Unknown ps rs = rs

abbrev pub picked : Item → List Selection → List Selection
picked Nothing xs = xs
picked (Atom t) xs = xs
picked (Event t) xs = xs
picked (Both o) xs = xs
picked Either xs = xs
picked (Repeat o a b) xs = xs
picked (Root t) xs = xs
picked (Pick x) xs = x ∷ xs
picked (Relate r) xs = []
picked (AtMost n) xs = []
picked Unknown xs = xs

abbrev pub no_selection : Selection
no_selection = record { root = 0; event = 0 }

-- the latest pick that waits, and the one before it
abbrev pub later : List Selection → Selection
later xs = slice_index_or xs 0 no_selection

abbrev pub earlier : List Selection → Selection
earlier xs = slice_index_or xs 1 no_selection

abbrev pub operated : Item → List Selection → List Operation → List Operation
operated Nothing xs os = os
operated (Atom t) xs os = os
operated (Event t) xs os = os
operated (Both o) xs os = os
operated Either xs os = os
operated (Repeat o a b) xs os = os
operated (Root t) xs os = os
operated (Pick x) xs os = os
operated (Relate r) xs os = os ++ (relate r (earlier xs) (later xs) ∷ [])
operated (AtMost n) xs os = os ++ (at_most n (later xs) ∷ [])
operated Unknown xs os = os

abbrev pub start : State
start = record { patterns = []; roots = []; picks = []; operations = [] }

abbrev pub step : Item → State → State
step it S = record {
  patterns = stacked it S.patterns;
  roots = rooted it S.patterns S.roots;
  picks = picked it S.picks;
  operations = operated it S.picks S.operations;
}

-- what the first i items of a table read to
abbrev pub state : List ℕ → ℕ → State
state b zero = start
state b (suc i) = step (item_at b i) (state b i)

-- how many roots the table states, how many are closed by then, and how many patterns and picks wait
abbrev pub tally_at : List ℕ → ℕ → Tally
tally_at b i = record { roots = root_count b; closed = length (state b i).roots; patterns = length (state b i).patterns; picks = length (state b i).picks }

-- the pattern that item i ends
abbrev pub pattern_at : List ℕ → ℕ → Pattern
pattern_at b i = top (state b (suc i)).patterns

-- the schema that all its items read to
abbrev pub schema_of : List ℕ → Schema
schema_of b = record { roots = (state b (item_count b)).roots; operations = (state b (item_count b)).operations }

-- what an item makes of the waiting patterns: a pattern, a root's event, or else nothing
abbrev pub made : Item → List Pattern → Pattern
made Nothing ps = nothing
made (Atom t) ps = atom t
made (Event t) ps = top (stacked (Event t) ps)
made (Both o) ps = top (stacked (Both o) ps)
made Either ps = top (stacked Either ps)
made (Repeat o a b) ps = top (stacked (Repeat o a b) ps)
made (Root t) ps = event t (top ps)
made (Pick x) ps = nothing
made (Relate r) ps = nothing
made (AtMost n) ps = nothing
made Unknown ps = nothing

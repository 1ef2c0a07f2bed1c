-- What a choice lays: its events in laying order, from a place on, what is IN what and what PRECEDES what. Assumes nothing.
use Rattle.std.specs.Prelude.{ℕ, suc, ◌+◌, Bool, true, false, List, [], ◌∷◌, ◌++◌, Some, Option}
use Rattle.grammar.specs.declared.part.Order.{Order}
use Rattle.grammar.specs.declared.part.Order.TheVariants.{InOrder, AsSet}
use Rattle.numbering.specs.Choice.{Choice, empty, node, pair, took}
use Rattle.laying.specs.Pairs.{Pairs, each_with, all_pairs}

-- how many events
unfoldable pub size : Choice → ℕ
size empty = 0
size (node t x) = suc (size x)
size (pair o x y) = size x + size y
size (took d x) = size x

-- their types: an event before its inside, the rest from earlier to later
unfoldable pub types : Choice → List ℕ
types empty = []
types (node t x) = t ∷ types x
types (pair o x y) = types x ++ types y
types (took d x) = types x

-- the top events, which no other event of the choice encloses, laid from n on
unfoldable pub tops : ℕ → Choice → List ℕ
unfolding size
tops n empty = []
tops n (node t x) = n ∷ []
tops n (pair o x y) = tops n x ++ tops (n + size x) y
tops n (took d x) = tops n x

-- IN: an event and the nearest one around it
unfoldable pub ins : ℕ → Choice → Pairs
unfolding size tops each_with
ins n empty = []
ins n (node t x) = each_with (tops (suc n) x) n ++ ins (suc n) x
ins n (pair o x y) = ins n x ++ ins (n + size x) y
ins n (took d x) = ins n x

-- the same as a list: for each event the nearest one around it, p for the top events
unfoldable pub arounds : Option ℕ → ℕ → Choice → List (Option ℕ)
unfolding size
arounds p n empty = []
arounds p n (node t x) = p ∷ arounds (Some n) (suc n) x
arounds p n (pair o x y) = arounds p n x ++ arounds p (n + size x) y
arounds p n (took d x) = arounds p n x

abbrev pub in_order : Order → Bool
in_order InOrder = true
in_order AsSet = false

-- in order, each of the first places precedes each of the second; as a set, none does
abbrev pub crossing : Order → List ℕ → List ℕ → Pairs
crossing InOrder xs ys = all_pairs xs ys
crossing AsSet xs ys = []

-- PRECEDES
unfoldable pub precs : ℕ → Choice → Pairs
unfolding size tops all_pairs
precs n empty = []
precs n (node t x) = precs (suc n) x
precs n (pair o x y) = crossing o (tops n x) (tops (n + size x) y) ++ (precs n x ++ precs (n + size x) y)
precs n (took d x) = precs n x

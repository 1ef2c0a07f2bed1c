-- The items of a table: what a kind and an argument say, and what kind and argument write an item. Assumes nothing.
use Rattle.std.specs.Prelude.{ℕ, ◌+◌, ◌*◌, ◌/◌, ◌%◌, if◌then◌else◌, ◌==◌}
use Rattle.grammar.specs.declared.part.Order.TheVariants.{InOrder, AsSet}
use Rattle.grammar.specs.declared.part.Relation.TheVariants.{Share, Coordinate, AsMany, NoMore, FewerBefore}
use Rattle.grammar.specs.declared.part.Selection.{Selection}
use Rattle.items.specs.declared.item.Item.{Item}
use Rattle.items.specs.declared.item.Item.TheVariants.{Nothing, Atom, Event, Both, Either, Repeat, Root, Pick, Relate, AtMost, Unknown}

-- a pick's argument is 256 x root + type
abbrev pub selection : ℕ → Selection
selection a = record { root = a / 256; event = a % 256 }

-- the item of a kind and an argument
abbrev pub item_of : ℕ → ℕ → Item
item_of k a =
    if k == 0 then Nothing
    else if k == 1 then Atom a
    else if k == 2 then Event a
    else if k == 3 then Both InOrder
    else if k == 4 then Both AsSet
    else if k == 5 then Either
    else if k == 6 then Repeat InOrder (a % 256) (a / 256)
    else if k == 7 then Repeat AsSet (a % 256) (a / 256)
    else if k == 8 then Root a
    else if k == 9 then Pick (selection a)
    else if k == 10 then Relate Share
    else if k == 11 then Relate Coordinate
    else if k == 12 then Relate AsMany
    else if k == 13 then Relate NoMore
    else if k == 14 then AtMost a
    else if k == 15 then Relate FewerBefore
    else Unknown

-- the kind and the argument that write an item
abbrev pub kind_of : Item → ℕ
kind_of Nothing = 0
kind_of (Atom t) = 1
kind_of (Event t) = 2
kind_of (Both InOrder) = 3
kind_of (Both AsSet) = 4
kind_of Either = 5
kind_of (Repeat InOrder a b) = 6
kind_of (Repeat AsSet a b) = 7
kind_of (Root t) = 8
kind_of (Pick x) = 9
kind_of (Relate Share) = 10
kind_of (Relate Coordinate) = 11
kind_of (Relate AsMany) = 12
kind_of (Relate NoMore) = 13
kind_of (AtMost n) = 14
kind_of (Relate FewerBefore) = 15
kind_of Unknown = 16

abbrev pub argument_of : Item → ℕ
argument_of Nothing = 0
argument_of (Atom t) = t
argument_of (Event t) = t
argument_of (Both o) = 0
argument_of Either = 0
argument_of (Repeat o a b) = a + 256 * b
argument_of (Root t) = t
argument_of (Pick x) = 256 * x.root + x.event
argument_of (Relate r) = 0
argument_of (AtMost n) = n
argument_of Unknown = 0

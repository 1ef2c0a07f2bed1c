-- How a schema is written as a table: its items in postfix order, and their bytes. Assumes nothing.
use Rattle.std.specs.Prelude.{ℕ, ◌/◌, ◌%◌, List, [], ◌∷◌, ◌++◌, length}
use Rattle.grammar.specs.Pattern.{Pattern, nothing, atom, event, both, either, repeat}
use Rattle.grammar.specs.Schema.{Rooted, Operation, relate, at_most, Schema}
use Rattle.items.specs.Items.{kind_of, argument_of}
use Rattle.items.specs.declared.item.Item.{Item}
use Rattle.items.specs.declared.item.Item.TheVariants.{Nothing, Atom, Event, Both, Either, Repeat, Root, Pick, Relate, AtMost}

abbrev pub written : Pattern → List Item
written nothing = Nothing ∷ []
written (atom t) = Atom t ∷ []
written (event t p) = written p ++ (Event t ∷ [])
written (both o p q) = written p ++ (written q ++ (Both o ∷ []))
written (either p q) = written p ++ (written q ++ (Either ∷ []))
written (repeat o a b p) = written p ++ (Repeat o a b ∷ [])

abbrev pub roots_written : List Rooted → List Item
roots_written [] = []
roots_written (r ∷ rs) = written r.pattern ++ (Root r.event ∷ roots_written rs)

abbrev pub operation_written : Operation → List Item
operation_written (relate r x y) = Pick x ∷ (Pick y ∷ (Relate r ∷ []))
operation_written (at_most n x) = Pick x ∷ (AtMost n ∷ [])

abbrev pub operations_written : List Operation → List Item
operations_written [] = []
operations_written (o ∷ os) = operation_written o ++ operations_written os

abbrev pub items_of : Schema → List Item
items_of x = roots_written x.roots ++ operations_written x.operations

abbrev pub kinds : List Item → List ℕ
kinds [] = []
kinds (x ∷ xs) = kind_of x ∷ kinds xs

-- 16 bits each, low byte first
abbrev pub arguments : List Item → List ℕ
arguments [] = []
arguments (x ∷ xs) = argument_of x % 256 ∷ (argument_of x / 256 ∷ arguments xs)

-- N = n, R = r, the kinds, the arguments
abbrev pub coded : ℕ → ℕ → List Item → List ℕ
coded n r xs = n % 256 ∷ (n / 256 ∷ (r % 256 ∷ (r / 256 ∷ (kinds xs ++ arguments xs))))

-- the table of a schema
unfoldable pub writing : Schema → List ℕ
writing x = coded (length (items_of x)) (length x.roots) (items_of x)

-- Where the items of a table stand among its bytes. Assumes nothing.
use Rattle.std.specs.Prelude.{ℕ, ◌+◌, ◌*◌, List, slice_index}
use Rattle.items.specs.Items.{item_of}
use Rattle.items.specs.declared.item.Item.{Item}

-- 16 bits at place i, low byte first
abbrev pub word : List ℕ → ℕ → ℕ
word b i = slice_index b i + 256 * slice_index b (i + 1)

abbrev pub item_count : List ℕ → ℕ
item_count b = word b 0

abbrev pub root_count : List ℕ → ℕ
root_count b = word b 2

abbrev pub kind_at : List ℕ → ℕ → ℕ
kind_at b i = slice_index b (4 + i)

abbrev pub argument_at : List ℕ → ℕ → ℕ
argument_at b i = word b (4 + item_count b + 2 * i)

-- item i of the table
unfoldable pub item_at : List ℕ → ℕ → Item
item_at b i = item_of (kind_at b i) (argument_at b i)

use Rattle.std.proofs.Common.{rules, sym}
use Rattle.schema.specs.Bytes.{item_at}
use Rattle.schema.proofs.table.Table.item.Goals as goal

pub returns : goal.returns
unfolding item_at
returns c = record { item = search rules; sized = rw (sym c.self.view_is) c.self.invariant }

use Rattle.std.proofs.Common.{ap, arith}
use Rattle.schema.specs.Bytes.{item_count}
use Rattle.schema.proofs.Carried.{checked_sound}
use Rattle.schema.proofs.checked.Checked.item.Goals as goal

pub item-requires : goal.item-requires
item-requires c = omega (arith, ap item_count c.sized.ensures, (checked_sound c.args.self.now).all, c.if-i-len.true, c.len.ensures)

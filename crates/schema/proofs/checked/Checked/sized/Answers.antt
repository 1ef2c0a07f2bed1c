use Rattle.std.proofs.Common.{sym, subst}
use Rattle.schema.specs.Progress.{Sized}
use Rattle.schema.proofs.Carried.{checked_sound}
use Rattle.schema.proofs.checked.Checked.sized.Goals as goal

pub of-requires : goal.of-requires
of-requires c = subst Sized (sym c.table.ensures) (checked_sound c.args.self.now).sized

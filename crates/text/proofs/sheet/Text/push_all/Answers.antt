use Rattle.std.proofs.Common.{rules}
use Rattle.text.proofs.Kept.{some_more}
use Rattle.text.proofs.sheet.Text.push_all.Goals as goal

pub returns-clause-pushed : goal.returns-clause-pushed
returns-clause-pushed c = rw (← c.self.view_is) (some_more c.self.inside.len c.min-fits.result _ c.self.inside.bytes c.args.more.now c.copy_from_slice.new.self (search rules) (search rules) (search rules) (search rules))

use Rattle.std.proofs.Common.{sym, ap, ◌∙◌}
use Rattle.schema.specs.Bytes.{root_count}
use Rattle.schema.proofs.Carried.{checked_sound}
use Rattle.schema.proofs.checked.Checked.roots.Goals as goal

pub returns : goal.returns
returns c = c.roots.ensures ∙ (ap root_count c.sized.ensures ∙ sym (checked_sound c.args.self.now).roots)

use Rattle.std.proofs.Common.{rules, ◌≡◌, get_or, ap, ◌∙◌}
use Rattle.schema.specs.Plans.{no_root}
use Rattle.schema.specs.declared.plan.Plan.{Plan}
use Rattle.schema.proofs.Carried.{checked_sound}
use Rattle.schema.proofs.checked.Checked.root.Goals as goal

pub returns : goal.returns
returns c =
    let e : c.unwrap_or_default.result ≡ get_or c.args.self.now.plan.roots c.args.k no_root = search rules in
    e ∙ ap (λ (p : Plan). get_or p.roots c.args.k no_root) (checked_sound c.args.self.now).plan

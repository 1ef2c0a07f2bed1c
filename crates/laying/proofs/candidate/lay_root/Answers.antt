use Rattle.std.proofs.Common.{◌-◌, Some, refl, subst, rules}
use Rattle.rows.specs.Row.{value}
use Rattle.laying.specs.Layable.{longest, choice_at}
use Rattle.laying.specs.Lays.{LaysTop}
use Rattle.laying.proofs.Laws.{laid_node}
use Rattle.laying.proofs.Roots.{one_more_root}
use Rattle.laying.proofs.candidate.lay_root.Goals as goal

pub returns : goal.returns
returns c =
    let h = laid_node c.push.ensures.pushed c.push.ensures.top
    (subst (λ k. LaysTop (Some c.args.laid.now.len) (choice_at c.args.schema.now (k - 1) c.args.number) (longest c.args.schema.now (k - 1)) c.push.new.self c.lay_pattern.new.laid (value c.lay_pattern.result)) c.from.ensures c.lay_pattern.ensures) in
    record {
      lays = one_more_root _ c.args.laid.now _ c.lay_pattern.new.laid (record { len = refl; events = refl; roots = refl; starts = refl; room = search rules }) h.lays;
      roots = h.lays.roots;
      length = h.length;
    }

use Rattle.std.proofs.Common.{refl, ap, ◌∙◌, take, ◌-◌, rules, arith}
use borrow.Rule.Slice.PartMut.{put_mid}
use Rattle.rows.specs.Row.{value}
use Rattle.laying.proofs.Laws.{preceding_part}
use Rattle.laying.proofs.laid.Laid.order.Goals as goal
use Rattle.laying.proofs.laid.Laid.order.Goals.{in-InOrder, in-AsSet}

pub returns-clause-ordered : goal.returns-clause-ordered
returns-clause-ordered c = elim c.match-order.branch [
  | in-InOrder w ↦ rw (w.in-InOrder.is, w.self-is) (record {
    len = refl;
    events = ap (λ es. take c.args.self.now.len (put_mid w.min-from.result (c.args.to - w.min-from.result) c.args.self.now.events es)) w.precede.ensures
        ∙ preceding_part (value c.args.earlier) (value c.args.later) w.min-from.result c.args.to c.args.self.now.len c.args.self.now.events (omega (arith, w.min-from.ensures)) (search rules) (λ a h. let b = c.requires.between a h in (omega (arith, w.min-from.ensures, b.0), b.1));
    roots = refl;
    starts = refl;
  })
  | in-AsSet w ↦ rw (w.in-AsSet.is, w.self-is) (record { len = refl; events = refl; roots = refl; starts = refl })
]

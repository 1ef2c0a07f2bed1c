use Rattle.std.proofs.Common.{None, sym, ◌∙◌, arith}
use Rattle.rows.specs.Row.{value, no_row}
use Rattle.laying.proofs.Laws.{preceding_more, preceding_yes, preceding_not}
use Rattle.laying.proofs.laid.Laid.precede.Goals as goal
use Rattle.laying.proofs.laid.Laid.precede.Goals.{then-has, else-has}

pub loop-i-preserved : goal.loop-i-preserved
loop-i-preserved c =
    let x = value c.args.earlier in
    let y = value c.args.later in
    let more = preceding_more x y c.args.from c.loop-i.i c.loop-i.events c.if-has.events (record { event = 0; around = None; precedes = no_row }) (omega (arith, c.loop-i-test.true, c.loop-i.auto.events)) in
    elim c.if-has.branch [
      | then-has w ↦ more _ w.events-is (preceding_yes x y _ _ _ (sym c.has.ensures ∙ w.if-has.true) w.bitor_assign.ensures.after) ∙ c.loop-i.invariant
      | else-has w ↦ more _ w.events-is (sym (preceding_not x y _ _ (sym c.has.ensures ∙ w.if-has.false))) ∙ c.loop-i.invariant
    ]

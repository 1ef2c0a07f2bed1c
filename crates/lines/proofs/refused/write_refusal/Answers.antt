use Rattle.std.proofs.Common.{arith}
use Rattle.std.proofs.lemmas.Result.{on_ok_weaker}
use Rattle.questions.specs.Numbers.{refusal_line}
use Rattle.lines.specs.Card.{line_end}
use Rattle.lines.proofs.Short.{short_refusal}
use Rattle.lines.proofs.refused.write_refusal.Goals as goal

pub returns-clause-written : goal.returns-clause-written
returns-clause-written g c =
    on_ok_weaker c.add.result (g.met.P.Page.adds_append _ _ _ (refusal_line c.args.refusal) line_end c.in_ok-add_refusal.ensures) c.add.ensures

pub returns-clause-short : goal.returns-clause-short
returns-clause-short g c = on_ok_weaker c.add.result (λ _. short_refusal c.args.refusal (omega (arith, c.number-question.ensures)) (omega (arith, c.item_shown-item.ensures))) c.add.ensures

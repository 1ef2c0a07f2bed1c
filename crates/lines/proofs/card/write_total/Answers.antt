use Rattle.std.proofs.Common.{codes, decimal, arith}
use Rattle.std.proofs.lemmas.Result.{on_ok_weaker}
use Rattle.lines.specs.Card.{line_end}
use Rattle.lines.proofs.Short.{short_total}
use Rattle.lines.proofs.card.write_total.Goals as goal

pub returns-clause-written : goal.returns-clause-written
returns-clause-written g c =
    let then = g.met.P.Page.adds_append in
    on_ok_weaker c.add-2.result
    (λ last. then _ _ _ (codes "total ") _ c.in_ok-add.ensures (then _ _ _ (decimal c.args.total) line_end (rw c.from.ensures at c.in_ok-add_number.ensures) last))
    c.add-2.ensures

pub returns-clause-short : goal.returns-clause-short
returns-clause-short g c = on_ok_weaker c.add-2.result (λ _. short_total c.args.total (omega arith)) c.add-2.ensures

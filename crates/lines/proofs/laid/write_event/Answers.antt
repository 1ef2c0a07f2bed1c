use Rattle.std.proofs.Common.{codes, decimal, arith}
use Rattle.std.proofs.lemmas.Result.{on_ok_weaker}
use Rattle.rows.specs.Row.{value}
use Rattle.lines.specs.Card.{line_end}
use Rattle.lines.specs.Laid.{around_word}
use Rattle.lines.proofs.Short.{short_event}
use Rattle.lines.proofs.laid.write_event.Goals as goal

pub returns-clause-written : goal.returns-clause-written
returns-clause-written g c =
    let e = c.args.event in
    let then = g.met.P.Page.adds_append in
    on_ok_weaker c.add-3.result
    (λ last.
    then _ _ _ (decimal e.event) _ (rw c.from.ensures at c.in_ok-add_number.ensures)
    (then _ _ _ (codes " ") _ c.in_ok-add.ensures
    (then _ _ _ (around_word e.around) _ c.in_ok-write_around.ensures.written
    (then _ _ _ (codes " ") _ c.in_ok-add-2.ensures
    (then _ _ _ (decimal (value e.precedes)) line_end (rw c.number.ensures at c.in_ok-add_number-2.ensures) last)))))
    c.add-3.ensures

pub returns-clause-short : goal.returns-clause-short
returns-clause-short g c =
    let e = c.args.event in
    on_ok_weaker c.add-3.result (λ _. short_event e.event e.around (value e.precedes) (omega arith) c.in_ok-write_around.ensures.short (omega (arith, c.number.ensures))) c.add-3.ensures

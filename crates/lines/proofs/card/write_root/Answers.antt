use Rattle.std.proofs.Common.{codes, decimal, arith}
use Rattle.std.proofs.lemmas.Result.{on_ok_weaker}
use Rattle.lines.specs.Card.{line_end}
use Rattle.lines.proofs.Entries.{entry_some}
use Rattle.lines.proofs.Short.{short_root}
use Rattle.lines.proofs.card.write_root.Goals as goal

pub returns-clause-written : goal.returns-clause-written
returns-clause-written g c =
    let r = c.args.root in
    let then = g.met.P.Page.adds_append in
    rw (entry_some r c.if-root-eq0.false)
    (on_ok_weaker c.add-4.result
    (λ last.
    then _ _ _ (codes "root ") _ c.in_ok-add.ensures
    (then _ _ _ (decimal r.event) _ (rw c.from.ensures at c.in_ok-add_number.ensures)
    (then _ _ _ (codes " ") _ c.in_ok-add-2.ensures
    (then _ _ _ (decimal r.count) _ (rw c.from-2.ensures at c.in_ok-add_number-2.ensures)
    (then _ _ _ (codes " ") _ c.in_ok-add-3.ensures
    (then _ _ _ (decimal r.length) line_end (rw c.from-3.ensures at c.in_ok-add_number-3.ensures) last))))))
    c.add-4.ensures)

pub returns-clause-short : goal.returns-clause-short
returns-clause-short g c =
    let r = c.args.root in
    rw (entry_some r c.if-root-eq0.false) (on_ok_weaker c.add-4.result (λ _. short_root r.event r.count r.length (omega arith) (omega arith) (omega arith)) c.add-4.ensures)

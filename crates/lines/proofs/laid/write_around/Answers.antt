use Rattle.std.proofs.Common.{◌≤◌, length, sym, subst, arith}
use Rattle.std.proofs.lemmas.Result.{on_ok_weaker}
use Rattle.lines.specs.Laid.{around_word}
use Rattle.lines.proofs.Short.{short_around}
use Rattle.lines.proofs.laid.write_around.Goals as goal

pub returns-in-Some-clause-written : goal.returns-in-Some-clause-written
returns-in-Some-clause-written g c = rw (c.in-Some.is) (rw c.from.ensures at c.add_number.ensures)

pub returns-in-Some-clause-short : goal.returns-in-Some-clause-short
returns-in-Some-clause-short g c = on_ok_weaker c.add_number.result (λ _. subst (λ o. length (around_word o) ≤ 3) (sym c.in-Some.is) (short_around c.in-Some.place (omega arith))) c.add_number.ensures

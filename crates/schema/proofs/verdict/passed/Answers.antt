use Rattle.std.proofs.Common.{sym, ◌∙◌}
use Rattle.std.proofs.lemmas.Result.{err_from_is_err_and}
use Rattle.schema.proofs.Carried.{whole_yes, whole_no}
use Rattle.schema.proofs.verdict.passed.Goals as goal

pub returns-in_err-ask_whole-clause-err : goal.returns-in_err-ask_whole-clause-err
returns-in_err-ask_whole-clause-err c =
    let x = err_from_is_err_and c.from_residual-in_err-ask_whole.result c.from_residual-in_err-ask_whole.ensures.1 in
    let v = whole_no c.args.bytes.now c.args.scope c.in_ok-progress.progress _ c.in_ok-progress.ensures.ok (sym c.ask_whole.ensures ∙ c.in_err-ask_whole.was) in
    rw (x.1, x.2) v

pub returns-clause-ok : goal.returns-clause-ok
returns-clause-ok c = whole_yes c.args.bytes.now c.args.scope c.in_ok-progress.progress c.in_ok-progress.ensures.ok (sym c.ask_whole.ensures ∙ c.in_ok-ask_whole.was)

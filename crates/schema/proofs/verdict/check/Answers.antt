use Rattle.std.proofs.Common.{ℕ, List, get_or, sym, ◌∙◌, arith, w8, Fits}
use Rattle.std.proofs.lemmas.Result.{err_from_is_err_and}
use Rattle.schema.proofs.Verdicts.{planned_no, planned_yes}
use Rattle.schema.proofs.Coding.{Bytes}
use Rattle.schema.proofs.Tables.{tables_are_schemas}
use Rattle.schema.proofs.verdict.check.Goals as goal

bytes : (b : List ℕ) → ((i : ℕ) → Fits w8 (get_or b i 0)) → Bytes b
bytes b f i = omega (arith, f i)

pub returns-in_err-progress : goal.returns-in_err-progress
returns-in_err-progress c =
    let x = err_from_is_err_and c.from_residual.result c.from_residual.ensures.1 in
    let v = c.in_err-progress.ensures.err in
    let p = planned_no c.args.table.now c.args.scope c.args.plan.now _ v in
    rw (x.1, x.2) (record { answer = sym v; plan = p; schema = tables_are_schemas c.args.table.now c.args.scope (bytes c.args.table.now c.type_inv.table) _ (sym v) c.args.plan.now _ p })

pub returns : goal.returns
returns c =
    let g = c.in_ok-progress.progress in
    let r = c.in_ok-progress.ensures.ok in
    let a = sym r.accepted in
    let p = r.plan ∙ sym (planned_yes c.args.table.now c.args.scope g.total c.args.plan.now r.accepted) in
    record { answer = a; plan = p; schema = tables_are_schemas c.args.table.now c.args.scope (bytes c.args.table.now c.type_inv.table) _ a c.args.plan.now _ p }

use Rattle.std.proofs.Common.{◌≤◌, length, get_or, take, ap, arith}
use Rattle.questions.specs.Limits.{most_bytes}
use Rattle.schema.proofs.Verdicts.{opened}
use Rattle.schema.proofs.Carried.{carried}
use Rattle.schema.proofs.checked.Checked.of.Goals as goal

pub invariant_of-result : goal.invariant_of-result
invariant_of-result c =
    let b = c.args.table.now in
    let p = c.in_ok-scope.ensures.ok in
    let o = opened b c.args.scope p.opens in
    let few : length b ≤ most_bytes = omega (arith, o.bytes, o.items_to) in
    let e = c.bytes_of.ensures few in
    let q = carried b (take (length b) c.bytes_of.result) c.args.scope c.in_ok-scope.field-0 e p in
    record {
      short = few;
      octets = λ i. (let f = c.type_inv.table i in omega (arith, ap (λ l. get_or l i 0) e));
      accepted = q.0;
      planned = q.1;
      all = q.2;
      measured = q.3;
    }

use Rattle.std.proofs.Common.{◌≡◌, ◌≤◌, ◌++◌, length, sym, ◌∙◌, arith, length-append, rules}
use Rattle.std.proofs.lemmas.Result.{on_ok_weaker}
use Rattle.questions.specs.Limits.{most_roots}
use Rattle.schema.proofs.Verdicts.{planned_yes}
use Rattle.lines.specs.Card.{entry_lines, total_line, card}
use Rattle.lines.proofs.Entries.{card_planned, card_no}
use Rattle.lines.proofs.card.write_card.Goals as goal

pub returns-in_ok-write_roots-in-Ok : goal.returns-in_ok-write_roots-in-Ok
returns-in_ok-write_roots-in-Ok g c =
    let b = c.args.table.now in
    let s = c.args.scope in
    let n = c.in-Ok.total in
    let lines = entry_lines c.check.new.plan.roots in
    let v = sym c.check.ensures.answer ∙ c.in-Ok.is in
    let e : card b s ≡ lines ++ total_line n = card_planned b s n c.check.new.plan v (c.check.ensures.plan ∙ planned_yes b s n c.empty-plan.result v) in
    let few : length c.check.new.plan.roots ≤ most_roots = search rules in
    record {
      written = rw e (on_ok_weaker c.write_total.result (g.met.P.Page.adds_append _ _ _ lines (total_line n) c.in_ok-write_roots-in-Ok.ensures.written) c.write_total.ensures.written);
      short = on_ok_weaker c.write_total.result (λ last. rw e (omega (arith, length-append lines (total_line n), c.in_ok-write_roots-in-Ok.ensures.short, last))) c.write_total.ensures.short;
    }

pub returns-in-Err : goal.returns-in-Err
returns-in-Err g c =
    let e = card_no c.args.table.now c.args.scope c.in-Err.refusal (sym c.check.ensures.answer ∙ c.in-Err.is) in
    record {
      written = rw e c.write_refusal.ensures.written;
      short = on_ok_weaker c.write_refusal.result (λ last. rw e (omega (arith, last))) c.write_refusal.ensures.short;
    }

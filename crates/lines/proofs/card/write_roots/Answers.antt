use Rattle.std.proofs.Common.{length, get_or, take, ap, arith, length-append}
use Rattle.std.proofs.lemmas.List.{take_all}
use Rattle.schema.specs.Plans.{no_root}
use Rattle.lines.specs.Card.{entry_line, entry_lines}
use Rattle.lines.proofs.Entries.{entry_lines_more}
use Rattle.lines.proofs.card.write_roots.Goals as goal

pub loop-root-preserved : goal.loop-root-preserved
loop-root-preserved g c =
    let done = entry_lines (take c.loop-root.root-index c.args.roots.now) in
    let line = entry_line (get_or c.args.roots.now c.loop-root.root-index no_root) in
    let e = entry_lines_more c.args.roots.now c.loop-root.root-index no_root (omega (arith, c.loop-root-test.true)) in (
      rw e (g.met.P.Page.adds_append _ _ _ done line c.loop-root.invariant.0 c.in_ok-write_root.ensures.written),
      omega (arith, ap length e, length-append done line, c.loop-root.invariant.1, c.in_ok-write_root.ensures.short),
    )

pub returns : goal.returns
returns g c =
    let e = take_all c.loop-root.root-index c.args.roots.now (omega (arith, c.loop-root-test.false)) in
    record {
      written = rw e at c.loop-root.invariant.0;
      short = omega (arith, c.loop-root.invariant.1, ap (λ l. length (entry_lines l)) e);
    }

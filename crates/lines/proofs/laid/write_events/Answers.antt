use Rattle.std.proofs.Common.{◌<◌, length, get_or, None, ap, ◌∙◌, arith, length-append}
use Rattle.std.proofs.lemmas.List.{get_or_default}
use Rattle.rows.specs.Row.{value, no_row}
use Rattle.laying.specs.Lays.{laid_events, shown}
use Rattle.lines.specs.Laid.{event_line, first_lines}
use Rattle.lines.proofs.Events.{shown_more, shown_all}
use Rattle.lines.proofs.laid.write_events.Goals as goal

pub loop-event-init : goal.loop-event-init
loop-event-init g c = record { written = g.met.P.Page.adds_nothing c.args.page.now; short = omega arith }

pub loop-event-preserved : goal.loop-event-preserved
loop-event-preserved g c =
    let l = c.args.laid.now in
    let i = c.loop-event.event-index in
    let items = c.events-event-items.result.now in
    let x = get_or items i (record { event = 0; around = None; precedes = no_row }) in
    let done = first_lines (shown l) i in
    let line = event_line x.event x.around (value x.precedes) in
    let h = c.events-event-items.ensures.events in
    let lt : i < length (laid_events l) = omega (arith, ap length h, c.loop-event-test.true) in
    let e = shown_more l i x lt (get_or_default items i _ x c.loop-event-test.true ∙ ap (λ es. get_or es i x) h) in
    record {
      written = rw e (g.met.P.Page.adds_append _ _ _ done line c.loop-event.invariant.written c.in_ok-write_event.ensures.written);
      short = omega (arith, ap length e, length-append done line, c.loop-event.invariant.short, c.in_ok-write_event.ensures.short);
    }

pub returns : goal.returns
returns g c =
    let l = c.args.laid.now in
    let all = ap length c.events-event-items.ensures.events in
    let e = shown_all l c.loop-event.event-index (omega (arith, all, c.loop-event-test.false, c.loop-event.auto.event-index-end)) in
    record {
      written = rw e at c.loop-event.invariant.written;
      short = omega (arith, c.loop-event.invariant.short, ap length e, all, c.loop-event.auto.event-index-end, c.events-event-items.ensures.few);
    }

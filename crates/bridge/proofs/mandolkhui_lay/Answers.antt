use Rattle.std.proofs.Common.{◌-◌, ◌^◌, refl, ap, ◌∙◌, ap₂, rules, arith}
use Rattle.std.proofs.lemmas.Iterator.{YieldsList-from_range, YieldsList-from_map}
use Rattle.std.proofs.lemmas.Iterator.Adapters.{fits_from_length, at_most_from_yields_List}
use Rattle.std.proofs.lemmas.Iterator.Consumers.{sum_from_yields_List}
use Rattle.std.proofs.lemmas.List.FromFn.{length-range_with_len}
use Rattle.schema.specs.Told.{table_of}
use Rattle.bridge.specs.Laid.{events_at, events_from, told_events}
use Rattle.bridge.proofs.mandolkhui_lay.Goals as goal

-- fewer than 2 ^ 32 candidates, of 64 events at most
pub sum-requires-clause-fits : goal.sum-requires-clause-fits
sum-requires-clause-fits c =
    let few = length-range_with_len c.args.first (c.args.last - c.args.first) in
    fits_from_length _ _ (2 ^ 32) 18446744073709551616 (at_most_from_yields_List (YieldsList-from_range _ _ (c.args.last - c.args.first) c.map.ensures.source refl) (omega (arith, few)))
    c.map.ensures.closure (omega arith) (λ x r q k. search rules)

pub returns : goal.returns
returns c =
    let h = c.in-Ok.ensures in
    let n = c.args.last - c.args.first in
    sum_from_yields_List c.map.result c.sum.result c.sum.ensures.ran
    (YieldsList-from_map _ (events_at (table_of c.in-Ok.schema) c.in-Ok.schema.scope) (YieldsList-from_range _ _ n c.map.ensures.source refl) c.map.ensures.closure
    (λ x r q k. (search rules, search rules)))
    ∙ (ap₂ (λ b s. events_from b s c.args.first n) h.table h.scope ∙ ap (λ v. told_events v (events_from c.args.table.now c.args.scope c.args.first n)) c.in-Ok.ensures.answer)

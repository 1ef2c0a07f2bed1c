use Rattle.std.proofs.Common.{length, ap, arith}
use Rattle.text.proofs.Kept.{kept_fits, kept_whole}
use Rattle.lines.specs.Card.{card}
use Rattle.lines.proofs.card.card_text.Goals as goal

pub returns-clause-says : goal.returns-clause-says
returns-clause-says c = kept_whole _ _ (card c.args.table.now c.args.scope) c.new-page.ensures c.in-Ok.ensures.written c.in-Ok.ensures.short

pub returns-clause-within : goal.returns-clause-within
returns-clause-within c = kept_fits _ _ (c.in-Ok.ensures.written (omega (arith, ap length c.new-page.ensures)))

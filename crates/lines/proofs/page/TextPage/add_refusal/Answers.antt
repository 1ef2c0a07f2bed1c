use Rattle.std.proofs.Common.{codes, decimal, ◌∙◌}
use Rattle.text.proofs.Kept.{kept_then}
use Rattle.questions.specs.Numbers.{number_of, item_shown}
use Rattle.lines.proofs.page.TextPage.add_refusal.Goals as goal

pub returns : goal.returns
returns c =
    let r = c.args.refusal in
    λ fits.
    kept_then _ _ _ (codes "no ") _ c.push_all.ensures.pushed
    (kept_then _ _ _ (decimal (number_of r.question)) _ (rw (c.from.ensures ∙ c.number.ensures) at c.push_decimal.ensures.pushed)
    (kept_then _ _ _ (codes " ") (decimal (item_shown r.item)) c.push.ensures.pushed (rw (c.from-2.ensures ∙ c.item_shown.ensures) at c.push_decimal-2.ensures.pushed)))

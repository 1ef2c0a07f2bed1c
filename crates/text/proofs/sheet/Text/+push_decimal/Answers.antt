use Rattle.std.proofs.Common.{◌≡◌, ◌+◌, ◌/◌, ◌%◌, [], ◌∷◌, ◌++◌, decimal, sym, ap, ◌∙◌, ap₂, arith}
use Rattle.std.proofs.lemmas.Fmt.{decimal_digit, decimal_step}
use Rattle.text.specs.Room.{kept}
use Rattle.text.proofs.Kept.{kept_then}
use Rattle.text.proofs.sheet.Text.+push_decimal.Goals as goal
use Rattle.text.proofs.sheet.Text.+push_decimal.Goals.{then-n-ge10, else-n-ge10}

pub returns-clause-pushed : goal.returns-clause-pushed
returns-clause-pushed t c = elim c.if-n-ge10.branch [
  | then-n-ge10 w ↦
      kept_then c.args.self.now c.if-n-ge10.self _ (decimal (c.args.n / 10)) ((48 + c.args.n % 10) ∷ []) (w.self-is ∙ w.push_decimal.ensures.pushed) c.push.ensures.pushed
      ∙ ap (λ l. kept (c.args.self.now ++ l)) (sym (decimal_step c.args.n w.if-n-ge10.true (omega arith)))
  | else-n-ge10 w ↦
      let e : c.args.n % 10 ≡ c.args.n = omega (arith, w.if-n-ge10.false) in
      c.push.ensures.pushed
      ∙ ap₂ (λ u l. kept (u ++ l)) w.self-is (ap (λ d. (48 + d) ∷ []) e ∙ sym (decimal_digit c.args.n w.if-n-ge10.false))
]

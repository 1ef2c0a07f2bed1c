use Rattle.std.proofs.Common.{◌≡◌, ℕ, ◌+◌, ◌<◌, ◌≤◌, List, length, get_or, drop, Some, Option, sym, ap, ◌∙◌, arith}
use Rattle.std.proofs.lemmas.List.{at_drop_more, at_drop_all}
use Rattle.std.proofs.lemmas.Bool.Decides.{nat_tests}
use Rattle.lines.specs.Argument.{most_digits, number_more, number_on, number_said}
use Rattle.lines.proofs.argument.number_said.Goals as goal

as_said : (ds : List ℕ) → 1 ≤ length ds → length ds ≤ most_digits → number_said ds ≡ number_on (Some 0) ds
unfolding number_said
as_said ds h k = grind (arith, nat_tests)

-- one digit more
one_more : (n i : ℕ) (ds : List ℕ) (o : Option ℕ) → i < length ds → number_on (Some n) (drop i ds) ≡ number_on (Some 0) ds → o ≡ number_more n (get_or ds i 0)
    → number_on o (drop (i + 1) ds) ≡ number_on (Some 0) ds
one_more n i ds o h e m = ap (λ p. number_on p (drop (i + 1) ds)) m ∙ (sym (at_drop_more (number_on (Some n)) ds i 0 h) ∙ e)

pub returns-then-is_empty : goal.returns-then-is_empty
unfolding number_said
returns-then-is_empty c = grind (arith, nat_tests)

pub returns-in_err-number : goal.returns-in_err-number
returns-in_err-number c =
    rw c.from_residual.ensures
    (one_more c.loop-digit.number c.loop-digit.digit-index c.args.argument.now _ c.loop-digit-test.true c.loop-digit.invariant c.in_err-number.ensures
    ∙ sym (as_said c.args.argument.now (omega arith) c.if-argument-gt-MOST_DIGITS.false))

pub loop-digit-preserved : goal.loop-digit-preserved
loop-digit-preserved c = one_more c.loop-digit.number c.loop-digit.digit-index c.args.argument.now _ c.loop-digit-test.true c.loop-digit.invariant c.in_ok-number.ensures

pub returns : goal.returns
returns c =
    sym (at_drop_all (number_on (Some c.loop-digit.number)) c.args.argument.now c.loop-digit.digit-index c.loop-digit-test.false)
    ∙ (c.loop-digit.invariant ∙ sym (as_said c.args.argument.now (grind (arith, nat_tests)) c.if-argument-gt-MOST_DIGITS.false))

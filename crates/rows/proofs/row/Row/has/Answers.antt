use Rattle.std.proofs.Common.{◌/◌, ◌%◌, ◌^◌, eqb, sym, ap, ◌∙◌, arith, pow_mono}
use native.Mathlib.Nat.{div-eq_of_lt}
use lib.Bits.{and_mask}
use Rattle.std.proofs.lemmas.Bool.{le-ltb}
use Rattle.rows.proofs.row.Row.has.Goals as goal

pub returns-then-place-lt-MOST_EVENTS : goal.returns-then-place-lt-MOST_EVENTS
returns-then-place-lt-MOST_EVENTS c = ap (λ n. eqb n 1) (and_mask (c.args.self.bits / 2 ^ c.args.place) 1)

pub returns-else-place-lt-MOST_EVENTS : goal.returns-else-place-lt-MOST_EVENTS
returns-else-place-lt-MOST_EVENTS c =
    le-ltb c.args.place 64 c.if-place-lt-MOST_EVENTS.false
    ∙ sym (ap (λ n. eqb (n % 2) 1) (div-eq_of_lt (omega (arith, pow_mono c.if-place-lt-MOST_EVENTS.false))))

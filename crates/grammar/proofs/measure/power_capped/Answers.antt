use Rattle.std.proofs.Common.{◌≡◌, ℕ, zero, suc, ◌+◌, ◌*◌, ◌^◌, refl, rules, arith}
use native.Mathlib.Nat.{pow-zero}
use Rattle.std.specs.List.{range_with_len, fold}
use Rattle.std.proofs.lemmas.Iterator.{YieldsList-from_range}
use Rattle.std.proofs.lemmas.Iterator.Consumers.{fold_from_yields_List}
use Rattle.grammar.specs.Measures.{count_capped}
use Rattle.grammar.proofs.Caps.{capped_power_more}
use Rattle.grammar.proofs.measure.power_capped.Goals as goal

-- n more factors
factors : (c n a k : ℕ) → fold (λ p i. count_capped (p * c)) (count_capped (c ^ k)) (range_with_len a n) ≡ count_capped (c ^ (k + n))
factors c zero a k = grind arith
factors c (suc n) a k = grind (arith, capped_power_more c k, factors c n (a + 1) (k + 1))

pub returns : goal.returns
returns c =
    let folded = fold_from_yields_List _ (λ p i. count_capped (p * c.args.c)) 1 c.fold.result c.fold.ensures.ran (YieldsList-from_range 0 c.args.k c.args.k refl (omega arith)) (λ p i r q k. (search rules, search rules)) in
    grind (arith, folded, factors c.args.c c.args.k 0 0, pow-zero c.args.c)

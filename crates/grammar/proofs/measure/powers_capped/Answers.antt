use Rattle.std.proofs.Common.{◌≡◌, ℕ, List, zero, suc, ◌+◌, ◌-◌, ◌*◌, ◌^◌, ◌≤◌, refl, ◌∙◌, rules, arith}
use Rattle.std.specs.List.{range_with_len, fold, scan, sum}
use Rattle.std.proofs.lemmas.Iterator.{YieldsList-from_range}
use Rattle.std.proofs.lemmas.Iterator.Consumers.{YieldsList-from_scan, sum_from_yields_List, fits_from_yields_list}
use Rattle.questions.specs.Limits.{most_candidates}
use Rattle.grammar.specs.Pattern.{powers}
use Rattle.grammar.specs.Measures.{count_capped}
use Rattle.grammar.proofs.Caps.{capped_power_more}
use Rattle.grammar.proofs.measure.powers_capped.Goals as goal

-- n capped powers, the first of them p
abbrev capped_from : ℕ → ℕ → ℕ → ℕ → List ℕ
capped_from c n a p = scan (λ q k. count_capped (q * c)) (λ q k. q) p (range_with_len a n)

-- added to s
added : (c n a s : ℕ) → count_capped (fold (λ x y. x + y) s (capped_from c n a (count_capped (c ^ a)))) ≡ count_capped (s + powers c n a)
added c zero a s = grind arith
added c (suc n) a s = grind (arith, capped_power_more c a, added c n (a + 1) (s + count_capped (c ^ a)))

total : (c n a p r : ℕ) → p ≡ count_capped (c ^ a) → r ≡ sum (capped_from c n a p) → count_capped r ≡ count_capped (powers c n a)
total c n a p r e h = rw h (rw e (added c n a 0 ∙ grind arith))

-- each is at most one past the limit
at_most : (c n a p s : ℕ) → p ≤ most_candidates + 1 → fold (λ x y. x + y) s (capped_from c n a p) ≤ s + n * (most_candidates + 1)
at_most c zero a p s h = omega arith
at_most c (suc n) a p s h = grind (arith, at_most c n (a + 1) (count_capped (p * c)) (s + p) (omega arith))

-- at most 256 of them
pub sum-sum-requires-clause-fits : goal.sum-sum-requires-clause-fits
sum-sum-requires-clause-fits c =
    let n = c.from-2.result + 1 - c.from.result in
    fits_from_yields_list c.scan.result 18446744073709551616
    (YieldsList-from_scan _ (λ q k. count_capped (q * c.args.c)) (λ q k. q) c.power_capped-first.result (YieldsList-from_range _ _ n c.scan.ensures.source refl) c.scan.ensures.state c.scan.ensures.closure
    (λ b x r q d k. (search rules, search rules, search rules)))
    (omega (arith, at_most c.args.c n c.from.result c.power_capped-first.result 0 (omega (arith, c.power_capped-first.ensures))))

pub returns : goal.returns
returns c =
    let n = c.from-2.result + 1 - c.from.result in
    let summed = sum_from_yields_List c.scan.result c.sum-sum.result c.sum-sum.ensures.ran
    (YieldsList-from_scan _ (λ q k. count_capped (q * c.args.c)) (λ q k. q) c.power_capped-first.result (YieldsList-from_range _ _ n c.scan.ensures.source refl) c.scan.ensures.state c.scan.ensures.closure
    (λ b x r q d k. (search rules, search rules, search rules))) in
    grind (arith, total c.args.c n c.from.result c.power_capped-first.result c.sum-sum.result (grind (arith, c.power_capped-first.ensures, c.from.ensures)) summed, c.count_capped.ensures, c.from.ensures, c.from-2.ensures)

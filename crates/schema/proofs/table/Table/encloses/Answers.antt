use Rattle.std.proofs.Common.{rules, tests, ◌≡◌, ℕ, zero, suc, ◌+◌, Bool, true, false, cond, ◌||◌, List, refl, ap, ◌∙◌, arith}
use Rattle.std.specs.List.{range_with_len, fold}
use Rattle.std.proofs.lemmas.Iterator.{YieldsList-from_range}
use Rattle.std.proofs.lemmas.Iterator.Consumers.{fold_from_yields_List}
use Rattle.schema.specs.Bytes.{item_count, item_at}
use Rattle.schema.specs.Questions.{encloses, enclosed}
use Rattle.schema.proofs.table.Table.encloses.Goals as goal

-- one more number is taken last
last_too : (p : ℕ → Bool) (f : Bool) (a n : ℕ) → fold (λ x i. p i || x) f (range_with_len a (suc n)) ≡ cond (p (a + n)) true (fold (λ x i. p i || x) f (range_with_len a n))
last_too p f a zero = ap (λ i. p i || f) {x = a} {y = a + 0} (omega arith) ∙ go f (p (a + 0))
  where
    go : (x y : Bool) → (y || x) ≡ cond y true x
    go x true = refl
    go x false = refl
last_too p f a (suc n) =
    last_too p (p a || f) (a + 1) n
    ∙ ap (λ i. cond (p i) true (fold (λ x j. p j || x) (p a || f) (range_with_len (a + 1) n))) {x = a + 1 + n} {y = a + suc n} (omega arith)

any_encloses : (b : List ℕ) (t n : ℕ) → fold (λ x i. encloses (item_at b i) t || x) false (range_with_len 0 n) ≡ enclosed b t n
any_encloses b t zero = refl
any_encloses b t (suc n) =
    last_too (λ i. encloses (item_at b i) t) false 0 n
    ∙ (ap (λ k. cond (encloses (item_at b k) t) true (fold (λ x i. encloses (item_at b i) t || x) false (range_with_len 0 n))) {x = 0 + n} {y = n} (omega arith)
    ∙ ap (cond (encloses (item_at b n) t) true) (any_encloses b t n))

pub returns : goal.returns
returns c =
    let b = c.args.self.now in
    fold_from_yields_List _ (λ x i. encloses (item_at b i) c.args.event || x) _ _ c.fold.ensures.ran (YieldsList-from_range 0 (item_count b) (item_count b) (ap (λ n. record { start = 0; end = n }) (omega (arith, c.items.ensures))) (omega arith)) (λ a x r q k. search (rules, tests))
    ∙ any_encloses b c.args.event (item_count b)

-- The choices of a repetition are its occurrences.
use Rattle.std.proofs.Common.{◌≡◌, ℕ, zero, suc, ◌≤◌, List, [], ◌∷◌, length, sym, refl, ap, subst}
use Rattle.grammar.specs.Pattern.{Pattern, repeat, most}
use Rattle.grammar.specs.declared.part.Order.{Order}
use Rattle.numbering.specs.Allows.{Allows, repeated, Occurs, none, one_more}
use Rattle.numbering.specs.Choice.{Choice, pair}
use Rattle.laying.specs.Promises.{occurring_all, EachAllowed, RepetitionsOccur}

-- k occurrences as a list
listed : (s : ℕ) (o : Order) (p : Pattern) (k : ℕ) (x : Choice) → Occurs s o p k x → (xs : List Choice) × (x ≡ occurring_all o xs) × (length xs ≡ k) × EachAllowed s p xs
listed s o p zero _ none = ([], refl, refl, tt)
listed s o p (suc k) _ (one_more {x = x} {y = y} a m) =
    let r = listed s o p k y m in (x ∷ r.0, ap (pair o x) r.1, ap suc r.2, (a, r.3))

occurs : (s : ℕ) (o : Order) (p : Pattern) (xs : List Choice) → EachAllowed s p xs → Occurs s o p (length xs) (occurring_all o xs)
occurs s o p [] h = none
occurs s o p (x ∷ xs) h = one_more h.0 (occurs s o p xs h.1)

pub repetitions : RepetitionsOccur
repetitions s o a b p x = (to x, λ r. subst (Allows s (repeat o a b p)) (sym r.1) (repeated r.2 r.3 (occurs s o p r.0 r.4)))
  where
    to : (x : Choice) → Allows s (repeat o a b p) x → (xs : List Choice) × (x ≡ occurring_all o xs) × (a ≤ length xs) × (length xs ≤ most s b) × EachAllowed s p xs
    to _ (repeated {k = k} {x = x} h l m) =
        let r = listed s o p k x m in (r.0, r.1, subst (λ n. a ≤ n) (sym r.2) h, subst (λ n. n ≤ most s b) (sym r.2) l, r.3)

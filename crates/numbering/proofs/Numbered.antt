-- Every pattern, and all roots together: numbers and choices correspond one to one.
use Rattle.std.proofs.Common.{◌≡◌, ℕ, zero, suc, ◌+◌, ◌-◌, ◌^◌, ◌<◌, ◌≤◌, ◌⊎◌, List, [], ◌∷◌, refl, ap, inl, inr, add-zero, arith}
use native.Mathlib.Nat.{pow-zero, pow-succ'}
use Rattle.std.proofs.lemmas.Bool.{cases_lt, cases_eq}
use Rattle.grammar.specs.Pattern.{Pattern, nothing, atom, event, both, either, repeat, most, powers, span, count}
use Rattle.grammar.specs.Schema.{Rooted}
use Rattle.grammar.specs.declared.part.Order.{Order}
use Rattle.numbering.specs.Choice.{Choice, empty, node, pair, took, earlier, later}
use Rattle.numbering.specs.Allows.{Allows, no_event, one_event, inside, two, the_earlier, the_later, repeated, Occurs, none, one_more, root_pattern, Chosen, no_root, next_root}
use Rattle.numbering.specs.Numbers.{times, occurrences, choice_of, occurring, times_number, number_of, first, number_of_choices}
use Rattle.numbering.specs.Promises.{OneToOne, PatternsNumbered, RootsNumbered}
use Rattle.numbering.proofs.OneToOne.{Image, image, Joined, joined, none_numbered, single_numbered, same_numbered, renumbered, image_numbered, joined_numbered, sum_numbered}

-- a pattern's choices are numbered
abbrev Numbered : ℕ → Pattern → Type 0
Numbered s p = OneToOne (Allows s p) (count s p) (choice_of s p) (number_of s p)

-- What is allowed, in the terms of the numberings.

of_nothing : (s : ℕ) (x : Choice) → Allows s nothing x → empty ≡ x
of_nothing s _ no_event = refl

of_atom : (s t : ℕ) (x : Choice) → Allows s (atom t) x → node t empty ≡ x
of_atom s t _ one_event = refl

of_event : (s t : ℕ) (p : Pattern) (x : Choice) → Allows s (event t p) x → Image (Allows s p) (node t) x
of_event s t p _ (inside a) = image a

to_event : (s t : ℕ) (p : Pattern) (x : Choice) → Image (Allows s p) (node t) x → Allows s (event t p) x
to_event s t p _ (image a) = inside a

of_both : (s : ℕ) (o : Order) (p q : Pattern) (x : Choice) → Allows s (both o p q) x → Joined (Allows s p) (Allows s q) (pair o) x
of_both s o p q _ (two a b) = joined a b

to_both : (s : ℕ) (o : Order) (p q : Pattern) (x : Choice) → Joined (Allows s p) (Allows s q) (pair o) x → Allows s (both o p q) x
to_both s o p q _ (joined a b) = two a b

of_either : (s : ℕ) (p q : Pattern) (x : Choice) → Allows s (either p q) x → Image (Allows s p) (took earlier) x ⊎ Image (Allows s q) (took later) x
of_either s p q _ (the_earlier a) = inl (image a)
of_either s p q _ (the_later a) = inr (image a)

to_either : (s : ℕ) (p q : Pattern) (x : Choice) → Image (Allows s p) (took earlier) x ⊎ Image (Allows s q) (took later) x → Allows s (either p q) x
to_either s p q _ (inl (image a)) = the_earlier a
to_either s p q _ (inr (image a)) = the_later a

-- Alternatives.

either_numbered : (s : ℕ) (p q : Pattern) → Numbered s p → Numbered s q → Numbered s (either p q)
either_numbered s p q a b =
    same_numbered (to_either s p q) (of_either s p q)
    (sum_numbered (choice_of s (either p q)) (number_of s (either p q)) (λ n h. grind arith) (λ n h. grind arith) in_earlier in_later
    (image_numbered (took earlier) (λ x. number_of s p (first x)) (λ x. refl) a)
    (image_numbered (took later) (λ x. number_of s q (first x)) (λ x. refl) b))
  where
    in_earlier : (x : Choice) → Image (Allows s p) (took earlier) x → number_of s (either p q) x ≡ number_of s p (first x)
    in_earlier _ (image a) = refl

    in_later : (x : Choice) → Image (Allows s q) (took later) x → number_of s (either p q) x ≡ count s p + number_of s q (first x)
    in_later _ (image a) = refl

-- Repetitions: so many occurrences.

of_none : (s : ℕ) (o : Order) (p : Pattern) (x : Choice) → Occurs s o p zero x → empty ≡ x
of_none s o p _ none = refl

of_more : (s : ℕ) (o : Order) (p : Pattern) (k : ℕ) (x : Choice) → Occurs s o p (suc k) x → Joined (Allows s p) (Occurs s o p k) (pair o) x
of_more s o p k _ (one_more a b) = joined a b

to_more : (s : ℕ) (o : Order) (p : Pattern) (k : ℕ) (x : Choice) → Joined (Allows s p) (Occurs s o p k) (pair o) x → Occurs s o p (suc k) x
to_more s o p k _ (joined a b) = one_more a b

occurs_numbered : (s : ℕ) (o : Order) (p : Pattern) → Numbered s p → (k : ℕ)
    → OneToOne (Occurs s o p k) (count s p ^ k) (times o (choice_of s p) (count s p) k) (times_number (number_of s p) (count s p) k)
occurs_numbered s o p a zero = rw (pow-zero (count s p)) (single_numbered empty none (of_none s o p))
occurs_numbered s o p a (suc k) =
    rw (pow-succ' (count s p) k) (same_numbered (to_more s o p k) (of_more s o p k)
    (joined_numbered (pair o) (times_number (number_of s p) (count s p) (suc k)) (λ x y. refl) a (occurs_numbered s o p a k)))

occurring_is : (s : ℕ) (o : Order) (p : Pattern) (k : ℕ) (x : Choice) → Occurs s o p k x → occurring x ≡ k
occurring_is s o p _ _ none = refl
occurring_is s o p _ _ (one_more {k = k} {y = y} a b) = ap suc (occurring_is s o p k y b)

-- Repetitions: from a to a + m occurrences, the smaller counts first.

abbrev Ranges : ℕ → Order → Pattern → ℕ → ℕ → Choice → Type 0
Ranges s o p m a x = (k : ℕ) × (a ≤ k) × (k ≤ a + m) × Occurs s o p k x

abbrev range_choice : ℕ → Order → Pattern → ℕ → ℕ → ℕ → Choice
range_choice s o p m a n = let w : ℕ × ℕ = occurrences (count s p) m a n in times o (choice_of s p) (count s p) w.0 w.1

abbrev range_number : ℕ → Pattern → ℕ → Choice → ℕ
range_number s p a x = powers (count s p) (occurring x - a) a + times_number (number_of s p) (count s p) (occurring x) x

-- a occurrences are numbered first
least_number : (s : ℕ) (o : Order) (p : Pattern) (a : ℕ) (x : Choice) → Occurs s o p a x → range_number s p a x ≡ times_number (number_of s p) (count s p) a x
least_number s o p a x t = grind (arith, occurring_is s o p a x t)

-- more occurrences come after those
above_number : (s : ℕ) (o : Order) (p : Pattern) (m a : ℕ) (x : Choice) → Ranges s o p m (suc a) x → range_number s p a x ≡ count s p ^ a + range_number s p (suc a) x
above_number s o p m a x t =
    let e : occurring x ≡ t.0 = occurring_is s o p t.0 x t.3 in
    let f : occurring x - a ≡ suc (occurring x - suc a) = omega arith in
    rw f (omega arith)

to_least : (s : ℕ) (o : Order) (p : Pattern) (a : ℕ) (x : Choice) → Occurs s o p a x → Ranges s o p 0 a x
to_least s o p a x t = (a, omega arith, omega arith, t)

of_least : (s : ℕ) (o : Order) (p : Pattern) (a : ℕ) (x : Choice) → Ranges s o p 0 a x → Occurs s o p a x
of_least s o p a x t = let e : t.0 ≡ a = omega arith in rw e at t.3

to_range : (s : ℕ) (o : Order) (p : Pattern) (m a : ℕ) (x : Choice) → Occurs s o p a x ⊎ Ranges s o p m (suc a) x → Ranges s o p (suc m) a x
to_range s o p m a x (inl t) = (a, omega arith, omega arith, t)
to_range s o p m a x (inr t) = (t.0, omega arith, omega arith, t.3)

of_range : (s : ℕ) (o : Order) (p : Pattern) (m a : ℕ) (x : Choice) → Ranges s o p (suc m) a x → Occurs s o p a x ⊎ Ranges s o p m (suc a) x
of_range s o p m a x t = go (cases_eq t.0 a)
  where
    go : (t.0 ≡ a) ⊎ (t.0 ≡ a → ⊥) → Occurs s o p a x ⊎ Ranges s o p m (suc a) x
    go (inl e) = inl (rw e at t.3)
    go (inr n) = inr (t.0, omega arith, omega arith, t.3)

range_numbered : (s : ℕ) (o : Order) (p : Pattern) → Numbered s p → (m a : ℕ)
    → OneToOne (Ranges s o p m a) (powers (count s p) (suc m) a) (range_choice s o p m a) (range_number s p a)
range_numbered s o p b zero a =
    rw (add-zero (count s p ^ a)) (same_numbered (to_least s o p a) (of_least s o p a) (renumbered (least_number s o p a) (occurs_numbered s o p b a)))
range_numbered s o p b (suc m) a =
    same_numbered (to_range s o p m a) (of_range s o p m a)
    (sum_numbered (range_choice s o p (suc m) a) (range_number s p a)
    (λ n h. grind arith) (λ n h. grind arith) (least_number s o p a) (above_number s o p m a)
    (occurs_numbered s o p b a) (range_numbered s o p b m (suc a)))
  where
    chosen : ℕ × ℕ → Choice
    chosen w = times o (choice_of s p) (count s p) w.0 w.1

to_repeat : (s : ℕ) (o : Order) (a b : ℕ) (p : Pattern) → a ≤ most s b → (x : Choice) → Ranges s o p (most s b - a) a x → Allows s (repeat o a b p) x
to_repeat s o a b p h x t = repeated t.1 (omega arith) t.3

of_repeat : (s : ℕ) (o : Order) (a b : ℕ) (p : Pattern) → a ≤ most s b → (x : Choice) → Allows s (repeat o a b p) x → Ranges s o p (most s b - a) a x
of_repeat s o a b p h _ (repeated {k = k} l g t) = (k, l, omega arith, t)

-- where the most is below the least, nothing is allowed
never_repeated : (s : ℕ) (o : Order) (a b : ℕ) (p : Pattern) → most s b < a → (x : Choice) → Allows s (repeat o a b p) x → ⊥
never_repeated s o a b p h _ (repeated {k = k} l g t) = omega arith

repeat_numbered : (s : ℕ) (o : Order) (a b : ℕ) (p : Pattern) → Numbered s p → Numbered s (repeat o a b p)
repeat_numbered s o a b p n = go (cases_lt (most s b) a)
  where
    go : (most s b < a) ⊎ (a ≤ most s b) → Numbered s (repeat o a b p)
    go (inl h) = let e : span a (most s b) ≡ 0 = omega arith in rw e (none_numbered (never_repeated s o a b p h))
    go (inr h) =
        let e : span a (most s b) ≡ suc (most s b - a) = omega arith in
        rw e (same_numbered (to_repeat s o a b p h) (of_repeat s o a b p h) (range_numbered s o p n (most s b - a) a))

pub patterns_numbered : PatternsNumbered
patterns_numbered s nothing = single_numbered empty no_event (of_nothing s)
patterns_numbered s (atom t) = single_numbered (node t empty) one_event (of_atom s t)
patterns_numbered s (event t p) = same_numbered (to_event s t p) (of_event s t p) (image_numbered (node t) (number_of s (event t p)) (λ x. refl) (patterns_numbered s p))
patterns_numbered s (both o p q) =
    same_numbered (to_both s o p q) (of_both s o p q)
    (joined_numbered (pair o) (number_of s (both o p q)) (λ x y. refl) (patterns_numbered s p) (patterns_numbered s q))
patterns_numbered s (either p q) = either_numbered s p q (patterns_numbered s p) (patterns_numbered s q)
patterns_numbered s (repeat o a b p) = repeat_numbered s o a b p (patterns_numbered s p)

-- Roots.

of_no_root : (s : ℕ) (xs : List Choice) → Chosen s [] xs → [] ≡ xs
of_no_root s _ no_root = refl

of_roots : (s : ℕ) (r : Rooted) (rs : List Rooted) (xs : List Choice) → Chosen s (r ∷ rs) xs → Joined (Allows s (root_pattern r)) (Chosen s rs) ◌∷◌ xs
of_roots s r rs _ (next_root a b) = joined a b

to_roots : (s : ℕ) (r : Rooted) (rs : List Rooted) (xs : List Choice) → Joined (Allows s (root_pattern r)) (Chosen s rs) ◌∷◌ xs → Chosen s (r ∷ rs) xs
to_roots s r rs _ (joined a b) = next_root a b

pub roots_numbered : RootsNumbered
roots_numbered s [] = single_numbered [] no_root (of_no_root s)
roots_numbered s (r ∷ rs) =
    same_numbered (to_roots s r rs) (of_roots s r rs)
    (joined_numbered ◌∷◌ (number_of_choices s (r ∷ rs)) (λ x xs. refl) (patterns_numbered s (root_pattern r)) (roots_numbered s rs))

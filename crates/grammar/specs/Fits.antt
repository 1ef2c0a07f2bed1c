-- What it means that patterns, roots and operations are within the limits. Assumes nothing.
use Rattle.std.specs.Prelude.{◌≡◌, ℕ, ◌<◌, ◌≤◌, ◌⊎◌, List, [], ◌∷◌, length, ◌≢◌}
use Rattle.questions.specs.Limits.{most_type, most_times, scope_mark, most_candidates, most_events}
use Rattle.grammar.specs.Pattern.{Pattern, nothing, atom, event, both, either, repeat, most, count, len}
use Rattle.grammar.specs.Schema.{Rooted, Operation, relate, at_most}
use Rattle.grammar.specs.declared.part.Relation.{Relation}
use Rattle.grammar.specs.declared.part.Relation.TheVariants.{Share, Coordinate, AsMany, NoMore, FewerBefore}
use Rattle.grammar.specs.declared.part.Selection.{Selection}

-- the counts of a repetition at scope s
abbrev pub Repeats : ℕ → ℕ → ℕ → Type 0
Repeats s a b = (a ≤ most_times) × ((b ≤ most_times) ⊎ (b ≡ scope_mark)) × (a ≤ most s b)

abbrev pub Small : ℕ → Pattern → Type 0
Small s p = (count s p ≤ most_candidates) × (len s p ≤ most_events)

-- the pattern, and each part of it
abbrev pub Fits : ℕ → Pattern → Type 0
Fits s nothing = Unit {0}
Fits s (atom t) = t ≤ most_type
Fits s (event t p) = Fits s p × (t ≤ most_type) × Small s (event t p)
Fits s (both o p q) = Fits s p × Fits s q × Small s (both o p q)
Fits s (either p q) = Fits s p × Fits s q × Small s (either p q)
Fits s (repeat o a b p) = Fits s p × Repeats s a b × Small s (repeat o a b p)

abbrev pub RootsFit : ℕ → List Rooted → Type 0
RootsFit s [] = Unit {0}
RootsFit s (r ∷ rs) = Fits s (event r.event r.pattern) × RootsFit s rs

-- no event of type t in the pattern has an inside
abbrev pub Leaf : ℕ → Pattern → Type 0
Leaf t nothing = Unit {0}
Leaf t (atom u) = Unit {0}
Leaf t (event u p) = Leaf t p × (u ≢ t)
Leaf t (both o p q) = Leaf t p × Leaf t q
Leaf t (either p q) = Leaf t p × Leaf t q
Leaf t (repeat o a b p) = Leaf t p

abbrev pub Leaves : ℕ → List Rooted → Type 0
Leaves t [] = Unit {0}
Leaves t (r ∷ rs) = Leaf t r.pattern × (r.event ≢ t) × Leaves t rs

-- the root is one of n
abbrev pub Selects : ℕ → Selection → Type 0
Selects n x = (x.root < n) × (x.event ≤ most_type)

-- only leaves of one type are shared, between two roots
abbrev pub Relates : List Rooted → Relation → Selection → Selection → Type 0
Relates rs Share x y = (x.event ≡ y.event) × (x.root ≢ y.root) × Leaves x.event rs
Relates rs Coordinate x y = Unit {0}
Relates rs AsMany x y = Unit {0}
Relates rs NoMore x y = Unit {0}
Relates rs FewerBefore x y = Unit {0}

abbrev pub Operates : List Rooted → Operation → Type 0
Operates rs (relate r x y) = Selects (length rs) x × Selects (length rs) y × Relates rs r x y
Operates rs (at_most n x) = Selects (length rs) x × (n ≤ most_events)

abbrev pub Operate : List Rooted → List Operation → Type 0
Operate rs [] = Unit {0}
Operate rs (o ∷ os) = Operates rs o × Operate rs os

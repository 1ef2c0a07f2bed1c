-- Relations between places as lists of pairs, and as rows of bits. Assumes nothing.
use Rattle.std.specs.Prelude.{◌≡◌, ℕ, ◌^◌, if◌then◌else◌, ◌⊎◌, List, [], ◌∷◌, ◌++◌, ◌==◌, bit_or}

abbrev pub Pairs : Type 0
Pairs = List (ℕ × ℕ)

-- the pair of a and b stands in the list
abbrev pub Paired : Pairs → ℕ → ℕ → Type 0
Paired [] a b = ⊥
Paired (p ∷ ps) a b = ((p.0 ≡ a) × (p.1 ≡ b)) ⊎ Paired ps a b

-- a stands in the list
abbrev pub Among : List ℕ → ℕ → Type 0
Among [] a = ⊥
Among (x ∷ xs) a = (x ≡ a) ⊎ Among xs a

-- each of a list with b; a with each of a list; each of one list with each of another
unfoldable pub each_with : List ℕ → ℕ → Pairs
each_with [] b = []
each_with (x ∷ xs) b = (x, b) ∷ each_with xs b

unfoldable pub with_each : ℕ → List ℕ → Pairs
with_each a [] = []
with_each a (y ∷ ys) = (a, y) ∷ with_each a ys

unfoldable pub all_pairs : List ℕ → List ℕ → Pairs
unfolding with_each
all_pairs [] ys = []
all_pairs (x ∷ xs) ys = with_each x ys ++ all_pairs xs ys

-- row a: bit b is set exactly where a is paired with b
unfoldable pub row : Pairs → ℕ → ℕ
row [] a = 0
row (p ∷ ps) a = bit_or (if p.0 == a then 2 ^ p.1 else 0) (row ps a)

-- Bits of numbers, and the number whose bits are listed. Assumes nothing.
use Rattle.std.specs.Prelude.{ℕ, ◌/◌, ◌%◌, ◌^◌, Bool, false, ◌||◌, List, [], ◌∷◌, ◌==◌, bit_or}

-- bit j of n
abbrev pub bit : ℕ → ℕ → Bool
bit n j = n / 2 ^ j % 2 == 1

-- a stands in the list
abbrev pub among : List ℕ → ℕ → Bool
among [] a = false
among (x ∷ xs) a = x == a || among xs a

-- the number whose bits are those of the list
abbrev pub mask : List ℕ → ℕ
mask [] = 0
mask (x ∷ xs) = bit_or (2 ^ x) (mask xs)

-- What a program's argument says. Assumes nothing.
use Rattle.std.specs.Prelude.{ℕ, ◌+◌, ◌-◌, ◌*◌, ◌^◌, if◌then◌else◌, ◌&&◌, List, [], ◌∷◌, length, Some, None, Option, nat_le, nat_lt}

-- one digit, 48 for `0`, says itself, and anything else 0
abbrev pub scope_said : List ℕ → ℕ
scope_said [] = 0
scope_said (d ∷ []) = if nat_le 48 d && nat_le d 57 then d - 48 else 0
scope_said (d ∷ (e ∷ ds)) = 0

-- the number n and one digit more; none where that is no digit, or the number has more than 32 bits
abbrev pub number_more : ℕ → ℕ → Option ℕ
number_more n d = if nat_le 48 d && (nat_le d 57 && nat_lt (10 * n + (d - 48)) (2 ^ 32)) then Some (10 * n + (d - 48)) else None

-- a number, where there is one, and more digits
abbrev pub number_on : Option ℕ → List ℕ → Option ℕ
number_on None ds = None
number_on (Some n) [] = Some n
number_on (Some n) (d ∷ ds) = number_on (number_more n d) ds

-- digits of a number
abbrev pub most_digits : ℕ
most_digits = 10

-- the number that digits say, where there is one at least and not too many
unfoldable pub number_said : List ℕ → Option ℕ
number_said ds = if nat_le 1 (length ds) && nat_le (length ds) most_digits then number_on (Some 0) ds else None

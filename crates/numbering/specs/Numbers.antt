-- The choice of a number, and the number of a choice. Assumes nothing.
use Rattle.std.specs.Prelude.{ℕ, zero, suc, ◌+◌, ◌-◌, ◌*◌, ◌/◌, ◌%◌, ◌^◌, Bool, true, false, if◌then◌else◌, List, [], ◌∷◌, nat_lt}
use Rattle.grammar.specs.Pattern.{Pattern, nothing, atom, event, both, either, repeat, most, powers, count}
use Rattle.grammar.specs.Schema.{Rooted, candidates}
use Rattle.grammar.specs.declared.part.Order.{Order}
use Rattle.numbering.specs.Choice.{Choice, empty, node, pair, took, earlier, later}
use Rattle.numbering.specs.Allows.{root_pattern}

-- From number to choice.

-- k occurrences of what u chooses, of c choices, by their number: the first varies slowest
abbrev pub times : Order → (ℕ → Choice) → ℕ → ℕ → ℕ → Choice
times o u c zero n = empty
times o u c (suc k) n = pair o (u (n / c ^ k)) (times o u c k (n % c ^ k))

-- The smaller counts come first. How many occurrences number n has, at least k and at most k + m, and its number among those with as many.
abbrev pub occurrences : ℕ → ℕ → ℕ → ℕ → ℕ × ℕ
occurrences c zero k n = (k, n)
occurrences c (suc m) k n = elim (nat_lt n (c ^ k)) [ true ↦ (k, n) | false ↦ occurrences c m (suc k) (n - c ^ k) ]

abbrev pub choice_of : ℕ → Pattern → ℕ → Choice
choice_of s nothing n = empty
choice_of s (atom t) n = node t empty
choice_of s (event t p) n = node t (choice_of s p n)
choice_of s (both o p q) n = pair o (choice_of s p (n / count s q)) (choice_of s q (n % count s q))
choice_of s (either p q) n = elim (nat_lt n (count s p)) [ true ↦ took earlier (choice_of s p n) | false ↦ took later (choice_of s q (n - count s p)) ]
choice_of s (repeat o a b p) n =
    let w : ℕ × ℕ = occurrences (count s p) (most s b - a) a n in times o (choice_of s p) (count s p) w.0 w.1

-- the choices of the roots: root 0 varies slowest
abbrev pub choices_of : ℕ → List Rooted → ℕ → List Choice
choices_of s [] n = []
choices_of s (r ∷ rs) n = choice_of s (root_pattern r) (n / candidates s rs) ∷ choices_of s rs (n % candidates s rs)

-- From choice to number.

-- the parts of a choice; where there is none, nothing
abbrev pub first : Choice → Choice
first empty = empty
first (node t x) = x
first (pair o x y) = x
first (took d x) = x

abbrev pub second : Choice → Choice
second empty = empty
second (node t x) = empty
second (pair o x y) = y
second (took d x) = empty

abbrev pub is_earlier : Choice → Bool
is_earlier empty = false
is_earlier (node t x) = false
is_earlier (pair o x y) = false
is_earlier (took earlier x) = true
is_earlier (took later x) = false

-- how many occurrences the choice of a repetition has
abbrev pub occurring : Choice → ℕ
occurring empty = 0
occurring (node t x) = 0
occurring (pair o x y) = suc (occurring y)
occurring (took d x) = 0

-- k occurrences, each numbered by f below c
abbrev pub times_number : (Choice → ℕ) → ℕ → ℕ → Choice → ℕ
times_number f c zero x = 0
times_number f c (suc k) x = f (first x) * c ^ k + times_number f c k (second x)

abbrev pub number_of : ℕ → Pattern → Choice → ℕ
number_of s nothing x = 0
number_of s (atom t) x = 0
number_of s (event t p) x = number_of s p (first x)
number_of s (both o p q) x = number_of s p (first x) * count s q + number_of s q (second x)
number_of s (either p q) x = if is_earlier x then number_of s p (first x) else count s p + number_of s q (first x)
number_of s (repeat o a b p) x = powers (count s p) (occurring x - a) a + times_number (number_of s p) (count s p) (occurring x) x

abbrev pub number_of_choices : ℕ → List Rooted → List Choice → ℕ
number_of_choices s [] xs = 0
number_of_choices s (r ∷ rs) [] = 0
number_of_choices s (r ∷ rs) (x ∷ xs) = number_of s (root_pattern r) x * candidates s rs + number_of_choices s rs xs

-- Every number has one choice, and every choice one number. Assumes nothing.
use Rattle.std.specs.Prelude.{◌≡◌, ℕ, ◌<◌, List}
use Rattle.grammar.specs.Pattern.{Pattern, count}
use Rattle.grammar.specs.Schema.{Rooted, candidates}
use Rattle.numbering.specs.Allows.{Allows, Chosen}
use Rattle.numbering.specs.Numbers.{choice_of, choices_of, number_of, number_of_choices}

-- the numbers below c and the choices that P allows correspond one to one
pub record OneToOne {C : Type 0} (P : C → Type 0) (c : ℕ) (choose : ℕ → C) (number : C → ℕ) : Type 0 where
  pub allowed : (n : ℕ) → n < c → P (choose n)
  pub below : (x : C) → P x → number x < c
  pub back : (n : ℕ) → n < c → number (choose n) ≡ n
  pub again : (x : C) → P x → choose (number x) ≡ x

-- for each pattern: the numbers below its count, and the choices that it allows
abbrev pub PatternsNumbered : Type 0
PatternsNumbered = (s : ℕ) (p : Pattern) → OneToOne (Allows s p) (count s p) (choice_of s p) (number_of s p)

-- for the roots together: the numbers below the product of their counts, and one choice for each root
abbrev pub RootsNumbered : Type 0
RootsNumbered = (s : ℕ) (rs : List Rooted) → OneToOne (Chosen s rs) (candidates s rs) (choices_of s rs) (number_of_choices s rs)

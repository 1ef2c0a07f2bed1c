-- The laid beginning of a candidate of a table. Assumes nothing.
use Rattle.std.specs.Prelude.{ℕ, Bool, if◌then◌else◌, ◌&&◌, List, length, take, Some, None, Option, nat_le, nat_lt}
use Rattle.grammar.specs.Schema.{candidates}
use Rattle.numbering.specs.Choice.{Choice}
use Rattle.numbering.specs.Numbers.{choices_of}
use Rattle.schema.specs.Reading.{schema_of}
use Rattle.laying.specs.Beginning.{Beginning, beginning_of}

-- the choices of the first j roots that candidate n of the table b has at scope s
abbrev pub first_choices : List ℕ → ℕ → ℕ → ℕ → List Choice
first_choices b s n j = take j (choices_of s (schema_of b).roots n)

-- is n a candidate, and are there j roots, one at least?
abbrev pub has_beginning : List ℕ → ℕ → ℕ → ℕ → Bool
has_beginning b s n j = nat_lt n (candidates s (schema_of b).roots) && (nat_le 1 j && nat_le j (length (schema_of b).roots))

-- what they lay, where there are so many
unfoldable pub laid_at : List ℕ → ℕ → ℕ → ℕ → Option Beginning
laid_at b s n j = if has_beginning b s n j then Some (beginning_of (first_choices b s n j)) else None

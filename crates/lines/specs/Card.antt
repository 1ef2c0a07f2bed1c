-- The card of a table. Assumes nothing.
use Rattle.std.specs.Prelude.{ℕ, ◌+◌, if◌then◌else◌, List, [], ◌∷◌, ◌++◌, Ok, Err, codes, decimal, Result, ◌==◌}
use Rattle.std.specs.List.{flat_map}
use Rattle.questions.specs.Numbers.{refusal_line}
use Rattle.questions.specs.declared.refusal.Refusal.{Refusal}
use Rattle.grammar.specs.Pattern.{count, len}
use Rattle.grammar.specs.Schema.{Rooted}
use Rattle.schema.specs.Questions.{verdict}
use Rattle.schema.specs.Reading.{schema_of}
use Rattle.schema.specs.declared.plan.Root.{Root}

abbrev pub line_end : List ℕ
line_end = 10 ∷ []

-- no line has more bytes
abbrev pub most_line : ℕ
most_line = 30

-- `root TYPE COUNT LENGTH`
abbrev pub root_line : ℕ → ℕ → ℕ → List ℕ
root_line t n l = codes "root " ++ (decimal t ++ (codes " " ++ (decimal n ++ (codes " " ++ (decimal l ++ line_end)))))

-- `total N`
abbrev pub total_line : ℕ → List ℕ
total_line n = codes "total " ++ (decimal n ++ line_end)

-- a line for each root of a schema at scope s: its type, how many choices it has, how many events it lays at most
abbrev pub root_lines : ℕ → List Rooted → List ℕ
root_lines s = flat_map (λ r. root_line r.event (count s r.pattern) (len s r.pattern + 1))

abbrev pub answer_lines : ℕ → List Rooted → Result ℕ Refusal → List ℕ
answer_lines s rs (Ok n) = root_lines s rs ++ total_line n
answer_lines s rs (Err e) = refusal_line e ++ line_end

-- the card of the table b at scope s
unfoldable pub card : List ℕ → ℕ → List ℕ
card b s = answer_lines s (schema_of b).roots (verdict b s)

-- The same by the entries of a plan; an entry of length 0 is no root.

abbrev pub entry_line : Root → List ℕ
entry_line r = if r.length == 0 then [] else root_line r.event r.count r.length

abbrev pub entry_lines : List Root → List ℕ
entry_lines = flat_map entry_line

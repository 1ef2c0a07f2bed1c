-- The lines of the events that a candidate of a table lays. Assumes nothing.
use Rattle.std.specs.Prelude.{ℕ, zero, suc, List, [], ◌++◌, length, Some, None, Ok, Err, codes, decimal, Option, Result, slice_index, slice_index_or}
use Rattle.questions.specs.Numbers.{refusal_line}
use Rattle.questions.specs.declared.refusal.Refusal.{Refusal}
use Rattle.schema.specs.Questions.{verdict}
use Rattle.schema.specs.Reading.{schema_of}
use Rattle.laying.specs.Beginning.{Beginning}
use Rattle.laying.specs.Laying.{laid_at}
use Rattle.lines.specs.Card.{line_end}

-- the place of the nearest event around, `-` where there is none
abbrev pub around_word : Option ℕ → List ℕ
around_word (Some p) = decimal p
around_word None = codes "-"

-- `TYPE AROUND PRECEDES`
abbrev pub event_line : ℕ → Option ℕ → ℕ → List ℕ
event_line t p r = decimal t ++ (codes " " ++ (around_word p ++ (codes " " ++ (decimal r ++ line_end))))

-- the line of the event at place i
abbrev pub line_at : Beginning → ℕ → List ℕ
line_at l i = event_line (slice_index l.types i) (slice_index_or l.around i None) (slice_index l.precedes i)

-- the lines of the first n events, in laying order
abbrev pub first_lines : Beginning → ℕ → List ℕ
first_lines l zero = []
first_lines l (suc n) = first_lines l n ++ line_at l n

-- the lines of all events
unfoldable pub event_lines : Beginning → List ℕ
event_lines l = first_lines l (length l.types)

-- `none`
abbrev pub none_line : List ℕ
none_line = codes "none" ++ line_end

abbrev pub beginning_lines : Option Beginning → List ℕ
beginning_lines (Some l) = event_lines l
beginning_lines None = none_line

-- all roots of an accepted table b at scope s, laid with a candidate's number; none where there is no number, or no such candidate
abbrev pub number_lines : List ℕ → ℕ → Option ℕ → List ℕ
number_lines b s (Some n) = beginning_lines (laid_at b s n (length (schema_of b).roots))
number_lines b s None = none_line

abbrev pub laid_lines : Result ℕ Refusal → List ℕ → List ℕ
laid_lines (Ok t) ls = ls
laid_lines (Err e) ls = refusal_line e ++ line_end

-- what is printed of the table b at scope s and of what was said for a number
unfoldable pub laid_text : List ℕ → ℕ → Option ℕ → List ℕ
laid_text b s o = laid_lines (verdict b s) (number_lines b s o)

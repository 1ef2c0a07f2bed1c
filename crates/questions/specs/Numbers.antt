-- The numbers of the questions, and the line that shows a refusal. Assumes nothing.
use Rattle.std.specs.Prelude.{ℕ, List, ◌++◌, None, codes, decimal, Option, unwrap_or}
use Rattle.questions.specs.Limits.{no_item}
use Rattle.questions.specs.declared.question.Question.{Question}
use Rattle.questions.specs.declared.question.Question.TheVariants.{Bytes, Sizes, Scope, Kind, Argument, Takes, Sharing, Count, Length, Whole, Total, Events}
use Rattle.questions.specs.declared.refusal.Refusal.{Refusal}

abbrev pub number_of : Question → ℕ
number_of Bytes = 1
number_of Sizes = 2
number_of Scope = 3
number_of Kind = 4
number_of Argument = 5
number_of Takes = 6
number_of Sharing = 7
number_of Count = 8
number_of Length = 9
number_of Whole = 10
number_of Total = 11
number_of Events = 12

-- the refusal by a question that is not asked of an item
abbrev pub of_no_item : Question → Refusal
of_no_item q = record { question = q; item = None }

abbrev pub item_shown : Option ℕ → ℕ
item_shown o = unwrap_or o no_item

-- `no QUESTION ITEM`
abbrev pub refusal_line : Refusal → List ℕ
refusal_line r = codes "no " ++ (decimal (number_of r.question) ++ (codes " " ++ decimal (item_shown r.item)))

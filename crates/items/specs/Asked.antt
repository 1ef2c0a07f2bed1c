-- The questions that are asked of numbers alone, and the first of them that fails. Assumes nothing.
use Rattle.std.specs.Prelude.{ℕ, Bool, true, false, if◌then◌else◌, ◌&&◌, ◌||◌, Ok, Err, Result, ◌==◌, nat_le, nat_lt}
use Rattle.questions.specs.Limits.{most_type, most_times, scope_mark, most_candidates, most_events}
use Rattle.questions.specs.declared.question.Question.{Question}
use Rattle.questions.specs.declared.question.Question.TheVariants.{Kind, Argument, Takes, Count, Length, Whole, Total, Events}
use Rattle.grammar.specs.Pattern.{most}
use Rattle.grammar.specs.declared.part.Selection.{Selection}
use Rattle.items.specs.declared.ask.Tally.{Tally}
use Rattle.items.specs.declared.item.Item.{Item}
use Rattle.items.specs.declared.item.Item.TheVariants.{Nothing, Atom, Event, Both, Either, Repeat, Root, Pick, Relate, AtMost, Unknown}

-- what a question answers: nothing, or that it fails
abbrev pub Answer : Type 0
Answer = Result (Unit {0}) Question

abbrev pub passes : Answer
passes = Ok tt

-- Questions 4 to 6, of an item with argument a at scope s.

abbrev pub known : Item → Bool
known Nothing = true
known (Atom t) = true
known (Event t) = true
known (Both o) = true
known Either = true
known (Repeat o x y) = true
known (Root t) = true
known (Pick x) = true
known (Relate o) = true
known (AtMost n) = true
known Unknown = false

-- from a least to a most count
abbrev pub counts_suit : ℕ → ℕ → ℕ → Bool
counts_suit s a b = nat_le a most_times && ((nat_le b most_times || b == scope_mark) && nat_le a (most s b))

-- the root is one of r
abbrev pub pick_suits : ℕ → Selection → Bool
pick_suits r x = nat_lt x.root r && nat_le x.event most_type

abbrev pub suits : ℕ → ℕ → Item → ℕ → Bool
suits s r Nothing a = a == 0
suits s r (Atom t) a = nat_le t most_type
suits s r (Event t) a = nat_le t most_type
suits s r (Both o) a = a == 0
suits s r Either a = a == 0
suits s r (Repeat o x y) a = counts_suit s x y
suits s r (Root t) a = nat_le t most_type
suits s r (Pick x) a = pick_suits r x
suits s r (Relate o) a = a == 0
suits s r (AtMost n) a = nat_le n most_events
suits s r Unknown a = false

-- patterns end with the last root, and picks and operations follow it
abbrev pub finds : Tally → Item → Bool
finds t Nothing = nat_lt t.closed t.roots
finds t (Atom x) = nat_lt t.closed t.roots
finds t (Event x) = nat_lt t.closed t.roots && nat_le 1 t.patterns
finds t (Both o) = nat_lt t.closed t.roots && nat_le 2 t.patterns
finds t Either = nat_lt t.closed t.roots && nat_le 2 t.patterns
finds t (Repeat o x y) = nat_lt t.closed t.roots && nat_le 1 t.patterns
finds t (Root x) = nat_lt t.closed t.roots && t.patterns == 1
finds t (Pick x) = t.closed == t.roots && nat_le t.picks 1
finds t (Relate o) = t.closed == t.roots && t.picks == 2
finds t (AtMost n) = t.closed == t.roots && t.picks == 1
finds t Unknown = false

abbrev pub asked : ℕ → Tally → Item → ℕ → Answer
asked s t it a =
    if known it then
    (if suits s t.roots it a then (if finds t it then passes else Err Takes)
    else Err Argument)
    else Err Kind

-- Questions 8 and 9, of a count and a length.

abbrev pub sized : ℕ → ℕ → Answer
sized n l = if nat_le n most_candidates then (if nat_le l most_events then passes else Err Length) else Err Count

-- Questions 10 to 12, of a total and a sum of lengths.

abbrev pub closing : Tally → ℕ → ℕ → Answer
closing t n l =
    if t.closed == t.roots && (t.patterns == 0 && t.picks == 0) then
    (if nat_le n most_candidates then (if nat_le l most_events then passes else Err Events)
    else Err Total)
    else Err Whole

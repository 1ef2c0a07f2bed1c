-- The questions of a table, in order, and what a check answers. Assumes nothing.
use Rattle.std.specs.Prelude.{ℕ, zero, suc, ◌+◌, ◌*◌, Bool, true, false, if◌then◌else◌, not, ◌&&◌, List, length, Some, None, Ok, Err, Option, Result, ◌==◌, nat_le}
use Rattle.questions.specs.Limits.{most_items, most_roots, most_scope}
use Rattle.questions.specs.declared.question.Question.TheVariants.{Bytes, Sizes, Scope, Sharing}
use Rattle.questions.specs.declared.refusal.Refusal.{Refusal}
use Rattle.grammar.specs.Pattern.{Pattern, count, len}
use Rattle.grammar.specs.Schema.{candidates, events}
use Rattle.grammar.specs.declared.part.Relation.TheVariants.{Share, Coordinate, AsMany, NoMore, FewerBefore}
use Rattle.grammar.specs.declared.part.Selection.{Selection}
use Rattle.items.specs.Asked.{Answer, passes, asked, sized, closing}
use Rattle.items.specs.declared.item.Item.{Item}
use Rattle.items.specs.declared.item.Item.TheVariants.{Nothing, Atom, Event, Both, Either, Repeat, Root, Pick, Relate, AtMost, Unknown}
use Rattle.schema.specs.Bytes.{item_count, root_count, argument_at, item_at}
use Rattle.schema.specs.Reading.{state, tally_at, earlier, later, made, schema_of}
use Rattle.schema.specs.Plans.{plan_of}
use Rattle.schema.specs.declared.plan.Plan.{Plan}

-- Questions 1 to 3, of the whole table.

abbrev pub bytes_fit : List ℕ → Bool
bytes_fit b = nat_le 4 (length b) && length b == 4 + 3 * item_count b

abbrev pub sizes_fit : List ℕ → Bool
sizes_fit b = (nat_le 1 (item_count b) && nat_le (item_count b) most_items) && (nat_le 1 (root_count b) && nat_le (root_count b) most_roots)

abbrev pub opening : List ℕ → ℕ → Answer
opening b s =
    if bytes_fit b then
    (if sizes_fit b then (if nat_le 1 s && nat_le s most_scope then passes else Err Scope)
    else Err Sizes)
    else Err Bytes

-- Question 7, of an item on the picks x and y.

-- is the item an event with an inside, or a root, of type t?
abbrev pub encloses : Item → ℕ → Bool
encloses Nothing t = false
encloses (Atom u) t = false
encloses (Event u) t = u == t
encloses (Both o) t = false
encloses Either t = false
encloses (Repeat o x y) t = false
encloses (Root u) t = u == t
encloses (Pick x) t = false
encloses (Relate o) t = false
encloses (AtMost n) t = false
encloses Unknown t = false

-- is there one among the first n items?
abbrev pub enclosed : List ℕ → ℕ → ℕ → Bool
enclosed b t zero = false
enclosed b t (suc n) = if encloses (item_at b n) t then true else enclosed b t n

-- one type in two roots, which no item of the table encloses
abbrev pub shares : List ℕ → Selection → Selection → Bool
shares b x y = x.event == y.event && (not (x.root == y.root) && not (enclosed b x.event (item_count b)))

abbrev pub shared : List ℕ → Item → Selection → Selection → Answer
shared b Nothing x y = passes
shared b (Atom t) x y = passes
shared b (Event t) x y = passes
shared b (Both o) x y = passes
shared b Either x y = passes
shared b (Repeat o l m) x y = passes
shared b (Root t) x y = passes
shared b (Pick z) x y = passes
shared b (Relate Share) x y = if shares b x y then passes else Err Sharing
shared b (Relate Coordinate) x y = passes
shared b (Relate AsMany) x y = passes
shared b (Relate NoMore) x y = passes
shared b (Relate FewerBefore) x y = passes
shared b (AtMost n) x y = passes
shared b Unknown x y = passes

-- Questions 4 to 12 of the items of a table, by what was read before them.

unfoldable pub asked_at : List ℕ → ℕ → ℕ → Answer
asked_at b s i = asked s (tally_at b i) (item_at b i) (argument_at b i)

unfoldable pub shared_at : List ℕ → ℕ → Answer
shared_at b i = shared b (item_at b i) (earlier (state b i).picks) (later (state b i).picks)

-- what item i makes
unfoldable pub made_at : List ℕ → ℕ → Pattern
made_at b i = made (item_at b i) (state b i).patterns

-- picks and operations make nothing, of which neither question fails
unfoldable pub sized_at : List ℕ → ℕ → ℕ → Answer
sized_at b s i = sized (count s (made_at b i)) (len s (made_at b i))

abbrev pub first_no : Answer → Answer → Answer
first_no (Err q) o = Err q
first_no (Ok u) o = o

-- questions 4 to 9 of item i
unfoldable pub asks : List ℕ → ℕ → ℕ → Answer
asks b s i = first_no (asked_at b s i) (first_no (shared_at b i) (sized_at b s i))

unfoldable pub closing_at : List ℕ → ℕ → Answer
closing_at b s = closing (tally_at b (item_count b)) (candidates s (schema_of b).roots) (events s (schema_of b).roots)

-- The answer: the total, or the first that fails, with its item.

abbrev pub answered : Answer → Option ℕ → Result ℕ Refusal → Result ℕ Refusal
answered (Err q) i r = Err (record { question = q; item = i })
answered (Ok u) i r = r

-- from item i on, where k items are left
unfoldable pub from : List ℕ → ℕ → ℕ → ℕ → Result ℕ Refusal
from b s i zero = answered (closing_at b s) None (Ok (candidates s (schema_of b).roots))
from b s i (suc k) = answered (asks b s i) (Some i) (from b s (suc i) k)

unfoldable pub verdict : List ℕ → ℕ → Result ℕ Refusal
verdict b s = answered (opening b s) None (from b s 0 (item_count b))

abbrev pub replaced : Result ℕ Refusal → Plan → Plan → Plan
replaced (Ok t) new old = new
replaced (Err e) new old = old

-- the plan after a check: that of the schema's roots, or what it was
unfoldable pub planned : List ℕ → ℕ → Plan → Plan
planned b s old = replaced (verdict b s) (plan_of s (schema_of b).roots) old

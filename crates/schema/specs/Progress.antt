-- What the check's own functions ask and keep: what is known after i items. Assumes nothing.
use Rattle.std.specs.Prelude.{◌≡◌, ℕ, suc, ◌+◌, ◌*◌, ◌<◌, ◌≤◌, List, [], ◌∷◌, length, None, Ok, slice_index_or}
use Rattle.arrayvec.specs.ArrayVec.{ArrayVec, array_vec_len}
use Rattle.questions.specs.Limits.{most_items, most_roots, most_events}
use Rattle.grammar.specs.Pattern.{Pattern, size}
use Rattle.grammar.specs.Schema.{Rooted, candidates, events}
use Rattle.grammar.specs.Measures.{measure_of, count_capped}
use Rattle.items.specs.Asked.{passes}
use Rattle.grammar.specs.declared.measure.Measure.{Measure}
use Rattle.schema.specs.Bytes.{item_count, root_count}
use Rattle.schema.specs.Reading.{state, tally_at, pattern_at, earlier, later, schema_of}
use Rattle.schema.specs.Questions.{opening, asked_at, made_at, closing_at, answered, verdict}
use Rattle.schema.specs.Plans.{plan_of}
use Rattle.schema.specs.declared.progress.Progress.{Progress}

-- the table passed questions 1 and 2
pub record Sized (b : List ℕ) : Type 0 where
  pub room : 4 + 3 * item_count b ≤ length b
  pub items : item_count b ≤ most_items
  pub roots : root_count b ≤ most_roots

-- item i is there, and a pattern waits after it
pub record Ends (b : List ℕ) (i : ℕ) : Type 0 where
  pub sized : Sized b
  pub within : i < item_count b
  pub waits : 0 < length (state b (suc i)).patterns

-- item i is there, and passed questions 4 to 6 at scope s
pub record Admitted (b : List ℕ) (s i : ℕ) : Type 0 where
  pub within : i < item_count b
  pub passed : asked_at b s i ≡ passes

abbrev pub no_measure : Measure
no_measure = record { items = 0; count = 0; length = 0 }

-- the first items are measured, where a pattern waits after them
pub record Knows (b : List ℕ) (s : ℕ) (k : ArrayVec Measure) : Type 0 where
  pub few : array_vec_len k ≤ most_items
  pub right : (j : ℕ) → j < array_vec_len k → Ends b j → slice_index_or k.items j no_measure ≡ measure_of s (pattern_at b j)

-- what the first items make is measured, also where no pattern waits after them
pub record KnowsMade (b : List ℕ) (s : ℕ) (k : ArrayVec Measure) : Type 0 where
  pub few : array_vec_len k ≤ most_items
  pub right : (j : ℕ) → j < array_vec_len k → slice_index_or k.items j no_measure ≡ measure_of s (made_at b j)

-- how many items write the patterns that wait, and the closed roots
abbrev pub pattern_items : List Pattern → ℕ
pattern_items [] = 0
pattern_items (p ∷ ps) = size p + pattern_items ps

abbrev pub root_items : List Rooted → ℕ
root_items [] = 0
root_items (r ∷ rs) = size r.pattern + 1 + root_items rs

-- the counts after i items
pub record Counted (b : List ℕ) (i : ℕ) (g : Progress) : Type 0 where
  pub tally : g.tally ≡ tally_at b i
  pub earlier : g.earlier ≡ earlier (state b i).picks
  pub later : g.later ≡ later (state b i).picks
  pub total : g.total ≡ count_capped (candidates g.scope (state b i).roots)
  pub sum : g.length ≡ events g.scope (state b i).roots
  pub plan : g.plan ≡ plan_of g.scope (state b i).roots
  pub fewer : length (state b i).roots ≤ root_count b
  pub short : events g.scope (state b i).roots ≤ most_events * length (state b i).roots
  pub waits : length (state b i).patterns ≤ i
  pub place : length (state b i).roots < root_count b → i ≡ root_items (state b i).roots + pattern_items (state b i).patterns
  pub over : length (state b i).roots ≡ root_count b → length (state b i).patterns ≡ 0

-- the counts and the measures after i items
pub record Holds (b : List ℕ) (i : ℕ) (g : Progress) : Type 0 where
  pub counted : Counted b i g
  pub known : array_vec_len g.known ≡ i
  pub right : Knows b g.scope g.known

-- all items passed questions 4 to 9, and only questions 10 to 12, of the whole table, are left
pub record Taken (b : List ℕ) (s : ℕ) (g : Progress) : Type 0 where
  pub opens : opening b s ≡ passes
  pub holds : Holds b (item_count b) g
  pub made : KnowsMade b g.scope g.known
  pub scope : g.scope ≡ s
  pub left : verdict b s ≡ answered (closing_at b s) None (Ok (candidates s (schema_of b).roots))

-- all questions passed
pub record Passed (b : List ℕ) (s : ℕ) (g : Progress) : Type 0 where
  pub opens : opening b s ≡ passes
  pub accepted : verdict b s ≡ Ok g.total
  pub plan : g.plan ≡ plan_of s (schema_of b).roots
  pub all : array_vec_len g.known ≡ item_count b
  pub made : KnowsMade b s g.known
  pub scope : g.scope ≡ s

-- What a check tells, and what a checked table tells when asked. Assumes nothing.
use Rattle.std.specs.Prelude.{ℕ, if◌then◌else◌, List, take, Ok, Err, Result, nat_lt, slice_index_or}
use Rattle.grammar.specs.Measures.{measure_of}
use Rattle.grammar.specs.declared.measure.Measure.{Measure}
use Rattle.items.specs.declared.item.Item.{Item}
use Rattle.items.specs.declared.item.Item.TheVariants.{Unknown}
use Rattle.schema.specs.Bytes.{item_count, item_at}
use Rattle.schema.specs.Reading.{schema_of}
use Rattle.schema.specs.Plans.{no_root, plan_of}
use Rattle.schema.specs.Questions.{made_at}
use Rattle.schema.specs.Progress.{no_measure}
use Rattle.schema.specs.declared.plan.Root.{Root}
use Rattle.questions.specs.declared.refusal.Refusal.{Refusal}
use Rattle.schema.specs.declared.checked.Checked.{Checked}

-- the table that was checked
abbrev pub table_of : Checked → List ℕ
table_of c = take c.len c.bytes

-- the total, or the refusal
abbrev pub told : Result Checked Refusal → Result ℕ Refusal
told (Ok c) = Ok c.total
told (Err e) = Err e

-- item i of a table; past the last, an unknown one
abbrev pub item_found : List ℕ → ℕ → Item
item_found b i = if nat_lt i (item_count b) then item_at b i else Unknown

-- the measure of what item i makes; past the last, all zero
abbrev pub measure_found : List ℕ → ℕ → ℕ → Measure
measure_found b s i = if nat_lt i (item_count b) then measure_of s (made_at b i) else no_measure

-- entry k of the plan; past the last, all zero
abbrev pub root_found : List ℕ → ℕ → ℕ → Root
root_found b s k = slice_index_or (plan_of s (schema_of b).roots).roots k no_root

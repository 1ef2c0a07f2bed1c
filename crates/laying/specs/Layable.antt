-- What the items of a checked table lay. Assumes nothing.
use Rattle.std.specs.Prelude.{◌≡◌, ℕ, ◌+◌, ◌-◌, ◌*◌, ◌^◌, ◌<◌, ◌≤◌}
use Rattle.questions.specs.Limits.{most_candidates, most_times}
use Rattle.grammar.specs.Pattern.{Pattern, count, len}
use Rattle.grammar.specs.Fits.{Fits}
use Rattle.numbering.specs.Choice.{Choice, node}
use Rattle.numbering.specs.Numbers.{choice_of, times}
use Rattle.schema.specs.Reading.{pattern_at}
use Rattle.schema.specs.Progress.{Ends}
use Rattle.schema.specs.Told.{table_of}
use Rattle.schema.specs.declared.checked.Checked.{Checked}
use Rattle.schema.specs.declared.plan.Root.{Root}
use Rattle.laying.specs.declared.pattern.Run.{Run}

-- the pattern that item i ends, how many choices it has and how many events at most, and its choice at a number
abbrev pub pattern_of : Checked → ℕ → Pattern
pattern_of table i = pattern_at (table_of table) i

abbrev pub count_of : Checked → ℕ → ℕ
count_of table i = count table.scope (pattern_of table i)

abbrev pub longest : Checked → ℕ → ℕ
longest table i = len table.scope (pattern_of table i)

abbrev pub choice_at : Checked → ℕ → ℕ → Choice
choice_at table i n = choice_of table.scope (pattern_of table i) n

-- it can be laid with number n
pub record Layable (table : Checked) (i n : ℕ) : Type 0 where
  pub ends : Ends (table_of table) i
  pub fits : Fits table.scope (pattern_of table i)
  pub below : n < count_of table i

-- its occurrences in a run: what they are together, how many events at most, and that they can be laid
abbrev pub run_choice : Checked → ℕ → Run → Choice
run_choice table i run = times run.order (choice_at table i) run.once run.left.times run.left.number

abbrev pub longest_run : Checked → ℕ → Run → ℕ
longest_run table i run = run.left.times * longest table i

pub record LayableRun (table : Checked) (i : ℕ) (run : Run) : Type 0 where
  pub ends : Ends (table_of table) i
  pub fits : Fits table.scope (pattern_of table i)
  pub once : run.once ≡ count_of table i
  pub power : run.left.power ≡ run.once ^ run.left.times
  pub below : run.left.number < run.left.power
  pub small : run.left.power ≤ most_candidates
  pub few : run.left.times ≤ most_times

-- a root whose pattern has this number: its event with the choice inside, and how many events at most
abbrev pub root_choice : Checked → Root → ℕ → Choice
root_choice table root n = node root.event (choice_at table (root.item - 1) n)

abbrev pub longest_root : Checked → Root → ℕ
longest_root table root = longest table (root.item - 1) + 1

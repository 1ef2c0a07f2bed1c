-- What it means that a schema is within the limits. Assumes nothing.
use Rattle.std.specs.Prelude.{ℕ, ◌≤◌, length}
use Rattle.questions.specs.Limits.{most_items, most_roots, most_scope, most_candidates, most_events}
use Rattle.grammar.specs.Schema.{Schema, candidates, events}
use Rattle.grammar.specs.Fits.{RootsFit, Operate}
use Rattle.schema.specs.Writing.{items_of}

-- the schema is within the limits at scope s
pub record Within (s : ℕ) (x : Schema) : Type 0 where
  pub scope_from : 1 ≤ s
  pub scope_to : s ≤ most_scope
  pub items : length (items_of x) ≤ most_items
  pub roots_from : 1 ≤ length x.roots
  pub roots_to : length x.roots ≤ most_roots
  pub roots : RootsFit s x.roots
  pub operations : Operate x.roots x.operations
  pub candidates : candidates s x.roots ≤ most_candidates
  pub events : events s x.roots ≤ most_events

-- What is promised of checked tables, in the words of schemas. Assumes nothing.
use Rattle.std.specs.Prelude.{◌≡◌, ℕ, List, Ok, Err, Result}
use Rattle.questions.specs.declared.refusal.Refusal.{Refusal}
use Rattle.grammar.specs.Schema.{Schema, candidates}
use Rattle.schema.specs.Plans.{plan_of}
use Rattle.schema.specs.Writing.{writing}
use Rattle.schema.specs.Within.{Within}
use Rattle.schema.specs.declared.plan.Plan.{Plan}

-- b is the table of the schema x, which is within the limits at scope s
abbrev pub Writes : ℕ → Schema → List ℕ → Type 0
Writes s x b = Within s x × (b ≡ writing x)

-- a check of b at scope s answered the total t and left the plan p: b is the table of a schema within the limits, total and plan are those of
-- its roots, and no other schema within the limits has this table
pub record Accepted (b : List ℕ) (s t : ℕ) (p : Plan) : Type 0 where
  pub schema : Schema
  pub writes : Writes s schema b
  pub total : t ≡ candidates s schema.roots
  pub plan : p ≡ plan_of s schema.roots
  pub only : (y : Schema) → Writes s y b → y ≡ schema

-- a table is accepted exactly when it is the writing of a schema within the limits, and that schema is the only one
abbrev pub TablesAreSchemas : List ℕ → ℕ → Result ℕ Refusal → Plan → Type 0
TablesAreSchemas b s (Ok t) p = Accepted b s t p
TablesAreSchemas b s (Err e) p = (x : Schema) → Writes s x b → ⊥

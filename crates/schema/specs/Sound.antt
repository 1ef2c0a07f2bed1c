-- What a checked table holds. Assumes nothing.
use Rattle.std.specs.Prelude.{◌≡◌, ℕ, ◌+◌, ◌-◌, ◌*◌, ◌<◌, List, [], ◌∷◌, length, Ok, Err, Result, slice_index_or}
use Rattle.arrayvec.specs.ArrayVec.{ArrayVec, array_vec_len}
use Rattle.questions.specs.declared.refusal.Refusal.{Refusal}
use Rattle.grammar.specs.Pattern.{nothing}
use Rattle.grammar.specs.Schema.{Rooted}
use Rattle.grammar.specs.Measures.{measure_of}
use Rattle.grammar.specs.declared.measure.Measure.{Measure}
use Rattle.schema.specs.Bytes.{item_count, root_count}
use Rattle.schema.specs.Reading.{pattern_at, schema_of}
use Rattle.schema.specs.Plans.{no_root, entry, plan_of}
use Rattle.schema.specs.Questions.{made_at, verdict}
use Rattle.schema.specs.Progress.{Sized, Ends, KnowsMade, no_measure}
use Rattle.schema.specs.Within.{Within}
use Rattle.schema.specs.declared.plan.Plan.{Plan}
use Rattle.schema.specs.declared.plan.Root.{Root}

abbrev pub no_rooted : Rooted
no_rooted = record { event = 0; pattern = nothing }

-- a root is planned: the item before the one that closes it ends its pattern
pub record Planned (b : List ℕ) (s : ℕ) (e : Root) (r : Rooted) : Type 0 where
  pub entry : e ≡ entry s e.item r
  pub follows : 0 < e.item
  pub ends : Ends b (e.item - 1)
  pub is : pattern_at b (e.item - 1) ≡ r.pattern

-- all that is known of a table b that was accepted at scope s with the total t and the plan p, and whose items are measured
pub record Sound (b : List ℕ) (s t : ℕ) (p : Plan) (k : ArrayVec Measure) : Type 0 where
  pub accepted : verdict b s ≡ Ok t
  pub bytes : length b ≡ 4 + 3 * item_count b
  pub sized : Sized b
  pub roots : length (schema_of b).roots ≡ root_count b
  pub within : Within s (schema_of b)
  pub plan : p ≡ plan_of s (schema_of b).roots
  pub planned : (j : ℕ) → j < length (schema_of b).roots → Planned b s (slice_index_or p.roots j no_root) (slice_index_or (schema_of b).roots j no_rooted)
  pub all : array_vec_len k ≡ item_count b
  pub right : KnowsMade b s k

-- The same by numbers alone, as a value of the code carries it.

-- the total of an accepted table, and nothing else
abbrev pub total_in : Result ℕ Refusal → List ℕ
total_in (Ok t) = t ∷ []
total_in (Err e) = []

abbrev pub Accepts : List ℕ → ℕ → ℕ → Type 0
Accepts b s t = total_in (verdict b s) ≡ t ∷ []

abbrev pub numbers_of_root : Root → List ℕ
numbers_of_root r = r.event ∷ (r.item ∷ (r.count ∷ (r.length ∷ [])))

abbrev pub numbers_of_roots : List Root → List (List ℕ)
numbers_of_roots [] = []
numbers_of_roots (r ∷ rs) = numbers_of_root r ∷ numbers_of_roots rs

abbrev pub PlansRoots : List ℕ → ℕ → Plan → Type 0
PlansRoots b s p = numbers_of_roots p.roots ≡ numbers_of_roots (plan_of s (schema_of b).roots).roots

abbrev pub numbers_of_measure : Measure → List ℕ
numbers_of_measure m = m.items ∷ (m.count ∷ (m.length ∷ []))

abbrev pub MeasuresAll : List ℕ → ℕ → ArrayVec Measure → Type 0
MeasuresAll b s k = (j : ℕ) → j < array_vec_len k → numbers_of_measure (slice_index_or k.items j no_measure) ≡ numbers_of_measure (measure_of s (made_at b j))

-- The plan of a schema's roots. Assumes nothing.
use Rattle.std.specs.Prelude.{ℕ, ◌+◌, ◌-◌, List, [], ◌∷◌, ◌++◌, length, replicate}
use Rattle.questions.specs.Limits.{most_roots}
use Rattle.grammar.specs.Pattern.{count, len, size}
use Rattle.grammar.specs.Schema.{Rooted}
use Rattle.schema.specs.declared.plan.Plan.{Plan}
use Rattle.schema.specs.declared.plan.Root.{Root}

-- what stands after the last root
abbrev pub no_root : Root
no_root = record { event = 0; item = 0; count = 0; length = 0 }

-- no roots
abbrev pub empty_plan : Plan
empty_plan = record { roots = replicate most_roots no_root }

-- a root that item i closes
abbrev pub entry : ℕ → ℕ → Rooted → Root
entry s i r = record { event = r.event; item = i; count = count s r.pattern; length = len s r.pattern + 1 }

-- the roots that are written from item i on
abbrev pub entries : ℕ → ℕ → List Rooted → List Root
entries s i [] = []
entries s i (r ∷ rs) = entry s (i + size r.pattern) r ∷ entries s (i + size r.pattern + 1) rs

abbrev pub plan_of : ℕ → List Rooted → Plan
plan_of s rs = record { roots = entries s 0 rs ++ replicate (most_roots - length rs) no_root }

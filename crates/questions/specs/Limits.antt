-- The limits of a schema, by name. Assumes nothing.
use Rattle.std.specs.Prelude.{ℕ}

-- items of a table
abbrev pub most_items : ℕ
most_items = 255

-- bytes of a table
abbrev pub most_bytes : ℕ
most_bytes = 769

-- roots of a schema
abbrev pub most_roots : ℕ
most_roots = 8

abbrev pub most_scope : ℕ
most_scope = 5

-- event types are numbered from 0 to this
abbrev pub most_type : ℕ
most_type = 99

-- the largest count that a repetition states
abbrev pub most_times : ℕ
most_times = 15

-- the "most" of a repetition that stands for the scope
abbrev pub scope_mark : ℕ
scope_mark = 255

-- candidates of a pattern, a root or a schema
abbrev pub most_candidates : ℕ
most_candidates = 1000000

-- events of a pattern, a root or a schema
abbrev pub most_events : ℕ
most_events = 64

-- what a refusal shows for its item where its question was not asked of one
abbrev pub no_item : ℕ
no_item = 255

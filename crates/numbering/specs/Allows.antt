-- Which choices a pattern allows at a scope, and which the roots of a schema. Assumes nothing.
use Rattle.std.specs.Prelude.{ℕ, zero, suc, ◌≤◌, List, [], ◌∷◌}
use Rattle.grammar.specs.Pattern.{Pattern, nothing, atom, event, both, either, repeat, most}
use Rattle.grammar.specs.Schema.{Rooted}
use Rattle.grammar.specs.declared.part.Order.{Order}
use Rattle.numbering.specs.Choice.{Choice, empty, node, pair, took, earlier, later}

mutual
  -- the pattern allows the choice at scope s
  pub data Allows (s : ℕ) : Pattern → Choice → Type 0 where
    no_event : Allows s nothing empty
    one_event : {t : ℕ} → Allows s (atom t) (node t empty)
    inside : {t : ℕ} {p : Pattern} {x : Choice} → Allows s p x → Allows s (event t p) (node t x)
    two : {o : Order} {p q : Pattern} {x y : Choice} → Allows s p x → Allows s q y → Allows s (both o p q) (pair o x y)
    the_earlier : {p q : Pattern} {x : Choice} → Allows s p x → Allows s (either p q) (took earlier x)
    the_later : {p q : Pattern} {x : Choice} → Allows s q x → Allows s (either p q) (took later x)
    repeated : {o : Order} {a b k : ℕ} {p : Pattern} {x : Choice} → a ≤ k → k ≤ most s b → Occurs s o p k x → Allows s (repeat o a b p) x

  -- k occurrences of the pattern, each chosen for itself
  pub data Occurs (s : ℕ) : Order → Pattern → ℕ → Choice → Type 0 where
    none : {o : Order} {p : Pattern} → Occurs s o p zero empty
    one_more : {o : Order} {p : Pattern} {k : ℕ} {x y : Choice} → Allows s p x → Occurs s o p k y → Occurs s o p (suc k) (pair o x y)

-- a root as a pattern: its event, with its pattern inside
abbrev pub root_pattern : Rooted → Pattern
root_pattern r = event r.event r.pattern

-- one choice for each root, in order
pub data Chosen (s : ℕ) : List Rooted → List Choice → Type 0 where
  no_root : Chosen s [] []
  next_root : {r : Rooted} {rs : List Rooted} {x : Choice} {xs : List Choice} → Allows s (root_pattern r) x → Chosen s rs xs → Chosen s (r ∷ rs) (x ∷ xs)

-- What laying a choice adds to what is laid. Assumes nothing.
use Rattle.std.specs.Prelude.{◌≡◌, ℕ, suc, ◌+◌, ◌<◌, ◌≤◌, true, if◌then◌else◌, List, [], ◌∷◌, ◌++◌, map, take, Option, bit_or, slice_index}
use Rattle.rows.specs.Bits.{bit, mask}
use Rattle.rows.specs.Row.{value, row_of, no_row}
use Rattle.grammar.specs.declared.part.Order.{Order}
use Rattle.grammar.specs.declared.part.Order.TheVariants.{InOrder, AsSet}
use Rattle.numbering.specs.Choice.{Choice}
use Rattle.laying.specs.Pairs.{row}
use Rattle.laying.specs.Events.{size, types, tops, arounds, precs}
use Rattle.laying.specs.Beginning.{Beginning, beginning_of}
use Rattle.laying.specs.declared.laid.Laid.{Laid}
use Rattle.laying.specs.declared.laid.LaidEvent.{LaidEvent}

-- the events that are laid
abbrev pub laid_events : Laid → List LaidEvent
laid_events l = take l.len l.events

-- the types of events, the nearest event around each, and the row of the places that each precedes
abbrev pub types_in : List LaidEvent → List ℕ
types_in es = map (λ e. e.event) es

abbrev pub around_in : List LaidEvent → List (Option ℕ)
around_in es = map (λ e. e.around) es

abbrev pub rows_in : List LaidEvent → List ℕ
rows_in es = map (λ e. value e.precedes) es

-- what a value of the code shows
unfoldable pub shown : Laid → Beginning
shown l = record {
  types = types_in (laid_events l);
  around = around_in (laid_events l);
  precedes = rows_in (laid_events l);
  starts = take l.roots l.starts;
}

-- row a, empty past the events
abbrev pub row_at : Laid → ℕ → ℕ
row_at l a = slice_index (rows_in (laid_events l)) a

-- one event of type t is added, p the nearest around it
pub record Pushed (t : ℕ) (p : Option ℕ) (old new : Laid) : Type 0 where
  pub len : new.len ≡ old.len + 1
  pub events : laid_events new ≡ laid_events old ++ (record { event = t; around = p; precedes = no_row } ∷ [])
  pub roots : new.roots ≡ old.roots
  pub starts : new.starts ≡ old.starts

-- the event at place n, when each event of the row x precedes those of the row y too
abbrev pub preceding_at : ℕ → ℕ → ℕ → LaidEvent → LaidEvent
preceding_at x y n e = record e { precedes = row_of (bit_or (value e.precedes) (if bit x n then y else 0)) }

-- the events from place n on, likewise
abbrev pub preceding : ℕ → ℕ → ℕ → List LaidEvent → List LaidEvent
preceding x y n [] = []
preceding x y n (e ∷ es) = preceding_at x y n e ∷ preceding x y (suc n) es

-- where o is in order, each event of the row x now precedes those of the row y
abbrev pub ordered : Order → ℕ → ℕ → List LaidEvent → List LaidEvent
ordered InOrder x y es = preceding x y 0 es
ordered AsSet x y es = es

pub record Ordered (o : Order) (x y : ℕ) (old new : Laid) : Type 0 where
  pub len : new.len ≡ old.len
  pub events : laid_events new ≡ ordered o x y (laid_events old)
  pub roots : new.roots ≡ old.roots
  pub starts : new.starts ≡ old.starts

-- the choice x is laid, p the nearest event around its top events
pub record Lays (p : Option ℕ) (x : Choice) (old new : Laid) : Type 0 where
  pub len : new.len ≡ old.len + size x
  pub types : types_in (laid_events new) ≡ types_in (laid_events old) ++ types x
  pub around : around_in (laid_events new) ≡ around_in (laid_events old) ++ arounds p old.len x
  pub rows : (a : ℕ) → row_at new a ≡ bit_or (row_at old a) (row (precs old.len x) a)
  pub roots : new.roots ≡ old.roots
  pub starts : new.starts ≡ old.starts

-- so it is, with no more than m events, and the row r holds its top events
pub record LaysTop (p : Option ℕ) (x : Choice) (m : ℕ) (old new : Laid) (r : ℕ) : Type 0 where
  pub lays : Lays p x old new
  pub tops : r ≡ mask (tops old.len x)
  pub length : new.len ≤ old.len + m

-- what is laid is one root more, with this choice
abbrev pub AddsRoot : Choice → Laid → Laid → Type 0
AddsRoot x old new = (xs : List Choice) → shown old ≡ beginning_of xs → shown new ≡ beginning_of (xs ++ (x ∷ []))

-- all bits of x lie from n on and below m
abbrev pub Between : ℕ → ℕ → ℕ → Type 0
Between n m x = (a : ℕ) → bit x a ≡ true → (n ≤ a) × (a < m)

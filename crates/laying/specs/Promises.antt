-- What laying means, in the words of events. Assumes nothing.
use Rattle.std.specs.Prelude.{◌≡◌, ℕ, suc, ◌+◌, ◌<◌, ◌≤◌, true, ◌⊎◌, ◌↔◌, List, [], ◌∷◌, ◌++◌, length, take, Some, None, slice_index_or}
use Rattle.rows.specs.Bits.{bit}
use Rattle.grammar.specs.Pattern.{Pattern, repeat, most}
use Rattle.grammar.specs.declared.part.Order.{Order}
use Rattle.grammar.specs.declared.part.Order.TheVariants.{InOrder}
use Rattle.numbering.specs.Allows.{Allows}
use Rattle.numbering.specs.Choice.{Choice, empty, node, pair, took, Side}
use Rattle.laying.specs.Pairs.{Pairs, Paired, Among, row}
use Rattle.laying.specs.Events.{size, tops, ins, arounds, precs}
use Rattle.laying.specs.Beginning.{whole, Beginning, beginning_of}

-- Encloses n x b a: event b of the choice x, laid from n on, has event a inside it
pub data Encloses : ℕ → Choice → ℕ → ℕ → Type 0 where
  around_all : {n t a : ℕ} {x : Choice} → n < a → a ≤ n + size x → Encloses n (node t x) n a
  deeper : {n t a b : ℕ} {x : Choice} → Encloses (suc n) x b a → Encloses n (node t x) b a
  in_first : {n a b : ℕ} {o : Order} {x y : Choice} → Encloses n x b a → Encloses n (pair o x y) b a
  in_second : {n a b : ℕ} {o : Order} {x y : Choice} → Encloses (n + size x) y b a → Encloses n (pair o x y) b a
  on_side : {n a b : ℕ} {d : Side} {x : Choice} → Encloses n x b a → Encloses n (took d x) b a

-- an event is IN the nearest one around it: the one that encloses it and that every other around it encloses
abbrev pub InTheNearest : Type 0
InTheNearest = (n : ℕ) (x : Choice) (a b : ℕ) → Paired (ins n x) a b ↔ (Encloses n x b a × ((c : ℕ) → Encloses n x c a → (c ≡ b) ⊎ Encloses n x c b))

-- the list of the nearest events says the same
abbrev pub AroundIsIn : Type 0
AroundIsIn = (x : Choice) (a b : ℕ) → Paired (ins 0 x) a b ↔ (slice_index_or (arounds None 0 x) a None ≡ Some b)

-- the top events are the events that no other encloses
abbrev pub TopsOutermost : Type 0
TopsOutermost = (n : ℕ) (x : Choice) (a : ℕ) → Among (tops n x) a ↔ ((n ≤ a) × (a < n + size x) × ((b : ℕ) → Encloses n x b a → ⊥))

-- of two parts, in order: each top event of the earlier precedes each of the later; as a set, nothing is added
abbrev pub PartsPrecede : Type 0
PartsPrecede = (n : ℕ) (o : Order) (x y : Choice) (a b : ℕ) → Paired (precs n (pair o x y)) a b ↔
    (((o ≡ InOrder) × Among (tops n x) a × Among (tops (n + size x) y) b)
    ⊎ (Paired (precs n x) a b ⊎ Paired (precs (n + size x) y) a b))

-- the occurrences of a repetition, the first before the others
abbrev pub occurring_all : Order → List Choice → Choice
occurring_all o [] = empty
occurring_all o (x ∷ xs) = pair o x (occurring_all o xs)

-- each choice of the list is allowed
abbrev pub EachAllowed : ℕ → Pattern → List Choice → Type 0
EachAllowed s p [] = Unit {0}
EachAllowed s p (x ∷ xs) = Allows s p x × EachAllowed s p xs

-- the choices of a repetition are its occurrences: so many as it may have, each a choice of the pattern
abbrev pub RepetitionsOccur : Type 0
RepetitionsOccur = (s : ℕ) (o : Order) (a b : ℕ) (p : Pattern) (x : Choice) → Allows s (repeat o a b p) x
    ↔ ((xs : List Choice) × (x ≡ occurring_all o xs) × (a ≤ length xs) × (length xs ≤ most s b) × EachAllowed s p xs)

-- the k-th occurrence, and where it starts
abbrev pub occurrence : List Choice → ℕ → Choice
occurrence xs k = slice_index_or xs k empty

abbrev pub start : Order → ℕ → List Choice → ℕ → ℕ
start o n xs k = n + size (occurring_all o (take k xs))

-- in a repetition in order, the top events of every earlier occurrence precede those of every later one, whatever stands between; as a set,
-- none does; and nothing else precedes anything but within one occurrence
abbrev pub OccurrencesPrecede : Type 0
OccurrencesPrecede = (n : ℕ) (o : Order) (xs : List Choice) (a b : ℕ) → Paired (precs n (occurring_all o xs)) a b ↔
    (((k : ℕ) × (k < length xs) × Paired (precs (start o n xs k) (occurrence xs k)) a b)
    ⊎ ((k : ℕ) × (l : ℕ) × (o ≡ InOrder) × (k < l) × (l < length xs) × Among (tops (start o n xs k) (occurrence xs k)) a × Among (tops (start o n xs l) (occurrence xs l)) b))

-- a row's bits are the pairs of its place
abbrev pub RowsSay : Type 0
RowsSay = (ps : Pairs) (a b : ℕ) → (bit (row ps a) b ≡ true) ↔ Paired ps a b

-- the first m events and the first j roots of a beginning
abbrev pub kept : ℕ → ℕ → Beginning → Beginning
kept m j l = record { types = take m l.types; around = take m l.around; precedes = take m l.precedes; starts = take j l.starts }

-- a later root changes nothing of what the earlier ones laid
abbrev pub BeginningsStay : Type 0
BeginningsStay = (xs ys : List Choice) → kept (size (whole xs)) (length xs) (beginning_of (xs ++ ys)) ≡ beginning_of xs

pub record LayingLaws : Type 0 where
  pub nearest : InTheNearest
  pub around : AroundIsIn
  pub outermost : TopsOutermost
  pub parts : PartsPrecede
  pub repetitions : RepetitionsOccur
  pub occurrences : OccurrencesPrecede
  pub rows : RowsSay
  pub stay : BeginningsStay

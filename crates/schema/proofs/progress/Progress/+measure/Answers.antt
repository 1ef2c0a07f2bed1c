use Rattle.std.proofs.Common.{◌≡◌, ℕ, ◌-◌, ◌<◌, ◌⊎◌, List, sym, refl, ap, ◌∙◌, ap₂, inl, inr, arith}
use Rattle.grammar.specs.Pattern.{Pattern, event, both, either, repeat, size}
use Rattle.grammar.specs.Measures.{measure_of, inside_measure, both_measure, either_measure, repeat_measure}
use Rattle.grammar.specs.declared.measure.Measure.{Measure}
use Rattle.grammar.specs.declared.part.Order.{Order}
use Rattle.grammar.proofs.Measures.{inside_measures, both_measures, either_measures, repeat_measures}
use Rattle.schema.specs.Bytes.{item_at}
use Rattle.schema.specs.Reading.{pattern_at}
use Rattle.schema.specs.Progress.{Ends}
use Rattle.items.specs.declared.item.Item.{Item}
use Rattle.items.specs.declared.item.Item.TheVariants.{Event, Both, Either, Repeat}
use Rattle.schema.proofs.Waiting.{One, Two, unary, binary}
use Rattle.schema.proofs.progress.Progress.+measure.Goals as goal

event_of : (b : List ℕ) (i x : ℕ) → Ends b i → Event x ≡ item_at b i → (q : Pattern) × One b i q × (pattern_at b i ≡ event x q)
event_of b i x en e = unary b i (Event x) (event x) refl (λ q w. refl) en e

repeat_of : (b : List ℕ) (i : ℕ) (o : Order) (x y : ℕ) → Ends b i → Repeat o x y ≡ item_at b i → (q : Pattern) × One b i q × (pattern_at b i ≡ repeat o x y q)
repeat_of b i o x y en e = unary b i (Repeat o x y) (repeat o x y) refl (λ q w. refl) en e

-- the two patterns that a sequence, a set or an alternative takes, and what it makes of them
record Pair (b : List ℕ) (i : ℕ) (it : Item) : Type 0 where
  p : Pattern
  q : Pattern
  at : Two b i p q
  either : it ≡ Either → pattern_at b i ≡ either p q
  both : (it ≡ Either → ⊥) → (o : Order) × (pattern_at b i ≡ both o p q)

pair_of : (b : List ℕ) (i : ℕ) (it : Item) → Ends b i → it ≡ item_at b i → ((o : Order) × (it ≡ Both o)) ⊎ (it ≡ Either) → Pair b i it
pair_of b i it en is (inl e) =
    let u = binary b i (Both e.0) (both e.0) refl (λ q. refl) (λ q p w. refl) en (sym e.1 ∙ is) in
    record { p = u.0; q = u.1; at = u.2; either = λ f. (let z : ◌≡◌ {A = ℕ} 0 1 = cc e.1 in absurd (omega arith)); both = λ _. (e.0, u.3) }
pair_of b i it en is (inr e) =
    let u = binary b i Either either refl (λ q. refl) (λ q p w. refl) en (sym e ∙ is) in
    record { p = u.0; q = u.1; at = u.2; either = λ _. u.3; both = λ f. absurd (f e) }

-- a measured pattern that ends right before item i has few items, so that they are counted exactly
exact : (b : List ℕ) (s i : ℕ) (q : Pattern) (m : Measure) (k : ℕ) → Ends b i → One b i q → m ≡ measure_of s (pattern_at b (i - 1)) → k ≡ m.items → k ≡ size q
exact b s i q m k en o e f =
    let g : m.items ≡ (measure_of s q).items = ap (λ (x : Measure). x.items) (e ∙ ap (measure_of s) o.is) in
    omega (arith, o.few, en.within, en.sized.items)

-- the earlier of two patterns ends where the later one's items begin
earlier_ends : (b : List ℕ) (i : ℕ) (p q : Pattern) (k : ℕ) → Two b i p q → k ≡ size q → (i - 1 - k < i) × Ends b (i - 1 - k) × (pattern_at b (i - 1 - k) ≡ p)
earlier_ends b i p q k u e = rw e (omega (arith, u.later.pos), u.ends, u.is)

pub measure-requires : goal.measure-requires
measure-requires t c =
    let u = event_of c.args.table.now c.args.i c.in-Event.field-0 c.requires.ends c.in-Event.ensures.item in
    (omega (arith, u.1.pos), (u.1.ends, c.requires.knows))

pub measure-once-requires : goal.measure-once-requires
measure-once-requires t c =
    let u = repeat_of c.args.table.now c.args.i c.in-Repeat.field-0 c.in-Repeat.least c.in-Repeat.most c.requires.ends c.in-Repeat.ensures.item in
    (omega (arith, u.1.pos), (u.1.ends, c.requires.knows))

pub measure-later-requires : goal.measure-later-requires
measure-later-requires t c =
    let u = pair_of c.args.table.now c.args.i c.item-item.result c.requires.ends c.item-item.ensures.item c.in-Both.is in
    (omega (arith, u.at.later.pos), (u.at.later.ends, c.requires.knows))

pub overflow_sub-i-in-Both-3 : goal.overflow_sub-i-in-Both-3
overflow_sub-i-in-Both-3 t c =
    let u = pair_of c.args.table.now c.args.i c.item-item.result c.requires.ends c.item-item.ensures.item c.in-Both.is in
    omega (arith, u.at.room, exact c.args.table.now c.args.self.now.scope c.args.i u.q c.measure-later.result c.from.result c.requires.ends u.at.later c.measure-later.ensures c.from.ensures)

pub measure-earlier-requires : goal.measure-earlier-requires
measure-earlier-requires t c =
    let u = pair_of c.args.table.now c.args.i c.item-item.result c.requires.ends c.item-item.ensures.item c.in-Both.is in
    let k = exact c.args.table.now c.args.self.now.scope c.args.i u.q c.measure-later.result c.from.result c.requires.ends u.at.later c.measure-later.ensures c.from.ensures in
    let v = earlier_ends c.args.table.now c.args.i u.p u.q c.from.result u.at k in
    (omega (arith, v.0), (v.1, c.requires.knows))

pub returns-in-Event : goal.returns-in-Event
returns-in-Event t c =
    let s = c.args.self.now.scope in
    let u = event_of c.args.table.now c.args.i c.in-Event.field-0 c.requires.ends c.in-Event.ensures.item in
    c.inside.ensures ∙ (ap inside_measure (c.measure.ensures ∙ ap (measure_of s) u.1.is) ∙ (inside_measures s c.in-Event.field-0 u.0 ∙ ap (measure_of s) (sym u.2)))

pub returns-in-Either : goal.returns-in-Either
returns-in-Either t c =
    let s = c.args.self.now.scope in
    let u = pair_of c.args.table.now c.args.i c.item-item.result c.requires.ends c.item-item.ensures.item c.in-Both.is in
    let k = exact c.args.table.now c.args.self.now.scope c.args.i u.q c.measure-later.result c.from.result c.requires.ends u.at.later c.measure-later.ensures c.from.ensures in
    let v = earlier_ends c.args.table.now c.args.i u.p u.q c.from.result u.at k in
    c.either.ensures
    ∙ (ap₂ either_measure (c.measure-earlier.ensures ∙ ap (measure_of s) v.2) (c.measure-later.ensures ∙ ap (measure_of s) u.at.later.is)
    ∙ (either_measures s u.p u.q ∙ ap (measure_of s) (sym (u.either c.in-Either.is))))

pub returns-in_default-item : goal.returns-in_default-item
returns-in_default-item t c =
    let s = c.args.self.now.scope in
    let u = pair_of c.args.table.now c.args.i c.item-item.result c.requires.ends c.item-item.ensures.item c.in-Both.is in
    let k = exact c.args.table.now c.args.self.now.scope c.args.i u.q c.measure-later.result c.from.result c.requires.ends u.at.later c.measure-later.ensures c.from.ensures in
    let v = earlier_ends c.args.table.now c.args.i u.p u.q c.from.result u.at k in
    let o = u.both c.in_default-item.not-Either in
    c.both.ensures
    ∙ (ap₂ both_measure (c.measure-earlier.ensures ∙ ap (measure_of s) v.2) (c.measure-later.ensures ∙ ap (measure_of s) u.at.later.is)
    ∙ (both_measures s o.0 u.p u.q ∙ ap (measure_of s) (sym o.1)))

pub returns-in-Repeat : goal.returns-in-Repeat
returns-in-Repeat t c =
    let s = c.args.self.now.scope in
    let x = c.in-Repeat.least in
    let y = c.in-Repeat.most in
    let u = repeat_of c.args.table.now c.args.i c.in-Repeat.field-0 x y c.requires.ends c.in-Repeat.ensures.item in
    c.repeat.ensures
    ∙ (ap₂ (λ k m. repeat_measure x k m) c.most_of.ensures (c.measure-once.ensures ∙ ap (measure_of s) u.1.is)
    ∙ (repeat_measures s c.in-Repeat.field-0 x y u.0 ∙ ap (measure_of s) (sym u.2)))

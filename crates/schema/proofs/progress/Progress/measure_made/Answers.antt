use Rattle.std.proofs.Common.{◌≡◌, ℕ, ◌-◌, ◌<◌, ◌⊎◌, List, length, sym, refl, ap, ◌∙◌, inl, inr, arith}
use Rattle.grammar.specs.Pattern.{nothing}
use Rattle.grammar.specs.Measures.{measure_of, inside_measure}
use Rattle.grammar.specs.declared.part.Relation.{Relation}
use Rattle.grammar.specs.declared.part.Selection.{Selection}
use Rattle.grammar.proofs.Measures.{inside_measures}
use Rattle.items.specs.Asked.{passes}
use Rattle.schema.specs.Bytes.{item_count, root_count, item_at}
use Rattle.schema.specs.Reading.{state, top, made, pattern_at}
use Rattle.schema.specs.Questions.{asked_at, made_at}
use Rattle.schema.specs.Progress.{Sized, Ends}
use Rattle.items.specs.declared.item.Item.{Item}
use Rattle.items.specs.declared.item.Item.TheVariants.{Nothing, Atom, Event, Both, Either, Repeat, Root, Pick, Relate, AtMost, Unknown}
use Rattle.schema.proofs.Steps.{found_at, Builds, built}
use Rattle.schema.proofs.Waiting.{made_ends, last_ends}
use Rattle.schema.proofs.progress.Progress.measure_made.Goals as goal

-- the pattern that a root takes ends right before it
before : (b : List ℕ) (s i t : ℕ) → asked_at b s i ≡ passes → Root t ≡ item_at b i → Sized b → i < item_count b → (0 < i) × Ends b (i - 1) × (pattern_at b (i - 1) ≡ top (state b i).patterns)
before b s i t pa is z lt = last_ends b i z lt (omega (arith, (found_at b s i (Root t) pa is).1))

-- an item that is none of these ends a pattern
pattern_ends : (b : List ℕ) (s i : ℕ) (it : Item) → asked_at b s i ≡ passes → it ≡ item_at b i → Sized b → i < item_count b
    → ((t : ℕ) → it ≡ Root t → ⊥) → ((x : Selection) → it ≡ Pick x → ⊥) → ((r : Relation) → it ≡ Relate r → ⊥) → ((n : ℕ) → it ≡ AtMost n → ⊥) → (it ≡ Unknown → ⊥) → Ends b i
pattern_ends b s i it pa is z lt a k r m o =
    record { sized = z; within = lt; waits = rw (sym is) (built it (state b i).patterns (root_count b) (length (state b i).roots) (length (state b i).picks) (go it a k r m o) (found_at b s i it pa is)).some }
  where
    go : (it : Item) → ((t : ℕ) → it ≡ Root t → ⊥) → ((x : Selection) → it ≡ Pick x → ⊥) → ((r : Relation) → it ≡ Relate r → ⊥) → ((n : ℕ) → it ≡ AtMost n → ⊥) → (it ≡ Unknown → ⊥) → Builds it
    go Nothing a k r m o = tt
    go (Atom t) a k r m o = tt
    go (Event t) a k r m o = tt
    go (Both x) a k r m o = tt
    go Either a k r m o = tt
    go (Repeat x y z) a k r m o = tt
    go (Root t) a k r m o = a t refl
    go (Pick x) a k r m o = k x refl
    go (Relate x) a k r m o = r x refl
    go (AtMost n) a k r m o = m n refl
    go Unknown a k r m o = o refl

-- and these make nothing
empty : (b : List ℕ) (i : ℕ) (it : Item) → it ≡ item_at b i → ((x : Selection) × (it ≡ Pick x)) ⊎ (((r : Relation) × (it ≡ Relate r)) ⊎ (((n : ℕ) × (it ≡ AtMost n)) ⊎ (it ≡ Unknown))) → nothing ≡ made_at b i
unfolding made_at
empty b i it is (inl h) = sym (ap (λ x. made x (state b i).patterns) (sym is ∙ h.1))
empty b i it is (inr (inl h)) = sym (ap (λ x. made x (state b i).patterns) (sym is ∙ h.1))
empty b i it is (inr (inr (inl h))) = sym (ap (λ x. made x (state b i).patterns) (sym is ∙ h.1))
empty b i it is (inr (inr (inr h))) = sym (ap (λ x. made x (state b i).patterns) (sym is ∙ h))

pub overflow_sub-i : goal.overflow_sub-i
overflow_sub-i c = omega (arith, (before c.args.table.now c.args.self.now.scope c.args.i c.in-Root.field-0 c.requires.admitted.passed c.in-Root.ensures.item c.item.ensures.sized c.requires.admitted.within).0)

pub measure-requires : goal.measure-requires
measure-requires c = record {
  ends = (before c.args.table.now c.args.self.now.scope c.args.i c.in-Root.field-0 c.requires.admitted.passed c.in-Root.ensures.item c.item.ensures.sized c.requires.admitted.within).1;
  knows = c.requires.knows;
}

pub measure-requires-in_default : goal.measure-requires-in_default
measure-requires-in_default c = record {
  ends = pattern_ends c.args.table.now c.args.self.now.scope c.args.i c.item.result c.requires.admitted.passed c.item.ensures.item c.item.ensures.sized c.requires.admitted.within
      c.in_default.not-Root c.in_default.not-Pick c.in_default.not-Relate c.in_default.not-AtMost c.in_default.not-Unknown;
  knows = c.requires.knows;
}

pub returns-in-Root : goal.returns-in-Root
unfolding made_at
returns-in-Root c =
    let s = c.args.self.now.scope in
    let ps = (state c.args.table.now c.args.i).patterns in
    let u = before c.args.table.now c.args.self.now.scope c.args.i c.in-Root.field-0 c.requires.admitted.passed c.in-Root.ensures.item c.item.ensures.sized c.requires.admitted.within in
    c.inside.ensures
    ∙ (ap inside_measure (c.measure.ensures ∙ ap (measure_of s) u.2)
    ∙ (inside_measures s c.in-Root.field-0 (top ps) ∙ ap (λ x. measure_of s (made x ps)) c.in-Root.ensures.item))

pub returns-in-Pick : goal.returns-in-Pick
returns-in-Pick c = c.nothing.ensures ∙ ap (measure_of c.args.self.now.scope) (empty c.args.table.now c.args.i c.item.result c.item.ensures.item c.in-Pick.is)

pub returns-in_default : goal.returns-in_default
returns-in_default c =
    c.measure-in_default.ensures
    ∙ ap (measure_of c.args.self.now.scope)
    (sym (made_ends c.args.table.now c.args.i
    (pattern_ends c.args.table.now c.args.self.now.scope c.args.i c.item.result c.requires.admitted.passed c.item.ensures.item c.item.ensures.sized c.requires.admitted.within
    c.in_default.not-Root c.in_default.not-Pick c.in_default.not-Relate c.in_default.not-AtMost c.in_default.not-Unknown)))

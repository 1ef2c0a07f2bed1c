-- Items that pass, leaving the stated roots and nothing waiting, are the writing of the schema that they leave.
use Rattle.std.proofs.Common.{◌≡◌, ℕ, ◌+◌, ◌<◌, ◌≤◌, ◌⊎◌, List, [], ◌∷◌, ◌++◌, length, sym, refl, ap, ◌∙◌, subst, ap₂, inl, inr, append_assoc, append-nil, arith, length-append}
use Rattle.std.proofs.lemmas.Bool.{cases_lt, eqb-false}
use Rattle.questions.specs.Limits.{most_events}
use Rattle.grammar.specs.Pattern.{Pattern, nothing, atom, event, both, either, repeat}
use Rattle.grammar.specs.Schema.{Rooted, Operation, relate, at_most, Schema}
use Rattle.grammar.specs.declared.part.Relation.{Relation}
use Rattle.grammar.specs.declared.part.Relation.TheVariants.{Share, Coordinate, AsMany, NoMore, FewerBefore}
use Rattle.grammar.specs.declared.part.Selection.{Selection}
use Rattle.schema.specs.Reading.{State, start, step, stacked, rooted, picked, operated, made, top, earlier, later}
use Rattle.schema.specs.Writing.{written, roots_written, operation_written, operations_written, items_of}
use Rattle.grammar.specs.Fits.{Small, Fits, RootsFit, Leaf, Leaves, Selects, Relates, Operate}
use Rattle.items.specs.declared.item.Item.{Item}
use Rattle.items.specs.declared.item.Item.TheVariants.{Nothing, Atom, Event, Both, Either, Repeat, Root, Pick, Relate, AtMost, Unknown}
use Rattle.items.proofs.Passing.{Found, Suited}
use Rattle.schema.proofs.Steps.{tallied}
use Rattle.schema.proofs.Advance.{advance, Unenclosed, Related, Shared, Good, Passing}

-- what waits, as it was written
abbrev patterns_written : List Pattern → List Item
patterns_written [] = []
patterns_written (p ∷ ps) = patterns_written ps ++ written p

abbrev picks_written : List Selection → List Item
picks_written [] = []
picks_written (x ∷ xs) = picks_written xs ++ (Pick x ∷ [])

-- what was read is within the limits

abbrev FitAll : ℕ → List Pattern → Type 0
FitAll s [] = Unit {0}
FitAll s (p ∷ ps) = Fits s p × FitAll s ps

abbrev SelectAll : ℕ → List Selection → Type 0
SelectAll r [] = Unit {0}
SelectAll r (x ∷ xs) = Selects r x × SelectAll r xs

-- as Operates, with question 7 on the items
abbrev Acts : ℕ → List Item → Operation → Type 0
Acts r all (relate o x y) = Selects r x × Selects r y × Related all o x y
Acts r all (at_most n x) = Selects r x × (n ≤ most_events)

abbrev ActAll : ℕ → List Item → List Operation → Type 0
ActAll r all [] = Unit {0}
ActAll r all (o ∷ os) = Acts r all o × ActAll r all os

fits_step : (s r : ℕ) (it : Item) (ps : List Pattern) → Suited s r it → Small s (made it ps) → FitAll s ps → FitAll s (stacked it ps)
fits_step s r Nothing ps u m a = (tt, a)
fits_step s r (Atom t) ps u m a = (u, a)
fits_step s r (Event t) [] u m a = tt
fits_step s r (Event t) (q ∷ ps) u m a = ((a.0, u, m), a.1)
fits_step s r (Both o) [] u m a = tt
fits_step s r (Both o) (q ∷ []) u m a = tt
fits_step s r (Both o) (q ∷ (p ∷ ps)) u m a = ((a.1.0, a.0, m), a.1.1)
fits_step s r Either [] u m a = tt
fits_step s r Either (q ∷ []) u m a = tt
fits_step s r Either (q ∷ (p ∷ ps)) u m a = ((a.1.0, a.0, m), a.1.1)
fits_step s r (Repeat o x y) [] u m a = tt
fits_step s r (Repeat o x y) (q ∷ ps) u m a = ((a.0, u, m), a.1)
fits_step s r (Root t) ps u m a = tt
fits_step s r (Pick x) ps u m a = tt
fits_step s r (Relate o) ps u m a = tt
fits_step s r (AtMost n) ps u m a = tt
fits_step s r Unknown ps u m a = tt

RootsFit-push : (s : ℕ) (rs : List Rooted) (x : Rooted) → RootsFit s rs → Fits s (event x.event x.pattern) → RootsFit s (rs ++ (x ∷ []))
RootsFit-push s [] x a f = (f, tt)
RootsFit-push s (y ∷ rs) x a f = (a.0, RootsFit-push s rs x a.1 f)

fits_top : (s : ℕ) (ps : List Pattern) → length ps ≡ 1 → FitAll s ps → Fits s (top ps)
fits_top s [] e a = absurd (omega arith)
fits_top s (p ∷ ps) e a = a.0

roots_step : (s r c p : ℕ) (it : Item) (ps : List Pattern) (rs : List Rooted) → Suited s r it → Found (tallied r c (length ps) p) it → Small s (made it ps) → FitAll s ps → RootsFit s rs → RootsFit s (rooted it ps rs)
roots_step s r c p Nothing ps rs u f m a b = b
roots_step s r c p (Atom t) ps rs u f m a b = b
roots_step s r c p (Event t) ps rs u f m a b = b
roots_step s r c p (Both o) ps rs u f m a b = b
roots_step s r c p Either ps rs u f m a b = b
roots_step s r c p (Repeat o x y) ps rs u f m a b = b
roots_step s r c p (Root t) ps rs u f m a b = RootsFit-push s rs (record { event = t; pattern = top ps }) b (fits_top s ps f.1 a, u, m)
roots_step s r c p (Pick x) ps rs u f m a b = b
roots_step s r c p (Relate o) ps rs u f m a b = b
roots_step s r c p (AtMost n) ps rs u f m a b = b
roots_step s r c p Unknown ps rs u f m a b = b

picks_step : (s r : ℕ) (it : Item) (xs : List Selection) → Suited s r it → SelectAll r xs → SelectAll r (picked it xs)
picks_step s r Nothing xs u a = a
picks_step s r (Atom t) xs u a = a
picks_step s r (Event t) xs u a = a
picks_step s r (Both o) xs u a = a
picks_step s r Either xs u a = a
picks_step s r (Repeat o x y) xs u a = a
picks_step s r (Root t) xs u a = a
picks_step s r (Pick x) xs u a = (u, a)
picks_step s r (Relate o) xs u a = tt
picks_step s r (AtMost n) xs u a = tt
picks_step s r Unknown xs u a = a

act-push : (r : ℕ) (all : List Item) (os : List Operation) (o : Operation) → ActAll r all os → Acts r all o → ActAll r all (os ++ (o ∷ []))
act-push r all [] o a h = (h, tt)
act-push r all (x ∷ os) o a h = (a.0, act-push r all os o a.1 h)

two_picks : (r : ℕ) (xs : List Selection) → length xs ≡ 2 → SelectAll r xs → Selects r (earlier xs) × Selects r (later xs)
two_picks r [] e a = absurd (omega arith)
two_picks r (y ∷ []) e a = absurd (omega arith)
two_picks r (y ∷ (x ∷ xs)) e a = (a.1.0, a.0)

one_pick : (r : ℕ) (xs : List Selection) → length xs ≡ 1 → SelectAll r xs → Selects r (later xs)
one_pick r [] e a = absurd (omega arith)
one_pick r (y ∷ xs) e a = a.0

act_step : (s r c w : ℕ) (all : List Item) (it : Item) (xs : List Selection) (os : List Operation) → Suited s r it → Found (tallied r c w (length xs)) it → Shared all it xs → SelectAll r xs → ActAll r all os → ActAll r all (operated it xs os)
act_step s r c w all Nothing xs os u f h a b = b
act_step s r c w all (Atom t) xs os u f h a b = b
act_step s r c w all (Event t) xs os u f h a b = b
act_step s r c w all (Both o) xs os u f h a b = b
act_step s r c w all Either xs os u f h a b = b
act_step s r c w all (Repeat o x y) xs os u f h a b = b
act_step s r c w all (Root t) xs os u f h a b = b
act_step s r c w all (Pick x) xs os u f h a b = b
act_step s r c w all (Relate o) xs os u f h a b = let t = two_picks r xs f.1 a in act-push r all os (relate o (earlier xs) (later xs)) b (t.0, t.1, h)
act_step s r c w all (AtMost n) xs os u f h a b = act-push r all os (at_most n (later xs)) b (one_pick r xs f.1 a, u)
act_step s r c w all Unknown xs os u f h a b = b

-- before the last root patterns and roots are read, after it operations; fs is what was read
abbrev Phase : ℕ → List Pattern → List Rooted → List Selection → List Operation → List Item → Type 0
Phase r ps rs xs os fs =
    ((length rs < r) × (xs ≡ []) × (os ≡ []) × (fs ≡ roots_written rs ++ patterns_written ps))
    ⊎ ((length rs ≡ r) × (ps ≡ []) × (fs ≡ roots_written rs ++ (operations_written os ++ picks_written xs)))

roots_written-push : (rs : List Rooted) (x : Rooted) → roots_written (rs ++ (x ∷ [])) ≡ roots_written rs ++ (written x.pattern ++ (Root x.event ∷ []))
roots_written-push [] x = refl
roots_written-push (y ∷ rs) x =
    ap (λ l. written y.pattern ++ (Root y.event ∷ l)) (roots_written-push rs x) ∙ sym (append_assoc (written y.pattern) (Root y.event ∷ roots_written rs) (written x.pattern ++ (Root x.event ∷ [])))

operations_written-push : (os : List Operation) (o : Operation) → operations_written (os ++ (o ∷ [])) ≡ operations_written os ++ operation_written o
operations_written-push [] o = append-nil (operation_written o)
operations_written-push (x ∷ os) o = ap (λ l. operation_written x ++ l) (operations_written-push os o) ∙ sym (append_assoc (operation_written x) (operations_written os) (operation_written o))

grow : (fs A T U : List Item) (it : Item) → fs ≡ A ++ T → T ++ (it ∷ []) ≡ U → fs ++ (it ∷ []) ≡ A ++ U
grow fs A T U it e f = ap (λ l. l ++ (it ∷ [])) e ∙ (append_assoc A T (it ∷ []) ∙ ap (λ l. A ++ l) f)

-- one more pattern's item
grows : (r : ℕ) (ps qs : List Pattern) (rs : List Rooted) (xs : List Selection) (os : List Operation) (fs : List Item) (it : Item)
    → length rs < r → patterns_written ps ++ (it ∷ []) ≡ patterns_written qs → Phase r ps rs xs os fs → Phase r qs rs xs os (fs ++ (it ∷ []))
grows r ps qs rs xs os fs it lt e (inl h) = inl (lt, h.1, h.2, grow fs (roots_written rs) (patterns_written ps) (patterns_written qs) it h.3 e)
grows r ps qs rs xs os fs it lt e (inr h) = absurd (omega (arith, h.0))

two_written : (o : Relation) (xs : List Selection) → length xs ≡ 2 → picks_written xs ++ (Relate o ∷ []) ≡ operation_written (relate o (earlier xs) (later xs))
two_written o [] e = absurd (omega arith)
two_written o (y ∷ []) e = absurd (omega arith)
two_written o (y ∷ (x ∷ [])) e = refl
two_written o (y ∷ (x ∷ (z ∷ xs))) e = absurd (omega arith)

one_written : (n : ℕ) (xs : List Selection) → length xs ≡ 1 → picks_written xs ++ (AtMost n ∷ []) ≡ operation_written (at_most n (later xs))
one_written n [] e = absurd (omega arith)
one_written n (x ∷ []) e = refl
one_written n (x ∷ (y ∷ xs)) e = absurd (omega arith)

-- one more operation
operates_more : (r : ℕ) (ps : List Pattern) (rs : List Rooted) (xs : List Selection) (os : List Operation) (fs : List Item) (it : Item) (o : Operation)
    → length rs ≡ r → picks_written xs ++ (it ∷ []) ≡ operation_written o → Phase r ps rs xs os fs → Phase r [] rs [] (os ++ (o ∷ [])) (fs ++ (it ∷ []))
operates_more r ps rs xs os fs it o e w (inl h) = absurd (omega (arith, h.0))
operates_more r ps rs xs os fs it o e w (inr h) =
    inr (
      e,
      refl,
      grow fs (roots_written rs) (operations_written os ++ picks_written xs) (operations_written (os ++ (o ∷ [])) ++ []) it h.2
          (append_assoc (operations_written os) (picks_written xs) (it ∷ [])
          ∙ (ap (λ l. operations_written os ++ l) w ∙ (sym (operations_written-push os o) ∙ sym (append-nil (operations_written (os ++ (o ∷ []))))))),
    )

phase_step : (r : ℕ) (it : Item) (ps : List Pattern) (rs : List Rooted) (xs : List Selection) (os : List Operation) (fs : List Item)
    → Found (tallied r (length rs) (length ps) (length xs)) it → Phase r ps rs xs os fs → Phase r (stacked it ps) (rooted it ps rs) (picked it xs) (operated it xs os) (fs ++ (it ∷ []))
phase_step r Nothing ps rs xs os fs f h = grows r ps (nothing ∷ ps) rs xs os fs Nothing f refl h
phase_step r (Atom t) ps rs xs os fs f h = grows r ps (atom t ∷ ps) rs xs os fs (Atom t) f refl h
phase_step r (Event t) [] rs xs os fs f h = absurd (omega (arith, f.1))
phase_step r (Event t) (p ∷ ps) rs xs os fs f h = grows r (p ∷ ps) (event t p ∷ ps) rs xs os fs (Event t) f.0 (append_assoc (patterns_written ps) (written p) (Event t ∷ [])) h
phase_step r (Both o) [] rs xs os fs f h = absurd (omega (arith, f.1))
phase_step r (Both o) (q ∷ []) rs xs os fs f h = absurd (omega (arith, f.1))
phase_step r (Both o) (q ∷ (p ∷ ps)) rs xs os fs f h = grows r (q ∷ (p ∷ ps)) (both o p q ∷ ps) rs xs os fs (Both o) f.0 (simp append_assoc) h
phase_step r Either [] rs xs os fs f h = absurd (omega (arith, f.1))
phase_step r Either (q ∷ []) rs xs os fs f h = absurd (omega (arith, f.1))
phase_step r Either (q ∷ (p ∷ ps)) rs xs os fs f h = grows r (q ∷ (p ∷ ps)) (either p q ∷ ps) rs xs os fs Either f.0 (simp append_assoc) h
phase_step r (Repeat o x y) [] rs xs os fs f h = absurd (omega (arith, f.1))
phase_step r (Repeat o x y) (p ∷ ps) rs xs os fs f h = grows r (p ∷ ps) (repeat o x y p ∷ ps) rs xs os fs (Repeat o x y) f.0 (append_assoc (patterns_written ps) (written p) (Repeat o x y ∷ [])) h
phase_step r (Root t) [] rs xs os fs f h = absurd (omega (arith, f.1))
phase_step r (Root t) (p ∷ (q ∷ ps)) rs xs os fs f h = absurd (omega (arith, f.1))
phase_step r (Root t) (p ∷ []) rs xs os fs f (inr h) = absurd (omega (arith, f.0, h.0))
phase_step r (Root t) (p ∷ []) rs xs os fs f (inl h) = go (cases_lt (length (rs ++ (x ∷ []))) r)
  where
    x : Rooted
    x = record { event = t; pattern = p }

    e : fs ++ (Root t ∷ []) ≡ roots_written (rs ++ (x ∷ []))
    e = grow fs (roots_written rs) (written p) (written p ++ (Root t ∷ [])) (Root t) h.3 refl ∙ sym (roots_written-push rs x)

    n : length (rs ++ (x ∷ [])) ≡ length rs + 1
    n = simp length-append

    go : (length (rs ++ (x ∷ [])) < r) ⊎ (r ≤ length (rs ++ (x ∷ []))) → Phase r [] (rs ++ (x ∷ [])) xs os (fs ++ (Root t ∷ []))
    go (inl lt) = inl (lt, h.1, h.2, e ∙ sym (append-nil (roots_written (rs ++ (x ∷ [])))))
    go (inr le) =
        inr (
          omega (arith, n, f.0),
          refl,
          e ∙ (sym (append-nil (roots_written (rs ++ (x ∷ [])))) ∙ ap₂ (λ u v. roots_written (rs ++ (x ∷ [])) ++ (operations_written u ++ picks_written v)) (sym h.2) (sym h.1)),
        )
phase_step r (Pick x) ps rs xs os fs f (inl h) = absurd (omega (arith, f.0, h.0))
phase_step r (Pick x) ps rs xs os fs f (inr h) =
    inr (
      h.0,
      refl,
      grow fs (roots_written rs) (operations_written os ++ picks_written xs) (operations_written os ++ picks_written (x ∷ xs)) (Pick x) h.2 (append_assoc (operations_written os) (picks_written xs) (Pick x ∷ [])),
    )
phase_step r (Relate o) ps rs xs os fs f h = operates_more r ps rs xs os fs (Relate o) (relate o (earlier xs) (later xs)) f.0 (two_written o xs f.1) h
phase_step r (AtMost n) ps rs xs os fs f h = operates_more r ps rs xs os fs (AtMost n) (at_most n (later xs)) f.0 (one_written n xs f.1) h
phase_step r Unknown ps rs xs os fs f h = absurd f

record Whole (s r : ℕ) (all : List Item) (S : State) (fs : List Item) : Type 0 where
  patterns : FitAll s S.patterns
  roots : RootsFit s S.roots
  picks : SelectAll r S.picks
  operations : ActAll r all S.operations
  phase : Phase r S.patterns S.roots S.picks S.operations fs

whole_step : (s r : ℕ) (all : List Item) (it : Item) (S : State) (fs : List Item) → Good s r all it S → Whole s r all S fs → Whole s r all (step it S) (fs ++ (it ∷ []))
whole_step s r all it S fs g w =
    let c = length S.roots in let p = length S.picks in
    record {
      patterns = fits_step s r it S.patterns g.suited g.small w.patterns;
      roots = roots_step s r c p it S.patterns S.roots g.suited g.found g.small w.patterns w.roots;
      picks = picks_step s r it S.picks g.suited w.picks;
      operations = act_step s r c (length S.patterns) all it S.picks S.operations g.suited g.found g.shared w.picks w.operations;
      phase = phase_step r it S.patterns S.roots S.picks S.operations fs g.found w.phase;
    }

whole_all : (s r : ℕ) (all its : List Item) (S : State) (fs : List Item) → Passing s r all its S → Whole s r all S fs → Whole s r all (advance its S) (fs ++ its)
whole_all s r all [] S fs a w = rw append-nil w
whole_all s r all (x ∷ its) S fs a w = subst (Whole s r all (advance its (step x S))) (append_assoc fs (x ∷ []) its) (whole_all s r all its (step x S) (fs ++ (x ∷ [])) a.1 (whole_step s r all x S fs a.0 w))

pub unenclosed_parts : (t : ℕ) (xs ys : List Item) → Unenclosed t (xs ++ ys) → Unenclosed t xs × Unenclosed t ys
unenclosed_parts t [] ys a = (tt, a)
unenclosed_parts t (x ∷ xs) ys a = let u = unenclosed_parts t xs ys a.1 in ((a.0, u.0), u.1)

leaf_pattern : (t : ℕ) (p : Pattern) → Unenclosed t (written p) → Leaf t p
leaf_pattern t nothing h = tt
leaf_pattern t (atom u) h = tt
leaf_pattern t (event u p) h = let a = unenclosed_parts t (written p) (Event u ∷ []) h in (leaf_pattern t p a.0, eqb-false u t a.1.0)
leaf_pattern t (both o p q) h =
    let a = unenclosed_parts t (written p) (written q ++ (Both o ∷ [])) h in
    (leaf_pattern t p a.0, leaf_pattern t q (unenclosed_parts t (written q) (Both o ∷ []) a.1).0)
leaf_pattern t (either p q) h =
    let a = unenclosed_parts t (written p) (written q ++ (Either ∷ [])) h in
    (leaf_pattern t p a.0, leaf_pattern t q (unenclosed_parts t (written q) (Either ∷ []) a.1).0)
leaf_pattern t (repeat o a b p) h = leaf_pattern t p (unenclosed_parts t (written p) (Repeat o a b ∷ []) h).0

leaves_roots : (t : ℕ) (rs : List Rooted) → Unenclosed t (roots_written rs) → Leaves t rs
leaves_roots t [] h = tt
leaves_roots t (x ∷ rs) h =
    let a = unenclosed_parts t (written x.pattern) (Root x.event ∷ roots_written rs) h in
    (leaf_pattern t x.pattern a.0, eqb-false x.event t a.1.0, leaves_roots t rs a.1.1)

module _ (r : ℕ) (all : List Item) (rs : List Rooted) (e : length rs ≡ r) (u : (t : ℕ) → Unenclosed t all → Leaves t rs) where
  relates : (o : Relation) (x y : Selection) → Related all o x y → Relates rs o x y
  relates Share x y h = (h.0, h.1, u x.event h.2)
  relates Coordinate x y h = tt
  relates AsMany x y h = tt
  relates NoMore x y h = tt
  relates FewerBefore x y h = tt

  operate_all : (os : List Operation) → ActAll r all os → Operate rs os
  operate_all [] h = tt
  operate_all (relate o x y ∷ os) h = ((rw e h.0.0, rw e h.0.1, relates o x y h.0.2), operate_all os h.1)
  operate_all (at_most n x ∷ os) h = ((rw e h.0.0, h.0.1), operate_all os h.1)

-- the schema that a state holds
abbrev pub held : State → Schema
held S = record { roots = S.roots; operations = S.operations }

pub record Read (s : ℕ) (all : List Item) (S : State) : Type 0 where
  pub items : all ≡ items_of (held S)
  pub roots : RootsFit s S.roots
  pub operations : Operate S.roots S.operations

pub reads : (s r : ℕ) (all : List Item) → 0 < r → Passing s r all all start → (S : State) → advance all start ≡ S → length S.roots ≡ r → S.patterns ≡ [] → S.picks ≡ [] → Read s all S
reads s r all pos a S e en ep ek =
    let w : Whole s r all S all = subst (λ T. Whole s r all T all) e (whole_all s r all all start [] a (record { patterns = tt; roots = tt; picks = tt; operations = tt; phase = inl (pos, refl, refl, refl) })) in
    let i : all ≡ items_of (held S) = go w.phase in
    record {
      items = i;
      roots = w.roots;
      operations = operate_all r all S.roots en (λ t u. leaves_roots t S.roots (unenclosed_parts t (roots_written S.roots) (operations_written S.operations) (subst (Unenclosed t) i u)).0) S.operations w.operations;
    }
  where
    go : Phase r S.patterns S.roots S.picks S.operations all → all ≡ items_of (held S)
    go (inl h) = absurd (omega (arith, h.0, en))
    go (inr h) = h.2 ∙ ap (λ l. roots_written S.roots ++ l) (ap (λ v. operations_written S.operations ++ picks_written v) ek ∙ append-nil (operations_written S.operations))

-- How the counts of a check go on with one more item.
use Rattle.std.proofs.Common.{◌≡◌, ℕ, suc, ◌+◌, ◌-◌, ◌*◌, ◌<◌, ◌≤◌, ◌⊎◌, List, [], ◌∷◌, ◌++◌, length, set, replicate, sym, refl, ap, ◌∙◌, ap₂, inl, inr, mul_assoc, mul_comm, arith, length-append}
use Rattle.questions.specs.Limits.{most_roots, most_candidates, most_events}
use Rattle.grammar.specs.Pattern.{Pattern, event, count, len, size}
use Rattle.grammar.specs.Schema.{Rooted, candidates, events}
use Rattle.grammar.specs.Measures.{measure_of, count_capped}
use Rattle.grammar.specs.declared.measure.Measure.{Measure}
use Rattle.grammar.specs.declared.part.Order.{Order}
use Rattle.grammar.specs.declared.part.Relation.{Relation}
use Rattle.grammar.specs.declared.part.Selection.{Selection}
use Rattle.grammar.proofs.Caps.{min_mul_left}
use Rattle.schema.specs.Bytes.{root_count, argument_at, item_at}
use Rattle.schema.specs.Reading.{stacked, rooted, picked, state, tally_at, top, earlier, later}
use Rattle.schema.specs.Plans.{no_root, entry, entries, plan_of}
use Rattle.schema.specs.Progress.{Sized, Counted, pattern_items, root_items}
use Rattle.items.specs.declared.item.Item.{Item}
use Rattle.items.specs.declared.item.Item.TheVariants.{Nothing, Atom, Event, Both, Either, Repeat, Root, Pick, Relate, AtMost, Unknown}
use Rattle.schema.specs.declared.plan.Plan.{Plan}
use Rattle.schema.specs.declared.plan.Root.{Root as Entry}
use Rattle.schema.specs.declared.progress.Progress.{Progress}
use Rattle.items.specs.Asked.{passes, asked}
use Rattle.schema.specs.Questions.{asked_at}
use Rattle.items.specs.declared.ask.Tally.{Tally}
use Rattle.items.proofs.Passing.{Suited, Found, asked_passed}

-- One more root.

candidates-push : (s : ℕ) (rs : List Rooted) (r : Rooted) → candidates s (rs ++ (r ∷ [])) ≡ candidates s rs * count s r.pattern
candidates-push s [] r = mul_comm (count s r.pattern) 1
candidates-push s (x ∷ rs) r = ap (λ n. count s x.pattern * n) (candidates-push s rs r) ∙ sym (mul_assoc (count s x.pattern) (candidates s rs) (count s r.pattern))

events-push : (s : ℕ) (rs : List Rooted) (r : Rooted) → events s (rs ++ (r ∷ [])) ≡ events s rs + (len s r.pattern + 1)
events-push s [] r = omega arith
events-push s (x ∷ rs) r = let h = events-push s rs r in omega arith

root_items-push : (rs : List Rooted) (r : Rooted) → root_items (rs ++ (r ∷ [])) ≡ root_items rs + (size r.pattern + 1)
root_items-push [] r = omega arith
root_items-push (x ∷ rs) r = let h = root_items-push rs r in omega arith

entries-push : (s i k n : ℕ) (rs : List Rooted) (r : Rooted) → k ≡ i + root_items rs + size r.pattern
    → set (entries s i rs ++ replicate (suc n) no_root) (length rs) (entry s k r) ≡ entries s i (rs ++ (r ∷ [])) ++ replicate n no_root
entries-push s i k n [] r e = let f : k ≡ i + size r.pattern = omega arith in ap (λ j. entry s j r ∷ replicate n no_root) f
entries-push s i k n (x ∷ rs) r e = ap (λ l. entry s (i + size x.pattern) x ∷ l) (entries-push s (i + size x.pattern + 1) k n rs r (omega arith))

plan-push : (s k : ℕ) (rs : List Rooted) (r : Rooted) → length rs < most_roots → k ≡ root_items rs + size r.pattern
    → set (plan_of s rs).roots (length rs) (entry s k r) ≡ (plan_of s (rs ++ (r ∷ []))).roots
plan-push s k rs r h e =
    ap (λ n. set (entries s 0 rs ++ replicate n no_root) (length rs) (entry s k r)) {x = most_roots - length rs} {y = suc (most_roots - suc (length rs))} (omega arith)
    ∙ (entries-push s 0 k (most_roots - suc (length rs)) rs r (omega arith)
    ∙ ap (λ n. entries s 0 (rs ++ (r ∷ [])) ++ replicate n no_root) {x = most_roots - suc (length rs)} {y = most_roots - length (rs ++ (r ∷ []))} (simp length-append (omega arith)))

-- Items that end a pattern.

abbrev pub Builds : Item → Type 0
Builds Nothing = Unit {0}
Builds (Atom t) = Unit {0}
Builds (Event t) = Unit {0}
Builds (Both o) = Unit {0}
Builds Either = Unit {0}
Builds (Repeat o x y) = Unit {0}
Builds (Root t) = ⊥
Builds (Pick x) = ⊥
Builds (Relate r) = ⊥
Builds (AtMost n) = ⊥
Builds Unknown = ⊥

-- how many patterns wait after an item
abbrev pub left : Item → ℕ → ℕ
left Nothing w = w + 1
left (Atom t) w = w + 1
left (Event t) w = w
left (Both o) w = w - 1
left Either w = w - 1
left (Repeat o x y) w = w
left (Root t) w = 0
left (Pick x) w = w
left (Relate r) w = w
left (AtMost n) w = w
left Unknown w = w

abbrev pub tallied : ℕ → ℕ → ℕ → ℕ → Tally
tallied r c w p = record { roots = r; closed = c; patterns = w; picks = p }

-- what such an item does to the patterns that wait
pub record Built (it : Item) (ps : List Pattern) : Type 0 where
  pub waits : length (stacked it ps) ≡ left it (length ps)
  pub some : 0 < length (stacked it ps)
  pub more : length (stacked it ps) ≤ suc (length ps)
  pub items : pattern_items (stacked it ps) ≡ suc (pattern_items ps)

pub built : (it : Item) (ps : List Pattern) (r c p : ℕ) → Builds it → Found (tallied r c (length ps) p) it → Built it ps
built Nothing ps r c p h f = record { waits = omega arith; some = omega arith; more = omega arith; items = omega arith }
built (Atom t) ps r c p h f = record { waits = omega arith; some = omega arith; more = omega arith; items = omega arith }
built (Event t) [] r c p h f = absurd (omega (arith, f.1))
built (Event t) (q ∷ ps) r c p h f = record { waits = refl; some = omega arith; more = omega arith; items = omega arith }
built (Both o) [] r c p h f = absurd (omega (arith, f.1))
built (Both o) (q ∷ []) r c p h f = absurd (omega (arith, f.1))
built (Both o) (q ∷ (x ∷ ps)) r c p h f = record { waits = omega arith; some = omega arith; more = omega arith; items = omega arith }
built Either [] r c p h f = absurd (omega (arith, f.1))
built Either (q ∷ []) r c p h f = absurd (omega (arith, f.1))
built Either (q ∷ (x ∷ ps)) r c p h f = record { waits = omega arith; some = omega arith; more = omega arith; items = omega arith }
built (Repeat o x y) [] r c p h f = absurd (omega (arith, f.1))
built (Repeat o x y) (q ∷ ps) r c p h f = record { waits = refl; some = omega arith; more = omega arith; items = omega arith }
built (Root t) ps r c p h f = absurd h
built (Pick x) ps r c p h f = absurd h
built (Relate o) ps r c p h f = absurd h
built (AtMost n) ps r c p h f = absurd h
built Unknown ps r c p h f = absurd h

pub early : (it : Item) (t : Tally) → Builds it → Found t it → t.closed < t.roots
early Nothing t h f = f
early (Atom x) t h f = f
early (Event x) t h f = f.0
early (Both o) t h f = f.0
early Either t h f = f.0
early (Repeat o x y) t h f = f.0
early (Root x) t h f = absurd h
early (Pick x) t h f = absurd h
early (Relate o) t h f = absurd h
early (AtMost n) t h f = absurd h
early Unknown t h f = absurd h

rooted_builds : (it : Item) (ps : List Pattern) (rs : List Rooted) → Builds it → rooted it ps rs ≡ rs
rooted_builds Nothing ps rs h = refl
rooted_builds (Atom t) ps rs h = refl
rooted_builds (Event t) ps rs h = refl
rooted_builds (Both o) ps rs h = refl
rooted_builds Either ps rs h = refl
rooted_builds (Repeat o x y) ps rs h = refl
rooted_builds (Root t) ps rs h = absurd h
rooted_builds (Pick x) ps rs h = refl
rooted_builds (Relate r) ps rs h = refl
rooted_builds (AtMost n) ps rs h = refl
rooted_builds Unknown ps rs h = refl

picked_builds : (it : Item) (xs : List Selection) → Builds it → picked it xs ≡ xs
picked_builds Nothing xs h = refl
picked_builds (Atom t) xs h = refl
picked_builds (Event t) xs h = refl
picked_builds (Both o) xs h = refl
picked_builds Either xs h = refl
picked_builds (Repeat o x y) xs h = refl
picked_builds (Root t) xs h = refl
picked_builds (Pick x) xs h = absurd h
picked_builds (Relate r) xs h = absurd h
picked_builds (AtMost n) xs h = absurd h
picked_builds Unknown xs h = refl

-- what an item that closes no root leaves
pub record Same (g h : Progress) : Type 0 where
  pub scope : h.scope ≡ g.scope
  pub total : h.total ≡ g.total
  pub length : h.length ≡ g.length
  pub plan : h.plan ≡ g.plan

-- what questions 4 to 6 tell of item i
pub suited_at : (b : List ℕ) (s i : ℕ) (it : Item) → asked_at b s i ≡ passes → it ≡ item_at b i → Suited s (root_count b) it
unfolding asked_at
suited_at b s i it e is = (asked_passed s (tally_at b i) it (argument_at b i) (ap (λ x. asked s (tally_at b i) x (argument_at b i)) is ∙ e)).suited

pub found_at : (b : List ℕ) (s i : ℕ) (it : Item) → asked_at b s i ≡ passes → it ≡ item_at b i → Found (tally_at b i) it
unfolding asked_at
found_at b s i it e is = (asked_passed s (tally_at b i) it (argument_at b i) (ap (λ x. asked s (tally_at b i) x (argument_at b i)) is ∙ e)).found

module _ (b : List ℕ) (i : ℕ) (g : Progress) (c : Counted b i g) where
  -- where the roots are as they were
  kept : (h : Progress) → Same g h → (state b (suc i)).roots ≡ (state b i).roots
      → h.tally ≡ tally_at b (suc i) → h.earlier ≡ earlier (state b (suc i)).picks → h.later ≡ later (state b (suc i)).picks
      → length (state b (suc i)).patterns ≤ suc i
      → (length (state b (suc i)).roots < root_count b → suc i ≡ root_items (state b (suc i)).roots + pattern_items (state b (suc i)).patterns)
      → (length (state b (suc i)).roots ≡ root_count b → length (state b (suc i)).patterns ≡ 0)
      → Counted b (suc i) h
  kept h k e t x y le pl ov = record {
    tally = t;
    earlier = x;
    later = y;
    total = k.total ∙ (c.total ∙ ap₂ (λ s l. count_capped (candidates s l)) (sym k.scope) (sym e));
    sum = k.length ∙ (c.sum ∙ ap₂ events (sym k.scope) (sym e));
    plan = k.plan ∙ (c.plan ∙ ap₂ plan_of (sym k.scope) (sym e));
    fewer = omega (arith, ap length e, c.fewer);
    short = omega (arith, ap length e, ap₂ events k.scope e, c.short);
    waits = le;
    place = pl;
    over = ov;
  }

  pub builds : (it : Item) → it ≡ item_at b i → Builds it → Found (tally_at b i) it → (h : Progress)
      → h.tally ≡ tallied g.tally.roots g.tally.closed (left it g.tally.patterns) g.tally.picks → h.earlier ≡ g.earlier → h.later ≡ g.later → Same g h → Counted b (suc i) h
  builds it is bu f h t x y k =
      let ps = (state b i).patterns in
      let rs = (state b i).roots in
      let u = built it ps (root_count b) (length rs) (length (state b i).picks) bu f in
      let lt : length rs < root_count b = early it (tally_at b i) bu f in
      let e : (state b (suc i)).roots ≡ rs = ap (λ z. rooted z ps rs) (sym is) ∙ rooted_builds it ps rs bu in
      let q : (state b (suc i)).picks ≡ (state b i).picks = ap (λ z. picked z (state b i).picks) (sym is) ∙ picked_builds it (state b i).picks bu in
      let st : (state b (suc i)).patterns ≡ stacked it ps = ap (λ z. stacked z ps) (sym is) in
      let w : length (state b (suc i)).patterns ≡ left it (length ps) = ap length st ∙ u.waits in
      kept h k e
      (t ∙ (ap (λ (v : Tally). tallied v.roots v.closed (left it v.patterns) v.picks) c.tally ∙ same_tally (root_count b) (ap length (sym e)) (sym w) (ap length (sym q))))
      (x ∙ (c.earlier ∙ ap earlier (sym q))) (y ∙ (c.later ∙ ap later (sym q)))
      (omega (arith, ap length st, u.more, c.waits))
      (λ l. omega (arith, ap root_items e, ap pattern_items st, u.items, c.place lt))
      (λ o. absurd (omega (arith, ap length e, lt)))
    where
      same_tally : (r : ℕ) {a a' w w' p p' : ℕ} → a ≡ a' → w ≡ w' → p ≡ p' → tallied r a w p ≡ tallied r a' w' p'
      same_tally r d e f = cc

  -- the same by the arms of the code: an item that adds a pattern, one that changes one, and one that joins two
  by_kind : (it x : Item) → it ≡ item_at b i → it ≡ x → Builds x → asked_at b g.scope i ≡ passes → (h : Progress)
      → h.tally ≡ tallied g.tally.roots g.tally.closed (left x g.tally.patterns) g.tally.picks → h.earlier ≡ g.earlier → h.later ≡ g.later → Same g h → Counted b (suc i) h
  by_kind it x is e bu pa = let ix = sym e ∙ is in builds x ix bu (found_at b g.scope i x pa ix)

  pub adds : (it : Item) → it ≡ item_at b i → asked_at b g.scope i ≡ passes → (it ≡ Nothing) ⊎ ((t : ℕ) × (it ≡ Atom t)) → (h : Progress)
      → h.tally ≡ tallied g.tally.roots g.tally.closed (g.tally.patterns + 1) g.tally.picks → h.earlier ≡ g.earlier → h.later ≡ g.later → Same g h → Counted b (suc i) h
  adds it is pa (inl e) = by_kind it Nothing is e tt pa
  adds it is pa (inr e) = by_kind it (Atom e.0) is e.1 tt pa

  pub changes : (it : Item) → it ≡ item_at b i → asked_at b g.scope i ≡ passes → ((t : ℕ) × (it ≡ Event t)) ⊎ ((o : Order) × (x : ℕ) × (y : ℕ) × (it ≡ Repeat o x y)) → (h : Progress)
      → h.tally ≡ g.tally → h.earlier ≡ g.earlier → h.later ≡ g.later → Same g h → Counted b (suc i) h
  changes it is pa (inl e) = by_kind it (Event e.0) is e.1 tt pa
  changes it is pa (inr e) = by_kind it (Repeat e.0 e.1 e.2) is e.3 tt pa

  pub joins : (it : Item) → it ≡ item_at b i → asked_at b g.scope i ≡ passes → ((o : Order) × (it ≡ Both o)) ⊎ (it ≡ Either) → (h : Progress)
      → h.tally ≡ tallied g.tally.roots g.tally.closed (g.tally.patterns - 1) g.tally.picks → h.earlier ≡ g.earlier → h.later ≡ g.later → Same g h → Counted b (suc i) h
  joins it is pa (inl e) = by_kind it (Both e.0) is e.1 tt pa
  joins it is pa (inr e) = by_kind it Either is e tt pa

  pub two_wait : (it : Item) → it ≡ item_at b i → asked_at b g.scope i ≡ passes → ((o : Order) × (it ≡ Both o)) ⊎ (it ≡ Either) → 2 ≤ g.tally.patterns
  two_wait it is pa (inl e) = omega (arith, (found_at b g.scope i (Both e.0) pa (sym e.1 ∙ is)).1, ap (λ (v : Tally). v.patterns) c.tally)
  two_wait it is pa (inr e) = omega (arith, (found_at b g.scope i Either pa (sym e ∙ is)).1, ap (λ (v : Tally). v.patterns) c.tally)

  pub closes : (t : ℕ) → Root t ≡ item_at b i → Sized b → Found (tally_at b i) (Root t) → (m : Measure) → m ≡ measure_of g.scope (event t (top (state b i).patterns)) → m.count ≤ most_candidates → m.length ≤ most_events → (h : Progress)
      → h.scope ≡ g.scope → h.tally ≡ tallied g.tally.roots (g.tally.closed + 1) 0 g.tally.picks → h.earlier ≡ g.earlier → h.later ≡ g.later
      → h.total ≡ count_capped (g.total * m.count) → h.length ≡ g.length + m.length
      → h.plan.roots ≡ set g.plan.roots g.tally.closed (record { event = t; item = i; count = m.count; length = m.length })
      → Counted b (suc i) h
  closes t is z f m me mc ml h hs hw hx hy ht hl hr =
      let s = g.scope in
      let ps = (state b i).patterns in
      let rs = (state b i).roots in
      let r : Rooted = record { event = t; pattern = top ps } in
      let e1 : (state b (suc i)).roots ≡ rs ++ (r ∷ []) = ap (λ x. rooted x ps rs) (sym is) in
      let e2 : (state b (suc i)).picks ≡ (state b i).picks = ap (λ x. picked x (state b i).picks) (sym is) in
      let e3 : (state b (suc i)).patterns ≡ [] = ap (λ x. stacked x ps) (sym is) in
      let n : length (state b (suc i)).roots ≡ length rs + 1 = ap length e1 ∙ simp length-append in
      let x : m.count ≡ count s (top ps) = omega (arith, ap (λ (a : Measure). a.count) me) in
      let y : m.length ≡ len s (top ps) + 1 = omega (arith, ap (λ (a : Measure). a.length) me) in
      let v : events s (state b (suc i)).roots ≡ events s rs + (len s (top ps) + 1) = ap (events s) e1 ∙ events-push s rs r in
      let one : pattern_items ps ≡ size (top ps) = single ps f.1 in
      let at : i ≡ root_items rs + size (top ps) = omega (arith, c.place f.0, one) in
      let tl : tallied (root_count b) (length rs + 1) 0 (length (state b i).picks) ≡ tally_at b (suc i) = let n' = sym n in let p' = ap length (sym e2) in let w' = ap length (sym e3) in cc in
      record {
        tally = hw ∙ (ap (λ (v : Tally). tallied v.roots (v.closed + 1) 0 v.picks) c.tally ∙ tl);
        earlier = hx ∙ (c.earlier ∙ ap earlier (sym e2));
        later = hy ∙ (c.later ∙ ap later (sym e2));
        total = ht ∙ (ap₂ (λ u w. count_capped (u * w)) c.total x ∙ (min_mul_left (most_candidates + 1) (candidates s rs) (count s (top ps)) ∙ (ap count_capped (sym (candidates-push s rs r)) ∙ ap₂ (λ a l. count_capped (candidates a l)) (sym hs) (sym e1))));
        sum = omega (arith, hl, v, c.sum, y, ap (λ a. events a (state b (suc i)).roots) hs);
        plan = ap planned (hr ∙ (ap₂ (λ u w. set u w (record { event = t; item = i; count = m.count; length = m.length })) (ap (λ (a : Plan). a.roots) c.plan) (ap (λ (a : Tally). a.closed) c.tally)
            ∙ (ap₂ (λ u w. set (plan_of s rs).roots (length rs) (record { event = t; item = i; count = u; length = w })) x y
            ∙ plan-push s i rs r (omega (arith, f.0, z.roots)) at))) ∙ ap₂ plan_of (sym hs) (sym e1);
        fewer = omega (arith, n, f.0);
        short = omega (arith, n, v, c.short, y, ap (λ a. events a (state b (suc i)).roots) hs);
        waits = omega (arith, ap length e3);
        place = λ lt. omega (arith, ap root_items e1, root_items-push rs r, ap pattern_items e3, at);
        over = λ o. ap length e3;
      }
    where
      single : (ps : List Pattern) → length ps ≡ 1 → pattern_items ps ≡ size (top ps)
      single [] e = absurd (omega arith)
      single (p ∷ []) e = omega arith
      single (p ∷ (q ∷ ps)) e = absurd (omega arith)

      planned : List Entry → Plan
      planned rs = record { roots = rs }

  -- items after the last root: a pick, and an operation
  late : (it : Item) → it ≡ item_at b i → length (state b i).roots ≡ root_count b → (state b (suc i)).roots ≡ (state b i).roots → (state b (suc i)).patterns ≡ [] → (n : ℕ) → n ≡ length (state b (suc i)).picks → (h : Progress)
      → h.tally ≡ tallied g.tally.roots g.tally.closed g.tally.patterns n → h.earlier ≡ earlier (state b (suc i)).picks → h.later ≡ later (state b (suc i)).picks → Same g h → Counted b (suc i) h
  late it is f e st n p h t x y k =
      let none : length (state b i).patterns ≡ length (state b (suc i)).patterns = c.over f ∙ ap length (sym st) in
      let tl : tallied (root_count b) (length (state b i).roots) (length (state b i).patterns) n ≡ tally_at b (suc i) = let c' = ap length (sym e) in cc in
      kept h k e (t ∙ (ap (λ (v : Tally). tallied v.roots v.closed v.patterns n) c.tally ∙ tl)) x y (omega (arith, ap length st)) (λ lt. absurd (omega (arith, ap length e, f))) (λ o. ap length st)

  pub picks : (x : Selection) → Pick x ≡ item_at b i → Found (tally_at b i) (Pick x) → (h : Progress)
      → h.tally ≡ tallied g.tally.roots g.tally.closed g.tally.patterns (g.tally.picks + 1) → h.earlier ≡ g.later → h.later ≡ x → Same g h → Counted b (suc i) h
  picks x is f h t hx hy k =
      let e : (state b (suc i)).picks ≡ x ∷ (state b i).picks = ap (λ z. picked z (state b i).picks) (sym is) in
      late (Pick x) is f.0 (ap (λ z. rooted z (state b i).patterns (state b i).roots) (sym is)) (ap (λ z. stacked z (state b i).patterns) (sym is)) (g.tally.picks + 1)
      (omega (arith, ap length e, ap (λ (v : Tally). v.picks) c.tally)) h t (hx ∙ (c.later ∙ ap earlier (sym e))) (hy ∙ ap later (sym e)) k

  -- the picks that waited are taken
  taken : (it : Item) → it ≡ item_at b i → picked it (state b i).picks ≡ [] → rooted it (state b i).patterns (state b i).roots ≡ (state b i).roots → stacked it (state b i).patterns ≡ []
      → length (state b i).roots ≡ root_count b → (h : Progress)
      → h.tally ≡ tallied g.tally.roots g.tally.closed g.tally.patterns 0 → h.earlier ≡ earlier [] → h.later ≡ later [] → Same g h → Counted b (suc i) h
  taken it is ep er es f h t hx hy k =
      let e : (state b (suc i)).picks ≡ [] = ap (λ z. picked z (state b i).picks) (sym is) ∙ ep in
      late it is f (ap (λ z. rooted z (state b i).patterns (state b i).roots) (sym is) ∙ er) (ap (λ z. stacked z (state b i).patterns) (sym is) ∙ es) 0
      (ap length (sym e)) h t (hx ∙ ap earlier (sym e)) (hy ∙ ap later (sym e)) k

  pub operates : (it : Item) → it ≡ item_at b i → asked_at b g.scope i ≡ passes → ((r : Relation) × (it ≡ Relate r)) ⊎ ((n : ℕ) × (it ≡ AtMost n)) → (h : Progress)
      → h.tally ≡ tallied g.tally.roots g.tally.closed g.tally.patterns 0 → h.earlier ≡ earlier [] → h.later ≡ later [] → Same g h → Counted b (suc i) h
  operates it is pa (inl e) = let ix = sym e.1 ∙ is in taken (Relate e.0) ix refl refl refl (found_at b g.scope i (Relate e.0) pa ix).0
  operates it is pa (inr e) = let ix = sym e.1 ∙ is in taken (AtMost e.0) ix refl refl refl (found_at b g.scope i (AtMost e.0) pa ix).0

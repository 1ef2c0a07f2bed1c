-- Where the patterns that an item takes end, and how many items write them.
use Rattle.std.proofs.Common.{◌≡◌, ℕ, zero, suc, ◌+◌, ◌-◌, ◌<◌, ◌≤◌, List, [], ◌∷◌, length, sym, refl, ap, ◌∙◌, arith}
use Rattle.grammar.specs.Pattern.{Pattern, nothing, atom, event, both, either, repeat, size}
use Rattle.schema.specs.Bytes.{item_count, item_at}
use Rattle.schema.specs.Reading.{stacked, state, top, made, pattern_at}
use Rattle.schema.specs.Questions.{made_at}
use Rattle.schema.specs.Progress.{Sized, Ends}
use Rattle.items.specs.declared.item.Item.{Item}
use Rattle.items.specs.declared.item.Item.TheVariants.{Nothing, Atom, Event, Both, Either, Repeat, Root, Pick, Relate, AtMost, Unknown}

-- the patterns that wait once i items were read
abbrev pub waiting : List ℕ → ℕ → List Pattern
waiting b i = (state b i).patterns

-- what waits below the pattern p, once i items were read, waited before p was written
abbrev Under : List ℕ → ℕ → Pattern → List Pattern → Type 0
Under b i p ps = (size p ≤ i) × (ps ≡ waiting b (i - size p))

abbrev Unders : List ℕ → ℕ → Type 0
Unders b i = (p : Pattern) (ps : List Pattern) → waiting b i ≡ p ∷ ps → Under b i p ps

module _ (b : List ℕ) (i : ℕ) (known : (j : ℕ) → j ≤ i → Unders b j) where
  -- a pattern that takes none, one or two
  none : (p r : Pattern) (ps w : List Pattern) → waiting b i ≡ w → size r ≡ 1 → ◌≡◌ {A = List Pattern} (r ∷ w) (p ∷ ps) → Under b (suc i) p ps
  none p r ps w e z h =
      let k : r ≡ p = cc in let g : ps ≡ waiting b i = cc in
      let s : size p ≡ 1 = sym (ap size k) ∙ z in
      (omega arith, g ∙ ap (waiting b) {x = i} {y = suc i - size p} (omega arith))

  one : (p r q : Pattern) (ps w : List Pattern) → waiting b i ≡ q ∷ w → size r ≡ size q + 1 → ◌≡◌ {A = List Pattern} (r ∷ w) (p ∷ ps) → Under b (suc i) p ps
  one p r q ps w e z h =
      let k : r ≡ p = cc in let g : ps ≡ w = cc in
      let s : size p ≡ size q + 1 = sym (ap size k) ∙ z in
      let u = known i (omega arith) q w e in
      (omega arith, g ∙ (u.1 ∙ ap (waiting b) {x = i - size q} {y = suc i - size p} (omega arith)))

  two : (p r q t : Pattern) (ps w : List Pattern) → waiting b i ≡ q ∷ (t ∷ w) → size r ≡ size t + size q + 1 → ◌≡◌ {A = List Pattern} (r ∷ w) (p ∷ ps) → Under b (suc i) p ps
  two p r q t ps w e z h =
      let k : r ≡ p = cc in let g : ps ≡ w = cc in
      let s : size p ≡ size t + size q + 1 = sym (ap size k) ∙ z in
      let u = known i (omega arith) q (t ∷ w) e in
      let v = known (i - size q) (omega arith) t w (sym u.1) in
      (omega arith, g ∙ (v.1 ∙ ap (waiting b) {x = i - size q - size t} {y = suc i - size p} (omega arith)))

  next : (it : Item) (w : List Pattern) → waiting b i ≡ w → (p : Pattern) (ps : List Pattern) → stacked it w ≡ p ∷ ps → Under b (suc i) p ps
  next Nothing w e p ps h = none p nothing ps w e refl h
  next (Atom t) w e p ps h = none p (atom t) ps w e refl h
  next (Event t) [] e p ps h = let z : ◌≡◌ {A = ℕ} 0 1 = cc in absurd (omega arith)
  next (Event t) (q ∷ w) e p ps h = one p (event t q) q ps w e refl h
  next (Both o) [] e p ps h = let z : ◌≡◌ {A = ℕ} 0 1 = cc in absurd (omega arith)
  next (Both o) (q ∷ []) e p ps h = let z : ◌≡◌ {A = ℕ} 0 1 = cc in absurd (omega arith)
  next (Both o) (q ∷ (t ∷ w)) e p ps h = two p (both o t q) q t ps w e refl h
  next Either [] e p ps h = let z : ◌≡◌ {A = ℕ} 0 1 = cc in absurd (omega arith)
  next Either (q ∷ []) e p ps h = let z : ◌≡◌ {A = ℕ} 0 1 = cc in absurd (omega arith)
  next Either (q ∷ (t ∷ w)) e p ps h = two p (either t q) q t ps w e refl h
  next (Repeat o x y) [] e p ps h = let z : ◌≡◌ {A = ℕ} 0 1 = cc in absurd (omega arith)
  next (Repeat o x y) (q ∷ w) e p ps h = one p (repeat o x y q) q ps w e refl h
  next (Root t) w e p ps h = let z : ◌≡◌ {A = ℕ} 0 1 = cc in absurd (omega arith)
  next (Pick x) w e p ps h = let z : ◌≡◌ {A = ℕ} 0 1 = cc in absurd (omega arith)
  next (Relate r) w e p ps h = let z : ◌≡◌ {A = ℕ} 0 1 = cc in absurd (omega arith)
  next (AtMost n) w e p ps h = let z : ◌≡◌ {A = ℕ} 0 1 = cc in absurd (omega arith)
  next Unknown w e p ps h = let z : ◌≡◌ {A = ℕ} 0 1 = cc in absurd (omega arith)

all_below : (b : List ℕ) (n i : ℕ) → i ≤ n → Unders b i
all_below b n zero le p ps h = let z : ◌≡◌ {A = ℕ} 0 1 = cc in absurd (omega arith)
all_below b zero (suc i) le p ps h = absurd (omega arith)
all_below b (suc n) (suc i) le p ps h = next b i (λ j k. all_below b n j (omega arith)) (item_at b i) (waiting b i) refl p ps h

below : (b : List ℕ) (i : ℕ) → Unders b i
below b i = all_below b i i (omega arith)

-- the pattern that ends right before item i
pub record One (b : List ℕ) (i : ℕ) (q : Pattern) : Type 0 where
  pub pos : 0 < i
  pub ends : Ends b (i - 1)
  pub is : pattern_at b (i - 1) ≡ q
  pub few : size q ≤ i

-- the two patterns that item i takes
pub record Two (b : List ℕ) (i : ℕ) (p q : Pattern) : Type 0 where
  pub later : One b i q
  pub room : size q + 1 ≤ i
  pub ends : Ends b (i - 1 - size q)
  pub is : pattern_at b (i - 1 - size q) ≡ p

at_top : (b : List ℕ) (i j : ℕ) (q : Pattern) (w : List Pattern) → Ends b i → waiting b j ≡ q ∷ w → j ≤ i → (0 < j) × Ends b (j - 1) × (pattern_at b (j - 1) ≡ q)
at_top b i zero q w en e le = let z : ◌≡◌ {A = ℕ} 0 1 = cc in absurd (omega arith)
at_top b i (suc j) q w en e le =
    let k : suc j - 1 ≡ j = omega arith in
    (omega arith, rw k (record { sized = en.sized; within = omega (arith, en.within); waits = rw e (omega arith) }), rw k (ap top e))

one_of : (b : List ℕ) (i : ℕ) (q : Pattern) (w : List Pattern) → Ends b i → waiting b i ≡ q ∷ w → One b i q
one_of b i q w en e =
    let t = at_top b i i q w en e (omega arith) in
    record { pos = t.0; ends = t.1; is = t.2; few = (below b i q w e).0 }

two_of : (b : List ℕ) (i : ℕ) (p q : Pattern) (w : List Pattern) → Ends b i → waiting b i ≡ q ∷ (p ∷ w) → Two b i p q
two_of b i p q w en e =
    let u = below b i q (p ∷ w) e in
    let t = at_top b i (i - size q) p w en (sym u.1) (omega arith) in
    let k : i - size q - 1 ≡ i - 1 - size q = omega arith in
    record { later = one_of b i q (p ∷ w) en e; room = omega arith; ends = rw k at t.1; is = rw k at t.2 }

-- what an item that takes one pattern makes of it
pub unary : (b : List ℕ) (i : ℕ) (it : Item) (f : Pattern → Pattern) → stacked it [] ≡ [] → ((q : Pattern) (w : List Pattern) → stacked it (q ∷ w) ≡ f q ∷ w)
    → Ends b i → it ≡ item_at b i → (q : Pattern) × One b i q × (pattern_at b i ≡ f q)
unary b i it f e0 e1 en is = go (waiting b i) refl
  where
    go : (w : List Pattern) → waiting b i ≡ w → (q : Pattern) × One b i q × (pattern_at b i ≡ f q)
    go [] e = let z : waiting b (suc i) ≡ [] = ap (λ x. stacked x (waiting b i)) (sym is) ∙ (ap (stacked it) e ∙ e0) in absurd (omega (arith, ap length z, en.waits))
    go (q ∷ w) e = (q, one_of b i q w en e, ap top (ap (λ x. stacked x (waiting b i)) (sym is) ∙ (ap (stacked it) e ∙ e1 q w)))

-- and one that takes two
pub binary : (b : List ℕ) (i : ℕ) (it : Item) (f : Pattern → Pattern → Pattern) → stacked it [] ≡ [] → ((q : Pattern) → stacked it (q ∷ []) ≡ []) → ((q p : Pattern) (w : List Pattern) → stacked it (q ∷ (p ∷ w)) ≡ f p q ∷ w)
    → Ends b i → it ≡ item_at b i → (p : Pattern) × (q : Pattern) × Two b i p q × (pattern_at b i ≡ f p q)
binary b i it f e0 e1 e2 en is = go (waiting b i) refl
  where
    go : (w : List Pattern) → waiting b i ≡ w → (p : Pattern) × (q : Pattern) × Two b i p q × (pattern_at b i ≡ f p q)
    go [] e = let z : waiting b (suc i) ≡ [] = ap (λ x. stacked x (waiting b i)) (sym is) ∙ (ap (stacked it) e ∙ e0) in absurd (omega (arith, ap length z, en.waits))
    go (q ∷ []) e = let z : waiting b (suc i) ≡ [] = ap (λ x. stacked x (waiting b i)) (sym is) ∙ (ap (stacked it) e ∙ e1 q) in absurd (omega (arith, ap length z, en.waits))
    go (q ∷ (p ∷ w)) e = (p, q, two_of b i p q w en e, ap top (ap (λ x. stacked x (waiting b i)) (sym is) ∙ (ap (stacked it) e ∙ e2 q p w)))

-- a pattern that waits after an item is what the item makes
made_top : (it : Item) (ps : List Pattern) → 0 < length (stacked it ps) → made it ps ≡ top (stacked it ps)
made_top Nothing ps h = refl
made_top (Atom t) ps h = refl
made_top (Event t) ps h = refl
made_top (Both o) ps h = refl
made_top Either ps h = refl
made_top (Repeat o x y) ps h = refl
made_top (Root t) ps h = absurd (omega arith)
made_top (Pick x) ps h = absurd (omega arith)
made_top (Relate r) ps h = absurd (omega arith)
made_top (AtMost n) ps h = absurd (omega arith)
made_top Unknown ps h = absurd (omega arith)

pub made_ends : (b : List ℕ) (i : ℕ) → Ends b i → made_at b i ≡ pattern_at b i
unfolding made_at
made_ends b i en = made_top (item_at b i) (waiting b i) en.waits

-- a pattern that waits before item i ends right before it
pub last_ends : (b : List ℕ) (i : ℕ) → Sized b → i < item_count b → 1 ≤ length (waiting b i) → (0 < i) × Ends b (i - 1) × (pattern_at b (i - 1) ≡ top (waiting b i))
last_ends b zero z lt h = absurd (omega arith)
last_ends b (suc i) z lt h =
    let k : suc i - 1 ≡ i = omega arith in
    (omega arith, rw k (record { sized = z; within = omega arith; waits = h }), rw k refl)

-- What it tells of an item that questions 4 to 6 have no "no", and back.
use Rattle.std.proofs.Common.{◌≡◌, ℕ, ◌+◌, ◌*◌, ◌/◌, ◌%◌, ◌<◌, ◌≤◌, Bool, true, false, cond, ◌&&◌, ◌||◌, eqb, ltb, leb, ◌⊎◌, Err, sym, refl, ap, ◌∙◌, inl, inr, arith}
use Rattle.std.proofs.lemmas.Bool.{false≢true, cases_lt, and_parts, and_from, or_cases, or_left, or_right, ltb-true, leb-true, eqb-true, lt-ltb, le-leb, eq-eqb}
use Rattle.questions.specs.Limits.{most_type, most_times, scope_mark, most_events}
use Rattle.questions.specs.declared.question.Question.TheVariants.{Kind, Argument, Takes}
use Rattle.grammar.specs.Pattern.{most}
use Rattle.grammar.specs.Fits.{Repeats, Selects}
use Rattle.grammar.specs.declared.part.Order.TheVariants.{InOrder, AsSet}
use Rattle.grammar.specs.declared.part.Relation.TheVariants.{Share, Coordinate, AsMany, NoMore, FewerBefore}
use Rattle.grammar.specs.declared.part.Selection.{Selection}
use Rattle.items.specs.Items.{item_of, kind_of, argument_of}
use Rattle.items.specs.Asked.{Answer, passes, known, counts_suit, pick_suits, suits, finds, asked}
use Rattle.items.specs.declared.ask.Tally.{Tally}
use Rattle.items.specs.declared.item.Item.{Item}
use Rattle.items.specs.declared.item.Item.TheVariants.{Nothing, Atom, Event, Both, Either, Repeat, Root, Pick, Relate, AtMost, Unknown}

-- the argument suits the item, at scope s and with r roots
abbrev pub Suited : ℕ → ℕ → Item → Type 0
Suited s r Nothing = Unit {0}
Suited s r (Atom t) = t ≤ most_type
Suited s r (Event t) = t ≤ most_type
Suited s r (Both o) = Unit {0}
Suited s r Either = Unit {0}
Suited s r (Repeat o x y) = Repeats s x y
Suited s r (Root t) = t ≤ most_type
Suited s r (Pick x) = Selects r x
Suited s r (Relate o) = Unit {0}
Suited s r (AtMost n) = n ≤ most_events
Suited s r Unknown = ⊥

-- the item finds what it takes
abbrev pub Found : Tally → Item → Type 0
Found t Nothing = t.closed < t.roots
Found t (Atom x) = t.closed < t.roots
Found t (Event x) = (t.closed < t.roots) × (1 ≤ t.patterns)
Found t (Both o) = (t.closed < t.roots) × (2 ≤ t.patterns)
Found t Either = (t.closed < t.roots) × (2 ≤ t.patterns)
Found t (Repeat o x y) = (t.closed < t.roots) × (1 ≤ t.patterns)
Found t (Root x) = (t.closed < t.roots) × (t.patterns ≡ 1)
Found t (Pick x) = (t.closed ≡ t.roots) × (t.picks ≤ 1)
Found t (Relate o) = (t.closed ≡ t.roots) × (t.picks ≡ 2)
Found t (AtMost n) = (t.closed ≡ t.roots) × (t.picks ≡ 1)
Found t Unknown = ⊥

repeats : (s a b : ℕ) → counts_suit s a b ≡ true → Repeats s a b
repeats s a b e =
    let h = and_parts (leb a most_times) ((leb b most_times || eqb b scope_mark) && leb a (most s b)) e in
    let g = and_parts (leb b most_times || eqb b scope_mark) (leb a (most s b)) h.1 in
    (leb-true a most_times h.0, go (or_cases (leb b most_times) (eqb b scope_mark) g.0), leb-true a (most s b) g.1)
  where
    go : (leb b most_times ≡ true) ⊎ (eqb b scope_mark ≡ true) → (b ≤ most_times) ⊎ (b ≡ scope_mark)
    go (inl e) = inl (leb-true b most_times e)
    go (inr e) = inr (eqb-true b scope_mark e)

counts_back : (s a b : ℕ) → Repeats s a b → counts_suit s a b ≡ true
counts_back s a b u =
    and_from (leb a most_times) ((leb b most_times || eqb b scope_mark) && leb a (most s b)) (le-leb a most_times u.0)
    (and_from (leb b most_times || eqb b scope_mark) (leb a (most s b)) (go u.1) (le-leb a (most s b) u.2))
  where
    go : (b ≤ most_times) ⊎ (b ≡ scope_mark) → (leb b most_times || eqb b scope_mark) ≡ true
    go (inl h) = or_left (leb b most_times) (eqb b scope_mark) (le-leb b most_times h)
    go (inr h) = or_right (leb b most_times) (eqb b scope_mark) (eq-eqb b scope_mark h)

selects : (r : ℕ) (x : Selection) → pick_suits r x ≡ true → Selects r x
selects r x e = let h = and_parts (ltb x.root r) (leb x.event most_type) e in (ltb-true x.root r h.0, leb-true x.event most_type h.1)

pick_back : (r : ℕ) (x : Selection) → Selects r x → pick_suits r x ≡ true
pick_back r x u = and_from (ltb x.root r) (leb x.event most_type) (lt-ltb x.root r u.0) (le-leb x.event most_type u.1)

module _ (s : ℕ) (t : Tally) where
  early : (n : ℕ) → (ltb t.closed t.roots && leb n t.patterns) ≡ true → (t.closed < t.roots) × (n ≤ t.patterns)
  early n e = let h = and_parts (ltb t.closed t.roots) (leb n t.patterns) e in (ltb-true t.closed t.roots h.0, leb-true n t.patterns h.1)

  late : (n : ℕ) → (eqb t.closed t.roots && eqb t.picks n) ≡ true → (t.closed ≡ t.roots) × (t.picks ≡ n)
  late n e = let h = and_parts (eqb t.closed t.roots) (eqb t.picks n) e in (eqb-true t.closed t.roots h.0, eqb-true t.picks n h.1)

  suited : (it : Item) (a : ℕ) → suits s t.roots it a ≡ true → Suited s t.roots it
  suited Nothing a u = tt
  suited (Atom x) a u = leb-true x most_type u
  suited (Event x) a u = leb-true x most_type u
  suited (Both o) a u = tt
  suited Either a u = tt
  suited (Repeat o x y) a u = repeats s x y u
  suited (Root x) a u = leb-true x most_type u
  suited (Pick x) a u = selects t.roots x u
  suited (Relate o) a u = tt
  suited (AtMost n) a u = leb-true n most_events u
  suited Unknown a u = let z : ◌≡◌ {A = ℕ} 0 1 = cc in omega arith

  found : (it : Item) → finds t it ≡ true → Found t it
  found Nothing f = ltb-true t.closed t.roots f
  found (Atom x) f = ltb-true t.closed t.roots f
  found (Event x) f = early 1 f
  found (Both o) f = early 2 f
  found Either f = early 2 f
  found (Repeat o x y) f = early 1 f
  found (Root x) f = let h = and_parts (ltb t.closed t.roots) (eqb t.patterns 1) f in (ltb-true t.closed t.roots h.0, eqb-true t.patterns 1 h.1)
  found (Pick x) f = let h = and_parts (eqb t.closed t.roots) (leb t.picks 1) f in (eqb-true t.closed t.roots h.0, leb-true t.picks 1 h.1)
  found (Relate o) f = late 2 f
  found (AtMost n) f = late 1 f
  found Unknown f = let z : ◌≡◌ {A = ℕ} 0 1 = cc in omega arith

  no_argument : (a : ℕ) → eqb a 0 ≡ true → 0 ≡ a
  no_argument a e = sym (eqb-true a 0 e)

  -- every kind past the last is unknown
  unknown : (k a : ℕ) → 16 ≤ k → item_of k a ≡ Unknown
  unknown k a h = grind arith

  -- the item of a kind and an argument is written by them, a few kinds at a time
  says : (k a : ℕ) → known (item_of k a) ≡ true → suits s t.roots (item_of k a) a ≡ true → (kind_of (item_of k a) ≡ k) × (argument_of (item_of k a) ≡ a)
  says k a h u = go (cases_lt k 4) (cases_lt k 8) (cases_lt k 12) (cases_lt k 16)
    where
      go : (k < 4) ⊎ (4 ≤ k) → (k < 8) ⊎ (8 ≤ k) → (k < 12) ⊎ (12 ≤ k) → (k < 16) ⊎ (16 ≤ k) → (kind_of (item_of k a) ≡ k) × (argument_of (item_of k a) ≡ a)
      go (inl l) _ _ _ = grind (arith, no_argument a)
      go (inr g) (inl l) _ _ = grind (arith, no_argument a)
      go _ (inr g) (inl l) _ = grind (arith, no_argument a)
      go _ _ (inr g) (inl l) = grind (arith, no_argument a)
      go _ _ _ (inr m) = absurd (false≢true (sym (ap known (unknown k a m)) ∙ h))

  -- what it tells of an item that none of the three has a "no"
  pub record Passed (it : Item) (a : ℕ) : Type 0 where
    pub known : known it ≡ true
    pub suits : suits s t.roots it a ≡ true
    pub suited : Suited s t.roots it
    pub found : Found t it

  pub asked_passed : (it : Item) (a : ℕ) → asked s t it a ≡ passes → Passed it a
  asked_passed it a e = go (known it) refl (suits s t.roots it a) refl (finds t it) refl e
    where
      go : (x : Bool) → known it ≡ x → (y : Bool) → suits s t.roots it a ≡ y → (z : Bool) → finds t it ≡ z
          → ◌≡◌ {A = Answer} (cond x (cond y (cond z passes (Err Takes)) (Err Argument)) (Err Kind)) passes → Passed it a
      go true ex true ey true ez h = record { known = ex; suits = ey; suited = suited it a ey; found = found it ez }
      go true ex true ey false ez h = let n : ◌≡◌ {A = ℕ} 0 1 = cc in absurd (omega arith)
      go true ex false ey z ez h = let n : ◌≡◌ {A = ℕ} 0 1 = cc in absurd (omega arith)
      go false ex y ey z ez h = let n : ◌≡◌ {A = ℕ} 0 1 = cc in absurd (omega arith)

  pub asked_says : (k a : ℕ) → asked s t (item_of k a) a ≡ passes → (kind_of (item_of k a) ≡ k) × (argument_of (item_of k a) ≡ a)
  asked_says k a e = let p = asked_passed (item_of k a) a e in says k a p.known p.suits

  -- The other way: such an item has no "no".

  known_back : (it : Item) → Suited s t.roots it → known it ≡ true
  known_back Nothing u = refl
  known_back (Atom x) u = refl
  known_back (Event x) u = refl
  known_back (Both o) u = refl
  known_back Either u = refl
  known_back (Repeat o x y) u = refl
  known_back (Root x) u = refl
  known_back (Pick x) u = refl
  known_back (Relate o) u = refl
  known_back (AtMost n) u = refl
  known_back Unknown u = absurd u

  suits_back : (it : Item) → Suited s t.roots it → suits s t.roots it (argument_of it) ≡ true
  suits_back Nothing u = refl
  suits_back (Atom x) u = le-leb x most_type u
  suits_back (Event x) u = le-leb x most_type u
  suits_back (Both o) u = refl
  suits_back Either u = refl
  suits_back (Repeat o x y) u = counts_back s x y u
  suits_back (Root x) u = le-leb x most_type u
  suits_back (Pick x) u = pick_back t.roots x u
  suits_back (Relate o) u = refl
  suits_back (AtMost n) u = le-leb n most_events u
  suits_back Unknown u = absurd u

  early_back : (n : ℕ) → (t.closed < t.roots) × (n ≤ t.patterns) → (ltb t.closed t.roots && leb n t.patterns) ≡ true
  early_back n f = and_from (ltb t.closed t.roots) (leb n t.patterns) (lt-ltb t.closed t.roots f.0) (le-leb n t.patterns f.1)

  late_back : (n : ℕ) → (t.closed ≡ t.roots) × (t.picks ≡ n) → (eqb t.closed t.roots && eqb t.picks n) ≡ true
  late_back n f = and_from (eqb t.closed t.roots) (eqb t.picks n) (eq-eqb t.closed t.roots f.0) (eq-eqb t.picks n f.1)

  finds_back : (it : Item) → Found t it → finds t it ≡ true
  finds_back Nothing f = lt-ltb t.closed t.roots f
  finds_back (Atom x) f = lt-ltb t.closed t.roots f
  finds_back (Event x) f = early_back 1 f
  finds_back (Both o) f = early_back 2 f
  finds_back Either f = early_back 2 f
  finds_back (Repeat o x y) f = early_back 1 f
  finds_back (Root x) f = and_from (ltb t.closed t.roots) (eqb t.patterns 1) (lt-ltb t.closed t.roots f.0) (eq-eqb t.patterns 1 f.1)
  finds_back (Pick x) f = and_from (eqb t.closed t.roots) (leb t.picks 1) (eq-eqb t.closed t.roots f.0) (le-leb t.picks 1 f.1)
  finds_back (Relate o) f = late_back 2 f
  finds_back (AtMost n) f = late_back 1 f
  finds_back Unknown f = absurd f

  pub passed_asked : (it : Item) → Suited s t.roots it → Found t it → asked s t it (argument_of it) ≡ passes
  passed_asked it u f = three (known it) (suits s t.roots it (argument_of it)) (finds t it) (known_back it u) (suits_back it u) (finds_back it f)
    where
      three : (x y z : Bool) → x ≡ true → y ≡ true → z ≡ true → ◌≡◌ {A = Answer} (cond x (cond y (cond z passes (Err Takes)) (Err Argument)) (Err Kind)) passes
      three x y z a b c = rw (a, b, c) refl

-- the two bytes of 16 bits
pub low_byte : (a b : ℕ) → a < 256 → (a + 256 * b) % 256 ≡ a
low_byte a b h = omega arith

pub high_byte : (a b : ℕ) → a < 256 → (a + 256 * b) / 256 ≡ b
high_byte a b h = omega arith

-- an item that suits is the one that its kind and argument say
pub item_back : (s r : ℕ) (it : Item) → Suited s r it → item_of (kind_of it) (argument_of it) ≡ it
item_back s r Nothing u = refl
item_back s r (Atom t) u = refl
item_back s r (Event t) u = refl
item_back s r (Both InOrder) u = refl
item_back s r (Both AsSet) u = refl
item_back s r Either u = refl
item_back s r (Repeat InOrder x y) u = grind (arith, u.0)
item_back s r (Repeat AsSet x y) u = grind (arith, u.0)
item_back s r (Root t) u = refl
item_back s r (Pick x) u = grind (arith, u.1)
item_back s r (Relate Share) u = refl
item_back s r (Relate Coordinate) u = refl
item_back s r (Relate AsMany) u = refl
item_back s r (Relate NoMore) u = refl
item_back s r (Relate FewerBefore) u = refl
item_back s r (AtMost n) u = refl
item_back s r Unknown u = absurd u

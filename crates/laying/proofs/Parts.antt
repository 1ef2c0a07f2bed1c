-- What the items of a checked table take, and how a number is taken apart there.
use Rattle.std.proofs.Common.{◌≡◌, ℕ, zero, suc, ◌+◌, ◌-◌, ◌*◌, ◌/◌, ◌%◌, ◌^◌, ◌<◌, ◌≤◌, Bool, true, false, cond, eqb, ltb, ◌⊎◌, List, sym, refl, ap, ◌∙◌, subst, ap₂, inl, inr, mul-le-mul_right, suc-mul, mul_comm, pow-suc, mul-zero, div-le_self, mul-div_cancel, arith}
use Rattle.std.proofs.lemmas.Nat.{div_below, mod_below}
use Rattle.std.proofs.lemmas.Bool.{lt-ltb, le-ltb, ltb-true, ltb-false, eq-eqb, cases_lt}
use Rattle.questions.specs.Limits.{most_times, most_scope, most_candidates, scope_mark}
use Rattle.grammar.specs.Pattern.{Pattern, nothing, atom, event, both, either, repeat, most, powers, span, count, len, size}
use Rattle.grammar.specs.Measures.{measure_of}
use Rattle.grammar.specs.Fits.{Small, Fits, Repeats}
use Rattle.grammar.specs.declared.measure.Measure.{Measure}
use Rattle.grammar.specs.declared.part.Order.{Order}
use Rattle.items.specs.declared.item.Item.{Item}
use Rattle.items.specs.declared.item.Item.TheVariants.{Nothing, Atom, Event, Both, Either, Repeat, Unknown}
use Rattle.numbering.specs.Choice.{Choice, empty, node, pair, took, Side, earlier, later}
use Rattle.numbering.specs.Numbers.{times, occurrences, choice_of}
use Rattle.numbering.specs.Splits.{side_at, power_capped, times_at}
use Rattle.numbering.specs.declared.split.Taken.TheVariants.{Earlier, Later}
use Rattle.numbering.specs.declared.split.Repeated.{Repeated}
use Rattle.schema.specs.Bytes.{item_count, item_at}
use Rattle.schema.specs.Reading.{state, top, stacked, pattern_at}
use Rattle.schema.specs.Questions.{made_at}
use Rattle.schema.specs.Progress.{Ends, no_measure}
use Rattle.schema.specs.Told.{table_of, item_found, measure_found}
use Rattle.schema.specs.declared.checked.Checked.{Checked}
use Rattle.schema.proofs.Waiting.{One, unary, binary, made_ends}
use Rattle.laying.specs.Layable.{pattern_of, longest, choice_at, Layable, run_choice, longest_run, LayableRun}
use Rattle.laying.specs.declared.pattern.Run.{Run}

-- Items and measures that are there.

found_item : (b : List ℕ) (i : ℕ) (it : Item) → Ends b i → it ≡ item_found b i → it ≡ item_at b i
found_item b i it en e = e ∙ ap (λ x. cond x (item_at b i) Unknown) (lt-ltb i (item_count b) en.within)

small : (s : ℕ) (p : Pattern) → Fits s p → Small s p
small s nothing f = (omega arith, omega arith)
small s (atom t) f = (omega arith, omega arith)
small s (event t p) f = f.2
small s (both o p q) f = f.2
small s (either p q) f = f.2
small s (repeat o a b p) f = f.2

found_measure : (b : List ℕ) (s i : ℕ) (m : Measure) → Ends b i → m ≡ measure_found b s i → m ≡ measure_of s (pattern_at b i)
found_measure b s i m en e =
    e ∙ (ap (λ x. cond x (measure_of s (made_at b i)) no_measure) (lt-ltb i (item_count b) en.within) ∙ ap (measure_of s) (made_ends b i en))

counted : (b : List ℕ) (s i : ℕ) (m : Measure) → Ends b i → Fits s (pattern_at b i) → m ≡ measure_found b s i → m.count ≡ count s (pattern_at b i)
counted b s i m en f e =
    let g = ap (λ (x : Measure). x.count) (found_measure b s i m en e) in omega (arith, g, (small s (pattern_at b i) f).0)

-- the pattern right before item i, of which One says that it has few items
sized : (b : List ℕ) (s i : ℕ) (q : Pattern) (m : Measure) → Ends b i → One b i q → m ≡ measure_found b s (i - 1) → m.items ≡ size q
sized b s i q m en o e =
    let g = ap (λ (x : Measure). x.items) (found_measure b s (i - 1) m o.ends e ∙ ap (measure_of s) o.is) in
    omega (arith, g, o.few, en.within, en.sized.items)

-- Items that take no pattern.

pub nothing_at : {table : Checked} {i n : ℕ} → Layable table i n → Nothing ≡ item_found (table_of table) i → choice_at table i n ≡ empty
nothing_at {table} {i} {n} y e = ap (λ x. choice_of table.scope (top (stacked x (state (table_of table) i).patterns)) n) (sym (found_item (table_of table) i Nothing y.ends e))

pub atom_at : {table : Checked} {i n t : ℕ} → Layable table i n → Atom t ≡ item_found (table_of table) i → (choice_at table i n ≡ node t empty) × (longest table i ≡ 1)
atom_at {table} {i} {n} {t} y e =
    let is : pattern_of table i ≡ atom t = ap (λ x. top (stacked x (state (table_of table) i).patterns)) (sym (found_item (table_of table) i (Atom t) y.ends e)) in
    (ap (λ q. choice_of table.scope q n) is, ap (len table.scope) is)

-- An event with an inside.

pub record Inside (table : Checked) (i n t : ℕ) : Type 0 where
  pub pos : 0 < i
  pub layable : Layable table (i - 1) n
  pub long : longest table i ≡ longest table (i - 1) + 1
  pub is : choice_at table i n ≡ node t (choice_at table (i - 1) n)

pub inside_of : {table : Checked} {i n t : ℕ} → Layable table i n → Event t ≡ item_found (table_of table) i → Inside table i n t
inside_of {table} {i} {n} {t} y e =
    let b = table_of table in
    let s = table.scope in
    let u = unary b i (Event t) (event t) refl (λ q w. refl) y.ends (found_item b i (Event t) y.ends e) in
    let is : pattern_at b i ≡ event t (pattern_at b (i - 1)) = u.2 ∙ ap (event t) (sym u.1.is) in
    let f = subst (Fits s) is y.fits in
    record {
      pos = u.1.pos;
      layable = record { ends = u.1.ends; fits = f.0; below = subst (λ p. n < count s p) is y.below };
      long = ap (len s) is;
      is = ap (λ p. choice_of s p n) is;
    }

-- A sequence or a set.

pub some_right : (n x y : ℕ) → n < x * y → 0 < y
some_right n x zero h = let e : x * zero ≡ 0 = mul-zero x in absurd (omega arith)
some_right n x (suc y) h = omega arith

-- k items are those of the later part; the number is split into n and m
pub record Parts (table : Checked) (i number k n m : ℕ) (o : Order) : Type 0 where
  pub room : k + 1 ≤ i
  pub first : Layable table (i - 1 - k) n
  pub second : Layable table (i - 1) m
  pub long : longest table i ≡ longest table (i - 1 - k) + longest table (i - 1)
  pub is : choice_at table i number ≡ pair o (choice_at table (i - 1 - k) n) (choice_at table (i - 1) m)

pub parts_of : {table : Checked} {i number k n m : ℕ} {o : Order} {v : Measure} → Layable table i number → Both o ≡ item_found (table_of table) i → v ≡ measure_found (table_of table) table.scope (i - 1) → k ≡ v.items
    → n ≡ number / v.count → m ≡ number % v.count → Parts table i number k n m o
parts_of {table} {i} {number} {k} {n} {m} {o} {v} y e me ke ne re =
    let b = table_of table in
    let s = table.scope in
    let u = binary b i (Both o) (both o) refl (λ q. refl) (λ q p w. refl) y.ends (found_item b i (Both o) y.ends e) in
    let l = u.2.later in
    let j : k ≡ size u.1 = ke ∙ sized b s i u.1 v y.ends u.2.later me in
    let e1 : pattern_at b (i - 1 - k) ≡ u.0 = ap (λ x. pattern_at b (i - 1 - x)) j ∙ u.2.is in
    let is : pattern_at b i ≡ both o (pattern_at b (i - 1 - k)) (pattern_at b (i - 1)) = u.3 ∙ ap₂ (both o) (sym e1) (sym l.is) in
    let f = subst (Fits s) is y.fits in
    let c : v.count ≡ count s (pattern_at b (i - 1)) = counted b s (i - 1) v l.ends f.1 me in
    let h : number < count s (pattern_at b (i - 1 - k)) * v.count = subst (λ x. number < count s (pattern_at b (i - 1 - k)) * x) (sym c) (subst (λ p. number < count s p) is y.below) in
    let z = some_right number (count s (pattern_at b (i - 1 - k))) v.count h in
    record {
      room = omega (arith, j, u.2.room);
      first = record { ends = subst (Ends b) (ap (λ x. i - 1 - x) (sym j)) u.2.ends; fits = f.0; below = omega (arith, ne, div_below number v.count (count s (pattern_at b (i - 1 - k))) z h) };
      second = record { ends = l.ends; fits = f.1; below = omega (arith, re, c, mod_below number v.count z) };
      long = ap (len s) is;
      is = ap (λ p. choice_of s p number) is
          ∙ (ap (λ x. pair o (choice_of s (pattern_at b (i - 1 - k)) (number / x)) (choice_of s (pattern_at b (i - 1)) (number % x))) (sym c)
          ∙ ap₂ (λ x w. pair o (choice_at table (i - 1 - k) x) (choice_at table (i - 1) w)) (sym ne) (sym re));
    }

-- An alternative.

side_earlier : (c n m : ℕ) → Earlier m ≡ side_at c n → (n < c) × (m ≡ n)
side_earlier c n m e = go (ltb n c) refl e
  where
    go : (x : Bool) → ltb n c ≡ x → Earlier m ≡ cond x (Earlier n) (Later (n - c)) → (n < c) × (m ≡ n)
    go true h e = (ltb-true n c h, cc)
    go false h e = let z : ◌≡◌ {A = ℕ} 0 1 = cc in absurd (omega arith)

side_later : (c n m : ℕ) → Later m ≡ side_at c n → (c ≤ n) × (m ≡ n - c)
side_later c n m e = go (ltb n c) refl e
  where
    go : (x : Bool) → ltb n c ≡ x → Later m ≡ cond x (Earlier n) (Later (n - c)) → (c ≤ n) × (m ≡ n - c)
    go true h e = let z : ◌≡◌ {A = ℕ} 0 1 = cc in absurd (omega arith)
    go false h e = (ltb-false n c h, cc)

pub record Sides (table : Checked) (i k : ℕ) : Type 0 where
  pub room : k + 1 ≤ i
  pub is : pattern_of table i ≡ either (pattern_of table (i - 1 - k)) (pattern_of table (i - 1))
  pub first : Ends (table_of table) (i - 1 - k)
  pub second : Ends (table_of table) (i - 1)
  pub fits : Fits table.scope (either (pattern_of table (i - 1 - k)) (pattern_of table (i - 1)))

pub sides_of : {table : Checked} {i n k : ℕ} {m : Measure} → Layable table i n → Either ≡ item_found (table_of table) i → m ≡ measure_found (table_of table) table.scope (i - 1) → k ≡ m.items → Sides table i k
sides_of {table} {i} {n} {k} {m} y e me ke =
    let b = table_of table in
    let s = table.scope in
    let u = binary b i Either either refl (λ q. refl) (λ q p w. refl) y.ends (found_item b i Either y.ends e) in
    let l = u.2.later in
    let j : k ≡ size u.1 = ke ∙ sized b s i u.1 m y.ends u.2.later me in
    let e1 : pattern_at b (i - 1 - k) ≡ u.0 = ap (λ x. pattern_at b (i - 1 - x)) j ∙ u.2.is in
    let is : pattern_at b i ≡ either (pattern_at b (i - 1 - k)) (pattern_at b (i - 1)) = u.3 ∙ ap₂ either (sym e1) (sym l.is) in
    record { room = omega (arith, j, u.2.room); is = is; first = subst (Ends b) (ap (λ x. i - 1 - x) (sym j)) u.2.ends; second = l.ends; fits = subst (Fits s) is y.fits }

abbrev chosen : Bool → Choice → Choice → Choice
chosen o x y = elim o [ true ↦ x | false ↦ y ]

-- one side that is taken, at item j with number m
pub record SideTaken (table : Checked) (i n j m : ℕ) (d : Side) : Type 0 where
  pub layable : Layable table j m
  pub long : longest table j ≤ longest table i
  pub is : choice_at table i n ≡ took d (choice_at table j m)

pub earlier_taken : {table : Checked} {i n k m : ℕ} {q : Measure} → Layable table i n → Sides table i k → q ≡ measure_found (table_of table) table.scope (i - 1 - k) → Earlier m ≡ side_at q.count n → SideTaken table i n (i - 1 - k) m earlier
earlier_taken {table} {i} {n} {k} {m} {q} y d qe e =
    let b = table_of table in
    let s = table.scope in
    let c : q.count ≡ count s (pattern_at b (i - 1 - k)) = counted b s (i - 1 - k) q d.first d.fits.0 qe in
    let h = side_earlier q.count n m e in
    record {
      layable = record { ends = d.first; fits = d.fits.0; below = omega (arith, h.0, h.1, c) };
      long = omega (arith, ap (len s) d.is);
      is = ap (λ p. choice_of s p n) d.is
          ∙ (ap (λ o. chosen o (took earlier (choice_of s (pattern_at b (i - 1 - k)) n)) (took later (choice_of s (pattern_at b (i - 1)) (n - count s (pattern_at b (i - 1 - k)))))) (lt-ltb n (count s (pattern_at b (i - 1 - k))) (omega (arith, h.0, c)))
          ∙ ap (λ x. took earlier (choice_of s (pattern_at b (i - 1 - k)) x)) (sym h.1));
    }

pub later_taken : {table : Checked} {i n k m : ℕ} {q : Measure} → Layable table i n → Sides table i k → q ≡ measure_found (table_of table) table.scope (i - 1 - k) → Later m ≡ side_at q.count n → SideTaken table i n (i - 1) m later
later_taken {table} {i} {n} {k} {m} {q} y d qe e =
    let b = table_of table in
    let s = table.scope in
    let c : q.count ≡ count s (pattern_at b (i - 1 - k)) = counted b s (i - 1 - k) q d.first d.fits.0 qe in
    let h = side_later q.count n m e in
    let below : n < count s (pattern_at b (i - 1 - k)) + count s (pattern_at b (i - 1)) = subst (λ p. n < count s p) d.is y.below in
    record {
      layable = record { ends = d.second; fits = d.fits.1; below = omega (arith, h.0, h.1, c) };
      long = omega (arith, ap (len s) d.is);
      is = ap (λ p. choice_of s p n) d.is
          ∙ (ap (λ o. chosen o (took earlier (choice_of s (pattern_at b (i - 1 - k)) n)) (took later (choice_of s (pattern_at b (i - 1)) (n - count s (pattern_at b (i - 1 - k)))))) (le-ltb n (count s (pattern_at b (i - 1 - k))) (omega (arith, h.0, c)))
          ∙ ap (λ x. took later (choice_of s (pattern_at b (i - 1)) x)) (ap (λ x. n - x) (sym c) ∙ sym h.1));
    }

-- A repetition.

pub record Occurring (c m k n : ℕ) : Type 0 where
  pub least : k ≤ (occurrences c m k n).0
  pub most : (occurrences c m k n).0 ≤ k + m
  pub below : (occurrences c m k n).1 < c ^ (occurrences c m k n).0
  pub few : c ^ (occurrences c m k n).0 ≤ powers c (suc m) k

occurring : (c m k n : ℕ) → n < powers c (suc m) k → Occurring c m k n
occurring c zero k n h = record { least = omega arith; most = omega arith; below = omega arith; few = omega arith }
occurring c (suc m) k n h = go (λ l. occurring c m (suc k) (n - c ^ k) (omega arith)) (cases_lt n (c ^ k))
  where
    pick : Bool → ℕ × ℕ
    pick o = elim o [ true ↦ (k, n) | false ↦ occurrences c m (suc k) (n - c ^ k) ]

    go : (c ^ k ≤ n → Occurring c m (suc k) (n - c ^ k)) → (n < c ^ k) ⊎ (c ^ k ≤ n) → Occurring c (suc m) k n
    go next (inl l) =
        let e : occurrences c (suc m) k n ≡ (k, n) = ap pick (lt-ltb n (c ^ k) l) in
        record {
          least = omega (arith, ap (λ (w : ℕ × ℕ). w.0) e);
          most = omega (arith, ap (λ (w : ℕ × ℕ). w.0) e);
          below = subst (λ (w : ℕ × ℕ). w.1 < c ^ w.0) (sym e) l;
          few = subst (λ (w : ℕ × ℕ). c ^ w.0 ≤ powers c (suc (suc m)) k) (sym e) (omega arith);
        }
    go next (inr l) =
        let e : occurrences c (suc m) k n ≡ occurrences c m (suc k) (n - c ^ k) = ap pick (le-ltb n (c ^ k) l) in
        let r = next l in
        record {
          least = omega (arith, ap (λ (w : ℕ × ℕ). w.0) e, r.least);
          most = omega (arith, ap (λ (w : ℕ × ℕ). w.0) e, r.most);
          below = subst (λ (w : ℕ × ℕ). w.1 < c ^ w.0) (sym e) r.below;
          few = subst (λ (w : ℕ × ℕ). c ^ w.0 ≤ powers c (suc (suc m)) k) (sym e) (omega (arith, r.few));
        }

pub record Many (table : Checked) (i n : ℕ) (run : Run) : Type 0 where
  pub pos : 0 < i
  pub layable : LayableRun table (i - 1) run
  pub long : longest_run table (i - 1) run ≤ longest table i
  pub is : choice_at table i n ≡ run_choice table (i - 1) run

-- the most of a repetition within the limits
times_few : (s x y : ℕ) → s ≤ most_scope → Repeats s x y → most s y ≤ most_times
times_few s x y h r = go (eqb y scope_mark) refl r.1
  where
    go : (o : Bool) → eqb y scope_mark ≡ o → (y ≤ most_times) ⊎ (y ≡ scope_mark) → cond o s y ≤ most_times
    go true e f = omega arith
    go false e (inl f) = f
    go false e (inr f) = let t = eq-eqb y scope_mark f in let z : ◌≡◌ {A = ℕ} 0 1 = cc in absurd (omega arith)

pub many_of : {table : Checked} {i n x y z : ℕ} {o : Order} {m : Measure} {r : Repeated} → table.scope ≤ most_scope → Layable table i n → Repeat o x y ≡ item_found (table_of table) i
    → m ≡ measure_found (table_of table) table.scope (i - 1) → z ≡ most table.scope y → r ≡ times_at m.count x z n → Many table i n (record { order = o; once = m.count; left = r })
many_of {table} {i} {n} {x} {y} {z} {o} {m} {r} sc l e me ze re =
    let b = table_of table in
    let s = table.scope in
    let u = unary b i (Repeat o x y) (repeat o x y) refl (λ q w. refl) l.ends (found_item b i (Repeat o x y) l.ends e) in
    let p = pattern_at b (i - 1) in
    let is : pattern_at b i ≡ repeat o x y (pattern_at b (i - 1)) = u.2 ∙ ap (repeat o x y) (sym u.1.is) in
    let f = subst (Fits s) is l.fits in
    let c : m.count ≡ count s (pattern_at b (i - 1)) = counted b s (i - 1) m u.1.ends f.0 me in
    let sp : span x (most s y) ≡ suc (most s y - x) = omega (arith, f.1.2) in
    let h : n < powers m.count (suc (most s y - x)) x = subst (λ k. n < powers k (suc (most s y - x)) x) (sym c) (subst (λ k. n < powers (count s (pattern_at b (i - 1))) k x) sp (subst (λ q. n < count s q) is l.below)) in
    let all : powers m.count (suc (most s y - x)) x ≤ most_candidates = subst (λ k. powers k (suc (most s y - x)) x ≤ most_candidates) (sym c) (subst (λ k. powers (count s (pattern_at b (i - 1))) k x ≤ most_candidates) sp f.2.0) in
    let w = occurring m.count (most s y - x) x n h in
    let re2 : r ≡ times_at m.count x (most s y) n = re ∙ ap (λ k. times_at m.count x k n) ze in
    let rt : r.times ≡ (occurrences m.count (most s y - x) x n).0 = ap (λ (a : Repeated). a.times) re2 in
    let rn : r.number ≡ (occurrences m.count (most s y - x) x n).1 = ap (λ (a : Repeated). a.number) re2 in
    let rp : r.power ≡ power_capped (m.count ^ (occurrences m.count (most s y - x) x n).0) = ap (λ (a : Repeated). a.power) re2 in
    let rq : r.power ≡ m.count ^ (occurrences m.count (most s y - x) x n).0 = omega (arith, rp, w.few, all) in
    let tm : r.times ≤ most s y = omega (arith, rt, w.most, f.1.2) in
    record {
      pos = u.1.pos;
      layable = record {
        ends = u.1.ends;
        fits = f.0;
        once = c;
        power = rq ∙ ap (λ k. m.count ^ k) (sym rt);
        below = omega (arith, rn, rq, w.below);
        small = omega (arith, rq, w.few, all);
        few = omega (arith, tm, times_few s x y sc f.1);
      };
      long = omega (arith, mul-le-mul_right {m = r.times} {n = most s y} (len s (pattern_at b (i - 1))) tm, ap (len s) is);
      is = ap (λ q. choice_of s q n) is
          ∙ (ap (λ k. times o (choice_of s (pattern_at b (i - 1))) k (occurrences k (most s y - x) x n).0 (occurrences k (most s y - x) x n).1) (sym c)
          ∙ ap₂ (λ j k. times o (choice_of s (pattern_at b (i - 1))) m.count j k) (sym rt) (sym rn));
    }

-- One occurrence of several.

pub record First (c k w n : ℕ) : Type 0 where
  pub some : 0 < c
  pub rest : w / c ≡ c ^ (k - 1)
  pub digit : n / (w / c) < c
  pub left : n % (w / c) < w / c
  pub less : w / c ≤ w

zero_pow : (k : ℕ) → zero ^ suc k ≡ zero
zero_pow k = pow-suc zero k ∙ mul-zero (zero ^ k)

first_of : (c k w n : ℕ) → w ≡ c ^ k → n < w → 0 < k → First c k w n
first_of c zero w n e h p = absurd (omega arith)
first_of zero (suc k) w n e h p = absurd (omega (arith, zero_pow k))
first_of (suc c) (suc k) w n e h p =
    let d : w ≡ suc c ^ k * suc c = e ∙ pow-suc (suc c) k in
    let r : w / suc c ≡ suc c ^ k = ap (λ x. x / suc c) d ∙ mul-div_cancel (suc c ^ k) (omega arith) in
    let z : suc k - 1 ≡ k = omega arith in
    let pos : 0 < suc c ^ k = some_right n (suc c) (suc c ^ k) (omega (arith, mul_comm (suc c) (suc c ^ k))) in
    record {
      some = omega arith;
      rest = r ∙ ap (λ x. suc c ^ x) (sym z);
      digit = subst (λ x. n / x < suc c) (sym r) (div_below n (suc c ^ k) (suc c) pos (omega (arith, mul_comm (suc c) (suc c ^ k))));
      left = mod_below n (w / suc c) (omega (arith, r, pos));
      less = div-le_self w (suc c);
    }

times_more : (o : Order) (u : ℕ → Choice) (c k n w : ℕ) → 0 < k → w ≡ c ^ (k - 1) → times o u c k n ≡ pair o (u (n / w)) (times o u c (k - 1) (n % w))
times_more o u c zero n w h e = absurd (omega arith)
times_more o u c (suc k) n w h e =
    let z : k ≡ suc k - 1 = omega arith in
    let q : c ^ k ≡ w = ap (λ x. c ^ x) z ∙ sym e in
    ap₂ (λ x y. pair o (u (n / x)) (times o u c y (n % x))) q z

times_none : (o : Order) (u : ℕ → Choice) (c k n : ℕ) → k ≡ 0 → times o u c k n ≡ empty
times_none o u c k n e = ap (λ x. times o u c x n) e

times_long : (k m : ℕ) → 0 < k → k * m ≡ m + (k - 1) * m
times_long zero m h = absurd (omega arith)
times_long (suc k) m h = let z : suc k - 1 ≡ k = omega arith in subst (λ x. suc k * m ≡ m + x * m) (sym z) (omega (arith, suc-mul k m))

not_none : (k : ℕ) → (k ≡ 0 → ⊥) → 0 < k
not_none zero h = absurd (h refl)
not_none (suc k) h = omega arith

-- a run without occurrences
pub run_none : (table : Checked) (i : ℕ) (run : Run) → run.left.times ≡ 0 → run_choice table i run ≡ empty
run_none table i run e = times_none run.order (choice_at table i) run.once run.left.times run.left.number e

-- the occurrences after the first, which have p choices together, at number m
abbrev pub rest_of : Run → ℕ → ℕ → Run
rest_of run p m = record { order = run.order; once = run.once; left = record { times = run.left.times - 1; number = m; power = p } }

-- a run with occurrences: the first at number n, and the others; d is the count of one, as the code converts it
pub record RunParts (table : Checked) (i d p n m : ℕ) (run : Run) : Type 0 where
  pub some : 0 < d
  pub less : run.left.power / d ≤ run.left.power
  pub first : Layable table i n
  pub others : LayableRun table i (rest_of run p m)
  pub long : longest_run table i run ≡ longest table i + longest_run table i (rest_of run p m)
  pub is : run_choice table i run ≡ pair run.order (choice_at table i n) (run_choice table i (rest_of run p m))

pub run_some : {table : Checked} {i d : ℕ} {run : Run} → d ≡ run.once → LayableRun table i run → (run.left.times ≡ 0 → ⊥) → First d run.left.times run.left.power run.left.number
run_some {d = d} {run = run} e y s = first_of d run.left.times run.left.power run.left.number (y.power ∙ ap (λ x. x ^ run.left.times) (sym e)) y.below (not_none run.left.times s)

pub run_parts : {table : Checked} {i d p n m : ℕ} {run : Run} → d ≡ run.once → LayableRun table i run → (run.left.times ≡ 0 → ⊥) → p ≡ run.left.power / d → n ≡ run.left.number / p → m ≡ run.left.number % p
    → RunParts table i d p n m run
run_parts {table} {i} {d} {p} {n} {m} {run} e y s pe ne me =
    let u = run_some e y s in
    let k = not_none run.left.times s in
    let w : p ≡ run.once ^ (run.left.times - 1) = pe ∙ (u.rest ∙ ap (λ x. x ^ (run.left.times - 1)) e) in
    record {
      some = u.some;
      less = u.less;
      first = record { ends = y.ends; fits = y.fits; below = omega (arith, ne ∙ ap (λ x. run.left.number / x) pe, u.digit, e, y.once) };
      others = record {
        ends = y.ends;
        fits = y.fits;
        once = y.once;
        power = w;
        below = omega (arith, me ∙ ap (λ x. run.left.number % x) pe, pe, u.left);
        small = omega (arith, pe, u.less, y.small);
        few = omega (arith, y.few);
      };
      long = times_long run.left.times (longest table i) k;
      is = times_more run.order (choice_at table i) run.once run.left.times run.left.number p k w
          ∙ ap₂ (λ x z. pair run.order (choice_at table i x) (times run.order (choice_at table i) run.once (run.left.times - 1) z)) (sym ne) (sym me);
    }

-- The roots of a candidate, laid one after another.
use Rattle.std.proofs.Common.{◌≡◌, ℕ, zero, suc, ◌+◌, ◌-◌, ◌*◌, ◌/◌, ◌%◌, ◌<◌, ◌≤◌, false, cond, ◌&&◌, ltb, leb, ◌⊎◌, List, [], ◌∷◌, ◌++◌, length, get_or, take, drop, Some, None, Option, sym, refl, ap, ◌∙◌, subst, ap₂, inl, inr, append_assoc, mul_comm, div-le_self, arith, length-append}
use native.Mathlib.Nat.{mul-div_cancel_left}
use Rattle.std.proofs.lemmas.Nat.{div_below, mod_below}
use Rattle.std.proofs.lemmas.List.{take_at, drop_more, get_or-take, get_or_append_left, length-take-le}
use Rattle.std.proofs.lemmas.Bool.{lt-ltb, le-ltb, le-leb, lt-leb, and_right}
use Rattle.questions.specs.Limits.{most_events, most_roots}
use Rattle.grammar.specs.Pattern.{count, len}
use Rattle.grammar.specs.Fits.{Fits, RootsFit}
use Rattle.grammar.specs.Schema.{Rooted, candidates, events}
use Rattle.numbering.specs.Choice.{Choice, node}
use Rattle.numbering.specs.Numbers.{choice_of, choices_of}
use Rattle.schema.specs.Reading.{schema_of}
use Rattle.schema.specs.Plans.{no_root, entries}
use Rattle.schema.specs.Sound.{Planned, Sound, no_rooted}
use Rattle.schema.specs.Told.{table_of, root_found}
use Rattle.schema.specs.declared.checked.Checked.{Checked}
use Rattle.schema.specs.declared.plan.Plan.{Plan}
use Rattle.schema.specs.declared.plan.Root.{Root}
use Rattle.schema.proofs.Carried.{checked_sound, checked_total, length-entries}
use Rattle.laying.specs.Beginning.{Beginning, beginning_of}
use Rattle.laying.specs.Layable.{Layable, root_choice, longest_root}
use Rattle.laying.specs.Lays.{shown, AddsRoot}
use Rattle.laying.specs.Laying.{first_choices, has_beginning, laid_at}
use Rattle.laying.specs.declared.laid.Laid.{Laid}
use Rattle.laying.proofs.Parts.{some_right}

-- the roots of a checked table
abbrev pub roots_of : Checked → List Rooted
roots_of table = (schema_of (table_of table)).roots

-- before root k is laid: what is left of the number, and how many candidates the roots from k on have
pub record Begun (table : Checked) (n k rest after : ℕ) (l : Laid) : Type 0 where
  pub total : after ≡ candidates table.scope (drop k (roots_of table))
  pub below : rest < after
  pub room : l.len + events table.scope (drop k (roots_of table)) ≤ most_events
  pub roots : l.roots ≡ k
  pub done : List Choice
  pub long : length done ≡ k
  pub laid : shown l ≡ beginning_of done
  pub whole : done ++ choices_of table.scope (drop k (roots_of table)) rest ≡ choices_of table.scope (roots_of table) n

-- the digit of root k, of c choices, before roots that have t candidates together
pub record Digit (c t rest after : ℕ) : Type 0 where
  pub some : 0 < c
  pub later : after / c ≡ t
  pub digit : rest / (after / c) < c
  pub left : rest % (after / c) < after / c
  pub less : after / c ≤ after

digit_of : (c t rest after : ℕ) → after ≡ c * t → rest < after → Digit c t rest after
digit_of c t rest after e h =
    let g : rest < c * t = omega (arith, e, h) in
    let p = some_right rest t c (omega (arith, mul_comm c t)) in
    let q = some_right rest c t g in
    let l : after / c ≡ t = ap (λ x. x / c) e ∙ mul-div_cancel_left t p in
    record {
      some = p;
      later = l;
      digit = subst (λ x. rest / x < c) (sym l) (div_below rest t c q g);
      left = mod_below rest (after / c) (omega (arith, l, q));
      less = div-le_self after c;
    }

fits_at : (s k : ℕ) (rs : List Rooted) → RootsFit s rs → k < length rs → Fits s (get_or rs k no_rooted).pattern
fits_at s k [] f h = absurd (omega arith)
fits_at s zero (r ∷ rs) f h = f.0.0
fits_at s (suc k) (r ∷ rs) f h = fits_at s k rs f.1 (omega arith)

-- the planned roots are the entries of the plan, and the first j of them are j
planned_many : (c : Checked) (j : ℕ) → j ≤ length (roots_of c) → length (take j (entries c.scope 0 (roots_of c))) ≡ j
planned_many c j le = length-take-le j (entries c.scope 0 (roots_of c)) (omega (arith, length-entries c.scope 0 (roots_of c)))

pub first_planned : (c : Checked) (xs : List Root) (j : ℕ) → xs ≡ entries c.scope 0 (roots_of c) → j ≤ length (roots_of c) → length (take j xs) ≡ j
first_planned c xs j e le = ap (λ ys. length (take j ys)) e ∙ planned_many c j le

pub planned_is : (c : Checked) (xs : List Root) (j k : ℕ) → xs ≡ entries c.scope 0 (roots_of c) → k < j → j ≤ length (roots_of c) → get_or (take j xs) k no_root ≡ root_found (table_of c) c.scope k
planned_is c xs j k e lt le =
    ap (λ ys. get_or (take j ys) k no_root) e
    ∙ (get_or-take j (entries c.scope 0 (roots_of c)) k no_root lt
    ∙ sym (get_or_append_left (entries c.scope 0 (roots_of c)) _ no_root k (omega (arith, length-entries c.scope 0 (roots_of c)))))

module _ {c : Checked} {n k rest after : ℕ} {l : Laid} {e : Root} (lt : k < length (roots_of c)) (is : e ≡ root_found (table_of c) c.scope k) (g : Begun c n k rest after l) where
  abbrev rs : List Rooted
  rs = roots_of c

  abbrev r : Rooted
  r = get_or (roots_of c) k no_rooted

  z : Sound (table_of c) c.scope c.total c.plan c.known
  z = checked_sound c

  planned : Planned (table_of c) c.scope e r
  planned = subst (λ x. Planned (table_of c) c.scope x (get_or (roots_of c) k no_rooted)) (ap (λ (p : Plan). get_or p.roots k no_root) (checked_sound c).plan ∙ sym is) ((checked_sound c).planned k lt)

  counts : e.count ≡ count c.scope r.pattern
  counts = ap (λ (x : Root). x.count) planned.entry

  types : e.event ≡ r.event
  types = ap (λ (x : Root). x.event) planned.entry

  split : drop k rs ≡ r ∷ drop (k + 1) rs
  split = drop_more (roots_of c) k no_rooted lt

  pub digit : Digit e.count (candidates c.scope (drop (k + 1) (roots_of c))) rest after
  digit = digit_of e.count (candidates c.scope (drop (k + 1) rs)) rest after
      (g.total ∙ (ap (candidates c.scope) split ∙ ap (λ x. x * candidates c.scope (drop (k + 1) rs)) (sym counts))) g.below

  pub follows : 0 < e.item
  follows = planned.follows

  pub layable : {m : ℕ} → m ≡ rest / (after / e.count) → Layable c (e.item - 1) m
  layable h = record {
    ends = planned.ends;
    fits = subst (Fits c.scope) (sym planned.is) (fits_at c.scope k (roots_of c) (checked_sound c).within.roots lt);
    below = omega (arith, h, digit.digit, counts, ap (count c.scope) planned.is);
  }

  pub room_at : l.len + longest_root c e ≤ most_events
  room_at = omega (arith, g.room, ap (events c.scope) split, ap (len c.scope) planned.is)

  pub few : l.roots < most_roots
  few = omega (arith, g.roots, lt, z.within.roots_to)

  pub begun_more : {m left : ℕ} {new : Laid} → m ≡ rest / (after / e.count) → left ≡ rest % (after / e.count)
      → AddsRoot (root_choice c e m) l new → new.roots ≡ l.roots + 1 → new.len ≤ l.len + longest_root c e → Begun c n (k + 1) left (after / e.count) new
  begun_more {m} {left} h f sh ro ln = record {
    total = digit.later;
    below = omega (arith, f, digit.left);
    room = omega (arith, g.room, ln, ap (events c.scope) split, ap (len c.scope) planned.is);
    roots = omega (arith, ro, g.roots);
    done = g.done ++ (root_choice c e m ∷ []);
    long = length-append g.done (root_choice c e m ∷ []) ∙ ap (λ i. i + 1) g.long;
    laid = sh g.done g.laid;
    whole = append_assoc g.done (root_choice c e m ∷ []) (choices_of c.scope (drop (k + 1) rs) left)
        ∙ (ap₂ (λ a b. g.done ++ (a ∷ b)) one rests ∙ (ap (λ qs. g.done ++ choices_of c.scope qs rest) (sym split) ∙ g.whole));
  }
    where
      one : root_choice c e m ≡ node r.event (choice_of c.scope r.pattern (rest / candidates c.scope (drop (k + 1) rs)))
      one = ap₂ node types (ap₂ (choice_of c.scope) planned.is (h ∙ ap (λ i. rest / i) digit.later))

      rests : choices_of c.scope (drop (k + 1) rs) left ≡ choices_of c.scope (drop (k + 1) rs) (rest % candidates c.scope (drop (k + 1) rs))
      rests = ap (choices_of c.scope (drop (k + 1) rs)) (f ∙ ap (λ i. rest % i) digit.later)

pub begun_none : (c : Checked) (n after : ℕ) (l : Laid) → after ≡ c.total → n < after → shown l ≡ beginning_of [] → l.len ≡ 0 → l.roots ≡ 0
    → Begun c n 0 n after l
begun_none c n after l e h sh ln ro =
    let z = checked_sound c in
    record { total = e ∙ checked_total c; below = h; room = omega (arith, ln, z.within.events); roots = ro; done = []; long = refl; laid = sh; whole = refl }

-- what the loop leaves is what is asked for
pub begun_all : (c : Checked) (n j k rest after : ℕ) (l : Laid) → j ≤ k → k ≤ j → n < c.total → 1 ≤ j → j ≤ length (roots_of c)
    → Begun c n k rest after l → Some (shown l) ≡ laid_at (table_of c) c.scope n j
unfolding laid_at
begun_all c n j k rest after l le ge h one few g =
    let t : candidates c.scope (roots_of c) ≡ c.total = sym (checked_total c) in
    let e : length g.done ≡ j = omega (arith, g.long, le, ge) in
    let d : g.done ≡ first_choices (table_of c) c.scope n j = sym (take_at g.done (choices_of c.scope (drop k (roots_of c)) rest) j e) ∙ ap (take j) g.whole in
    sym (ap₂ (λ x y. cond {A = Option Beginning} (x && y) (Some (beginning_of (first_choices (table_of c) c.scope n j))) None) (lt-ltb n (candidates c.scope (roots_of c)) (omega (arith, h, t)))
    (ap₂ (λ x y. x && y) (le-leb 1 j one) (le-leb j (length (roots_of c)) few))
    ∙ ap (λ xs. Some (beginning_of xs)) (sym d) ∙ ap Some (sym g.laid))

-- and otherwise there is nothing
pub laid_not : (c : Checked) (n j : ℕ) → (c.total ≤ n) ⊎ ((j ≡ 0) ⊎ (length (roots_of c) < j)) → None ≡ laid_at (table_of c) c.scope n j
unfolding laid_at
laid_not c n j w = sym (ap (λ x. cond {A = Option Beginning} x (Some (beginning_of (first_choices (table_of c) c.scope n j))) None) (no w))
  where
    no : (c.total ≤ n) ⊎ ((j ≡ 0) ⊎ (length (roots_of c) < j)) → has_beginning (table_of c) c.scope n j ≡ false
    no (inl h) = ap (λ x. x && (leb 1 j && leb j (length (roots_of c)))) (le-ltb n (candidates c.scope (roots_of c)) (omega (arith, h, checked_total c)))
    no (inr (inl h)) =
        ap (λ x. ltb n (candidates c.scope (roots_of c)) && (x && leb j (length (roots_of c)))) (lt-leb 1 j (omega arith))
        ∙ and_right (ltb n (candidates c.scope (roots_of c))) false refl
    no (inr (inr h)) =
        ap (λ x. ltb n (candidates c.scope (roots_of c)) && (leb 1 j && x)) (lt-leb j (length (roots_of c)) h)
        ∙ (ap (λ x. ltb n (candidates c.scope (roots_of c)) && x) (and_right (leb 1 j) false refl) ∙ and_right (ltb n (candidates c.scope (roots_of c))) false refl)

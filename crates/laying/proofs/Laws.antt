-- What laying one event, one part after another, and ordering two parts adds to what is laid.
use Rattle.std.proofs.Common.{◌≡◌, ℕ, zero, suc, ◌+◌, ◌-◌, ◌^◌, ◌<◌, ◌≤◌, true, false, cond, ◌&&◌, ◌⊎◌, List, [], ◌∷◌, ◌++◌, length, get_or, take, drop, set, Some, Option, sym, refl, ap, ◌∙◌, subst, ap₂, inl, inr, append_assoc, append-nil, add-zero, zero-add, add_assoc, add-one, arith}
use lib.Bits.{bit_or, or_zero_r, or_comm}
use borrow.Rule.Slice.PartMut.{put_mid}
use Rattle.std.proofs.lemmas.Bool.{cases_Bool}
use Rattle.std.proofs.lemmas.List.{map-append, take_more_set, drop-set-lt, drop_more, take-append-drop, length-take-le, length-drop}
use Rattle.rows.specs.Bits.{bit, among, mask}
use Rattle.rows.specs.Row.{value, row_of}
use Rattle.rows.specs.declared.row.Row.{Row}
use Rattle.rows.proofs.Bits.{or_assoc, mask_append, bit_mask}
use Rattle.grammar.specs.declared.part.Order.{Order}
use Rattle.grammar.specs.declared.part.Order.TheVariants.{InOrder, AsSet}
use Rattle.numbering.specs.Choice.{Choice, empty, node, pair, took, Side}
use Rattle.laying.specs.Pairs.{row}
use Rattle.laying.specs.Events.{size, types, tops, arounds, in_order, precs}
use Rattle.laying.specs.Lays.{laid_events, types_in, around_in, rows_in, row_at, Pushed, preceding_at, preceding, ordered, Ordered, Lays, LaysTop, Between}
use Rattle.laying.specs.declared.laid.Laid.{Laid}
use Rattle.laying.specs.declared.laid.LaidEvent.{LaidEvent}
use Rattle.laying.proofs.Rows.{row_precs_pair, tops_low, tops_high}

-- One event more.

pushed_types : (t : ℕ) (p : Option ℕ) (old new : Laid) → Pushed t p old new → types_in (laid_events new) ≡ types_in (laid_events old) ++ (t ∷ [])
pushed_types t p old new u = ap (types_in) u.events ∙ map-append (λ (e : LaidEvent). e.event) (laid_events old) _

pushed_around : (t : ℕ) (p : Option ℕ) (old new : Laid) → Pushed t p old new → around_in (laid_events new) ≡ around_in (laid_events old) ++ (p ∷ [])
pushed_around t p old new u = ap (around_in) u.events ∙ map-append (λ (e : LaidEvent). e.around) (laid_events old) _

-- an empty row more
row_none : (xs : List ℕ) (a : ℕ) → get_or (xs ++ (0 ∷ [])) a 0 ≡ get_or xs a 0
row_none [] zero = refl
row_none [] (suc a) = refl
row_none (x ∷ xs) zero = refl
row_none (x ∷ xs) (suc a) = row_none xs a

pushed_rows : (t : ℕ) (p : Option ℕ) (old new : Laid) → Pushed t p old new → (a : ℕ) → row_at new a ≡ row_at old a
pushed_rows t p old new u a =
    ap (λ es. get_or (rows_in es) a 0) u.events
    ∙ (ap (λ rs. get_or rs a 0) (map-append (λ (e : LaidEvent). value e.precedes) (laid_events old) _) ∙ row_none (rows_in (laid_events old)) a)

-- Ordering two parts.

module _ (x y : ℕ) where
  -- one event after another
  pub preceding_more : (n i : ℕ) (es fs : List LaidEvent) (d : LaidEvent) → i < length es → (e : LaidEvent) → fs ≡ set es i e → e ≡ preceding_at x y (n + i) (get_or es i d)
      → take (i + 1) fs ++ preceding x y (n + (i + 1)) (drop (i + 1) fs) ≡ take i es ++ preceding x y (n + i) (drop i es)
  preceding_more n i es fs d lt e f g =
      ap₂ (λ u v. u ++ v) (ap (take (i + 1)) f ∙ take_more_set es i e lt)
      (ap₂ (preceding x y) {y = suc (n + i)} (omega arith) (ap (drop (i + 1)) f ∙ drop-set-lt (i + 1) es i e (omega arith)))
      ∙ (append_assoc (take i es) (e ∷ []) (preceding x y (suc (n + i)) (drop (i + 1) es))
      ∙ ap (λ v. take i es ++ v) (ap (λ v. v ∷ preceding x y (suc (n + i)) (drop (i + 1) es)) g ∙ ap (preceding x y (n + i)) (sym (drop_more es i d lt))))

  -- an event that the row has, and one that it does not have
  pub preceding_yes : (n : ℕ) (e : LaidEvent) (r : Row) → bit x n ≡ true → value r ≡ bit_or (value e.precedes) y → record e { precedes = r } ≡ preceding_at x y n e
  preceding_yes n e r h f = ap (λ k. record e { precedes = row_of k }) (f ∙ sym (ap (λ b. bit_or (value e.precedes) (cond b y 0)) h))

  pub preceding_not : (n : ℕ) (e : LaidEvent) → bit x n ≡ false → preceding_at x y n e ≡ e
  preceding_not n e h = ap (λ r. record e { precedes = row_of r }) (ap (λ b. bit_or (value e.precedes) (cond b y 0)) h ∙ or_zero_r (value e.precedes))

  preceding_none : (n : ℕ) (es : List LaidEvent) → ((a : ℕ) → n ≤ a → a < n + length es → bit x a ≡ false) → preceding x y n es ≡ es
  preceding_none n [] h = refl
  preceding_none n (e ∷ es) h =
      ap₂ (λ u v. u ∷ v) (preceding_not n e (h n (omega arith) (omega arith))) (preceding_none (suc n) es (λ a l m. h a (omega arith) (omega arith)))

  preceding-append : (n : ℕ) (es fs : List LaidEvent) → preceding x y n (es ++ fs) ≡ preceding x y n es ++ preceding x y (n + length es) fs
  preceding-append n [] fs = ap (λ m. preceding x y m fs) (sym (add-zero n))
  preceding-append n (e ∷ es) fs =
      ap (λ v. preceding_at x y n e ∷ v) (preceding-append (suc n) es fs ∙ ap (λ m. preceding x y (suc n) es ++ preceding x y m fs) {x = suc n + length es} {y = n + suc (length es)} (omega arith))

  take-preceding : (k n : ℕ) (es : List LaidEvent) → take k (preceding x y n es) ≡ preceding x y n (take k es)
  take-preceding zero n [] = refl
  take-preceding zero n (e ∷ es) = refl
  take-preceding (suc k) n [] = refl
  take-preceding (suc k) n (e ∷ es) = ap (λ v. preceding_at x y n e ∷ v) (take-preceding k (suc n) es)

  -- a row has no bit outside of its part
  outside : (n m a : ℕ) → Between n m x → (a < n) ⊎ (m ≤ a) → bit x a ≡ false
  outside n m a h o = elim (cases_Bool (bit x a)) [ inl t ↦ elim o [ inl l ↦ absurd (omega (arith, (h a t).0)) | inr l ↦ absurd (omega (arith, (h a t).1)) ] | inr f ↦ f ]

  -- only the events from n on and below m change
  pub preceding_part : (n m len : ℕ) (es : List LaidEvent) → n ≤ m → m ≤ length es → Between n m x
      → take len (put_mid n (m - n) es (preceding x y n (take (m - n) (drop n es)))) ≡ preceding x y 0 (take len es)
  preceding_part n m len es le room h =
      ap (take len) (sym whole) ∙ take-preceding len 0 es
    where
      A : List LaidEvent
      A = take n es

      B : List LaidEvent
      B = take (m - n) (drop n es)

      C : List LaidEvent
      C = drop (m - n) (drop n es)

      long_a : length A ≡ n
      long_a = length-take-le n es (omega arith)

      long_b : length B ≡ m - n
      long_b = length-take-le (m - n) (drop n es) (omega (arith, length-drop n es))

      parted : es ≡ A ++ (B ++ C)
      parted = sym (ap (λ v. A ++ v) (take-append-drop (m - n) (drop n es)) ∙ take-append-drop n es)

      whole : preceding x y 0 es ≡ put_mid n (m - n) es (preceding x y n (take (m - n) (drop n es)))
      whole =
          ap (preceding x y 0) parted ∙ (preceding-append 0 A (B ++ C)
          ∙ ap₂ (λ u v. u ++ v) (preceding_none 0 A (λ a l t. outside n m a h (inl (omega (arith, t, long_a)))))
          (ap (λ k. preceding x y k (B ++ C)) {x = 0 + length A} {y = n} (omega (arith, long_a)) ∙ (preceding-append n B C
          ∙ ap (λ v. preceding x y n B ++ v) (preceding_none (n + length B) C (λ a l t. outside n m a h (inr (omega (arith, l, long_b))))))))

  preceding_types : (n : ℕ) (es : List LaidEvent) → types_in (preceding x y n es) ≡ types_in es
  preceding_types n [] = refl
  preceding_types n (e ∷ es) = ap (λ v. e.event ∷ v) (preceding_types (suc n) es)

  preceding_around : (n : ℕ) (es : List LaidEvent) → around_in (preceding x y n es) ≡ around_in es
  preceding_around n [] = refl
  preceding_around n (e ∷ es) = ap (λ v. e.around ∷ v) (preceding_around (suc n) es)

  preceding_rows : (n : ℕ) (es : List LaidEvent) (a : ℕ) → (bit x (n + a) ≡ true → a < length es)
      → get_or (rows_in (preceding x y n es)) a 0 ≡ bit_or (get_or (rows_in es) a 0) (cond (bit x (n + a)) y 0)
  preceding_rows n [] a h = elim (cases_Bool (bit x (n + a))) [ inl t ↦ absurd (omega (arith, h t)) | inr f ↦ sym (ap (λ b. cond b y 0) f) ]
  preceding_rows n (e ∷ es) zero h = ap (λ k. bit_or (value e.precedes) (cond (bit x k) y 0)) (sym (add-zero n))
  preceding_rows n (e ∷ es) (suc a) h =
      let next : suc n + a ≡ n + suc a = omega arith in
      preceding_rows (suc n) es a (λ t. omega (arith, h (sym (ap (bit x) next) ∙ t))) ∙ ap (λ k. bit_or (get_or (rows_in es) a 0) (cond (bit x k) y 0)) next

ordered_types : (o : Order) (x y : ℕ) (es : List LaidEvent) → types_in (ordered o x y es) ≡ types_in es
ordered_types InOrder x y es = preceding_types x y 0 es
ordered_types AsSet x y es = refl

ordered_around : (o : Order) (x y : ℕ) (es : List LaidEvent) → around_in (ordered o x y es) ≡ around_in es
ordered_around InOrder x y es = preceding_around x y 0 es
ordered_around AsSet x y es = refl

ordered_rows : (o : Order) (x y : ℕ) (es : List LaidEvent) → ((a : ℕ) → bit x a ≡ true → a < length es) → (a : ℕ)
    → get_or (rows_in (ordered o x y es)) a 0 ≡ bit_or (get_or (rows_in es) a 0) (cond (in_order o && bit x a) y 0)
ordered_rows InOrder x y es h a =
    let here : 0 + a ≡ a = zero-add a in
    preceding_rows x y 0 es a (λ t. h a (sym (ap (bit x) here) ∙ t)) ∙ ap (λ k. bit_or (get_or (rows_in es) a 0) (cond (bit x k) y 0)) here
ordered_rows AsSet x y es h a = sym (or_zero_r (get_or (rows_in es) a 0))

-- the top events lie among those of the choice
tops_between : (n m : ℕ) (x : Choice) (A : ℕ) → A ≡ mask (tops n x) → m ≡ n + size x → Between n m A
tops_between n m x A e l a h =
    let k : among (tops n x) a ≡ true = sym (bit_mask (tops n x) a) ∙ (ap (λ k. bit k a) (sym e) ∙ h) in
    (tops_low n x a k, omega (arith, tops_high n x a k))

-- Parts.

-- two lists added one after the other
after : {A : Type 0} (u v w a b x : List A) → u ≡ w ++ a → v ≡ u ++ b → x ≡ a ++ b → v ≡ w ++ x
after u v w a b x p q r = q ∙ (ap (λ k. k ++ b) p ∙ (append_assoc w a b ∙ ap (λ k. w ++ k) (sym r)))

lays_empty : (p : Option ℕ) (l : Laid) → Lays p empty l l
unfolding size types arounds precs row
lays_empty p l = record {
  len = sym (add-zero l.len);
  types = sym (append-nil (types_in (laid_events l)));
  around = sym (append-nil (around_in (laid_events l)));
  rows = λ a. sym (or_zero_r (row_at l a));
  roots = refl;
  starts = refl;
}

lays_node : (t : ℕ) (p : Option ℕ) (x : Choice) (old mid new : Laid) → Pushed t p old mid → Lays (Some old.len) x mid new → Lays p (node t x) old new
unfolding size types arounds precs
lays_node t p x old mid new u v = record {
  len = omega (arith, u.len, v.len);
  types = after _ _ _ (t ∷ []) (types x) _ (pushed_types t p old mid u) v.types refl;
  around = after _ _ _ (p ∷ []) (arounds (Some old.len) (suc old.len) x) _ (pushed_around t p old mid u) (v.around ∙ ap (λ n. around_in (laid_events mid) ++ arounds (Some old.len) n x) next) refl;
  rows = λ a. v.rows a ∙ ap₂ (λ r n. bit_or r (row (precs n x) a)) (pushed_rows t p old mid u a) next;
  roots = v.roots ∙ u.roots;
  starts = v.starts ∙ u.starts;
}
  where
    next : mid.len ≡ suc old.len
    next = u.len ∙ add-one old.len

lays_took : (d : Side) (p : Option ℕ) (x : Choice) (old new : Laid) → Lays p x old new → Lays p (took d x) old new
unfolding size types arounds precs
lays_took d p x old new u = record { len = u.len; types = u.types; around = u.around; rows = u.rows; roots = u.roots; starts = u.starts }

-- the parts in the order of the code, and in that of the definition
turned : (r x y c : ℕ) → bit_or (bit_or (bit_or r x) y) c ≡ bit_or r (bit_or c (bit_or x y))
turned r x y c = or_assoc (bit_or r x) y c ∙ (or_assoc r x (bit_or y c) ∙ ap (bit_or r) (sym (or_assoc x y c) ∙ or_comm (bit_or x y) c))

lays_pair : (o : Order) (p : Option ℕ) (x y : Choice) (A B : ℕ) (old mid end new : Laid) → Lays p x old mid → Lays p y mid end
    → A ≡ mask (tops old.len x) → B ≡ mask (tops mid.len y) → Ordered o A B end new → Lays p (pair o x y) old new
unfolding size types arounds
lays_pair o p x y A B old mid end new u v ta tb w = record {
  len = w.len ∙ (v.len ∙ (ap (λ n. n + size y) u.len ∙ add_assoc old.len (size x) (size y)));
  types = ap types_in w.events ∙ (ordered_types o A B (laid_events end) ∙ after _ _ _ (types x) (types y) _ u.types v.types refl);
  around = ap around_in w.events ∙ (ordered_around o A B (laid_events end) ∙ after _ _ _ (arounds p old.len x) (arounds p mid.len y) _ u.around v.around
      (ap (λ n. arounds p old.len x ++ arounds p n y) (sym u.len)));
  rows = rows;
  roots = w.roots ∙ (v.roots ∙ u.roots);
  starts = w.starts ∙ (v.starts ∙ u.starts);
}
  where
    -- the earlier part's top events are laid
    below : (a : ℕ) → bit A a ≡ true → a < length (laid_events end)
    below a t = omega (arith, (tops_between old.len mid.len x A ta u.len a t).1, v.len, length-take-le end.len end.events (omega (arith, end.events_few, end.events_here)))

    ordered_at : (a : ℕ) → row_at new a ≡ bit_or (row_at end a) (cond (in_order o && bit A a) B 0)
    ordered_at a = ap (λ es. get_or (rows_in es) a 0) w.events ∙ ordered_rows o A B (laid_events end) below a

    rows : (a : ℕ) → row_at new a ≡ bit_or (row_at old a) (row (precs old.len (pair o x y)) a)
    rows a =
        let R = row_at old a in
        let X = row (precs old.len x) a in
        let Y = row (precs mid.len y) a in
        let C = cond (in_order o && among (tops old.len x) a) (mask (tops mid.len y)) 0 in
        ordered_at a
        ∙ (ap₂ (λ s t. bit_or s t) (v.rows a ∙ ap (λ s. bit_or s Y) (u.rows a)) (ap₂ (λ s t. cond (in_order o && s) t 0) (ap (λ n. bit n a) ta ∙ bit_mask (tops old.len x) a) tb)
        ∙ (turned R X Y C ∙ ap (bit_or R) (ap (λ n. bit_or (cond (in_order o && among (tops old.len x) a) (mask (tops n y)) 0) (bit_or X (row (precs n y) a))) u.len ∙ sym (row_precs_pair old.len o x y a))))

-- What is laid, with its top events.

module _ {p : Option ℕ} {old new : Laid} {r : ℕ} where
  -- the same choice under another name
  pub laid_as : {m k : ℕ} {x : Choice} (z : Choice) → z ≡ x → m ≤ k → LaysTop p x m old new r → LaysTop p z k old new r
  laid_as {m} {k} {x} z e l h = record {
    lays = subst (λ v. Lays p v old new) (sym e) h.lays;
    tops = h.tops ∙ ap (λ v. mask (tops old.len v)) (sym e);
    length = omega (arith, h.length);
  }

  pub laid_took : {m : ℕ} {x : Choice} (d : Side) → LaysTop p x m old new r → LaysTop p (took d x) m old new r
  unfolding tops
  laid_took d h = record { lays = lays_took d p _ old new h.lays; tops = h.tops; length = h.length }

  pub laid_node : {m q t : ℕ} {x : Choice} {mid : Laid} → Pushed t p old mid → r ≡ 2 ^ old.len → LaysTop (Some old.len) x m mid new q → LaysTop p (node t x) (m + 1) old new r
  unfolding tops
  laid_node {t = t} {mid = mid} u e h = record { lays = lays_node t p _ old mid new u h.lays; tops = e ∙ sym (or_zero_r (2 ^ old.len)); length = omega (arith, h.length, u.len) }

  pub laid_pair : {o : Order} {m n A B : ℕ} {x y : Choice} {mid end : Laid} → LaysTop p x m old mid A → LaysTop p y n mid end B → Ordered o A B end new → r ≡ bit_or A B
      → LaysTop p (pair o x y) (m + n) old new r
  unfolding tops
  laid_pair {o} {A = A} {B = B} {x = x} {y = y} {mid = mid} {end = end} u v w e = record {
    lays = lays_pair o p x y A B old mid end new u.lays v.lays u.tops v.tops w;
    tops = e ∙ (ap₂ bit_or u.tops v.tops ∙ (ap (λ k. bit_or (mask (tops old.len x)) (mask (tops k y))) u.lays.len ∙ sym (mask_append (tops old.len x) (tops (old.len + size x) y))));
    length = omega (arith, u.length, v.length, w.len);
  }

pub laid_empty : {p : Option ℕ} {l : Laid} {r : ℕ} → r ≡ 0 → LaysTop p empty 0 l l r
unfolding tops
laid_empty {p} {l} e = record { lays = lays_empty p l; tops = e; length = omega arith }

-- where the top events of a part lie
pub part_after : {p : Option ℕ} {x : Choice} {m A : ℕ} {old new : Laid} → LaysTop p x m old new A → old.len ≤ new.len
part_after u = omega (arith, u.lays.len)

pub part_between : {p : Option ℕ} {x : Choice} {m A : ℕ} {old new : Laid} → LaysTop p x m old new A → Between old.len new.len A
part_between {x = x} {A = A} {old = old} {new = new} u = tops_between old.len new.len x A u.tops u.lays.len

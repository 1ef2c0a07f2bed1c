-- Rows of what is laid: of parts, of all pairs of two lists; and where the top events lie.
use Rattle.std.proofs.Common.{◌≡◌, ℕ, suc, ◌⊎◌, ◌+◌, ◌^◌, ◌<◌, ◌≤◌, Bool, true, false, cond, ◌&&◌, ◌||◌, eqb, ◌↔◌, List, [], ◌∷◌, ◌++◌, sym, refl, ap, ◌∙◌, ap₂, inl, inr, arith}
use lib.Bits.{bit_or, or_zero_r, or_self}
use Rattle.std.proofs.lemmas.Bool.{cases_Bool, and_right, cond-false, both_ways, eqb-true, eq-eqb, or_cases, or_left, or_right}
use Rattle.rows.specs.Bits.{bit, among, mask}
use Rattle.rows.proofs.Bits.{bit-bit_or, bit_zero, bit_one, or_assoc, among-append}
use Rattle.grammar.specs.declared.part.Order.{Order}
use Rattle.grammar.specs.declared.part.Order.TheVariants.{InOrder, AsSet}
use Rattle.numbering.specs.Choice.{Choice, empty, node, pair, took}
use Rattle.laying.specs.Pairs.{Pairs, Paired, with_each, all_pairs, row}
use Rattle.laying.specs.Events.{size, tops, in_order, crossing, precs}
use Rattle.laying.specs.Promises.{RowsSay}

row-append : (ps qs : Pairs) (a : ℕ) → row (ps ++ qs) a ≡ bit_or (row ps a) (row qs a)
unfolding row
row-append [] qs a = refl
row-append (p ∷ ps) qs a =
    let here : ℕ = cond (eqb p.0 a) (2 ^ p.1) 0 in
    ap (bit_or here) (row-append ps qs a) ∙ sym (or_assoc here (row ps a) (row qs a))

row_with_each : (x : ℕ) (ys : List ℕ) (a : ℕ) → row (with_each x ys) a ≡ cond (eqb x a) (mask ys) 0
unfolding row with_each
row_with_each x [] a = elim (eqb x a) as (λ t. ◌≡◌ {A = ℕ} 0 (cond t 0 0)) [ true ↦ refl | false ↦ refl ]
row_with_each x (y ∷ ys) a =
    ap (bit_or (cond (eqb x a) (2 ^ y) 0)) (row_with_each x ys a)
    ∙ elim (eqb x a) as (λ t. bit_or (cond t (2 ^ y) 0) (cond t (mask ys) 0) ≡ cond t (bit_or (2 ^ y) (mask ys)) 0) [ true ↦ refl | false ↦ refl ]

row_all_pairs : (xs ys : List ℕ) (a : ℕ) → row (all_pairs xs ys) a ≡ cond (among xs a) (mask ys) 0
unfolding row all_pairs
row_all_pairs [] ys a = refl
row_all_pairs (x ∷ xs) ys a =
    row-append (with_each x ys) (all_pairs xs ys) a
    ∙ ap₂ bit_or (row_with_each x ys a) (row_all_pairs xs ys a)
    ∙ either (eqb x a) (among xs a)
  where
    either : (s t : Bool) → bit_or (cond s (mask ys) 0) (cond t (mask ys) 0) ≡ cond (s || t) (mask ys) 0
    either true true = or_self (mask ys)
    either true false = or_zero_r (mask ys)
    either false t = refl

row_crossing : (o : Order) (xs ys : List ℕ) (a : ℕ) → row (crossing o xs ys) a ≡ cond (in_order o && among xs a) (mask ys) 0
unfolding row
row_crossing InOrder xs ys a = row_all_pairs xs ys a
row_crossing AsSet xs ys a = refl

pub row_precs_pair : (n : ℕ) (o : Order) (x y : Choice) (a : ℕ) → row (precs n (pair o x y)) a
    ≡ bit_or (cond (in_order o && among (tops n x) a) (mask (tops (n + size x) y)) 0) (bit_or (row (precs n x) a) (row (precs (n + size x) y) a))
unfolding precs
row_precs_pair n o x y a =
    row-append (crossing o (tops n x) (tops (n + size x) y)) (precs n x ++ precs (n + size x) y) a
    ∙ ap₂ bit_or (row_crossing o (tops n x) (tops (n + size x) y) a) (row-append (precs n x) (precs (n + size x) y) a)

-- the top events lie among the events of the choice

pub tops_low : (n : ℕ) (x : Choice) (a : ℕ) → among (tops n x) a ≡ true → n ≤ a
unfolding tops
tops_low n empty a h = absurd (both_ways false refl h)
tops_low n (node t x) a h = elim (or_cases (eqb n a) false h) [ inl e ↦ omega (arith, eqb-true n a e) | inr z ↦ absurd (both_ways false refl z) ]
tops_low n (pair o x y) a h = elim (or_cases (among (tops n x) a) (among (tops (n + size x) y) a) (sym (among-append (tops n x) (tops (n + size x) y) a) ∙ h)) [
  | inl e ↦ tops_low n x a e
  | inr e ↦ omega (arith, tops_low (n + size x) y a e)
]
tops_low n (took d x) a h = tops_low n x a h

pub tops_high : (n : ℕ) (x : Choice) (a : ℕ) → among (tops n x) a ≡ true → a < n + size x
unfolding tops size
tops_high n empty a h = absurd (both_ways false refl h)
tops_high n (node t x) a h = elim (or_cases (eqb n a) false h) [ inl e ↦ omega (arith, eqb-true n a e) | inr z ↦ absurd (both_ways false refl z) ]
tops_high n (pair o x y) a h = elim (or_cases (among (tops n x) a) (among (tops (n + size x) y) a) (sym (among-append (tops n x) (tops (n + size x) y) a) ∙ h)) [
  | inl e ↦ omega (arith, tops_high n x a e)
  | inr e ↦ omega (arith, tops_high (n + size x) y a e)
]
tops_high n (took d x) a h = tops_high n x a h

-- a place outside of the choice has no top event, and an empty row
no_top : (n : ℕ) (x : Choice) (a : ℕ) → (a < n) ⊎ (n + size x ≤ a) → among (tops n x) a ≡ false
no_top n x a l = elim (cases_Bool (among (tops n x) a)) [
  | inl h ↦ elim l [ inl k ↦ absurd (omega (arith, tops_low n x a h)) | inr k ↦ absurd (omega (arith, tops_high n x a h)) ]
  | inr h ↦ h
]

pub row_outside : (n : ℕ) (x : Choice) (a : ℕ) → (a < n) ⊎ (n + size x ≤ a) → row (precs n x) a ≡ 0
unfolding precs row size
row_outside n empty a l = refl
row_outside n (node t x) a l = row_outside (suc n) x a (elim l [ inl h ↦ inl (omega arith) | inr h ↦ inr (omega arith) ])
row_outside n (pair o x y) a l =
    row_precs_pair n o x y a
    ∙ ap₂ bit_or (cond-false (in_order o && among (tops n x) a) (mask (tops (n + size x) y)) 0 (and_right (in_order o) (among (tops n x) a) (no_top n x a first)))
    (ap₂ bit_or (row_outside n x a first) (row_outside (n + size x) y a (elim l [ inl h ↦ inl (omega arith) | inr h ↦ inr (omega arith) ])))
  where
    first : (a < n) ⊎ (n + size x ≤ a)
    first = elim l [ inl h ↦ inl h | inr h ↦ inr (omega arith) ]
row_outside n (took d x) a l = row_outside n x a l

-- the one bit of a pair
pair_bit : (x y a b : ℕ) → bit (cond (eqb x a) (2 ^ y) 0) b ≡ true ↔ ((x ≡ a) × (y ≡ b))
pair_bit x y a b = (to (eqb x a) (eqb-true x a), from)
  where
    to : (t : Bool) → (t ≡ true → x ≡ a) → bit (cond t (2 ^ y) 0) b ≡ true → (x ≡ a) × (y ≡ b)
    to true e h = (e refl, eqb-true y b (sym (bit_one y b) ∙ h))
    to false e h = absurd (both_ways (bit 0 b) (bit_zero b) h)

    from : (x ≡ a) × (y ≡ b) → bit (cond (eqb x a) (2 ^ y) 0) b ≡ true
    from e = ap (λ t. bit (cond t (2 ^ y) 0) b) (eq-eqb x a e.0) ∙ bit_one y b ∙ eq-eqb y b e.1

pub rows_say : RowsSay
unfolding row
rows_say [] a b = (λ h. both_ways (bit 0 b) (bit_zero b) h, λ z. absurd z)
rows_say (p ∷ ps) a b = (to (rows_say ps a b).0, from (rows_say ps a b).1)
  where
    here : ℕ
    here = cond (eqb p.0 a) (2 ^ p.1) 0

    to : (bit (row ps a) b ≡ true → Paired ps a b) → bit (bit_or here (row ps a)) b ≡ true → Paired (p ∷ ps) a b
    to rest h = elim (or_cases (bit here b) (bit (row ps a) b) (sym (bit-bit_or here (row ps a) b) ∙ h)) [
      | inl k ↦ inl ((pair_bit p.0 p.1 a b).0 k)
      | inr k ↦ inr (rest k)
    ]

    from : (Paired ps a b → bit (row ps a) b ≡ true) → Paired (p ∷ ps) a b → bit (bit_or here (row ps a)) b ≡ true
    from rest (inl e) = bit-bit_or here (row ps a) b ∙ or_left _ _ ((pair_bit p.0 p.1 a b).1 e)
    from rest (inr k) = bit-bit_or here (row ps a) b ∙ or_right _ _ (rest k)

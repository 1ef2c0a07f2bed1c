-- What the bits of a union, of one bit and of a list of bits are.
use Rattle.std.proofs.Common.{◌≡◌, ℕ, zero, suc, ◌+◌, ◌-◌, ◌*◌, ◌/◌, ◌%◌, ◌^◌, ◌<◌, true, false, ◌||◌, eqb, List, [], ◌∷◌, ◌++◌, sym, refl, ap, ◌∙◌, ap₂, inl, inr, mod-lt, zero-lt-suc, div-add-mod', arith, pow_pos, pow-add}
use native.Mathlib.Nat.{div_self, div-eq_of_lt}
use lib.Arith.{bin_ind}
use lib.Bits.{bit_or, or_shr, or_mod, shifted_even}
use lib.Pow.{pow-lt, shl-shr}
use Rattle.std.proofs.lemmas.Bool.{cases_order, eq-eqb, ne_eqb}
use Rattle.rows.specs.Bits.{bit, among, mask}

-- Digits: numbers below 2.

digit : (n : ℕ) → n % 2 < 2
digit n = mod-lt n (zero-lt-suc 1)

digit_or : (x y : ℕ) → x < 2 → y < 2 → eqb (bit_or x y) 1 ≡ (eqb x 1 || eqb y 1)
digit_or zero y hx hy = refl
digit_or (suc zero) zero hx hy = refl
digit_or (suc zero) (suc zero) hx hy = refl
digit_or (suc zero) (suc (suc y)) hx hy = absurd (omega arith)
digit_or (suc (suc x)) y hx hy = absurd (omega arith)

digit_assoc : (x y z : ℕ) → x < 2 → y < 2 → z < 2 → bit_or (bit_or x y) z ≡ bit_or x (bit_or y z)
digit_assoc zero y z hx hy hz = refl
digit_assoc (suc zero) zero z hx hy hz = refl
digit_assoc (suc zero) (suc zero) zero hx hy hz = refl
digit_assoc (suc zero) (suc zero) (suc zero) hx hy hz = refl
digit_assoc (suc zero) (suc zero) (suc (suc z)) hx hy hz = absurd (omega arith)
digit_assoc (suc zero) (suc (suc y)) z hx hy hz = absurd (omega arith)
digit_assoc (suc (suc x)) y z hx hy hz = absurd (omega arith)

by_digits : (a b : ℕ) → a / 2 ≡ b / 2 → a % 2 ≡ b % 2 → a ≡ b
by_digits a b hi lo = sym (div-add-mod' a 2) ∙ ap₂ (λ (x y : ℕ). x * 2 + y) hi lo ∙ div-add-mod' b 2

-- Bits.

pub bit-bit_or : (a b j : ℕ) → bit (bit_or a b) j ≡ (bit a j || bit b j)
bit-bit_or a b j =
    ap (λ (n : ℕ). eqb (n % 2) 1) (or_shr a b j)
    ∙ ap (λ (n : ℕ). eqb n 1) (or_mod (a / 2 ^ j) (b / 2 ^ j) 1)
    ∙ digit_or (a / 2 ^ j % 2) (b / 2 ^ j % 2) (digit (a / 2 ^ j)) (digit (b / 2 ^ j))

pub bit_zero : (j : ℕ) → bit 0 j ≡ false
bit_zero j = ap (λ (n : ℕ). eqb (n % 2) 1) (zero_div (2 ^ j))
  where
    zero_div : (n : ℕ) → 0 / n ≡ 0
    zero_div n = omega arith

below_one : (d j : ℕ) → bit (2 ^ (suc d + j)) j ≡ false
below_one d j =
    ap (λ (n : ℕ). eqb (n / 2 ^ j % 2) 1) (pow-add 2 (suc d) j)
    ∙ ap (λ (n : ℕ). eqb (n % 2) 1) (shl-shr (2 ^ suc d) j)
    ∙ ap (λ (n : ℕ). eqb n 1) (omega (arith) ∙ shifted_even 1 d)

pub bit_one : (k j : ℕ) → bit (2 ^ k) j ≡ eqb k j
bit_one k j = elim (cases_order k j) [
  | inl e ↦ ap (λ (n : ℕ). bit (2 ^ n) j) e ∙ ap (λ (n : ℕ). eqb (n % 2) 1) (div_self (pow_pos j)) ∙ sym (eq-eqb k j e)
  | inr o ↦ elim o [
    | inl l ↦ ap (λ (n : ℕ). eqb (n % 2) 1) (div-eq_of_lt (pow-lt l)) ∙ sym (ne_eqb k j (λ e. omega arith))
    | inr l ↦ ap (λ (n : ℕ). bit (2 ^ n) j) (above l) ∙ below_one (k - j - 1) j ∙ sym (ne_eqb k j (λ e. omega arith))
  ]
]
  where
    above : j < k → k ≡ suc (k - j - 1) + j
    above l = omega arith

pub or_assoc : (a b c : ℕ) → bit_or (bit_or a b) c ≡ bit_or a (bit_or b c)
or_assoc =
    bin_ind (λ (n : ℕ). (b c : ℕ) → bit_or (bit_or n b) c ≡ bit_or n (bit_or b c)) (λ b c. refl)
    (λ n ih b c. by_digits (bit_or (bit_or n b) c) (bit_or n (bit_or b c))
    (or_shr (bit_or n b) c 1 ∙ ap (λ (x : ℕ). bit_or x (c / 2)) (or_shr n b 1) ∙ ih (b / 2) (c / 2)
    ∙ sym (or_shr n (bit_or b c) 1 ∙ ap (bit_or (n / 2)) (or_shr b c 1)))
    (or_mod (bit_or n b) c 1 ∙ ap (λ (x : ℕ). bit_or x (c % 2)) (or_mod n b 1)
    ∙ digit_assoc (n % 2) (b % 2) (c % 2) (digit n) (digit b) (digit c)
    ∙ sym (or_mod n (bit_or b c) 1 ∙ ap (bit_or (n % 2)) (or_mod b c 1))))

-- Lists of bits.

pub mask_append : (xs ys : List ℕ) → mask (xs ++ ys) ≡ bit_or (mask xs) (mask ys)
mask_append [] ys = refl
mask_append (x ∷ xs) ys = ap (bit_or (2 ^ x)) (mask_append xs ys) ∙ sym (or_assoc (2 ^ x) (mask xs) (mask ys))

pub bit_mask : (xs : List ℕ) (j : ℕ) → bit (mask xs) j ≡ among xs j
bit_mask [] j = bit_zero j
bit_mask (x ∷ xs) j = bit-bit_or (2 ^ x) (mask xs) j ∙ ap₂ ◌||◌ (bit_one x j) (bit_mask xs j)

pub among-append : (xs ys : List ℕ) (a : ℕ) → among (xs ++ ys) a ≡ (among xs a || among ys a)
among-append [] ys a = refl
among-append (x ∷ xs) ys a = elim (eqb x a) as (λ t. (t || among (xs ++ ys) a) ≡ ((t || among xs a) || among ys a)) [ true ↦ refl | false ↦ among-append xs ys a ]

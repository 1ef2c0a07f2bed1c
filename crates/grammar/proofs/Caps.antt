-- Sums, products and powers of numbers that stop at a limit.
use Rattle.std.proofs.Common.{◌≡◌, ℕ, zero, suc, ◌+◌, ◌*◌, ◌^◌, min, refl, ◌∙◌, pow-suc, mul-zero, zero-lt-suc, le-mul_of_pos_right, arith}
use native.Mathlib.Nat.{pow-zero}
use Rattle.std.proofs.lemmas.Bool.{cases_lt}
use Rattle.questions.specs.Limits.{most_candidates}
use Rattle.grammar.specs.Pattern.{powers}
use Rattle.grammar.specs.Measures.{count_capped}

-- a factor may stop at the limit first
pub min_mul_left : (m x y : ℕ) → min (min x m * y) m ≡ min (x * y) m
min_mul_left m x zero = grind (arith, mul-zero)
min_mul_left m x (suc y) = grind (arith, cases_lt x m, le-mul_of_pos_right m (zero-lt-suc y), le-mul_of_pos_right x (zero-lt-suc y))

pub min_mul_right : (m x y : ℕ) → min (x * min y m) m ≡ min (x * y) m
min_mul_right m x y = grind (arith, min_mul_left m y x)

pub capped_mul : (x y : ℕ) → count_capped (count_capped x * count_capped y) ≡ count_capped (x * y)
capped_mul x y = min_mul_left (most_candidates + 1) x (count_capped y) ∙ min_mul_right (most_candidates + 1) x y

-- a power that stops at m, and one more factor
pub min_pow_more : (m c k : ℕ) → min (min (c ^ k) m * c) m ≡ min (c ^ (k + 1)) m
min_pow_more m c k = grind (arith, min_mul_left m (c ^ k) c, pow-suc c k)

pub capped_power_more : (c k : ℕ) → count_capped (count_capped (c ^ k) * c) ≡ count_capped (c ^ (k + 1))
capped_power_more = min_pow_more (most_candidates + 1)

pub powers_more : (c m a : ℕ) → powers c (suc m) a ≡ powers c m a + c ^ (a + m)
powers_more c zero a = grind arith
powers_more c (suc m) a = grind (arith, powers_more c m (suc a))

capped_power : (c k : ℕ) → count_capped (count_capped c ^ k) ≡ count_capped (c ^ k)
capped_power c zero = grind (arith, pow-zero)
capped_power c (suc k) = grind (arith, pow-suc (count_capped c) k, pow-suc c k, min_mul_left (most_candidates + 1) (count_capped c ^ k) (count_capped c), capped_power c k, capped_mul (c ^ k) c)

pub capped_powers : (c m a : ℕ) → count_capped (powers (count_capped c) m a) ≡ count_capped (powers c m a)
capped_powers c zero a = refl
capped_powers c (suc m) a = grind (arith, capped_power c a, capped_powers c m (suc a))

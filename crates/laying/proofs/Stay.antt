-- Roots laid one after another: what two lists of roots lay, and that the later ones change nothing of what the earlier ones laid.
use Rattle.std.proofs.Common.{◌≡◌, ℕ, suc, ◌+◌, ◌<◌, List, [], ◌∷◌, ◌++◌, map, length, take, Some, None, Option, sym, refl, ap, ◌∙◌, ap₂, inl, append_assoc, add-zero, add_assoc, zero-add, arith, length-append}
use lib.Bits.{bit_or, or_zero_r}
use Rattle.std.specs.List.{range_with_len}
use Rattle.std.proofs.lemmas.List.{take_at}
use Rattle.std.proofs.lemmas.List.FromFn.{take-map-range_with_len, length-map-range_with_len, get_or-map-range_with_len, fill_by_all}
use Rattle.rows.proofs.Bits.{or_assoc}
use Rattle.grammar.specs.declared.part.Order.TheVariants.{AsSet}
use Rattle.numbering.specs.Choice.{Choice, empty, node, pair, took}
use Rattle.laying.specs.Pairs.{row}
use Rattle.laying.specs.Events.{size, types, arounds, precs}
use Rattle.laying.specs.Beginning.{whole, starts, beginning_of}
use Rattle.laying.specs.Promises.{BeginningsStay}
use Rattle.laying.proofs.Rows.{row_precs_pair, row_outside}

-- Two lists of roots.

pub size-append : (xs ys : List Choice) → size (whole (xs ++ ys)) ≡ size (whole xs) + size (whole ys)
unfolding size
size-append [] ys = sym (zero-add (size (whole ys)))
size-append (x ∷ xs) ys = ap (λ m. size x + m) (size-append xs ys) ∙ sym (add_assoc (size x) (size (whole xs)) (size (whole ys)))

pub types-append : (xs ys : List Choice) → types (whole (xs ++ ys)) ≡ types (whole xs) ++ types (whole ys)
unfolding types
types-append [] ys = refl
types-append (x ∷ xs) ys = ap (λ l. types x ++ l) (types-append xs ys) ∙ sym (append_assoc (types x) (types (whole xs)) (types (whole ys)))

pub arounds-append : (p : Option ℕ) (n : ℕ) (xs ys : List Choice) → arounds p n (whole (xs ++ ys)) ≡ arounds p n (whole xs) ++ arounds p (n + size (whole xs)) (whole ys)
unfolding arounds size
arounds-append p n [] ys = ap (λ m. arounds p m (whole ys)) (sym (add-zero n))
arounds-append p n (x ∷ xs) ys =
    ap (λ l. arounds p n x ++ l) (arounds-append p (n + size x) xs ys ∙ ap (λ m. arounds p (n + size x) (whole xs) ++ arounds p m (whole ys)) (add_assoc n (size x) (size (whole xs))))
    ∙ sym (append_assoc (arounds p n x) (arounds p (n + size x) (whole xs)) (arounds p (n + size (whole (x ∷ xs))) (whole ys)))

pub row_precs-append : (n : ℕ) (xs ys : List Choice) (a : ℕ)
    → row (precs n (whole (xs ++ ys))) a ≡ bit_or (row (precs n (whole xs)) a) (row (precs (n + size (whole xs)) (whole ys)) a)
unfolding size precs row
row_precs-append n [] ys a = ap (λ m. row (precs m (whole ys)) a) (sym (add-zero n))
row_precs-append n (x ∷ xs) ys a =
    row_precs_pair n AsSet x (whole (xs ++ ys)) a
    ∙ ap (bit_or (row (precs n x) a)) (row_precs-append (n + size x) xs ys a
    ∙ ap (λ m. bit_or (row (precs (n + size x) (whole xs)) a) (row (precs m (whole ys)) a)) (add_assoc n (size x) (size (whole xs))))
    ∙ sym (or_assoc (row (precs n x) a) (row (precs (n + size x) (whole xs)) a) (row (precs (n + size (whole (x ∷ xs))) (whole ys)) a))
    ∙ ap (λ k. bit_or k (row (precs (n + size (whole (x ∷ xs))) (whole ys)) a)) (sym (row_precs_pair n AsSet x (whole xs) a))

pub starts-append : (n : ℕ) (xs ys : List Choice) → starts n (xs ++ ys) ≡ starts n xs ++ starts (n + size (whole xs)) ys
unfolding starts size
starts-append n [] ys = ap (λ m. starts m ys) (sym (add-zero n))
starts-append n (x ∷ xs) ys =
    ap {B = List ℕ} (λ l. n ∷ l) (starts-append (n + size x) xs ys ∙ ap (λ m. starts (n + size x) xs ++ starts m ys) (add_assoc n (size x) (size (whole xs))))

-- Lengths.

length_types : (x : Choice) → length (types x) ≡ size x
unfolding types size
length_types empty = refl
length_types (node t x) = ap suc (length_types x)
length_types (pair o x y) = length-append (types x) (types y) ∙ ap₂ (λ (a b : ℕ). a + b) (length_types x) (length_types y)
length_types (took d x) = length_types x

pub length-arounds : (p : Option ℕ) (n : ℕ) (x : Choice) → length (arounds p n x) ≡ size x
unfolding arounds size
length-arounds p n empty = refl
length-arounds p n (node t x) = ap suc (length-arounds (Some n) (suc n) x)
length-arounds p n (pair o x y) =
    length-append (arounds p n x) (arounds p (n + size x) y) ∙ ap₂ (λ (a b : ℕ). a + b) (length-arounds p n x) (length-arounds p (n + size x) y)
length-arounds p n (took d x) = length-arounds p n x

length-starts : (n : ℕ) (xs : List Choice) → length (starts n xs) ≡ length xs
unfolding starts
length-starts n [] = refl
length-starts n (x ∷ xs) = ap suc (length-starts (n + size x) xs)

-- What stays.

types_stay : (xs ys : List Choice) → take (size (whole xs)) (types (whole (xs ++ ys))) ≡ types (whole xs)
types_stay xs ys = ap (take (size (whole xs))) (types-append xs ys) ∙ take_at (types (whole xs)) (types (whole ys)) (size (whole xs)) (length_types (whole xs))

arounds_stay : (xs ys : List Choice) → take (size (whole xs)) (arounds None 0 (whole (xs ++ ys))) ≡ arounds None 0 (whole xs)
arounds_stay xs ys =
    ap (take (size (whole xs))) (arounds-append None 0 xs ys)
    ∙ take_at (arounds None 0 (whole xs)) (arounds None (0 + size (whole xs)) (whole ys)) (size (whole xs)) (length-arounds None 0 (whole xs))

starts_stay : (xs ys : List Choice) → take (length xs) (starts 0 (xs ++ ys)) ≡ starts 0 xs
starts_stay xs ys = ap (take (length xs)) (starts-append 0 xs ys) ∙ take_at (starts 0 xs) (starts (0 + size (whole xs)) ys) (length xs) (length-starts 0 xs)

row_stays : (xs ys : List Choice) (a : ℕ) → a < size (whole xs) → row (precs 0 (whole (xs ++ ys))) a ≡ row (precs 0 (whole xs)) a
row_stays xs ys a l =
    row_precs-append 0 xs ys a
    ∙ ap (bit_or (row (precs 0 (whole xs)) a)) (row_outside (0 + size (whole xs)) (whole ys) a (inl (omega arith)))
    ∙ or_zero_r (row (precs 0 (whole xs)) a)

rows_stay : (xs ys : List Choice) → take (size (whole xs)) (map (row (precs 0 (whole (xs ++ ys)))) (range_with_len 0 (size (whole (xs ++ ys)))))
    ≡ map (row (precs 0 (whole xs))) (range_with_len 0 (size (whole xs)))
rows_stay xs ys =
    take-map-range_with_len more 0 (size (whole (xs ++ ys))) m (omega (arith, size-append xs ys))
    ∙ fill_by_all (row (precs 0 (whole xs))) (map more (range_with_len 0 m)) m 0 (length-map-range_with_len more 0 m)
    (λ k l. get_or-map-range_with_len more 0 m k k 0 l (zero-add k) ∙ row_stays xs ys k l)
  where
    m : ℕ
    m = size (whole xs)

    more : ℕ → ℕ
    more = row (precs 0 (whole (xs ++ ys)))

pub stay : BeginningsStay
unfolding beginning_of
stay xs ys = λ i. record { types = types_stay xs ys i; around = arounds_stay xs ys i; precedes = rows_stay xs ys i; starts = starts_stay xs ys i }

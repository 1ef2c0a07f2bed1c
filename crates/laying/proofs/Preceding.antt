-- What precedes what in two parts and in a repetition.
use Rattle.std.proofs.Common.{◌≡◌, ℕ, zero, suc, ◌+◌, ◌<◌, ◌⊎◌, ◌↔◌, List, [], ◌∷◌, ◌++◌, length, take, sym, refl, subst, inl, inr, add-zero, add_assoc, arith}
use mathlib.Core.Logic.Iff
use Rattle.grammar.specs.declared.part.Order.{Order}
use Rattle.grammar.specs.declared.part.Order.TheVariants.{InOrder, AsSet}
use Rattle.numbering.specs.Choice.{Choice}
use Rattle.laying.specs.Pairs.{Paired, Among, with_each, all_pairs}
use Rattle.laying.specs.Events.{size, tops, precs, crossing}
use Rattle.laying.specs.Promises.{PartsPrecede, OccurrencesPrecede, occurring_all, occurrence, start}
use Rattle.laying.proofs.Enclosing.{either_iff, either_and, and_either, among-append, paired-append}

-- ---- two parts

paired_with_each : (c : ℕ) (ys : List ℕ) (a b : ℕ) → Paired (with_each c ys) a b ↔ ((c ≡ a) × Among ys b)
unfolding with_each
paired_with_each c [] a b = (λ z. absurd z, λ h. absurd h.1)
paired_with_each c (y ∷ ys) a b = Iff.trans (either_iff Iff.rfl (paired_with_each c ys a b)) and_either

paired_all_pairs : (xs ys : List ℕ) (a b : ℕ) → Paired (all_pairs xs ys) a b ↔ (Among xs a × Among ys b)
unfolding all_pairs
paired_all_pairs [] ys a b = (λ z. absurd z, λ h. absurd h.0)
paired_all_pairs (x ∷ xs) ys a b =
    Iff.trans (paired-append (with_each x ys) (all_pairs xs ys) a b)
    (Iff.trans (either_iff (paired_with_each x ys a b) (paired_all_pairs xs ys a b)) either_and)

paired_crossing : (o : Order) (xs ys : List ℕ) (a b : ℕ) → Paired (crossing o xs ys) a b ↔ ((o ≡ InOrder) × Among xs a × Among ys b)
paired_crossing InOrder xs ys a b =
    (λ h. let r = (paired_all_pairs xs ys a b).0 h in (refl, r.0, r.1), λ h. (paired_all_pairs xs ys a b).1 (h.1, h.2))
paired_crossing AsSet xs ys a b = (λ z. absurd z, λ h. let e = h.0 in let z : ◌≡◌ {A = ℕ} 0 1 = cc in absurd (omega arith))

pub parts : PartsPrecede
unfolding precs
parts n o x y a b =
    Iff.trans (paired-append (crossing o (tops n x) (tops (n + size x) y)) (precs n x ++ precs (n + size x) y) a b)
    (either_iff (paired_crossing o (tops n x) (tops (n + size x) y) a b) (paired-append (precs n x) (precs (n + size x) y) a b))

-- ---- repetitions

-- F holds of some occurrence and of where it starts
abbrev Somewhere : (ℕ → Choice → Type 0) → Order → ℕ → List Choice → Type 0
Somewhere F o n xs = (k : ℕ) × (k < length xs) × F (start o n xs k) (occurrence xs k)

-- F holds of some occurrence and G of some later one
abbrev Across : (F G : ℕ → Choice → Type 0) → Order → ℕ → List Choice → Type 0
Across F G o n xs = (k : ℕ) × (l : ℕ) × (o ≡ InOrder) × (k < l) × (l < length xs) × F (start o n xs k) (occurrence xs k) × G (start o n xs l) (occurrence xs l)

module _ (o : Order) (n : ℕ) (x : Choice) (xs : List Choice) where
  start_first : start o n (x ∷ xs) 0 ≡ n
  unfolding size
  start_first = add-zero n

  start_next : (k : ℕ) → start o n (x ∷ xs) (suc k) ≡ start o (n + size x) xs k
  unfolding size
  start_next k = sym (add_assoc n (size x) (size (occurring_all o (take k xs))))

  module _ (F : ℕ → Choice → Type 0) where
    at_first : F (start o n (x ∷ xs) 0) x ↔ F n x
    at_first = (subst (λ m. F m x) start_first, subst (λ m. F m x) (sym start_first))

    at_next : (k : ℕ) → F (start o n (x ∷ xs) (suc k)) (occurrence xs k) ↔ F (start o (n + size x) xs k) (occurrence xs k)
    at_next k = (subst (λ m. F m (occurrence xs k)) (start_next k), subst (λ m. F m (occurrence xs k)) (sym (start_next k)))

    somewhere_cons : Somewhere F o n (x ∷ xs) ↔ (F n x ⊎ Somewhere F o (n + size x) xs)
    somewhere_cons = (parted, joined)
      where
        parted : Somewhere F o n (x ∷ xs) → F n x ⊎ Somewhere F o (n + size x) xs
        parted (zero, l, h) = inl (at_first.0 h)
        parted (suc k, l, h) = inr (k, omega arith, (at_next k).0 h)

        joined : F n x ⊎ Somewhere F o (n + size x) xs → Somewhere F o n (x ∷ xs)
        joined (inl h) = (0, omega arith, at_first.1 h)
        joined (inr (k, l, h)) = (suc k, omega arith, (at_next k).1 h)

  across_cons : (F G : ℕ → Choice → Type 0)
      → Across F G o n (x ∷ xs) ↔ (((o ≡ InOrder) × F n x × Somewhere G o (n + size x) xs) ⊎ Across F G o (n + size x) xs)
  across_cons F G = (parted, joined)
    where
      parted : Across F G o n (x ∷ xs) → ((o ≡ InOrder) × F n x × Somewhere G o (n + size x) xs) ⊎ Across F G o (n + size x) xs
      parted (k, zero, e, l, m, f, g) = absurd (omega arith)
      parted (zero, suc j, e, l, m, f, g) = inl (e, (at_first F).0 f, (j, omega arith, (at_next G j).0 g))
      parted (suc k, suc j, e, l, m, f, g) = inr (k, j, e, omega arith, omega arith, (at_next F k).0 f, (at_next G j).0 g)

      joined : ((o ≡ InOrder) × F n x × Somewhere G o (n + size x) xs) ⊎ Across F G o (n + size x) xs → Across F G o n (x ∷ xs)
      joined (inl (e, f, (j, m, g))) = (0, suc j, e, omega arith, omega arith, (at_first F).1 f, (at_next G j).1 g)
      joined (inr (k, j, e, l, m, f, g)) = (suc k, suc j, e, omega arith, omega arith, (at_next F k).1 f, (at_next G j).1 g)

-- the top events of a repetition are those of its occurrences
tops_of_all : (n : ℕ) (o : Order) (xs : List Choice) (a : ℕ) → Among (tops n (occurring_all o xs)) a ↔ Somewhere (λ m x. Among (tops m x) a) o n xs
unfolding tops
tops_of_all n o [] a = (λ z. absurd z, λ h. omega (arith, h.1))
tops_of_all n o (x ∷ xs) a =
    Iff.trans (among-append (tops n x) (tops (n + size x) (occurring_all o xs)) a)
    (Iff.trans (either_iff Iff.rfl (tops_of_all (n + size x) o xs a)) (Iff.symm (somewhere_cons o n x xs (λ m x. Among (tops m x) a))))

pub occurrences : OccurrencesPrecede
unfolding precs
occurrences n o [] a b = (λ z. absurd z, λ h. elim h [ inl k ↦ omega (arith, k.1) | inr k ↦ omega (arith, k.4) ])
occurrences n o (x ∷ xs) a b =
    Iff.trans (parts n o x (occurring_all o xs) a b)
    (Iff.trans (either_iff Iff.rfl (either_iff Iff.rfl (occurrences (n + size x) o xs a b))) (to, from))
  where
    A : ℕ → Choice → Type 0
    A m x = Among (tops m x) a

    B : ℕ → Choice → Type 0
    B m x = Among (tops m x) b

    P : ℕ → Choice → Type 0
    P m x = Paired (precs m x) a b

    First : Type 0
    First = (o ≡ InOrder) × Among (tops n x) a × Among (tops (n + size x) (occurring_all o xs)) b

    to : First ⊎ (P n x ⊎ (Somewhere P o (n + size x) xs ⊎ Across A B o (n + size x) xs)) → Somewhere P o n (x ∷ xs) ⊎ Across A B o n (x ∷ xs)
    to (inl h) = inr ((across_cons o n x xs A B).1 (inl (h.0, h.1, (tops_of_all (n + size x) o xs b).0 h.2)))
    to (inr (inl h)) = inl ((somewhere_cons o n x xs P).1 (inl h))
    to (inr (inr (inl h))) = inl ((somewhere_cons o n x xs P).1 (inr h))
    to (inr (inr (inr h))) = inr ((across_cons o n x xs A B).1 (inr h))

    from : Somewhere P o n (x ∷ xs) ⊎ Across A B o n (x ∷ xs) → First ⊎ (P n x ⊎ (Somewhere P o (n + size x) xs ⊎ Across A B o (n + size x) xs))
    from (inl h) = elim ((somewhere_cons o n x xs P).0 h) [ inl k ↦ inr (inl k) | inr k ↦ inr (inr (inl k)) ]
    from (inr h) = elim ((across_cons o n x xs A B).0 h) [
      | inl k ↦ inl (k.0, k.1, (tops_of_all (n + size x) o xs b).1 k.2)
      | inr k ↦ inr (inr (inr k))
    ]

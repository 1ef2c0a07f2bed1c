-- An event is IN the nearest one around it, the list of the nearest says the same, and the top events are the outermost.
use Rattle.std.proofs.Common.{◌≡◌, ℕ, zero, suc, ◌+◌, ◌-◌, ◌<◌, ◌≤◌, ◌⊎◌, ◌↔◌, List, [], ◌∷◌, ◌++◌, length, get_or, Some, None, Option, sym, refl, ap, ◌∙◌, subst, inl, inr, arith, length-append}
use mathlib.Core.Logic.Iff
use mathlib.Core.Logic.{⊎_map}
use Rattle.std.proofs.lemmas.List.{get_or_append_left, get_or-append-add, get_or_past}
use Rattle.std.proofs.lemmas.Bool.{cases_lt, cases_eq}
use Rattle.grammar.specs.declared.part.Order.{Order}
use Rattle.numbering.specs.Choice.{Choice, empty, node, pair, took, Side}
use Rattle.laying.specs.Pairs.{Pairs, Paired, Among, each_with}
use Rattle.laying.specs.Events.{size, tops, ins, arounds}
use Rattle.laying.proofs.Stay.{length-arounds}
use Rattle.laying.specs.Promises.{Encloses, around_all, deeper, in_first, in_second, on_side, InTheNearest, AroundIsIn, TopsOutermost}

-- ---- laws of ⊎

pub either_iff : {A B C D : Type 0} → A ↔ C → B ↔ D → (A ⊎ B) ↔ (C ⊎ D)
either_iff f g = (⊎_map f.0 g.0, ⊎_map f.1 g.1)

either_none : {A : Type 0} → A ↔ (⊥ ⊎ A)
either_none = (inr, elim [ inl z ↦ absurd z | inr a ↦ a ])

either_assoc : {A B C : Type 0} → (A ⊎ (B ⊎ C)) ↔ ((A ⊎ B) ⊎ C)
either_assoc = (
  elim [ inl a ↦ inl (inl a) | inr (inl b) ↦ inl (inr b) | inr (inr c) ↦ inr c ],
  elim [ inl (inl a) ↦ inl a | inl (inr b) ↦ inr (inl b) | inr c ↦ inr (inr c) ],
)

either_middle : {A B C D : Type 0} → (A ⊎ B) ⊎ (C ⊎ D) → (A ⊎ C) ⊎ (B ⊎ D)
either_middle = elim [ inl (inl a) ↦ inl (inl a) | inl (inr b) ↦ inr (inl b) | inr (inl c) ↦ inl (inr c) | inr (inr d) ↦ inr (inr d) ]

pub either_and : {A B C : Type 0} → ((A × C) ⊎ (B × C)) ↔ ((A ⊎ B) × C)
either_and = (elim [ inl h ↦ (inl h.0, h.1) | inr h ↦ (inr h.0, h.1) ], λ h. elim h.0 [ inl a ↦ inl (a, h.1) | inr b ↦ inr (b, h.1) ])

pub and_either : {A B C : Type 0} → ((C × A) ⊎ (C × B)) ↔ (C × (A ⊎ B))
and_either = (elim [ inl h ↦ (h.0, inl h.1) | inr h ↦ (h.0, inr h.1) ], λ h. elim h.1 [ inl a ↦ inl (h.0, a) | inr b ↦ inr (h.0, b) ])

-- ---- places and pairs of lists

pub among-append : (xs ys : List ℕ) (a : ℕ) → Among (xs ++ ys) a ↔ (Among xs a ⊎ Among ys a)
among-append [] ys a = either_none
among-append (x ∷ xs) ys a = Iff.trans (either_iff Iff.rfl (among-append xs ys a)) either_assoc

pub paired-append : (ps qs : Pairs) (a b : ℕ) → Paired (ps ++ qs) a b ↔ (Paired ps a b ⊎ Paired qs a b)
paired-append [] qs a b = either_none
paired-append (p ∷ ps) qs a b = Iff.trans (either_iff Iff.rfl (paired-append ps qs a b)) either_assoc

paired_each_with : (xs : List ℕ) (p a b : ℕ) → Paired (each_with xs p) a b ↔ (Among xs a × (p ≡ b))
unfolding each_with
paired_each_with [] p a b = (λ z. absurd z, λ h. absurd h.0)
paired_each_with (x ∷ xs) p a b = Iff.trans (either_iff Iff.rfl (paired_each_with xs p a b)) either_and

-- ---- what encloses what

encloses_within : {n : ℕ} {x : Choice} {b a : ℕ} → Encloses n x b a → (n ≤ b) × (b < a) × (a < n + size x)
unfolding size
encloses_within (around_all l m) = (omega arith, l, omega arith)
encloses_within (deeper e) = let r = encloses_within e in (omega arith, r.1, omega arith)
encloses_within (in_first e) = let r = encloses_within e in (r.0, r.1, omega arith)
encloses_within (in_second e) = let r = encloses_within e in (omega arith, r.1, omega arith)
encloses_within (on_side e) = encloses_within e

empty_encloses : {n b a : ℕ} → Encloses n empty b a → ⊥
empty_encloses e = elim e [ ]

node_encloses : {n t : ℕ} {x : Choice} {b a : ℕ} → Encloses n (node t x) b a → ((b ≡ n) × (n < a) × (a ≤ n + size x)) ⊎ Encloses (suc n) x b a
node_encloses (around_all l m) = inl (refl, l, m)
node_encloses (deeper e) = inr e

pair_encloses : {n : ℕ} {o : Order} {x y : Choice} {b a : ℕ} → Encloses n (pair o x y) b a → Encloses n x b a ⊎ Encloses (n + size x) y b a
pair_encloses (in_first e) = inl e
pair_encloses (in_second e) = inr e

took_encloses : {n : ℕ} {d : Side} {x : Choice} {b a : ℕ} → Encloses n (took d x) b a → Encloses n x b a
took_encloses (on_side e) = e

-- ---- the top events

-- event a of the choice x, laid from n on, has none around it
abbrev Outermost : ℕ → Choice → ℕ → Type 0
Outermost n x a = (n ≤ a) × (a < n + size x) × ((b : ℕ) → Encloses n x b a → ⊥)

outermost_pair : (n : ℕ) (o : Order) (x y : Choice) (a : ℕ) → Outermost n (pair o x y) a ↔ (Outermost n x a ⊎ Outermost (n + size x) y a)
unfolding size
outermost_pair n o x y a = (λ h. parted h (cases_lt a (n + size x)), joined)
  where
    parted : Outermost n (pair o x y) a → (a < n + size x) ⊎ (n + size x ≤ a) → Outermost n x a ⊎ Outermost (n + size x) y a
    parted h (inl l) = inl (h.0, l, λ b e. h.2 b (in_first e))
    parted h (inr l) = inr (l, omega (arith, h.1), λ b e. h.2 b (in_second e))

    joined : Outermost n x a ⊎ Outermost (n + size x) y a → Outermost n (pair o x y) a
    joined (inl h) = (h.0, omega arith, λ b e. elim (pair_encloses e) [ inl k ↦ h.2 b k | inr k ↦ (let r = encloses_within k in omega (arith, h.1)) ])
    joined (inr h) = (omega arith, omega arith, λ b e. elim (pair_encloses e) [ inl k ↦ (let r = encloses_within k in omega (arith, h.0)) | inr k ↦ h.2 b k ])

outermost_node : (n t : ℕ) (x : Choice) (a : ℕ) → Outermost n (node t x) a ↔ (n ≡ a)
unfolding size
outermost_node n t x a = (λ h. elim (cases_eq n a) [ inl e ↦ e | inr d ↦ absurd (h.2 n (around_all (omega (arith, h.0)) (omega (arith, h.1)))) ], from)
  where
    from : n ≡ a → Outermost n (node t x) a
    from e = (omega arith, omega arith, λ b k. let r = encloses_within k in omega arith)

outermost_took : (n : ℕ) (d : Side) (x : Choice) (a : ℕ) → Outermost n (took d x) a ↔ Outermost n x a
unfolding size
outermost_took n d x a = (λ h. (h.0, h.1, λ b e. h.2 b (on_side e)), λ h. (h.0, h.1, λ b e. h.2 b (took_encloses e)))

pub outermost : TopsOutermost
unfolding size tops
outermost n empty a = (λ z. absurd z, λ h. omega arith)
outermost n (node t x) a = (λ h. elim h [ inl e ↦ (outermost_node n t x a).1 e | inr z ↦ absurd z ], λ h. inl ((outermost_node n t x a).0 h))
outermost n (pair o x y) a =
    Iff.trans (among-append (tops n x) (tops (n + size x) y) a)
    (Iff.trans (either_iff (outermost n x a) (outermost (n + size x) y a)) (Iff.symm (outermost_pair n o x y a)))
outermost n (took d x) a = Iff.trans (outermost n x a) (Iff.symm (outermost_took n d x a))

-- ---- the nearest around

-- b is the nearest event around a in the choice x, laid from n on
abbrev Nearest : ℕ → Choice → ℕ → ℕ → Type 0
Nearest n x a b = Encloses n x b a × ((c : ℕ) → Encloses n x c a → (c ≡ b) ⊎ Encloses n x c b)

nearest_pair : (n : ℕ) (o : Order) (x y : Choice) (a b : ℕ) → Nearest n (pair o x y) a b ↔ (Nearest n x a b ⊎ Nearest (n + size x) y a b)
nearest_pair n o x y a b = (λ h. parted h (pair_encloses h.0), joined)
  where
    parted : Nearest n (pair o x y) a b → Encloses n x b a ⊎ Encloses (n + size x) y b a → Nearest n x a b ⊎ Nearest (n + size x) y a b
    parted h (inl e) = inl (
      e,
      λ c k. elim (h.1 c (in_first k)) [
        | inl q ↦ inl q
        | inr q ↦ elim (pair_encloses q) [ inl f ↦ inr f | inr f ↦ (let r = encloses_within k in let s = encloses_within f in absurd (omega arith)) ]
      ],
    )
    parted h (inr e) = inr (
      e,
      λ c k. elim (h.1 c (in_second k)) [
        | inl q ↦ inl q
        | inr q ↦ elim (pair_encloses q) [ inl f ↦ (let r = encloses_within e in let s = encloses_within f in absurd (omega arith)) | inr f ↦ inr f ]
      ],
    )

    joined : Nearest n x a b ⊎ Nearest (n + size x) y a b → Nearest n (pair o x y) a b
    joined (inl h) = (
      in_first h.0,
      λ c k. elim (pair_encloses k) [
        | inl f ↦ elim (h.1 c f) [ inl q ↦ inl q | inr q ↦ inr (in_first q) ]
        | inr f ↦ (let r = encloses_within h.0 in let s = encloses_within f in absurd (omega arith))
      ],
    )
    joined (inr h) = (
      in_second h.0,
      λ c k. elim (pair_encloses k) [
        | inl f ↦ (let r = encloses_within h.0 in let s = encloses_within f in absurd (omega arith))
        | inr f ↦ elim (h.1 c f) [ inl q ↦ inl q | inr q ↦ inr (in_second q) ]
      ],
    )

-- an outermost event of the inside is IN the event itself
nearest_node : (n t : ℕ) (x : Choice) (a b : ℕ) → Nearest n (node t x) a b ↔ ((Outermost (suc n) x a × (n ≡ b)) ⊎ Nearest (suc n) x a b)
nearest_node n t x a b = (λ h. parted h (node_encloses h.0), joined)
  where
    parted : Nearest n (node t x) a b → ((b ≡ n) × (n < a) × (a ≤ n + size x)) ⊎ Encloses (suc n) x b a → (Outermost (suc n) x a × (n ≡ b)) ⊎ Nearest (suc n) x a b
    parted h (inl e) = inl (
      (
        e.1,
        omega arith,
        λ c k. let r = encloses_within k in elim (h.1 c (deeper k)) [
          | inl q ↦ omega arith
          | inr q ↦ (let s = encloses_within q in omega arith)
        ],
      ),
      sym e.0,
    )
    parted h (inr e) = inr (
      e,
      λ c k. elim (h.1 c (deeper k)) [
        | inl q ↦ inl q
        | inr q ↦ elim (node_encloses q) [ inl f ↦ (let r = encloses_within k in absurd (omega arith)) | inr f ↦ inr f ]
      ],
    )

    joined : (Outermost (suc n) x a × (n ≡ b)) ⊎ Nearest (suc n) x a b → Nearest n (node t x) a b
    joined (inl h) = (
      subst (λ c. Encloses n (node t x) c a) h.1 (around_all h.0.0 (omega (arith, h.0.1))),
      λ c k. elim (node_encloses k) [
        | inl f ↦ inl (f.0 ∙ h.1)
        | inr f ↦ absurd (h.0.2 c f)
      ],
    )
    joined (inr h) = let r = encloses_within h.0 in (
      deeper h.0,
      λ c k. elim (node_encloses k) [
        | inl f ↦ inr (subst (λ c. Encloses n (node t x) c b) (sym f.0) (around_all (omega arith) (omega arith)))
        | inr f ↦ elim (h.1 c f) [ inl q ↦ inl q | inr q ↦ inr (deeper q) ]
      ],
    )

nearest_took : (n : ℕ) (d : Side) (x : Choice) (a b : ℕ) → Nearest n (took d x) a b ↔ Nearest n x a b
nearest_took n d x a b = (
  λ h. (took_encloses h.0, λ c k. elim (h.1 c (on_side k)) [ inl q ↦ inl q | inr q ↦ inr (took_encloses q) ]),
  λ h. (on_side h.0, λ c k. elim (h.1 c (took_encloses k)) [ inl q ↦ inl q | inr q ↦ inr (on_side q) ]),
)

pub nearest : InTheNearest
unfolding size tops ins
nearest n empty a b = (λ z. absurd z, λ h. absurd (empty_encloses h.0))
nearest n (node t x) a b =
    Iff.trans (paired-append (each_with (tops (suc n) x) n) (ins (suc n) x) a b)
    (Iff.trans (either_iff (Iff.trans (paired_each_with (tops (suc n) x) n a b) (Iff.and (outermost (suc n) x a) Iff.rfl)) (nearest (suc n) x a b))
    (Iff.symm (nearest_node n t x a b)))
nearest n (pair o x y) a b =
    Iff.trans (paired-append (ins n x) (ins (n + size x) y) a b)
    (Iff.trans (either_iff (nearest n x a b) (nearest (n + size x) y a b)) (Iff.symm (nearest_pair n o x y a b)))
nearest n (took d x) a b = Iff.trans (nearest n x a b) (Iff.symm (nearest_took n d x a b))

-- ---- the list of the nearest

-- a stands i places after n, and the i-th of ps is b
abbrev Found : ℕ → List (Option ℕ) → ℕ → ℕ → Type 0
Found n ps a b = (i : ℕ) × (a ≡ n + i) × (i < length ps) × (get_or ps i None ≡ Some b)

found-append : (n m : ℕ) (ps qs : List (Option ℕ)) (a b : ℕ) → m ≡ n + length ps → Found n (ps ++ qs) a b ↔ (Found n ps a b ⊎ Found m qs a b)
found-append n m ps qs a b at = (λ f. parted f (cases_lt f.0 (length ps)), joined)
  where
    parted : (f : Found n (ps ++ qs) a b) → (f.0 < length ps) ⊎ (length ps ≤ f.0) → Found n ps a b ⊎ Found m qs a b
    parted f (inl l) = inl (f.0, f.1, l, sym (get_or_append_left ps qs None f.0 l) ∙ f.3)
    parted f (inr l) =
        let e : f.0 ≡ length ps + (f.0 - length ps) = omega arith in
        inr (
          f.0 - length ps,
          omega (arith, f.1),
          omega (arith, f.2, length-append ps qs),
          sym (get_or-append-add ps qs (f.0 - length ps) None) ∙ ap (λ i. get_or (ps ++ qs) i None) (sym e) ∙ f.3,
        )

    joined : Found n ps a b ⊎ Found m qs a b → Found n (ps ++ qs) a b
    joined (inl f) = (f.0, f.1, omega (arith, f.2, length-append ps qs), get_or_append_left ps qs None f.0 f.2 ∙ f.3)
    joined (inr f) = (length ps + f.0, omega (arith, f.1), omega (arith, f.2, length-append ps qs), get_or-append-add ps qs f.0 None ∙ f.3)

found-cons : (n : ℕ) (p : Option ℕ) (ps : List (Option ℕ)) (a b : ℕ) → Found n (p ∷ ps) a b ↔ (Found (suc n) ps a b ⊎ ((n ≡ a) × (p ≡ Some b)))
found-cons n p ps a b = (parted, joined)
  where
    parted : Found n (p ∷ ps) a b → Found (suc n) ps a b ⊎ ((n ≡ a) × (p ≡ Some b))
    parted (zero, e, l, q) = inr (omega arith, q)
    parted (suc i, e, l, q) = inl (i, omega arith, omega arith, q)

    joined : Found (suc n) ps a b ⊎ ((n ≡ a) × (p ≡ Some b)) → Found n (p ∷ ps) a b
    joined (inl (i, e, l, q)) = (suc i, omega arith, omega arith, q)
    joined (inr (e, q)) = (0, omega arith, omega arith, q)

-- b is the nearest around a, where p is the one around the top events of x
abbrev Inside : Option ℕ → ℕ → Choice → ℕ → ℕ → Type 0
Inside p n x a b = Paired (ins n x) a b ⊎ (Among (tops n x) a × (p ≡ Some b))

inside_pair : (p : Option ℕ) (n : ℕ) (o : Order) (x y : Choice) (a b : ℕ) → Inside p n (pair o x y) a b ↔ (Inside p n x a b ⊎ Inside p (n + size x) y a b)
unfolding ins tops
inside_pair p n o x y a b =
    Iff.trans (either_iff (paired-append (ins n x) (ins (n + size x) y) a b)
    (Iff.trans (Iff.and (among-append (tops n x) (tops (n + size x) y) a) Iff.rfl) (Iff.symm either_and)))
    (either_middle, either_middle)

inside_node : (p : Option ℕ) (n t : ℕ) (x : Choice) (a b : ℕ) → Inside p n (node t x) a b ↔ (Inside (Some n) (suc n) x a b ⊎ ((n ≡ a) × (p ≡ Some b)))
unfolding ins tops
inside_node p n t x a b = (parted, joined)
  where
    tops_are_in : Paired (each_with (tops (suc n) x) n) a b ↔ (Among (tops (suc n) x) a × (n ≡ b))
    tops_are_in = paired_each_with (tops (suc n) x) n a b

    parted : Inside p n (node t x) a b → Inside (Some n) (suc n) x a b ⊎ ((n ≡ a) × (p ≡ Some b))
    parted (inl h) = inl (elim ((paired-append (each_with (tops (suc n) x) n) (ins (suc n) x) a b).0 h) [
      | inl k ↦ (let r = tops_are_in.0 k in inr (r.0, ap Some r.1))
      | inr k ↦ inl k
    ])
    parted (inr (inl e, q)) = inr (e, q)
    parted (inr (inr z, q)) = absurd z

    joined : Inside (Some n) (suc n) x a b ⊎ ((n ≡ a) × (p ≡ Some b)) → Inside p n (node t x) a b
    joined (inl h) = inl ((paired-append (each_with (tops (suc n) x) n) (ins (suc n) x) a b).1 (elim h [
      | inl k ↦ inr k
      | inr k ↦ (let e = k.1 in inl (tops_are_in.1 (k.0, cc)))
    ]))
    joined (inr (e, q)) = inr (inl e, q)

inside_found : (p : Option ℕ) (n : ℕ) (x : Choice) (a b : ℕ) → Inside p n x a b ↔ Found n (arounds p n x) a b
unfolding ins tops arounds size
inside_found p n empty a b = (λ h. elim h [ inl z ↦ absurd z | inr k ↦ absurd k.0 ], λ f. absurd (omega (arith, f.2)))
inside_found p n (node t x) a b =
    Iff.trans (inside_node p n t x a b)
    (Iff.trans (either_iff (inside_found (Some n) (suc n) x a b) Iff.rfl) (Iff.symm (found-cons n p (arounds (Some n) (suc n) x) a b)))
inside_found p n (pair o x y) a b =
    Iff.trans (inside_pair p n o x y a b)
    (Iff.trans (either_iff (inside_found p n x a b) (inside_found p (n + size x) y a b))
    (Iff.symm (found-append n (n + size x) (arounds p n x) (arounds p (n + size x) y) a b (omega (arith, length-arounds p n x)))))
inside_found p n (took d x) a b = inside_found p n x a b

pub around_is_in : AroundIsIn
around_is_in x a b = (
  λ h. to ((inside_found None 0 x a b).0 (inl h)),
  λ e. from ((inside_found None 0 x a b).1 (a, omega arith, short e (cases_lt a (length (arounds None 0 x))), e)),
)
  where
    to : Found 0 (arounds None 0 x) a b → get_or (arounds None 0 x) a None ≡ Some b
    to (i, e, l, q) = let same : a ≡ i = omega arith in ap (λ k. get_or (arounds None 0 x) k None) same ∙ q

    short : get_or (arounds None 0 x) a None ≡ Some b → (a < length (arounds None 0 x)) ⊎ (length (arounds None 0 x) ≤ a) → a < length (arounds None 0 x)
    short e (inl l) = l
    short e (inr l) = let past = get_or_past (arounds None 0 x) a None l in let z : ◌≡◌ {A = ℕ} 0 1 = cc in absurd (omega arith)

    from : Inside None 0 x a b → Paired (ins 0 x) a b
    from (inl h) = h
    from (inr h) = let none = h.1 in let z : ◌≡◌ {A = ℕ} 0 1 = cc in absurd (omega arith)

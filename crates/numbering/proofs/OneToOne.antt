-- Numberings that correspond one to one, made from others.
use Rattle.std.proofs.Common.{le_refl, ◌≡◌, ℕ, ◌+◌, ◌-◌, ◌*◌, ◌/◌, ◌%◌, ◌<◌, ◌≤◌, ◌⊎◌, ap, ◌∙◌, inl, inr, mul-zero, arith}
use Rattle.std.proofs.lemmas.Nat.{mod_below, div-add-mod', mul-add-lt, row_below_turned, div-mul-add, mod-mul-add}
use Rattle.std.proofs.lemmas.Bool.{cases_lt}
use Rattle.numbering.specs.Promises.{OneToOne}

-- what P allows, under f
pub data Image {A C : Type 0} (P : A → Type 0) (f : A → C) : C → Type 0 where
  image : {x : A} → P x → Image P f (f x)

-- what P allows, joined with what Q allows
pub data Joined {A B C : Type 0} (P : A → Type 0) (Q : B → Type 0) (join : A → B → C) : C → Type 0 where
  joined : {x : A} {y : B} → P x → Q y → Joined P Q join (join x y)

pub none_numbered : {C : Type 0} {P : C → Type 0} {u : ℕ → C} {r : C → ℕ} → ((x : C) → P x → ⊥) → OneToOne P 0 u r
none_numbered never =
    record { allowed = λ n h. absurd (omega arith); below = λ x p. absurd (never x p); back = λ n h. absurd (omega arith); again = λ x p. absurd (never x p) }

pub single_numbered : {C : Type 0} {P : C → Type 0} (e : C) → P e → ((x : C) → P x → e ≡ x) → OneToOne P 1 (λ n. e) (λ x. 0)
single_numbered e p only = record { allowed = λ n h. p; below = λ x q. omega arith; back = λ n h. omega arith; again = only }

-- two ways to say what is allowed
pub same_numbered : {C : Type 0} {P P' : C → Type 0} {c : ℕ} {u : ℕ → C} {r : C → ℕ} → ((x : C) → P x → P' x) → ((x : C) → P' x → P x) → OneToOne P c u r → OneToOne P' c u r
same_numbered to from b =
    record { allowed = λ n h. to _ (b.allowed n h); below = λ x p. b.below x (from x p); back = b.back; again = λ x p. b.again x (from x p) }

-- two ways to say the number of what is allowed
pub renumbered : {C : Type 0} {P : C → Type 0} {c : ℕ} {u : ℕ → C} {r r' : C → ℕ} → ((x : C) → P x → r' x ≡ r x) → OneToOne P c u r → OneToOne P c u r'
renumbered {c = c} {u} {r} {r'} same b = record {
  allowed = b.allowed;
  below = λ x p. rw (same x p) (b.below x p);
  back = λ n h. same (u n) (b.allowed n h) ∙ b.back n h;
  again = λ x p. ap u (same x p) ∙ b.again x p;
}

pub image_numbered : {A C : Type 0} {P : A → Type 0} {c : ℕ} {u : ℕ → A} {r : A → ℕ} (f : A → C) (number : C → ℕ) → ((x : A) → number (f x) ≡ r x) → OneToOne P c u r
    → OneToOne (Image P f) c (λ n. f (u n)) number
image_numbered {A} {C} {P} {c} {u} {r} f number same b = record {
  allowed = λ n h. image (b.allowed n h);
  below = image_below;
  back = λ n h. same (u n) ∙ b.back n h;
  again = image_again;
}
  where
    image_below : (z : C) → Image P f z → number z < c
    image_below _ (image {x} p) = rw (same x) (b.below x p)

    image_again : (z : C) → Image P f z → f (u (number z)) ≡ z
    image_again _ (image {x} p) = grind (arith, same x, b.again x p)

-- the first part varies slowest: quotient and rest by the number of second parts
pub joined_numbered : {A B C : Type 0} {P : A → Type 0} {Q : B → Type 0} {c d : ℕ} {u : ℕ → A} {v : ℕ → B} {r : A → ℕ} {w : B → ℕ} (join : A → B → C) (number : C → ℕ)
    → ((x : A) (y : B) → number (join x y) ≡ r x * d + w y) → OneToOne P c u r → OneToOne Q d v w
    → OneToOne (Joined P Q join) (c * d) (λ n. join (u (n / d)) (v (n % d))) number
joined_numbered {A} {B} {C} {P} {Q} {c} {d} {u} {v} {r} {w} join number same a b = record {
  allowed = λ n h. joined (a.allowed (n / d) (quotient n h)) (b.allowed (n % d) (rest n h));
  below = joined_below;
  back = λ n h. grind (arith, same (u (n / d)) (v (n % d)), a.back (n / d) (quotient n h), b.back (n % d) (rest n h), div-add-mod' n d);
  again = joined_again;
}
  where
    quotient : (n : ℕ) → n < c * d → n / d < c
    quotient n h = (row_below_turned n d c d h (le_refl d)).1

    rest : (n : ℕ) → n < c * d → n % d < d
    rest n h = grind (arith, mul-zero c, mod_below n d)

    joined_below : (z : C) → Joined P Q join z → number z < c * d
    joined_below _ (joined {x} {y} p q) = grind (arith, same x y, mul-add-lt (r x) d (w y) c (a.below x p) (b.below y q))

    joined_again : (z : C) → Joined P Q join z → join (u (number z / d)) (v (number z % d)) ≡ z
    joined_again _ (joined {x} {y} p q) = grind (arith, same x y, div-mul-add (r x) d (w y) (b.below y q), mod-mul-add (r x) d (w y) (b.below y q), a.again x p, b.again y q)

-- the first c numbers go to P, the next d to Q
pub sum_numbered : {C : Type 0} {P Q : C → Type 0} {c d : ℕ} {u v : ℕ → C} {r w : C → ℕ} (choose : ℕ → C) (number : C → ℕ)
    → ((n : ℕ) → n < c → choose n ≡ u n) → ((n : ℕ) → c ≤ n → choose n ≡ v (n - c)) → ((x : C) → P x → number x ≡ r x) → ((x : C) → Q x → number x ≡ c + w x)
    → OneToOne P c u r → OneToOne Q d v w → OneToOne (λ x. P x ⊎ Q x) (c + d) choose number
sum_numbered {C} {P} {Q} {c} {d} {u} {v} {r} {w} choose number low high in_p in_q a b = record {
  allowed = λ n h. sum_allowed n h (cases_lt n c);
  below = sum_below;
  back = λ n h. sum_back n h (cases_lt n c);
  again = sum_again;
}
  where
    sum_allowed : (n : ℕ) → n < c + d → (n < c) ⊎ (c ≤ n) → P (choose n) ⊎ Q (choose n)
    sum_allowed n h (inl l) = inl (rw (low n l) (a.allowed n l))
    sum_allowed n h (inr l) = inr (rw (high n l) (b.allowed (n - c) (omega arith)))

    sum_below : (x : C) → P x ⊎ Q x → number x < c + d
    sum_below x (inl p) = omega (arith, in_p x p, a.below x p)
    sum_below x (inr q) = omega (arith, in_q x q, b.below x q)

    sum_back : (n : ℕ) → n < c + d → (n < c) ⊎ (c ≤ n) → number (choose n) ≡ n
    sum_back n h (inl l) = grind (arith, low n l, in_p (u n) (a.allowed n l), a.back n l)
    sum_back n h (inr l) =
        let k : n - c < d = omega arith in
        grind (arith, high n l, in_q (v (n - c)) (b.allowed (n - c) k), b.back (n - c) k)

    sum_again : (x : C) → P x ⊎ Q x → choose (number x) ≡ x
    sum_again x (inl p) = grind (arith, in_p x p, low (r x) (a.below x p), a.again x p)
    sum_again x (inr q) = grind (arith, in_q x q, high (c + w x) (omega arith), b.again x q)

-- What is kept of a list that is added to.
use Rattle.std.proofs.Common.{◌≡◌, ℕ, zero, suc, ◌+◌, ◌-◌, ◌<◌, ◌≤◌, List, [], ◌∷◌, ◌++◌, length, min, take, set, sym, refl, ap, ◌∙◌, append_assoc, append-nil, arith, length-take}
use Rattle.std.proofs.Math.Seq.{take-append-add}
use Rattle.std.proofs.lemmas.List.{take_all, take-append-le, take_min, take_more_set, length_push}
use Rattle.std.proofs.lemmas.Slice.{take-put_mid}
use borrow.Rule.Slice.PartMut.{put_mid}
use Rattle.text.specs.Room.{text_room, kept}

take_front : {X : Type 0} (n : ℕ) (xs ys : List X) → take n (take n xs ++ ys) ≡ take n (xs ++ ys)
take_front zero xs ys = refl
take_front (suc n) [] ys = refl
take_front (suc n) (x ∷ xs) ys = ap (λ l. x ∷ l) (take_front n xs ys)

-- what was left out before makes no difference
pub kept_kept : (xs ys : List ℕ) → kept (kept xs ++ ys) ≡ kept (xs ++ ys)
unfolding kept
kept_kept xs ys = take_front text_room xs ys

-- what fits is kept whole
pub kept_all : (xs : List ℕ) → length xs ≤ text_room → kept xs ≡ xs
unfolding kept
kept_all xs h = take_all text_room xs h

-- from t by xs to u, and from u by ys to v
pub kept_then : (t u v xs ys : List ℕ) → u ≡ kept (t ++ xs) → v ≡ kept (u ++ ys) → v ≡ kept (t ++ (xs ++ ys))
kept_then t u v xs ys p q = q ∙ (ap (λ l. kept (l ++ ys)) p ∙ (kept_kept (t ++ xs) ys ∙ ap kept (append_assoc t xs ys)))

-- what is added to no text, and fits, is all there is
pub kept_whole : (t u xs : List ℕ) → t ≡ [] → (length t ≤ text_room → u ≡ kept (t ++ xs)) → length xs ≤ text_room → u ≡ xs
kept_whole t u xs e p h = p (omega (arith, ap length e)) ∙ (ap (λ l. kept (l ++ xs)) e ∙ kept_all xs h)

-- what is kept fits
pub kept_fits : (t xs : List ℕ) → t ≡ kept xs → length t ≤ text_room
unfolding kept
kept_fits t xs e = omega (arith, ap length e, length-take text_room xs)

-- of a text that fits nothing is left out
pub kept_text : (t : List ℕ) → length t ≤ text_room → t ≡ kept (t ++ [])
kept_text t h = sym (ap kept (append-nil t) ∙ kept_all t h)

-- One byte more.

-- where there is room
pub one_more : (n : ℕ) (xs : List ℕ) (b : ℕ) → n < text_room → n < length xs → take (n + 1) (set xs n b) ≡ kept (take n xs ++ (b ∷ []))
one_more n xs b r h = take_more_set xs n b h ∙ sym (kept_all (take n xs ++ (b ∷ [])) (omega (arith, length_push (take n xs) b, length-take n xs)))

-- and where there is none
pub no_more : (n : ℕ) (xs ys : List ℕ) → n ≡ text_room → n ≤ length xs → take n xs ≡ kept (take n xs ++ ys)
unfolding kept
no_more n xs ys e h =
    sym (ap (λ k. take k (take n xs ++ ys)) (sym e) ∙ (take-append-le n (take n xs) ys (omega (arith, length-take n xs)) ∙ take_all n (take n xs) (omega (arith, length-take n xs))))

-- and some bytes more, as many as there is room for
pub some_more : (n m k : ℕ) (xs ys zs : List ℕ) → n ≤ text_room → n ≤ length xs → m ≡ min (length ys) (text_room - n) → zs ≡ take m ys → take (n + m) (put_mid n k xs zs) ≡ kept (take n xs ++ ys)
unfolding kept
some_more n m k xs ys zs r h e p =
    let l : length (take n xs) ≡ n = simp length-take (omega arith) in
    let z : length zs ≡ m = rw p (simp length-take (omega arith)) in
    let fits : m ≡ min (text_room - n) (length ys) = omega arith in
    let j : length (take n xs) + (text_room - n) ≡ text_room = omega arith in
    take-put_mid n k xs zs (n + m) (omega arith) h
    ∙ (ap (λ l. take n xs ++ l) (p ∙ (ap (λ i. take i ys) fits ∙ take_min (text_room - n) ys))
    ∙ (sym (take-append-add (take n xs) ys (text_room - n)) ∙ ap (λ i. take i (take n xs ++ ys)) j))

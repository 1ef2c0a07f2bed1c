-- The bytes of a table and its items say the same.
use Rattle.std.proofs.Common.{◌≡◌, ℕ, zero, suc, ◌+◌, ◌*◌, ◌/◌, ◌%◌, ◌<◌, ◌≤◌, List, [], ◌∷◌, ◌++◌, length, get_or, take, drop, sym, refl, ap, ◌∙◌, ap₂, append_assoc, add-one, arith, length-append}
use Rattle.std.proofs.lemmas.List.{take_more, take_all, take-append-drop, get_or-drop, get_or_append_left, get_or-append-add, drop-drop, length-drop}
use Rattle.items.specs.Items.{item_of, kind_of, argument_of}
use Rattle.schema.specs.Bytes.{item_count, root_count, kind_at, argument_at, item_at}
use Rattle.schema.specs.Writing.{kinds, arguments, coded}
use Rattle.items.specs.declared.item.Item.{Item}
use Rattle.items.specs.declared.item.Item.TheVariants.{Nothing}
use Rattle.items.proofs.Passing.{Suited, low_byte, high_byte, item_back}

-- the first n items
abbrev pub firsts : List ℕ → ℕ → List Item
firsts b zero = []
firsts b (suc n) = firsts b n ++ (item_at b n ∷ [])

pub length-firsts : (b : List ℕ) (n : ℕ) → length (firsts b n) ≡ n
length-firsts b zero = refl
length-firsts b (suc n) = let h = length-firsts b n in simp length-append (omega arith)

-- item j is written by the kind and the argument that stand there
abbrev pub Says : List ℕ → ℕ → Type 0
Says b j = (kind_of (item_at b j) ≡ kind_at b j) × (argument_of (item_at b j) ≡ argument_at b j)

abbrev pub Bytes : List ℕ → Type 0
Bytes b = (i : ℕ) → get_or b i 0 < 256

kinds-append : (xs ys : List Item) → kinds (xs ++ ys) ≡ kinds xs ++ kinds ys
kinds-append [] ys = refl
kinds-append (x ∷ xs) ys = ap (λ l. kind_of x ∷ l) (kinds-append xs ys)

arguments-append : (xs ys : List Item) → arguments (xs ++ ys) ≡ arguments xs ++ arguments ys
arguments-append [] ys = refl
arguments-append (x ∷ xs) ys = ap (λ l. argument_of x % 256 ∷ (argument_of x / 256 ∷ l)) (arguments-append xs ys)

module _ (b : List ℕ) (n : ℕ) (bytes : Bytes b) (says : (j : ℕ) → j < n → Says b j) (is : item_count b ≡ n) (len : length b ≡ 4 + 3 * n) where
  kinds_firsts : (m : ℕ) → m ≤ n → kinds (firsts b m) ≡ take m (drop 4 b)
  kinds_firsts zero h = refl
  kinds_firsts (suc m) h =
      let l : m < length (drop 4 b) = simp length-drop (omega arith) in
      kinds-append (firsts b m) (item_at b m ∷ [])
      ∙ (ap₂ (λ u v. u ++ (v ∷ [])) (kinds_firsts m (omega arith)) ((says m (omega arith)).0 ∙ sym (get_or-drop 4 b m 0))
      ∙ (sym (take_more (drop 4 b) m 0 l) ∙ ap (λ k. take k (drop 4 b)) (add-one m)))

  arguments_firsts : (m : ℕ) → m ≤ n → arguments (firsts b m) ≡ take (2 * m) (drop (4 + n) b)
  arguments_firsts zero h = refl
  arguments_firsts (suc m) h =
      let ar = drop (4 + n) b in
      let l : length ar ≡ 2 * n = simp length-drop (omega arith) in
      let a : argument_of (item_at b m) ≡ get_or ar (2 * m) 0 + 256 * get_or ar (2 * m + 1) 0 =
      (says m (omega arith)).1
      ∙ (ap (λ k. get_or b (4 + k + 2 * m) 0 + 256 * get_or b (4 + k + 2 * m + 1) 0) is
      ∙ ap₂ (λ u v. u + 256 * v) (sym (get_or-drop (4 + n) b (2 * m) 0)) (ap (λ k. get_or b k 0) {x = 4 + n + 2 * m + 1} {y = 4 + n + (2 * m + 1)} (omega arith) ∙ sym (get_or-drop (4 + n) b (2 * m + 1) 0))) in
      let lt : get_or ar (2 * m) 0 < 256 = rw get_or-drop (bytes (4 + n + 2 * m)) in
      let p : argument_of (item_at b m) % 256 ≡ get_or ar (2 * m) 0 = ap (λ k. k % 256) a ∙ low_byte (get_or ar (2 * m) 0) (get_or ar (2 * m + 1) 0) lt in
      let q : argument_of (item_at b m) / 256 ≡ get_or ar (2 * m + 1) 0 = ap (λ k. k / 256) a ∙ high_byte (get_or ar (2 * m) 0) (get_or ar (2 * m + 1) 0) lt in
      arguments-append (firsts b m) (item_at b m ∷ [])
      ∙ (ap₂ (λ u v. u ++ v) (arguments_firsts m (omega arith)) (ap₂ (λ u v. u ∷ (v ∷ [])) p q)
      ∙ (sym (append_assoc (take (2 * m) ar) (get_or ar (2 * m) 0 ∷ []) (get_or ar (2 * m + 1) 0 ∷ []))
      ∙ (ap (λ l. l ++ (get_or ar (2 * m + 1) 0 ∷ [])) (sym (take_more ar (2 * m) 0 (omega arith)))
      ∙ (sym (take_more ar (2 * m + 1) 0 (omega arith)) ∙ ap (λ k. take k ar) {x = 2 * m + 1 + 1} {y = 2 * suc m} (omega arith)))))

  rest_coded : drop 4 b ≡ kinds (firsts b n) ++ arguments (firsts b n)
  rest_coded =
      sym (take-append-drop n (drop 4 b))
      ∙ ap₂ (λ u v. u ++ v) (sym (kinds_firsts n (omega arith)))
      (drop-drop n 4 b ∙ (sym (take_all (2 * n) (drop (4 + n) b) (simp length-drop (omega arith))) ∙ sym (arguments_firsts n (omega arith))))

head_coded : (b : List ℕ) (n : ℕ) → Bytes b → item_count b ≡ n → 4 ≤ length b → (xs : List ℕ) → drop 4 b ≡ xs
    → b ≡ n % 256 ∷ (n / 256 ∷ (root_count b % 256 ∷ (root_count b / 256 ∷ xs)))
head_coded [] n h e l xs d = absurd (omega arith)
head_coded (p ∷ []) n h e l xs d = absurd (omega arith)
head_coded (p ∷ (q ∷ [])) n h e l xs d = absurd (omega arith)
head_coded (p ∷ (q ∷ (r ∷ []))) n h e l xs d = absurd (omega arith)
head_coded (p ∷ (q ∷ (r ∷ (t ∷ b)))) n h e l xs d =
    let a1 : p ≡ n % 256 = sym (low_byte p q (h 0)) ∙ ap (λ k. k % 256) e in
    let a2 : q ≡ n / 256 = sym (high_byte p q (h 0)) ∙ ap (λ k. k / 256) e in
    ap₂ (λ u v. u ∷ (v ∷ (r ∷ (t ∷ b)))) a1 a2
    ∙ (ap₂ (λ u v. n % 256 ∷ (n / 256 ∷ (u ∷ (v ∷ b)))) (sym (low_byte r t (h 2))) (sym (high_byte r t (h 2)))
    ∙ ap (λ l. n % 256 ∷ (n / 256 ∷ ((r + 256 * t) % 256 ∷ ((r + 256 * t) / 256 ∷ l)))) d)

-- a table is the code of its items
pub is_coded : (b : List ℕ) (n : ℕ) → Bytes b → ((j : ℕ) → j < n → Says b j) → item_count b ≡ n → length b ≡ 4 + 3 * n → b ≡ coded n (root_count b) (firsts b n)
is_coded b n bytes says is len = head_coded b n bytes is (omega arith) _ (rest_coded b n bytes says is len)

-- The other way: the items of a code.

abbrev pub SuitedAll : ℕ → ℕ → List Item → Type 0
SuitedAll s r [] = Unit {0}
SuitedAll s r (x ∷ xs) = Suited s r x × SuitedAll s r xs

suited_at : (s r : ℕ) (xs : List Item) → SuitedAll s r xs → (i : ℕ) → i < length xs → Suited s r (get_or xs i Nothing)
suited_at s r [] h i l = absurd (omega arith)
suited_at s r (x ∷ xs) h zero l = h.0
suited_at s r (x ∷ xs) h (suc i) l = suited_at s r xs h.1 i (omega arith)

length-kinds : (xs : List Item) → length (kinds xs) ≡ length xs
length-kinds [] = refl
length-kinds (x ∷ xs) = ap suc (length-kinds xs)

length-arguments : (xs : List Item) → length (arguments xs) ≡ 2 * length xs
length-arguments [] = refl
length-arguments (x ∷ xs) = let h = length-arguments xs in omega arith

get_or-kinds : (xs : List Item) (i : ℕ) → get_or (kinds xs) i 0 ≡ kind_of (get_or xs i Nothing)
get_or-kinds [] i = refl
get_or-kinds (x ∷ xs) zero = refl
get_or-kinds (x ∷ xs) (suc i) = get_or-kinds xs i

get_or-low : (xs : List Item) (i : ℕ) → get_or (arguments xs) (2 * i) 0 ≡ argument_of (get_or xs i Nothing) % 256
get_or-low [] i = refl
get_or-low (x ∷ xs) zero = refl
get_or-low (x ∷ xs) (suc i) = ap (λ k. get_or (arguments (x ∷ xs)) k 0) {x = 2 * suc i} {y = suc (suc (2 * i))} (omega arith) ∙ get_or-low xs i

get_or-high : (xs : List Item) (i : ℕ) → get_or (arguments xs) (2 * i + 1) 0 ≡ argument_of (get_or xs i Nothing) / 256
get_or-high [] i = refl
get_or-high (x ∷ xs) zero = refl
get_or-high (x ∷ xs) (suc i) = ap (λ k. get_or (arguments (x ∷ xs)) k 0) {x = 2 * suc i + 1} {y = suc (suc (2 * i + 1))} (omega arith) ∙ get_or-high xs i

both_bytes : (n : ℕ) → n % 256 + 256 * (n / 256) ≡ n
both_bytes n = omega arith

pub record Decoded (b : List ℕ) (n r : ℕ) (xs : List Item) : Type 0 where
  pub items : item_count b ≡ n
  pub roots : root_count b ≡ r
  pub bytes : length b ≡ 4 + 3 * n
  pub firsts : firsts b n ≡ xs
  pub says : (j : ℕ) → j < n → Says b j

item_is : (b : List ℕ) (j : ℕ) → item_at b j ≡ item_of (kind_at b j) (argument_at b j)
unfolding item_at
item_is b j = refl

pub decoded : (s r : ℕ) (xs : List Item) → SuitedAll s r xs → (b : List ℕ) → b ≡ coded (length xs) r xs → Decoded b (length xs) r xs
decoded s r xs suited b e = record {
  items = its;
  roots = ap root_count e ∙ both_bytes r;
  bytes = ap length e
      ∙ (ap (λ k. suc (suc (suc (suc k)))) {x = length (kinds xs ++ arguments xs)} {y = length xs + 2 * length xs} (length-append (kinds xs) (arguments xs) ∙ ap₂ (λ u v. u + v) (length-kinds xs) (length-arguments xs)) ∙ omega arith);
  firsts = all (length xs) (omega arith) ∙ take_all (length xs) xs (omega arith);
  says = λ j l. (ap kind_of (item j l) ∙ sym (kind j l), ap argument_of (item j l) ∙ sym (argument j l));
}
  where
    its : item_count b ≡ length xs
    its = ap item_count e ∙ both_bytes (length xs)

    four : drop 4 b ≡ kinds xs ++ arguments xs
    four = ap (drop 4) e

    kind : (j : ℕ) → j < length xs → kind_at b j ≡ kind_of (get_or xs j Nothing)
    kind j l =
        let k : j < length (kinds xs) = rw length-kinds l in
        sym (get_or-drop 4 b j 0) ∙ (ap (λ l. get_or l j 0) four ∙ (get_or_append_left (kinds xs) (arguments xs) 0 j k ∙ get_or-kinds xs j))

    past : (j : ℕ) → get_or b (4 + length xs + j) 0 ≡ get_or (arguments xs) j 0
    past j =
        ap (λ k. get_or b k 0) {x = 4 + length xs + j} {y = 4 + (length xs + j)} (omega arith)
        ∙ (sym (get_or-drop 4 b (length xs + j) 0) ∙ (ap (λ l. get_or l (length xs + j) 0) four
        ∙ (ap (λ k. get_or (kinds xs ++ arguments xs) (k + j) 0) (sym (length-kinds xs)) ∙ get_or-append-add (kinds xs) (arguments xs) j 0)))

    argument : (j : ℕ) → j < length xs → argument_at b j ≡ argument_of (get_or xs j Nothing)
    argument j l =
        ap (λ k. get_or b (4 + k + 2 * j) 0 + 256 * get_or b (4 + k + 2 * j + 1) 0) its
        ∙ (ap₂ (λ u v. u + 256 * v) (past (2 * j) ∙ get_or-low xs j) (ap (λ k. get_or b k 0) {x = 4 + length xs + 2 * j + 1} {y = 4 + length xs + (2 * j + 1)} (omega arith) ∙ (past (2 * j + 1) ∙ get_or-high xs j))
        ∙ both_bytes (argument_of (get_or xs j Nothing)))

    item : (j : ℕ) → j < length xs → item_at b j ≡ get_or xs j Nothing
    item j l = item_is b j ∙ (ap₂ item_of (kind j l) (argument j l) ∙ item_back s r (get_or xs j Nothing) (suited_at s r xs suited j l))

    all : (m : ℕ) → m ≤ length xs → firsts b m ≡ take m xs
    all zero h = refl
    all (suc m) h =
        ap₂ (λ u v. u ++ (v ∷ [])) (all m (omega arith)) (item m (omega arith)) ∙ (sym (take_more xs m Nothing (omega arith)) ∙ ap (λ k. take k xs) (add-one m))

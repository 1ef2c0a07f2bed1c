-- Where the roots of a table end: the entries of its plan name the items that close them.
use Rattle.std.proofs.Common.{◌≡◌, ℕ, zero, suc, ◌+◌, ◌<◌, List, [], ◌∷◌, ◌++◌, length, get_or, take, sym, refl, ap, ◌∙◌, subst, append_assoc, append-nil, add-zero, add-suc, arith, length-append}
use Rattle.std.proofs.lemmas.List.{take_at}
use Rattle.grammar.specs.Pattern.{Pattern, nothing, atom, event, both, either, repeat, size}
use Rattle.grammar.specs.Schema.{Rooted}
use Rattle.schema.specs.Bytes.{item_count, item_at}
use Rattle.schema.specs.Reading.{State, start, state, top}
use Rattle.schema.specs.Plans.{no_root, entries}
use Rattle.schema.specs.Progress.{Sized}
use Rattle.schema.specs.Sound.{Planned, no_rooted}
use Rattle.schema.specs.Writing.{written, roots_written}
use Rattle.items.specs.declared.item.Item.{Item}
use Rattle.items.specs.declared.item.Item.TheVariants.{Root}
use Rattle.schema.proofs.Advance.{advance, after, push, wrote, between}
use Rattle.schema.proofs.Coding.{firsts, length-firsts}
use Rattle.schema.proofs.Tables.{advanced}
use Rattle.schema.proofs.Waiting.{last_ends}

length-written : (p : Pattern) → length (written p) ≡ size p
length-written nothing = refl
length-written (atom t) = refl
length-written (event t p) = let h = length-written p in simp length-append (omega arith)
length-written (both o p q) = let h = length-written p in let k = length-written q in simp length-append (omega arith)
length-written (either p q) = let h = length-written p in let k = length-written q in simp length-append (omega arith)
length-written (repeat o a b p) = let h = length-written p in simp length-append (omega arith)

-- fewer items are the beginning of more
beginning : (b : List ℕ) (m k : ℕ) → (zs : List Item) × (firsts b (m + k) ≡ firsts b m ++ zs)
beginning b m zero = ([], ap (firsts b) (add-zero m) ∙ sym (append-nil (firsts b m)))
beginning b m (suc k) =
    let h = beginning b m k in
    (h.0 ++ (item_at b (m + k) ∷ []), ap (firsts b) (add-suc m k) ∙ (ap (λ l. l ++ (item_at b (m + k) ∷ [])) h.1 ∙ append_assoc (firsts b m) h.0 (item_at b (m + k) ∷ [])))

firsts_left : (b : List ℕ) (n : ℕ) (xs ys : List Item) → firsts b n ≡ xs ++ ys → firsts b (length xs) ≡ xs
firsts_left b n xs ys e =
    let k : n ≡ length xs + length ys = sym (length-firsts b n) ∙ (ap length e ∙ length-append xs ys) in
    let h = beginning b (length xs) (length ys) in
    sym (take_at (firsts b (length xs)) h.0 (length xs) (length-firsts b (length xs)))
    ∙ (ap (take (length xs)) (sym h.1 ∙ (ap (firsts b) (sym k) ∙ e)) ∙ take_at xs ys (length xs) refl)

state_after : (b : List ℕ) (n : ℕ) (xs ys : List Item) → firsts b n ≡ xs ++ ys → state b (length xs) ≡ advance xs start
state_after b n xs ys e = sym (advanced b (length xs)) ∙ ap (λ l. advance l start) (firsts_left b n xs ys e)

-- the roots rs are written after the items pre, which end with a root or are none
pub planned_from : (b : List ℕ) (s n : ℕ) → n ≡ item_count b → Sized b → (rs done : List Rooted) (pre post : List Item) → firsts b n ≡ pre ++ (roots_written rs ++ post) → advance pre start ≡ between done []
    → (k : ℕ) → k < length rs → Planned b s (get_or (entries s (length pre) rs) k no_root) (get_or rs k no_rooted)
planned_from b s n ne z [] done pre post e a k h = absurd (omega arith)
planned_from b s n ne z (r ∷ rs) done pre post e a zero h =
    let p = r.pattern in
    let i = length pre + size p in
    let xs = pre ++ written p in
    let ys = Root r.event ∷ (roots_written rs ++ post) in
    let f : firsts b n ≡ (pre ++ written p) ++ (Root r.event ∷ (roots_written rs ++ post)) = e ∙ (ap (λ l. pre ++ l) (append_assoc (written p) (Root r.event ∷ roots_written rs) post) ∙ sym (append_assoc pre (written p) (Root r.event ∷ (roots_written rs ++ post)))) in
    let l : length (pre ++ written p) ≡ length pre + size p = length-append pre (written p) ∙ ap (λ m. length pre + m) (length-written p) in
    let st : state b (length pre + size p) ≡ push p (between done []) = ap (state b) (sym l) ∙ (state_after b n (pre ++ written p) (Root r.event ∷ (roots_written rs ++ post)) f ∙ (after pre (written p) start (between done []) a ∙ wrote p (between done []))) in
    let lt : length pre + size p < item_count b = omega (arith, length-firsts b n, ap length f, length-append (pre ++ written p) (Root r.event ∷ (roots_written rs ++ post))) in
    let w = last_ends b (length pre + size p) z lt (omega (arith, ap (λ (S : State). length S.patterns) st)) in
    record { entry = refl; follows = w.0; ends = w.1; is = w.2 ∙ ap (λ (S : State). top S.patterns) st }
planned_from b s n ne z (r ∷ rs) done pre post e a (suc k) h =
    let p = r.pattern in
    let more = written p ++ (Root r.event ∷ []) in
    let l : length (pre ++ (written p ++ (Root r.event ∷ []))) ≡ length pre + size p + 1 = simp length-append (omega (arith, length-written p)) in
    subst (λ m. Planned b s (get_or (entries s m rs) k no_root) (get_or rs k no_rooted)) l
    (planned_from b s n ne z rs (done ++ (r ∷ [])) (pre ++ (written p ++ (Root r.event ∷ []))) post
    (e ∙ simp append_assoc)
    (after pre (written p ++ (Root r.event ∷ [])) start (between done []) a ∙ after (written p) (Root r.event ∷ []) (between done []) (push p (between done [])) (wrote p (between done [])))
    k (omega arith))

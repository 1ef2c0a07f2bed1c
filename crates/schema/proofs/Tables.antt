-- A table is accepted exactly when it is the writing of a schema within the limits.
use Rattle.std.proofs.Common.{◌≡◌, ℕ, zero, suc, ◌+◌, ◌-◌, ◌*◌, ◌<◌, ◌≤◌, Bool, true, false, cond, not, ◌&&◌, eqb, leb, ◌⊎◌, List, [], ◌∷◌, ◌++◌, length, Some, None, Ok, Err, Result, sym, refl, ap, ◌∙◌, subst, inl, inr, arith, length-append}
use Rattle.std.proofs.lemmas.Bool.{and_parts, and_from, not-true, not_from_false, le-leb, eq-eqb, ne_eqb, eqb-true, eqb-false, cases_lt}
use Rattle.questions.specs.Limits.{most_items, most_roots, most_scope, most_candidates, most_events}
use Rattle.questions.specs.declared.question.Question.{Question}
use Rattle.questions.specs.declared.question.Question.TheVariants.{Sharing}
use Rattle.questions.specs.declared.refusal.Refusal.{Refusal}
use Rattle.grammar.specs.Pattern.{count, len}
use Rattle.grammar.specs.Schema.{Rooted, Schema, candidates, events}
use Rattle.grammar.specs.declared.part.Relation.TheVariants.{Share, Coordinate, AsMany, NoMore, FewerBefore}
use Rattle.grammar.specs.declared.part.Selection.{Selection}
use Rattle.items.specs.Asked.{Answer, passes, asked, sized, closing}
use Rattle.items.specs.declared.ask.Tally.{Tally}
use Rattle.schema.specs.Bytes.{item_count, root_count, kind_at, argument_at, item_at}
use Rattle.schema.specs.Reading.{State, start, step, state, tally_at, made, earlier, later, schema_of}
use Rattle.schema.specs.Questions.{asked_at, encloses, enclosed, shares, shared, shared_at, sized_at, made_at, asks, first_no, opening, closing_at, answered, from, verdict, planned}
use Rattle.schema.specs.Writing.{items_of, roots_written, coded, writing}
use Rattle.schema.specs.Promises.{Writes, TablesAreSchemas}
use Rattle.items.specs.declared.item.Item.{Item}
use Rattle.items.specs.declared.item.Item.TheVariants.{Nothing, Atom, Event, Both, Either, Repeat, Root, Pick, Relate, AtMost, Unknown}
use Rattle.schema.specs.declared.plan.Plan.{Plan}
use Rattle.items.proofs.Passing.{passed_asked, asked_says}
use Rattle.schema.proofs.Steps.{suited_at, found_at}
use Rattle.schema.proofs.Verdicts.{sized_none, asks_sized, opened, Opened, verdict_from, ended, planned_yes}
use Rattle.schema.proofs.Advance.{advance, advance-append, Unenclosed, unenclosed-append, Related, Shared, Good, Passing, join, split, between, passes_schema, leaves_schema}
use Rattle.schema.proofs.Through.{unenclosed_parts, held, reads}
use Rattle.schema.proofs.Coding.{firsts, length-firsts, Says, Bytes, is_coded, SuitedAll, Decoded, decoded}

-- what the first items read to is what they advance to
pub advanced : (b : List ℕ) (n : ℕ) → advance (firsts b n) start ≡ state b n
advanced b zero = refl
advanced b (suc n) = advance-append (firsts b n) (item_at b n ∷ []) start ∙ ap (step (item_at b n)) (advanced b n)

-- Types that no item encloses.

none_enclosed : (b : List ℕ) (t n : ℕ) → enclosed b t n ≡ false → Unenclosed t (firsts b n)
none_enclosed b t zero e = tt
none_enclosed b t (suc n) e = go (none_enclosed b t n) (encloses (item_at b n) t) refl e
  where
    go : (enclosed b t n ≡ false → Unenclosed t (firsts b n)) → (x : Bool) → encloses (item_at b n) t ≡ x → cond x true (enclosed b t n) ≡ false → Unenclosed t (firsts b n ++ (item_at b n ∷ []))
    go f true ex h = let z : ◌≡◌ {A = ℕ} 0 1 = cc in absurd (omega arith)
    go f false ex h = unenclosed-append t (firsts b n) (item_at b n ∷ []) (f h) (ex, tt)

enclosed_none : (b : List ℕ) (t n : ℕ) → Unenclosed t (firsts b n) → enclosed b t n ≡ false
enclosed_none b t zero u = refl
enclosed_none b t (suc n) u =
    let a = unenclosed_parts t (firsts b n) (item_at b n ∷ []) u in
    ap (λ o. cond o true (enclosed b t n)) a.1.0 ∙ enclosed_none b t n a.0

-- An item with no "no" is good.

asks_parts : (b : List ℕ) (s i : ℕ) → asks b s i ≡ passes → (asked_at b s i ≡ passes) × (shared_at b i ≡ passes) × (sized_at b s i ≡ passes)
unfolding asks
asks_parts b s i e = go (asked_at b s i) refl (shared_at b i) refl e
  where
    go : (x : Answer) → asked_at b s i ≡ x → (y : Answer) → shared_at b i ≡ y → first_no x (first_no y (sized_at b s i)) ≡ passes → (asked_at b s i ≡ passes) × (shared_at b i ≡ passes) × (sized_at b s i ≡ passes)
    go (Err q) ex y ey h = let z : ◌≡◌ {A = ℕ} 0 1 = cc in absurd (omega arith)
    go (Ok u) ex (Err q) ey h = let z : ◌≡◌ {A = ℕ} 0 1 = cc in absurd (omega arith)
    go (Ok u) ex (Ok v) ey h = (ex, ey, h)

cond_none : (o : Bool) (q : Question) → ◌≡◌ {A = Answer} (cond o passes (Err q)) passes → o ≡ true
cond_none true q e = refl
cond_none false q e = let z : ◌≡◌ {A = ℕ} 0 1 = cc in absurd (omega arith)

shares_related : (b : List ℕ) (all : List Item) (x y : Selection) → ((t : ℕ) → enclosed b t (item_count b) ≡ false → Unenclosed t all) → shares b x y ≡ true → Related all Share x y
shares_related b all x y u e =
    let held = enclosed b x.event (item_count b) in
    let h = and_parts (eqb x.event y.event) (not (eqb x.root y.root) && not held) e in
    let g = and_parts (not (eqb x.root y.root)) (not held) h.1 in
    (eqb-true x.event y.event h.0, eqb-false x.root y.root (not-true (eqb x.root y.root) g.0), u x.event (not-true held g.1))

shared_good : (b : List ℕ) (all : List Item) (it : Item) (xs : List Selection) → ((t : ℕ) → enclosed b t (item_count b) ≡ false → Unenclosed t all) → shared b it (earlier xs) (later xs) ≡ passes → Shared all it xs
shared_good b all Nothing xs u h = tt
shared_good b all (Atom t) xs u h = tt
shared_good b all (Event t) xs u h = tt
shared_good b all (Both o) xs u h = tt
shared_good b all Either xs u h = tt
shared_good b all (Repeat o x y) xs u h = tt
shared_good b all (Root t) xs u h = tt
shared_good b all (Pick x) xs u h = tt
shared_good b all (Relate Share) xs u h = shares_related b all (earlier xs) (later xs) u (cond_none (shares b (earlier xs) (later xs)) Sharing h)
shared_good b all (Relate Coordinate) xs u h = tt
shared_good b all (Relate AsMany) xs u h = tt
shared_good b all (Relate NoMore) xs u h = tt
shared_good b all (Relate FewerBefore) xs u h = tt
shared_good b all (AtMost n) xs u h = tt
shared_good b all Unknown xs u h = tt

says_at : (b : List ℕ) (s i : ℕ) → asks b s i ≡ passes → Says b i
unfolding asked_at item_at
says_at b s i e = asked_says s (tally_at b i) (kind_at b i) (argument_at b i) (asks_parts b s i e).0

good_from : (b : List ℕ) (s i : ℕ) (all : List Item) → ((t : ℕ) → enclosed b t (item_count b) ≡ false → Unenclosed t all) → asks b s i ≡ passes → Good s (root_count b) all (item_at b i) (state b i)
unfolding shared_at sized_at made_at
good_from b s i all u e =
    let h = asks_parts b s i e in
    let it = item_at b i in
    record {
      suited = suited_at b s i it h.0 refl;
      found = found_at b s i it h.0 refl;
      shared = shared_good b all it (state b i).picks u h.1;
      small = sized_none (count s (made it (state b i).patterns)) (len s (made it (state b i).patterns)) h.2;
    }

passing_from : (b : List ℕ) (s : ℕ) (all : List Item) → ((t : ℕ) → enclosed b t (item_count b) ≡ false → Unenclosed t all) → (n : ℕ) → ((j : ℕ) → j < n → asks b s j ≡ passes) → Passing s (root_count b) all (firsts b n) start
passing_from b s all u zero h = tt
passing_from b s all u (suc n) h =
    join s (root_count b) all (firsts b n) (item_at b n ∷ []) start (passing_from b s all u n (λ j l. h j (omega arith)))
    (subst (Good s (root_count b) all (item_at b n)) (sym (advanced b n)) (good_from b s n all u (h n (omega arith))), tt)

-- A good item has no "no".

related_shares : (b : List ℕ) (all : List Item) (x y : Selection) → ((t : ℕ) → Unenclosed t all → enclosed b t (item_count b) ≡ false) → Related all Share x y → shares b x y ≡ true
related_shares b all x y u h =
    let held = enclosed b x.event (item_count b) in
    and_from (eqb x.event y.event) (not (eqb x.root y.root) && not held) (eq-eqb x.event y.event h.0)
    (and_from (not (eqb x.root y.root)) (not held) (not_from_false (eqb x.root y.root) (ne_eqb x.root y.root h.1)) (not_from_false held (u x.event h.2)))

good_shared : (b : List ℕ) (all : List Item) (it : Item) (xs : List Selection) → ((t : ℕ) → Unenclosed t all → enclosed b t (item_count b) ≡ false) → Shared all it xs → shared b it (earlier xs) (later xs) ≡ passes
good_shared b all Nothing xs u h = refl
good_shared b all (Atom t) xs u h = refl
good_shared b all (Event t) xs u h = refl
good_shared b all (Both o) xs u h = refl
good_shared b all Either xs u h = refl
good_shared b all (Repeat o x y) xs u h = refl
good_shared b all (Root t) xs u h = refl
good_shared b all (Pick x) xs u h = refl
good_shared b all (Relate Share) xs u h = ap (λ o. cond {A = Answer} o passes (Err Sharing)) (related_shares b all (earlier xs) (later xs) u h)
good_shared b all (Relate Coordinate) xs u h = refl
good_shared b all (Relate AsMany) xs u h = refl
good_shared b all (Relate NoMore) xs u h = refl
good_shared b all (Relate FewerBefore) xs u h = refl
good_shared b all (AtMost n) xs u h = refl
good_shared b all Unknown xs u h = refl

asks_back : (b : List ℕ) (s i : ℕ) (all : List Item) → ((t : ℕ) → Unenclosed t all → enclosed b t (item_count b) ≡ false) → Says b i → Good s (root_count b) all (item_at b i) (state b i) → asks b s i ≡ passes
unfolding asked_at shared_at sized_at made_at
asks_back b s i all u says g =
    let it = item_at b i in
    let S = state b i in
    let a : asked_at b s i ≡ passes = ap (λ a. asked s (tally_at b i) (item_at b i) a) (sym says.1) ∙ passed_asked s (tally_at b i) it g.suited g.found in
    let h : shared_at b i ≡ passes = good_shared b all it S.picks u g.shared in
    asks_sized b s i a h ∙ fits (count s (made it S.patterns)) (len s (made it S.patterns)) g.small
  where
    fits : (n l : ℕ) → (n ≤ most_candidates) × (l ≤ most_events) → sized n l ≡ passes
    fits n l h = rw (le-leb n most_candidates h.0, le-leb l most_events h.1) refl

good_at : (b : List ℕ) (s r : ℕ) (all : List Item) (n : ℕ) → Passing s r all (firsts b n) start → (j : ℕ) → j < n → Good s r all (item_at b j) (state b j)
good_at b s r all zero a j l = absurd (omega arith)
good_at b s r all (suc n) a j l = go (good_at b s r all n (split s r all (firsts b n) (item_at b n ∷ []) start a).0 j) (cases_lt j n)
  where
    go : (j < n → Good s r all (item_at b j) (state b j)) → (j < n) ⊎ (n ≤ j) → Good s r all (item_at b j) (state b j)
    go f (inl h) = f h
    go f (inr h) =
        let e : n ≡ j = omega arith in
        subst (λ k. Good s r all (item_at b k) (state b k)) e (subst (Good s r all (item_at b n)) (advanced b n) (split s r all (firsts b n) (item_at b n ∷ []) start a).1.0)

suited_from : (s r : ℕ) (all xs : List Item) (S : State) → Passing s r all xs S → SuitedAll s r xs
suited_from s r all [] S a = tt
suited_from s r all (x ∷ xs) S a = (a.0.suited, suited_from s r all xs (step x S) a.1)

-- The verdict.

from_ok : (b : List ℕ) (s i k t : ℕ) → from b s i k ≡ Ok t → ((j : ℕ) → j < k → asks b s (i + j) ≡ passes) × (closing_at b s ≡ passes)
unfolding from
from_ok b s i zero t e = (λ j l. absurd (omega arith), go (closing_at b s) refl e)
  where
    go : (o : Answer) → closing_at b s ≡ o → answered o None (Ok (candidates s (schema_of b).roots)) ≡ Ok t → closing_at b s ≡ passes
    go (Err q) eo h = let z : ◌≡◌ {A = ℕ} 0 1 = cc in absurd (omega arith)
    go (Ok u) eo h = eo
from_ok b s i (suc k) t e = go (from_ok b s (suc i) k t) (asks b s i) refl e
  where
    at : asks b s i ≡ passes → (j : ℕ) → (j < 1) ⊎ (1 ≤ j) → j < suc k → ((j : ℕ) → j < k → asks b s (suc i + j) ≡ passes) → asks b s (i + j) ≡ passes
    at eo j (inl m) l f = ap (asks b s) {x = i + j} {y = i} (omega arith) ∙ eo
    at eo j (inr m) l f = ap (asks b s) {x = i + j} {y = suc i + (j - 1)} (omega arith) ∙ f (j - 1) (omega arith)

    go : (from b s (suc i) k ≡ Ok t → ((j : ℕ) → j < k → asks b s (suc i + j) ≡ passes) × (closing_at b s ≡ passes)) → (o : Answer) → asks b s i ≡ o → answered o (Some i) (from b s (suc i) k) ≡ Ok t
        → ((j : ℕ) → j < suc k → asks b s (i + j) ≡ passes) × (closing_at b s ≡ passes)
    go f (Err q) eo h = let z : ◌≡◌ {A = ℕ} 0 1 = cc in absurd (omega arith)
    go f (Ok w) eo h = let u = f h in (λ j l. at eo j (cases_lt j 1) l u.0, u.1)

ok_from : (b : List ℕ) (s i k : ℕ) → ((j : ℕ) → j < k → asks b s (i + j) ≡ passes) → closing_at b s ≡ passes → from b s i k ≡ Ok (candidates s (schema_of b).roots)
unfolding from
ok_from b s i zero h e = ap (λ o. answered o None (Ok (candidates s (schema_of b).roots))) e
ok_from b s i (suc k) h e =
    let a : asks b s i ≡ passes = ap (asks b s) {x = i} {y = i + 0} (omega arith) ∙ h 0 (omega arith) in
    ap (λ o. answered o (Some i) (from b s (suc i) k)) a ∙ ok_from b s (suc i) k (λ j l. ap (asks b s) {x = suc i + j} {y = i + suc j} (omega arith) ∙ h (suc j) (omega arith)) e

verdict_open : (b : List ℕ) (s t : ℕ) → verdict b s ≡ Ok t → opening b s ≡ passes
unfolding verdict
verdict_open b s t e = go (opening b s) refl e
  where
    go : (o : Answer) → opening b s ≡ o → answered o None (from b s 0 (item_count b)) ≡ Ok t → opening b s ≡ passes
    go (Err q) eo h = let z : ◌≡◌ {A = ℕ} 0 1 = cc in absurd (omega arith)
    go (Ok u) eo h = eo

open_back : (b : List ℕ) (s : ℕ) → Opened b s → opening b s ≡ passes
open_back b s o =
    rw (
      and_from (leb 4 (length b)) (eqb (length b) (4 + 3 * item_count b)) (le-leb 4 (length b) o.four) (eq-eqb (length b) (4 + 3 * item_count b) o.bytes),
      and_from (leb 1 (item_count b) && leb (item_count b) most_items) (leb 1 (root_count b) && leb (root_count b) most_roots)
          (and_from (leb 1 (item_count b)) (leb (item_count b) most_items) (le-leb 1 (item_count b) o.items_from) (le-leb (item_count b) most_items o.items_to))
          (and_from (leb 1 (root_count b)) (leb (root_count b) most_roots) (le-leb 1 (root_count b) o.roots_from) (le-leb (root_count b) most_roots o.roots_to)),
      and_from (leb 1 s) (leb s most_scope) (le-leb 1 s o.scope_from) (le-leb s most_scope o.scope_to),
    ) refl

closing_back : (t : Tally) (n l : ℕ) → t.closed ≡ t.roots → t.patterns ≡ 0 → t.picks ≡ 0 → n ≤ most_candidates → l ≤ most_events → closing t n l ≡ passes
closing_back t n l a b d e f =
    rw (
      and_from (eqb t.closed t.roots) (eqb t.patterns 0 && eqb t.picks 0) (eq-eqb t.closed t.roots a) (and_from (eqb t.patterns 0) (eqb t.picks 0) (eq-eqb t.patterns 0 b) (eq-eqb t.picks 0 d)),
      le-leb n most_candidates e,
      le-leb l most_events f,
    ) refl

no_length : {A : Type 0} (l : List A) → length l ≡ 0 → l ≡ []
no_length [] e = refl
no_length (x ∷ l) e = absurd (omega arith)

-- no question has a "no"
pub record Passes (b : List ℕ) (s : ℕ) : Type 0 where
  pub sizes : Opened b s
  pub items : (j : ℕ) → j < item_count b → asks b s j ≡ passes
  pub end : closing_at b s ≡ passes

-- From the verdict to the schema.

pub accepted_passes : (b : List ℕ) (s t : ℕ) → verdict b s ≡ Ok t → Passes b s
accepted_passes b s t e =
    let o = verdict_open b s t e in
    let h = from_ok b s 0 (item_count b) t (sym (verdict_from b s o) ∙ e) in
    record { sizes = opened b s o; items = λ j l. ap (asks b s) {x = j} {y = 0 + j} (omega arith) ∙ h.0 j l; end = h.1 }

pub passes_writes : (b : List ℕ) (s : ℕ) → Bytes b → Passes b s → Writes s (schema_of b) b
unfolding closing_at writing
passes_writes b s bytes h =
    let n = item_count b in
    let r = root_count b in
    let S = state b n in
    let all = firsts b n in
    let says : (j : ℕ) → j < n → Says b j = λ j l. says_at b s j (h.items j l) in
    let pa = passing_from b s all (λ t f. none_enclosed b t n f) n h.items in
    let d = ended (tally_at b n) (candidates s S.roots) (events s S.roots) h.end in
    let rd = reads s r all h.sizes.roots_from pa S (advanced b n) d.roots (no_length S.patterns d.patterns) (no_length S.picks d.picks) in
    let x = schema_of b in
    let ln : length (items_of x) ≡ n = ap length (sym rd.items) ∙ length-firsts b n in (
      record {
        scope_from = h.sizes.scope_from;
        scope_to = h.sizes.scope_to;
        items = omega (arith, ln, h.sizes.items_to);
        roots_from = omega (arith, d.roots, h.sizes.roots_from);
        roots_to = omega (arith, d.roots, h.sizes.roots_to);
        roots = rd.roots;
        operations = rd.operations;
        candidates = d.total;
        events = d.sum;
      },
      is_coded b n bytes says refl h.sizes.bytes
          ∙ (ap (λ k. coded k r all) (sym ln) ∙ (ap (λ k. coded (length (items_of x)) k all) (sym d.roots) ∙ ap (λ l. coded (length (items_of x)) (length x.roots) l) rd.items)),
    )

-- From the schema to the verdict.

decoding : (b : List ℕ) (s : ℕ) (x : Schema) → Writes s x b → Decoded b (length (items_of x)) (length x.roots) (items_of x)
unfolding writing
decoding b s x w =
    decoded s (length x.roots) (items_of x) (suited_from s (length x.roots) (items_of x) (items_of x) start (passes_schema s x w.0.roots w.0.operations)) b w.1

pub all_items : (b : List ℕ) (s : ℕ) (x : Schema) → Writes s x b → firsts b (item_count b) ≡ items_of x
all_items b s x w = let d = decoding b s x w in ap (firsts b) d.items ∙ d.firsts

last_state : (b : List ℕ) (s : ℕ) (x : Schema) → Writes s x b → state b (item_count b) ≡ between x.roots x.operations
last_state b s x w = sym (advanced b (item_count b)) ∙ (ap (λ l. advance l start) (all_items b s x w) ∙ leaves_schema x)

-- the schema that a table is the writing of is the one that it reads to
only_schema : (b : List ℕ) (s : ℕ) (x : Schema) → Writes s x b → x ≡ schema_of b
only_schema b s x w = sym (ap held (last_state b s x w))

roots_some : (rs : List Rooted) → 1 ≤ length rs → 1 ≤ length (roots_written rs)
roots_some [] h = absurd (omega arith)
roots_some (x ∷ rs) h = simp length-append (omega arith)

writes_passes : (b : List ℕ) (s : ℕ) (x : Schema) → Writes s x b → Passes b s
unfolding closing_at
writes_passes b s x w =
    let n = item_count b in
    let d = decoding b s x w in
    let says : (j : ℕ) → j < n → Says b j = λ j l. d.says j (omega (arith, d.items)) in
    let pa : Passing s (root_count b) (firsts b n) (firsts b n) start =
    subst (λ k. Passing s k (firsts b n) (firsts b n) start) (sym d.roots)
    (subst (λ l. Passing s (length x.roots) l l start) (sym (all_items b s x w)) (passes_schema s x w.0.roots w.0.operations)) in
    let la = last_state b s x w in
    let ro : (state b n).roots ≡ x.roots = ap (λ (S : State). S.roots) la in
    let so : 1 ≤ length (items_of x) = simp length-append (omega (arith, roots_some x.roots w.0.roots_from)) in
    record {
      sizes = record {
        four = omega (arith, d.bytes);
        bytes = omega (arith, d.bytes, d.items);
        items_from = omega (arith, d.items, so);
        items_to = omega (arith, d.items, w.0.items);
        roots_from = omega (arith, d.roots, w.0.roots_from);
        roots_to = omega (arith, d.roots, w.0.roots_to);
        scope_from = w.0.scope_from;
        scope_to = w.0.scope_to;
      };
      items = λ j l. asks_back b s j (firsts b n) (λ t u. enclosed_none b t n u) (says j l) (good_at b s (root_count b) (firsts b n) n pa j l);
      end = closing_back (tally_at b n) (candidates s (state b n).roots) (events s (state b n).roots)
          (ap length ro ∙ sym d.roots) (ap (λ (S : State). length S.patterns) la) (ap (λ (S : State). length S.picks) la)
          (omega (arith, ap (candidates s) ro, w.0.candidates)) (omega (arith, ap (events s) ro, w.0.events));
    }

pub passes_accepted : (b : List ℕ) (s : ℕ) → Passes b s → verdict b s ≡ Ok (candidates s (schema_of b).roots)
passes_accepted b s h = verdict_from b s (open_back b s h.sizes) ∙ ok_from b s 0 (item_count b) (λ j l. ap (asks b s) {x = 0 + j} {y = j} (omega arith) ∙ h.items j l) h.end

-- The theorem.

pub tables_are_schemas : (b : List ℕ) (s : ℕ) → Bytes b → (r : Result ℕ Refusal) → r ≡ verdict b s → (old new : Plan) → new ≡ planned b s old → TablesAreSchemas b s r new
tables_are_schemas b s bytes (Ok t) e old new p =
    let h = accepted_passes b s t (sym e) in
    record {
      schema = schema_of b;
      writes = passes_writes b s bytes h;
      total = let a = e ∙ passes_accepted b s h in cc;
      plan = p ∙ planned_yes b s t old (sym e);
      only = λ y w. only_schema b s y w;
    }
tables_are_schemas b s bytes (Err f) e old new p = λ x w. let a = e ∙ passes_accepted b s (writes_passes b s x w) in let z : ◌≡◌ {A = ℕ} 0 1 = cc in omega arith

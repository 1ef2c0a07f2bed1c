-- How the verdict goes on from item to item, and what its questions tell where they have no "no".
use Rattle.std.proofs.Common.{◌≡◌, ℕ, suc, ◌+◌, ◌-◌, ◌*◌, ◌<◌, ◌≤◌, min, Bool, true, false, cond, ◌&&◌, eqb, leb, ◌⊎◌, List, [], ◌∷◌, ◌++◌, length, get_or, None, Some, Ok, Err, sym, refl, ap, ◌∙◌, subst, ap₂, inl, inr, arith, length-append}
use Rattle.std.proofs.lemmas.Bool.{and_parts, leb-true, eqb-true, lt-leb, cases_lt}
use Rattle.std.proofs.lemmas.List.{get_or_append_left}
use Rattle.std.proofs.Math.Seq.{get_or-append_seam}
use Rattle.arrayvec.specs.ArrayVec.{ArrayVec, array_vec_len}
use Rattle.questions.specs.Limits.{most_items, most_roots, most_scope, most_candidates, most_events}
use Rattle.questions.specs.declared.question.Question.{Question}
use Rattle.questions.specs.declared.question.Question.TheVariants.{Bytes, Sizes, Scope, Count, Length, Whole, Total, Events}
use Rattle.questions.specs.declared.refusal.Refusal.{Refusal}
use Rattle.grammar.specs.Pattern.{count, len}
use Rattle.grammar.specs.Schema.{candidates, events}
use Rattle.grammar.specs.Measures.{measure_of}
use Rattle.grammar.specs.declared.measure.Measure.{Measure}
use Rattle.items.specs.Asked.{Answer, passes, asked, sized, closing}
use Rattle.items.specs.declared.ask.Tally.{Tally}
use Rattle.items.specs.declared.item.Item.{Item}
use Rattle.schema.specs.Bytes.{item_count, root_count, argument_at, item_at}
use Rattle.schema.specs.Reading.{state, tally_at, pattern_at, schema_of}
use Rattle.schema.specs.Plans.{plan_of}
use Rattle.schema.specs.Questions.{asked_at, shared, shared_at, sized_at, made_at, asks, first_no, bytes_fit, sizes_fit, opening, closing_at, answered, from, verdict, replaced, planned}
use Rattle.schema.specs.Progress.{Sized, Ends, Knows, KnowsMade, no_measure, Counted}
use Rattle.schema.specs.declared.plan.Plan.{Plan}
use Rattle.schema.specs.declared.progress.Progress.{Progress}
use Rattle.schema.proofs.Waiting.{made_ends}

-- What the check knows is what the questions are asked of.

pub asked_is : (b : List ℕ) (i : ℕ) (g : Progress) → Counted b i g → (it : Item) (a : ℕ) → it ≡ item_at b i → a ≡ argument_at b i → asked g.scope g.tally it a ≡ asked_at b g.scope i
unfolding asked_at
asked_is b i g c it a e f =
    ap (λ t. asked g.scope t it a) c.tally ∙ ap₂ (λ x y. asked g.scope (tally_at b i) x y) e f

pub shared_is : (b : List ℕ) (i : ℕ) (g : Progress) → Counted b i g → (it : Item) → it ≡ item_at b i → shared b it g.earlier g.later ≡ shared_at b i
unfolding shared_at
shared_is b i g c it e = ap (λ x. shared b x g.earlier g.later) e ∙ ap₂ (λ x y. shared b (item_at b i) x y) c.earlier c.later

-- a capped number is within the limit as the true one is
cap_leb : (m x : ℕ) → leb (min x (suc m)) m ≡ leb x m
cap_leb m x = go (cases_lt x (suc m))
  where
    go : (x < suc m) ⊎ (suc m ≤ x) → leb (min x (suc m)) m ≡ leb x m
    go (inl h) = ap (λ z. leb z m) {x = min x (suc m)} {y = x} (omega arith)
    go (inr h) = lt-leb (min x (suc m)) m (omega arith) ∙ sym (lt-leb x m (omega arith))

pub sized_is : (b : List ℕ) (s i : ℕ) (m : Measure) → m ≡ measure_of s (made_at b i) → sized m.count m.length ≡ sized_at b s i
unfolding sized_at
sized_is b s i m e =
    ap (λ (x : Measure). sized x.count x.length) e
    ∙ ap₂ (λ (x y : Bool). cond {A = Answer} x (cond y passes (Err Length)) (Err Count)) (cap_leb most_candidates (count s (made_at b i))) (cap_leb most_events (len s (made_at b i)))

pub sized_none : (n l : ℕ) → sized n l ≡ passes → (n ≤ most_candidates) × (l ≤ most_events)
sized_none n l e = go (leb n most_candidates) refl (leb l most_events) refl e
  where
    go : (x : Bool) → leb n most_candidates ≡ x → (y : Bool) → leb l most_events ≡ y → ◌≡◌ {A = Answer} (cond x (cond y passes (Err Length)) (Err Count)) passes → (n ≤ most_candidates) × (l ≤ most_events)
    go true ex true ey h = (leb-true n most_candidates ex, leb-true l most_events ey)
    go true ex false ey h = let z : ◌≡◌ {A = ℕ} 0 1 = cc in absurd (omega arith)
    go false ex y ey h = let z : ◌≡◌ {A = ℕ} 0 1 = cc in absurd (omega arith)

-- The first of questions 4 to 9 with a "no".

pub asks_asked : (b : List ℕ) (s i : ℕ) (q : Question) → asked_at b s i ≡ Err q → asks b s i ≡ Err q
unfolding asks
asks_asked b s i q e = ap (λ o. first_no o (first_no (shared_at b i) (sized_at b s i))) e

pub asks_shared : (b : List ℕ) (s i : ℕ) (q : Question) → asked_at b s i ≡ passes → shared_at b i ≡ Err q → asks b s i ≡ Err q
unfolding asks
asks_shared b s i q e f = ap₂ (λ o u. first_no o (first_no u (sized_at b s i))) e f

pub asks_sized : (b : List ℕ) (s i : ℕ) → asked_at b s i ≡ passes → shared_at b i ≡ passes → asks b s i ≡ sized_at b s i
unfolding asks
asks_sized b s i e f = ap₂ (λ o u. first_no o (first_no u (sized_at b s i))) e f

-- one more measure: what the first ones say of each place with Q, one more says too
one_more_says : (f : ℕ → Measure) (Q : ℕ → Type 0) (ms : List Measure) (m : Measure) → (Q (length ms) → m ≡ f (length ms))
    → ((j : ℕ) → j < length ms → Q j → get_or ms j no_measure ≡ f j) → (j : ℕ) → j < length ms + 1 → Q j → get_or (ms ++ m ∷ []) j no_measure ≡ f j
one_more_says f Q ms m last firsts j h q = go (cases_lt j (length ms))
  where
    go : (j < length ms) ⊎ (length ms ≤ j) → get_or (ms ++ m ∷ []) j no_measure ≡ f j
    go (inl lt) = get_or_append_left ms (m ∷ []) no_measure j lt ∙ firsts j lt q
    go (inr le) =
        let e : j ≡ length ms = omega arith in
        ap (λ x. get_or (ms ++ m ∷ []) x no_measure) e ∙ (get_or-append_seam ms m [] no_measure ∙ (last (subst Q e q) ∙ ap f (sym e)))

module _ (b : List ℕ) (s i : ℕ) (k l : ArrayVec Measure) (m : Measure) (at : array_vec_len k ≡ i) (lt : i < most_items) (is : m ≡ measure_of s (made_at b i)) (more : l.items ≡ k.items ++ m ∷ []) where
  one_longer : array_vec_len l ≡ array_vec_len k + 1
  one_longer = ap length more ∙ length-append k.items (m ∷ [])

  -- one more measure is known
  pub known-push : Knows b s k → Knows b s l
  known-push kn =
      let last = λ (en : Ends b (array_vec_len k)). is ∙ ap (measure_of s) (ap (made_at b) (sym at) ∙ made_ends b (array_vec_len k) en) in
      record {
        few = omega (arith, one_longer);
        right = λ j h en. rw more (one_more_says (λ x. measure_of s (pattern_at b x)) (Ends b) k.items m last kn.right j (omega (arith, one_longer)) en);
      }

  -- and of what each item makes
  pub made-push : KnowsMade b s k → KnowsMade b s l
  made-push kn =
      let last = λ (u : Unit {0}). is ∙ ap (λ x. measure_of s (made_at b x)) (sym at) in
      let firsts = λ (j : ℕ) (h : j < array_vec_len k) (u : Unit {0}). kn.right j h in
      record { few = omega (arith, one_longer); right = λ j h. rw more (one_more_says (λ x. measure_of s (made_at b x)) (λ _. Unit {0}) k.items m last firsts j (omega (arith, one_longer)) tt) }

-- Questions 1 to 3.

pub record Opened (b : List ℕ) (s : ℕ) : Type 0 where
  pub four : 4 ≤ length b
  pub bytes : length b ≡ 4 + 3 * item_count b
  pub items_from : 1 ≤ item_count b
  pub items_to : item_count b ≤ most_items
  pub roots_from : 1 ≤ root_count b
  pub roots_to : root_count b ≤ most_roots
  pub scope_from : 1 ≤ s
  pub scope_to : s ≤ most_scope

pub opened : (b : List ℕ) (s : ℕ) → opening b s ≡ passes → Opened b s
opened b s e = go (bytes_fit b) refl (sizes_fit b) refl (leb 1 s && leb s most_scope) refl e
  where
    go : (x : Bool) → bytes_fit b ≡ x → (y : Bool) → sizes_fit b ≡ y → (z : Bool) → (leb 1 s && leb s most_scope) ≡ z
        → ◌≡◌ {A = Answer} (cond x (cond y (cond z passes (Err Scope)) (Err Sizes)) (Err Bytes)) passes → Opened b s
    go true ex true ey true ez h =
        let u = and_parts (leb 4 (length b)) (eqb (length b) (4 + 3 * item_count b)) ex in
        let v = and_parts (leb 1 (item_count b) && leb (item_count b) most_items) (leb 1 (root_count b) && leb (root_count b) most_roots) ey in
        let n = and_parts (leb 1 (item_count b)) (leb (item_count b) most_items) v.0 in
        let r = and_parts (leb 1 (root_count b)) (leb (root_count b) most_roots) v.1 in
        let w = and_parts (leb 1 s) (leb s most_scope) ez in
        record {
          four = leb-true 4 (length b) u.0;
          bytes = eqb-true (length b) (4 + 3 * item_count b) u.1;
          items_from = leb-true 1 (item_count b) n.0;
          items_to = leb-true (item_count b) most_items n.1;
          roots_from = leb-true 1 (root_count b) r.0;
          roots_to = leb-true (root_count b) most_roots r.1;
          scope_from = leb-true 1 s w.0;
          scope_to = leb-true s most_scope w.1;
        }
    go true ex true ey false ez h = let z : ◌≡◌ {A = ℕ} 0 1 = cc in absurd (omega arith)
    go true ex false ey w ez h = let z : ◌≡◌ {A = ℕ} 0 1 = cc in absurd (omega arith)
    go false ex y ey w ez h = let z : ◌≡◌ {A = ℕ} 0 1 = cc in absurd (omega arith)

pub opened_sized : (b : List ℕ) (s : ℕ) → Opened b s → Sized b
opened_sized b s o = record { room = omega (arith, o.bytes); items = o.items_to; roots = o.roots_to }

-- The verdict.

pub verdict_no : (b : List ℕ) (s : ℕ) (q : Question) → opening b s ≡ Err q → verdict b s ≡ Err (record { question = q; item = None })
unfolding verdict
verdict_no b s q e = ap (λ o. answered o None (from b s 0 (item_count b))) e

pub verdict_from : (b : List ℕ) (s : ℕ) → opening b s ≡ passes → verdict b s ≡ from b s 0 (item_count b)
unfolding verdict
verdict_from b s e = ap (λ o. answered o None (from b s 0 (item_count b))) e

left_more : (n i : ℕ) → i < n → n - i ≡ suc (n - suc i)
left_more n i h = omega arith

pub from_no : (b : List ℕ) (s i n : ℕ) (q : Question) → i < n → asks b s i ≡ Err q → from b s i (n - i) ≡ Err (record { question = q; item = Some i })
unfolding from
from_no b s i n q h e = ap (from b s i) (left_more n i h) ∙ ap (λ o. answered o (Some i) (from b s (suc i) (n - suc i))) e

pub from_more : (b : List ℕ) (s i n : ℕ) → i < n → asks b s i ≡ passes → from b s i (n - i) ≡ from b s (suc i) (n - suc i)
unfolding from
from_more b s i n h e = ap (from b s i) (left_more n i h) ∙ ap (λ o. answered o (Some i) (from b s (suc i) (n - suc i))) e

-- the verdict where all items passed
pub from_last : (b : List ℕ) (s i : ℕ) → i ≡ item_count b → from b s i (item_count b - i) ≡ answered (closing_at b s) None (Ok (candidates s (schema_of b).roots))
unfolding from
from_last b s i e = ap (from b s i) {x = item_count b - i} {y = 0} (omega arith)

pub planned_no : (b : List ℕ) (s : ℕ) (old : Plan) (e : Refusal) → verdict b s ≡ Err e → old ≡ planned b s old
unfolding planned
planned_no b s old e h = sym (ap (λ v. replaced v (plan_of s (schema_of b).roots) old) h)

pub planned_yes : (b : List ℕ) (s t : ℕ) (old : Plan) → verdict b s ≡ Ok t → planned b s old ≡ plan_of s (schema_of b).roots
unfolding planned
planned_yes b s t old h = ap (λ v. replaced v (plan_of s (schema_of b).roots) old) h

-- Questions 10 to 12.

pub closing_is : (b : List ℕ) (i : ℕ) (g : Progress) → Counted b i g → i ≡ item_count b → closing g.tally g.total g.length ≡ closing_at b g.scope
unfolding closing_at
closing_is b i g c e =
    let s = g.scope in
    let t = tally_at b i in
    ap (λ x. closing x g.total g.length) c.tally
    ∙ (ap₂ (λ x y. closing (tally_at b i) x y) c.total c.sum
    ∙ (ap (λ (x : Bool). cond {A = Answer} (eqb t.closed t.roots && (eqb t.patterns 0 && eqb t.picks 0)) (cond x (cond (leb (events s (state b i).roots) most_events) passes (Err Events)) (Err Total)) (Err Whole))
    (cap_leb most_candidates (candidates s (state b i).roots))
    ∙ ap (λ n. closing (tally_at b n) (candidates s (state b n).roots) (events s (state b n).roots)) e))

pub record Ended (t : Tally) (n l : ℕ) : Type 0 where
  pub roots : t.closed ≡ t.roots
  pub patterns : t.patterns ≡ 0
  pub picks : t.picks ≡ 0
  pub total : n ≤ most_candidates
  pub sum : l ≤ most_events

pub ended : (t : Tally) (n l : ℕ) → closing t n l ≡ passes → Ended t n l
ended t n l e = go (eqb t.closed t.roots && (eqb t.patterns 0 && eqb t.picks 0)) refl (leb n most_candidates) refl (leb l most_events) refl e
  where
    go : (x : Bool) → (eqb t.closed t.roots && (eqb t.patterns 0 && eqb t.picks 0)) ≡ x → (y : Bool) → leb n most_candidates ≡ y → (z : Bool) → leb l most_events ≡ z
        → ◌≡◌ {A = Answer} (cond x (cond y (cond z passes (Err Events)) (Err Total)) (Err Whole)) passes → Ended t n l
    go true ex true ey true ez h =
        let u = and_parts (eqb t.closed t.roots) (eqb t.patterns 0 && eqb t.picks 0) ex in
        let v = and_parts (eqb t.patterns 0) (eqb t.picks 0) u.1 in
        record {
          roots = eqb-true t.closed t.roots u.0;
          patterns = eqb-true t.patterns 0 v.0;
          picks = eqb-true t.picks 0 v.1;
          total = leb-true n most_candidates ey;
          sum = leb-true l most_events ez;
        }
    go true ex true ey false ez h = let z : ◌≡◌ {A = ℕ} 0 1 = cc in absurd (omega arith)
    go true ex false ey w ez h = let z : ◌≡◌ {A = ℕ} 0 1 = cc in absurd (omega arith)
    go false ex y ey w ez h = let z : ◌≡◌ {A = ℕ} 0 1 = cc in absurd (omega arith)

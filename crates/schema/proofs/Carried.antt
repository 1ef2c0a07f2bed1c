-- What a check knows at its end, what a checked table carries of it, and what follows again.
use Rattle.std.proofs.Common.{◌≡◌, ℕ, suc, ◌+◌, List, [], ◌∷◌, length, get_or, None, Ok, Err, Result, sym, refl, ap, ◌∙◌, subst, ap₂, arith}
use Rattle.std.proofs.lemmas.List.{get_or_append_left}
use Rattle.arrayvec.specs.ArrayVec.{ArrayVec, array_vec_len}
use Rattle.questions.specs.declared.question.Question.{Question}
use Rattle.questions.specs.declared.refusal.Refusal.{Refusal}
use Rattle.grammar.specs.Pattern.{size}
use Rattle.grammar.specs.Schema.{Rooted, candidates, events}
use Rattle.grammar.specs.declared.measure.Measure.{Measure}
use Rattle.items.specs.Asked.{passes, closing}
use Rattle.schema.specs.Bytes.{item_count}
use Rattle.schema.specs.Reading.{state, tally_at, schema_of}
use Rattle.schema.specs.Plans.{no_root, entries, plan_of}
use Rattle.schema.specs.Questions.{closing_at, answered, verdict}
use Rattle.schema.specs.Progress.{KnowsMade, Taken, Passed}
use Rattle.schema.specs.Sound.{Planned, Sound, no_rooted, total_in, Accepts, numbers_of_root, numbers_of_roots, PlansRoots, numbers_of_measure, MeasuresAll}
use Rattle.schema.specs.Told.{table_of}
use Rattle.schema.specs.Writing.{operations_written}
use Rattle.schema.specs.declared.checked.Checked.{Checked}
use Rattle.schema.specs.declared.plan.Plan.{Plan}
use Rattle.schema.specs.declared.plan.Root.{Root}
use Rattle.schema.specs.declared.progress.Progress.{Progress}
use Rattle.schema.proofs.Coding.{Bytes}
use Rattle.schema.proofs.Planned.{planned_from}
use Rattle.schema.proofs.Tables.{accepted_passes, passes_writes, passes_accepted, all_items}
use Rattle.schema.proofs.Verdicts.{closing_is, ended, opened_sized}

-- From the end of a check.

pub whole_yes : (b : List ℕ) (s : ℕ) (g : Progress) → Taken b s g → closing g.tally g.total g.length ≡ passes → Passed b s g
whole_yes b s g h n =
    let i = item_count b in
    let d = ended g.tally g.total g.length n in
    let c = h.holds.counted in
    let k : closing_at b s ≡ passes = ap (closing_at b) (sym h.scope) ∙ (sym (closing_is b i g c refl) ∙ n) in
    let t : g.total ≡ candidates g.scope (state b i).roots = omega (arith, d.total, c.total) in
    let t2 : g.total ≡ candidates s (schema_of b).roots = t ∙ ap (λ x. candidates x (state b i).roots) h.scope in
    record {
      opens = h.opens;
      accepted = h.left ∙ (ap (λ o. answered o None (Ok (candidates s (schema_of b).roots))) k ∙ ap Ok (sym t2));
      plan = c.plan ∙ ap (λ x. plan_of x (schema_of b).roots) h.scope;
      all = h.holds.known;
      made = subst (λ x. KnowsMade b x g.known) h.scope h.made;
      scope = h.scope;
    }

-- a question of the whole fails
pub whole_no : (b : List ℕ) (s : ℕ) (g : Progress) (q : Question) → Taken b s g → closing g.tally g.total g.length ≡ Err q → verdict b s ≡ Err (record { question = q; item = None })
whole_no b s g q h n =
    let k : closing_at b s ≡ Err q = ap (closing_at b) (sym h.scope) ∙ (sym (closing_is b (item_count b) g h.holds.counted refl) ∙ n) in
    h.left ∙ ap (λ o. answered o None (Ok (candidates s (schema_of b).roots))) k

-- What is carried.

pub carried : (b c : List ℕ) (s : ℕ) (g : Progress) → c ≡ b → Passed b s g → Accepts c g.scope g.total × PlansRoots c g.scope g.plan × (array_vec_len g.known ≡ item_count c) × MeasuresAll c g.scope g.known
carried b c s g e r =
    subst (λ x. Accepts x g.scope g.total × PlansRoots x g.scope g.plan × (array_vec_len g.known ≡ item_count x) × MeasuresAll x g.scope g.known) (sym e)
    (subst (λ x. Accepts b x g.total × PlansRoots b x g.plan × (array_vec_len g.known ≡ item_count b) × MeasuresAll b x g.known) (sym r.scope) (
      ap total_in r.accepted,
      ap (λ (p : Plan). numbers_of_roots p.roots) r.plan,
      r.all,
      λ j lt. ap numbers_of_measure (r.made.right j lt),
    ))

-- And what follows again.

told_total : (v : Result ℕ Refusal) (t : ℕ) → total_in v ≡ t ∷ [] → v ≡ Ok t
told_total (Ok x) t e = cc
told_total (Err x) t e = let z : ◌≡◌ {A = ℕ} 0 1 = cc in absurd (omega arith)

same_root : (r q : Root) → numbers_of_root r ≡ numbers_of_root q → r ≡ q
same_root r q e =
    let f : ◌≡◌ {A = Root} (record { event = r.event; item = r.item; count = r.count; length = r.length }) (record { event = q.event; item = q.item; count = q.count; length = q.length }) = cc in f

same_roots : (rs qs : List Root) → numbers_of_roots rs ≡ numbers_of_roots qs → rs ≡ qs
same_roots [] [] e = refl
same_roots [] (q ∷ qs) e = let z : ◌≡◌ {A = ℕ} 0 1 = cc in absurd (omega arith)
same_roots (r ∷ rs) [] e = let z : ◌≡◌ {A = ℕ} 0 1 = cc in absurd (omega arith)
same_roots (r ∷ rs) (q ∷ qs) e =
    let h : numbers_of_root r ≡ numbers_of_root q = cc in
    let k : numbers_of_roots rs ≡ numbers_of_roots qs = cc in
    ap₂ ◌∷◌ (same_root r q h) (same_roots rs qs k)

same_measure : (m n : Measure) → numbers_of_measure m ≡ numbers_of_measure n → m ≡ n
same_measure m n e =
    let f : ◌≡◌ {A = Measure} (record { items = m.items; count = m.count; length = m.length }) (record { items = n.items; count = n.count; length = n.length }) = cc in f

made : List Root → Plan
made rs = record { roots = rs }

pub carried_plan : (b : List ℕ) (s : ℕ) (p : Plan) → PlansRoots b s p → p ≡ plan_of s (schema_of b).roots
unfolding made
carried_plan b s p h = ap made (same_roots p.roots (plan_of s (schema_of b).roots).roots h)

pub length-entries : (s i : ℕ) (rs : List Rooted) → length (entries s i rs) ≡ length rs
length-entries s i [] = refl
length-entries s i (r ∷ rs) = ap suc (length-entries s (i + size r.pattern + 1) rs)

pub sound : (b : List ℕ) (s t : ℕ) (p : Plan) (k : ArrayVec Measure) → Bytes b → Accepts b s t → PlansRoots b s p → array_vec_len k ≡ item_count b → MeasuresAll b s k → Sound b s t p k
unfolding closing_at
sound b s t p k bytes a ps l ms =
    let v = told_total (verdict b s) t a in
    let h = accepted_passes b s t v in
    let w = passes_writes b s bytes h in
    let z = opened_sized b s h.sizes in
    let q : p.roots ≡ (plan_of s (schema_of b).roots).roots = same_roots p.roots (plan_of s (schema_of b).roots).roots ps in
    record {
      accepted = v;
      bytes = h.sizes.bytes;
      sized = z;
      roots = (ended (tally_at b (item_count b)) (candidates s (schema_of b).roots) (events s (schema_of b).roots) h.end).roots;
      within = w.0;
      plan = carried_plan b s p ps;
      planned = λ j lt.
          subst (λ (e : Root). Planned b s e (get_or (schema_of b).roots j no_rooted))
          (sym (ap (λ (rs : List Root). get_or rs j no_root) q ∙ get_or_append_left (entries s 0 (schema_of b).roots) _ no_root j (omega (arith, length-entries s 0 (schema_of b).roots))))
          (planned_from b s (item_count b) refl z (schema_of b).roots [] [] (operations_written (schema_of b).operations) (all_items b s (schema_of b) w) refl j lt);
      all = l;
      right = record { few = omega (arith, l, z.items); right = λ j lt. same_measure _ _ (ms j lt) };
    }

pub checked_sound : (c : Checked) → Sound (table_of c) c.scope c.total c.plan c.known
checked_sound c = sound (table_of c) c.scope c.total c.plan c.known c.octets c.accepted c.planned c.all c.measured

pub checked_total : (c : Checked) → c.total ≡ candidates c.scope (schema_of (table_of c)).roots
checked_total c =
    let a = told_total (verdict (table_of c) c.scope) c.total c.accepted in
    let b = passes_accepted (table_of c) c.scope (accepted_passes (table_of c) c.scope c.total a) in
    cc

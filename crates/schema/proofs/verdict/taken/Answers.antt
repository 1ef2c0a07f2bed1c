use Rattle.std.proofs.Common.{rules, ap₂, ◌≡◌, ℕ, suc, ◌-◌, ◌<◌, Some, Ok, Err, Result, refl, sym, ap, ◌∙◌, add-one, arith, subst}
use Rattle.std.proofs.lemmas.Result.{MatchResult-at_ok, err_from_is_err_and}
use Rattle.std.specs.Result.{MatchResult, IsErrAnd}
use Rattle.questions.specs.declared.question.Question.{Question}
use Rattle.questions.specs.declared.refusal.Refusal.{Refusal}
use Rattle.items.specs.Asked.{Answer, passes}
use Rattle.schema.specs.Bytes.{item_count, root_count}
use Rattle.schema.specs.Questions.{asks, from}
use Rattle.schema.specs.Progress.{KnowsMade, Holds}
use Rattle.schema.proofs.Verdicts.{verdict_no, verdict_from, from_no, from_more, from_last}
use Rattle.schema.proofs.verdict.taken.Goals as goal

pub returns-in_err-ask_opening-clause-err : goal.returns-in_err-ask_opening-clause-err
returns-in_err-ask_opening-clause-err c =
    let x = err_from_is_err_and c.from_residual.result c.from_residual.ensures.1 in
    rw (x.1, x.2) (verdict_no c.args.bytes.now c.args.scope _ (sym c.ask_opening.ensures ∙ c.in_err-ask_opening.was))

pub loop-i-init : goal.loop-i-init
loop-i-init c =
    let h = c.start-progress.ensures.holds c.args.bytes.now (c.roots.ensures ∙ ap root_count c.of-table.ensures) in (
      h,
      c.start-progress.ensures.scope,
      verdict_from c.args.bytes.now c.args.scope (sym c.ask_opening.ensures ∙ c.in_ok-ask_opening.was)
          ∙ ap (from c.args.bytes.now c.args.scope 0) {x = item_count c.args.bytes.now} {y = item_count c.args.bytes.now - 0} (omega arith),
      record { few = omega (arith, h.known); right = λ j lt. absurd (omega (arith, h.known)) },
    )

-- R is what the closure makes of a question; m is the answer with it
module _ (R : Question → Refusal → Type 0) (m : Result (Unit {0}) Refusal) where
  no_from : (i : ℕ) (r : Answer) (e : Refusal) → ((q : Question) (x : Refusal) → R q x → x ≡ record { question = q; item = Some i })
      → MatchResult r (λ u. m ≡ Ok u) (λ q. IsErrAnd m (R q)) → m ≡ Err e → (q : Question) × (r ≡ Err q) × (e ≡ record { question = q; item = Some i })
  no_from i (Ok u) e says h is = let z : ◌≡◌ {A = ℕ} 0 1 = cc in absurd (omega arith)
  no_from i (Err q) e says h is = (q, refl, says q e (subst (λ x. IsErrAnd x (R q)) is h))

  yes_from : (r : Answer) (u : Unit {0}) → MatchResult r (λ u. m ≡ Ok u) (λ q. IsErrAnd m (R q)) → m ≡ Ok u → r ≡ passes
  yes_from (Ok v) u h is = refl
  yes_from (Err q) u h is = absurd (subst (λ x. IsErrAnd x (R q)) is h)

pub returns-in_err-map_err-clause-err : goal.returns-in_err-map_err-clause-err
returns-in_err-map_err-clause-err c =
    let b = c.args.bytes.now in
    let i = c.loop-i.i-counter in
    let x = err_from_is_err_and c.from_residual-in_err-map_err.result c.from_residual-in_err-map_err.ensures.1 in
    let lt : i < item_count b = omega (arith, c.loop-i-test.true, c.items-i-end.ensures, ap item_count c.of-table.ensures) in
    let y = no_from _ c.map_err.result i c.take.result c.in_err-map_err.field-0.0 (λ q e k. search rules) c.map_err.ensures.cases c.in_err-map_err.was in
    let a : asks b c.args.scope i ≡ Err y.0 = ap₂ (λ t s. asks t s i) (sym c.of-table.ensures) (sym c.loop-i.invariant.1) ∙ (sym c.take.ensures.answer ∙ y.1) in
    rw (x.1, x.2, y.2) (c.loop-i.invariant.2 ∙ from_no b c.args.scope i (item_count b) y.0 lt a)

pub loop-i-preserved : goal.loop-i-preserved
loop-i-preserved c =
    let b = c.args.bytes.now in
    let i = c.loop-i.i-counter in
    let lt : i < item_count b = omega (arith, c.loop-i-test.true, c.items-i-end.ensures, ap item_count c.of-table.ensures) in
    let y = yes_from _ c.map_err.result c.take.result c.in_ok-map_err.field-0 c.map_err.ensures.cases c.in_ok-map_err.was in
    let a : asks b c.args.scope i ≡ passes = ap₂ (λ t s. asks t s i) (sym c.of-table.ensures) (sym c.loop-i.invariant.1) ∙ (sym c.take.ensures.answer ∙ y) in
    rw add-one (
      subst (λ t. Holds t (suc i) c.take.new.self) c.of-table.ensures (MatchResult-at_ok _ _ _ y c.take.ensures.goes),
      MatchResult-at_ok _ _ _ y c.take.ensures.scope ∙ c.loop-i.invariant.1,
      c.loop-i.invariant.2 ∙ from_more b c.args.scope i (item_count b) lt a,
      subst (λ t. KnowsMade t c.loop-i.progress.scope c.loop-i.progress.known → KnowsMade t c.take.new.self.scope c.take.new.self.known) c.of-table.ensures
          (MatchResult-at_ok _ _ _ y c.take.ensures.made) c.loop-i.invariant.3,
    )

pub returns-clause-ok : goal.returns-clause-ok
returns-clause-ok c =
    let b = c.args.bytes.now in
    let s = c.args.scope in
    let i = c.loop-i.i-counter in
    let e : i ≡ item_count b = omega (arith, c.loop-i-test.false, c.loop-i.auto.i-counter-end, c.items-i-end.ensures, ap item_count c.of-table.ensures) in
    record {
      opens = sym c.ask_opening.ensures ∙ c.in_ok-ask_opening.was;
      holds = subst (λ i. Holds b i c.loop-i.progress) e c.loop-i.invariant.0;
      made = c.loop-i.invariant.3;
      scope = c.loop-i.invariant.1;
      left = c.loop-i.invariant.2 ∙ from_last b s i e;
    }

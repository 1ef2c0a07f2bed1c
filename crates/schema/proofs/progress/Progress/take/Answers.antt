use Rattle.std.proofs.Common.{◌≡◌, ℕ, List, sym, ap, ◌∙◌, subst, arith}
use Rattle.std.proofs.lemmas.Result.{err_from_is_err_and}
use Rattle.arrayvec.specs.ArrayVec.{array_vec_len}
use Rattle.grammar.specs.Measures.{measure_of}
use Rattle.grammar.specs.declared.measure.Measure.{Measure}
use Rattle.items.specs.Asked.{Answer, asked, sized}
use Rattle.items.specs.declared.item.Item.{Item}
use Rattle.schema.specs.Bytes.{argument_at, item_at}
use Rattle.schema.specs.Questions.{asked_at, shared, shared_at, sized_at, made_at}
use Rattle.schema.specs.Progress.{Knows, KnowsMade, Counted}
use Rattle.schema.specs.declared.progress.Progress.{Progress}
use Rattle.schema.proofs.Verdicts.{asked_is, shared_is, sized_is, sized_none, asks_asked, asks_shared, asks_sized, known-push, made-push}
use Rattle.schema.proofs.progress.Progress.take.Goals as goal

-- what the three calls answered, x, is what the definitions ask of item i
module _ (b : List ℕ) (i : ℕ) (g : Progress) (c : Counted b i g) (r x : Answer) (is : r ≡ x) where
  said_asked : (it : Item) (a : ℕ) → it ≡ item_at b i → a ≡ argument_at b i → r ≡ asked g.scope g.tally it a → asked_at b g.scope i ≡ x
  said_asked it a d f e = sym (asked_is b i g c it a d f) ∙ (sym e ∙ is)

  said_shared : (it : Item) → it ≡ item_at b i → r ≡ shared b it g.earlier g.later → shared_at b i ≡ x
  said_shared it d e = sym (shared_is b i g c it d) ∙ (sym e ∙ is)

  said_sized : (m : Measure) → m ≡ measure_of g.scope (made_at b i) → r ≡ sized m.count m.length → sized_at b g.scope i ≡ x
  said_sized m me e = sym (sized_is b g.scope i m me) ∙ (sym e ∙ is)

pub returns-in_err-ask_item-clause-answer : goal.returns-in_err-ask_item-clause-answer
returns-in_err-ask_item-clause-answer c =
    let x = err_from_is_err_and c.from_residual.result c.from_residual.ensures.1 in
    let e = said_asked c.args.table.now c.args.i c.args.self.now c.requires.holds.counted _ _ c.in_err-ask_item.was c.item-item.result c.argument.result c.item-item.ensures.item c.argument.ensures c.ask_item.ensures in
    rw (x.1, x.2) (sym (asks_asked c.args.table.now c.args.self.now.scope c.args.i _ e))

pub returns-in_err-ask_sharing-clause-answer : goal.returns-in_err-ask_sharing-clause-answer
returns-in_err-ask_sharing-clause-answer c =
    let x = err_from_is_err_and c.from_residual-in_err-ask_sharing.result c.from_residual-in_err-ask_sharing.ensures.1 in
    let e = said_asked c.args.table.now c.args.i c.args.self.now c.requires.holds.counted _ _ c.in_ok-ask_item.was c.item-item.result c.argument.result c.item-item.ensures.item c.argument.ensures c.ask_item.ensures in
    let f = said_shared c.args.table.now c.args.i c.args.self.now c.requires.holds.counted _ _ c.in_err-ask_sharing.was c.item-item.result c.item-item.ensures.item c.ask_sharing.ensures in
    rw (x.1, x.2) (sym (asks_shared c.args.table.now c.args.self.now.scope c.args.i _ e f))

pub measure_made-m-requires-clause-admitted : goal.measure_made-m-requires-clause-admitted
measure_made-m-requires-clause-admitted c = record { within = c.requires.within; passed = said_asked c.args.table.now c.args.i c.args.self.now c.requires.holds.counted _ _ c.in_ok-ask_item.was c.item-item.result c.argument.result c.item-item.ensures.item c.argument.ensures c.ask_item.ensures }

pub returns-in_err-ask_measure-clause-answer : goal.returns-in_err-ask_measure-clause-answer
returns-in_err-ask_measure-clause-answer c =
    let x = err_from_is_err_and c.from_residual-in_err-ask_measure.result c.from_residual-in_err-ask_measure.ensures.1 in
    let e = said_asked c.args.table.now c.args.i c.args.self.now c.requires.holds.counted _ _ c.in_ok-ask_item.was c.item-item.result c.argument.result c.item-item.ensures.item c.argument.ensures c.ask_item.ensures in
    let f = said_shared c.args.table.now c.args.i c.args.self.now c.requires.holds.counted _ _ c.in_ok-ask_sharing.was c.item-item.result c.item-item.ensures.item c.ask_sharing.ensures in
    let h = said_sized c.args.table.now c.args.i c.args.self.now c.requires.holds.counted _ _ c.in_err-ask_measure.was c.measure_made-m.result c.measure_made-m.ensures c.ask_measure.ensures in
    rw (x.1, x.2) (sym (asks_sized c.args.table.now c.args.self.now.scope c.args.i e f ∙ h))

pub settle-requires-clause-admitted : goal.settle-requires-clause-admitted
settle-requires-clause-admitted c = record { within = c.requires.within; passed = said_asked c.args.table.now c.args.i c.args.self.now c.requires.holds.counted _ _ c.in_ok-ask_item.was c.item-item.result c.argument.result c.item-item.ensures.item c.argument.ensures c.ask_item.ensures }

pub settle-requires-clause-count : goal.settle-requires-clause-count
settle-requires-clause-count c = (sized_none c.measure_made-m.result.count c.measure_made-m.result.length (sym c.ask_measure.ensures ∙ c.in_ok-ask_measure.was)).0

pub settle-requires-clause-length : goal.settle-requires-clause-length
settle-requires-clause-length c = (sized_none c.measure_made-m.result.count c.measure_made-m.result.length (sym c.ask_measure.ensures ∙ c.in_ok-ask_measure.was)).1

pub returns-clause-answer : goal.returns-clause-answer
returns-clause-answer c =
    let e = said_asked c.args.table.now c.args.i c.args.self.now c.requires.holds.counted _ _ c.in_ok-ask_item.was c.item-item.result c.argument.result c.item-item.ensures.item c.argument.ensures c.ask_item.ensures in
    let f = said_shared c.args.table.now c.args.i c.args.self.now c.requires.holds.counted _ _ c.in_ok-ask_sharing.was c.item-item.result c.item-item.ensures.item c.ask_sharing.ensures in
    let h = said_sized c.args.table.now c.args.i c.args.self.now c.requires.holds.counted _ _ c.in_ok-ask_measure.was c.measure_made-m.result c.measure_made-m.ensures c.ask_measure.ensures in
    sym (asks_sized c.args.table.now c.args.self.now.scope c.args.i e f ∙ h)

pub returns-clause-goes : goal.returns-clause-goes
returns-clause-goes c =
    let s = c.args.self.now.scope in
    let kn = known-push c.args.table.now s c.args.i c.args.self.now.known c.push.new.self c.measure_made-m.result c.requires.holds.known
    (omega (arith, c.item-item.ensures.sized.items, c.requires.within)) c.measure_made-m.ensures c.push.ensures.items c.requires.holds.right in
    record {
      counted = c.settle.ensures.counted;
      known = ap array_vec_len c.settle.ensures.known ∙ omega (arith, c.push.ensures.len, c.requires.holds.known);
      right = subst (λ x. Knows c.args.table.now x c.settle.new.self.known) (sym c.settle.ensures.scope) (subst (Knows c.args.table.now s) (sym c.settle.ensures.known) kn);
    }

pub returns-clause-made : goal.returns-clause-made
returns-clause-made c = λ k.
    let s = c.args.self.now.scope in
    let md = made-push c.args.table.now s c.args.i c.args.self.now.known c.push.new.self c.measure_made-m.result c.requires.holds.known
    (omega (arith, c.item-item.ensures.sized.items, c.requires.within)) c.measure_made-m.ensures c.push.ensures.items k in
    subst (λ x. KnowsMade c.args.table.now x c.settle.new.self.known) (sym c.settle.ensures.scope) (subst (KnowsMade c.args.table.now s) (sym c.settle.ensures.known) md)

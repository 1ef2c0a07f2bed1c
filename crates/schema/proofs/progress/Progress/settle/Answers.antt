use Rattle.std.proofs.Common.{◌≡◌, ◌+◌, sym, refl, ap, ◌∙◌, arith, rules}
use Rattle.grammar.specs.Pattern.{event}
use Rattle.grammar.specs.Measures.{measure_of}
use Rattle.schema.specs.Reading.{state, top, made}
use Rattle.schema.specs.Questions.{made_at}
use Rattle.items.specs.declared.ask.Tally.{Tally}
use Rattle.items.specs.declared.item.Item.TheVariants.{Root, Pick, Unknown}
use Rattle.schema.proofs.Steps.{suited_at, found_at, adds, changes, joins, two_wait, closes, picks, operates}
use Rattle.schema.proofs.progress.Progress.settle.Goals as goal

pub overflow_sub-self : goal.overflow_sub-self
overflow_sub-self c = omega (arith, two_wait c.args.table.now c.args.i c.args.self.now c.requires.counted c.item.result c.item.ensures.item c.requires.admitted.passed c.in-Both.is)

pub overflow_cast-root : goal.overflow_cast-root
overflow_cast-root c = omega (arith, suited_at c.args.table.now c.args.self.now.scope c.args.i (Root c.in-Root.event) c.requires.admitted.passed c.in-Root.ensures.item)

pub close-requires : goal.close-requires
close-requires c =
    omega (arith, (found_at c.args.table.now c.args.self.now.scope c.args.i (Root c.in-Root.event) c.requires.admitted.passed c.in-Root.ensures.item).0, ap (λ (v : Tally). v.closed) c.requires.counted.tally, c.item.ensures.sized.roots)

pub overflow_add-self-in-Pick : goal.overflow_add-self-in-Pick
overflow_add-self-in-Pick c =
    omega (arith, (found_at c.args.table.now c.args.self.now.scope c.args.i (Pick c.in-Pick.x) c.requires.admitted.passed c.in-Pick.ensures.item).1, ap (λ (v : Tally). v.picks) c.requires.counted.tally)

pub returns-in-Nothing : goal.returns-in-Nothing
returns-in-Nothing c = record {
  counted = adds c.args.table.now c.args.i c.args.self.now c.requires.counted c.item.result c.item.ensures.item c.requires.admitted.passed c.in-Nothing.is _ refl refl refl
      (record { scope = refl; total = refl; length = refl; plan = refl });
  scope = refl;
  known = refl;
}

pub returns-in-Event : goal.returns-in-Event
returns-in-Event c = record {
  counted = changes c.args.table.now c.args.i c.args.self.now c.requires.counted c.item.result c.item.ensures.item c.requires.admitted.passed c.in-Event.is _ refl refl refl
      (record { scope = refl; total = refl; length = refl; plan = refl });
  scope = refl;
  known = refl;
}

pub returns-in-Both : goal.returns-in-Both
returns-in-Both c = record {
  counted = joins c.args.table.now c.args.i c.args.self.now c.requires.counted c.item.result c.item.ensures.item c.requires.admitted.passed c.in-Both.is _ refl refl refl
      (record { scope = refl; total = refl; length = refl; plan = refl });
  scope = refl;
  known = refl;
}

pub returns-in-Root : goal.returns-in-Root
unfolding made_at
returns-in-Root c =
    let t = c.in-Root.event in
    let is = c.in-Root.ensures.item in
    let e : c.args.m ≡ measure_of c.args.self.now.scope (event t (top (state c.args.table.now c.args.i).patterns)) =
    c.requires.measured ∙ ap (λ x. measure_of c.args.self.now.scope (made x (state c.args.table.now c.args.i).patterns)) (sym is) in
    record {
      counted = closes c.args.table.now c.args.i c.args.self.now c.requires.counted t is c.item.ensures.sized
          (found_at c.args.table.now c.args.self.now.scope c.args.i (Root t) c.requires.admitted.passed is) c.args.m e c.requires.count c.requires.length _
          refl refl refl refl c.product_capped-self.ensures (ap (λ x. c.args.self.now.length + x) c.from.ensures) c.close.ensures;
      scope = refl;
      known = refl;
    }

pub returns-in-Pick : goal.returns-in-Pick
returns-in-Pick c = record {
  counted = picks c.args.table.now c.args.i c.args.self.now c.requires.counted c.in-Pick.x c.in-Pick.ensures.item
      (found_at c.args.table.now c.args.self.now.scope c.args.i (Pick c.in-Pick.x) c.requires.admitted.passed c.in-Pick.ensures.item) _ refl refl refl
      (record { scope = refl; total = refl; length = refl; plan = refl });
  scope = refl;
  known = refl;
}

pub returns-in-Relate : goal.returns-in-Relate
returns-in-Relate c =
    let x : c.default-self.result ≡ record { root = 0; event = 0 } = search rules in
    let y : c.default-self-in-Relate.result ≡ record { root = 0; event = 0 } = search rules in
    rw (x, y) (record {
      counted = operates c.args.table.now c.args.i c.args.self.now c.requires.counted c.item.result c.item.ensures.item c.requires.admitted.passed c.in-Relate.is _ refl refl refl
          (record { scope = refl; total = refl; length = refl; plan = refl });
      scope = refl;
      known = refl;
    })

pub returns-in-Unknown : goal.returns-in-Unknown
returns-in-Unknown c = absurd (suited_at c.args.table.now c.args.self.now.scope c.args.i Unknown c.requires.admitted.passed c.in-Unknown.ensures.item)

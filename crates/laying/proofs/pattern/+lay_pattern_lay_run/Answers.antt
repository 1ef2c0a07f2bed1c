use Rattle.std.proofs.Common.{refl, ap, ◌∙◌, arith}
use Rattle.grammar.specs.Pattern.{most}
use Rattle.numbering.specs.Choice.{earlier, later}
use Rattle.schema.proofs.Carried.{checked_sound}
use Rattle.laying.proofs.Laws.{laid_as, laid_empty, laid_node, laid_took, laid_pair, part_after, part_between}
use Rattle.laying.proofs.Parts.{nothing_at, atom_at, inside_of, parts_of, sides_of, earlier_taken, later_taken, many_of, run_none, run_some, run_parts}
use Rattle.laying.proofs.pattern.+lay_pattern_lay_run.Goals as goal

pub lay_pattern-lay_pattern-requires : goal.lay_pattern-lay_pattern-requires
lay_pattern-lay_pattern-requires t c =
    let u = inside_of c.requires.layable c.in-Event.ensures in
    (omega (arith, u.pos), (u.layable, omega (arith, u.long)))

pub lay_pattern-overflow_sub-i-in-Both-3 : goal.lay_pattern-overflow_sub-i-in-Both-3
lay_pattern-overflow_sub-i-in-Both-3 t c =
    let u = parts_of c.requires.layable c.in-Both.ensures c.measure-later.ensures c.from.ensures c.split_pair-n.ensures.earlier c.split_pair-n.ensures.later in
    omega (arith, u.room)

pub lay_pattern-lay_pattern-first-requires : goal.lay_pattern-lay_pattern-first-requires
lay_pattern-lay_pattern-first-requires t c =
    let u = parts_of c.requires.layable c.in-Both.ensures c.measure-later.ensures c.from.ensures c.split_pair-n.ensures.earlier c.split_pair-n.ensures.later in
    (omega (arith, u.room), (u.first, omega (arith, u.long, c.requires.room)))

pub lay_pattern-lay_pattern-second-requires : goal.lay_pattern-lay_pattern-second-requires
lay_pattern-lay_pattern-second-requires t c =
    let u = parts_of c.requires.layable c.in-Both.ensures c.measure-later.ensures c.from.ensures c.split_pair-n.ensures.earlier c.split_pair-n.ensures.later in
    (omega (arith, u.room), (u.second, omega (arith, u.long, c.requires.room, c.lay_pattern-first.ensures.length)))

pub lay_pattern-order-requires : goal.lay_pattern-order-requires
lay_pattern-order-requires t c = record { places = part_after c.lay_pattern-second.ensures; between = part_between c.lay_pattern-first.ensures }

pub lay_pattern-overflow_sub-at-in-Either : goal.lay_pattern-overflow_sub-at-in-Either
lay_pattern-overflow_sub-at-in-Either t c =
    let d = sides_of c.requires.layable c.in-Either.ensures c.measure.ensures c.from-in-Either.ensures in
    omega (arith, d.room)

pub lay_pattern-lay_pattern-requires-in-Earlier : goal.lay_pattern-lay_pattern-requires-in-Earlier
lay_pattern-lay_pattern-requires-in-Earlier t c =
    let d = sides_of c.requires.layable c.in-Either.ensures c.measure.ensures c.from-in-Either.ensures in
    let v = earlier_taken c.requires.layable d c.measure-in-Either.ensures c.in-Earlier.ensures in
    (omega (arith, d.room), (v.layable, omega (arith, v.long, c.requires.room)))

pub lay_pattern-lay_pattern-requires-in-Later : goal.lay_pattern-lay_pattern-requires-in-Later
lay_pattern-lay_pattern-requires-in-Later t c =
    let d = sides_of c.requires.layable c.in-Either.ensures c.measure.ensures c.from-in-Either.ensures in
    let v = later_taken c.requires.layable d c.measure-in-Either.ensures c.in-Later.ensures in
    (omega (arith, d.room), (v.layable, omega (arith, v.long, c.requires.room)))

pub lay_pattern-lay_run-requires : goal.lay_pattern-lay_run-requires
lay_pattern-lay_run-requires t c =
    let u = many_of (checked_sound c.args.schema.now).within.scope_to c.requires.layable c.in-Repeat.ensures c.measure-once.ensures (c.most_of.ensures ∙ ap (λ x. most x c.in-Repeat.most) c.scope.ensures) c.split_times-left.ensures in
    (omega (arith, u.pos, u.layable.few), (u.layable, omega (arith, u.long, c.requires.room)))

pub lay_pattern-returns-in-Nothing : goal.lay_pattern-returns-in-Nothing
lay_pattern-returns-in-Nothing t c = laid_as _ (nothing_at c.requires.layable c.in-Nothing.ensures) (omega arith) (laid_empty c.none.ensures)

pub lay_pattern-returns-in-Atom : goal.lay_pattern-returns-in-Atom
lay_pattern-returns-in-Atom t c =
    let u = atom_at c.requires.layable c.in-Atom.ensures in
    laid_as _ u.0 (omega (arith, u.1)) (laid_node c.push.ensures.pushed c.push.ensures.top (laid_empty {r = 0} refl))

pub lay_pattern-returns-in-Event : goal.lay_pattern-returns-in-Event
lay_pattern-returns-in-Event t c =
    let u = inside_of c.requires.layable c.in-Event.ensures in
    laid_as _ u.is (omega (arith, u.long)) (laid_node c.push-top.ensures.pushed c.push-top.ensures.top c.lay_pattern.ensures)

pub lay_pattern-returns-in-Both : goal.lay_pattern-returns-in-Both
lay_pattern-returns-in-Both t c =
    let u = parts_of c.requires.layable c.in-Both.ensures c.measure-later.ensures c.from.ensures c.split_pair-n.ensures.earlier c.split_pair-n.ensures.later in
    laid_as _ u.is (omega (arith, u.long)) (laid_pair c.lay_pattern-first.ensures c.lay_pattern-second.ensures c.order.ensures.ordered c.order.ensures.tops)

pub lay_pattern-returns-in-Earlier : goal.lay_pattern-returns-in-Earlier
lay_pattern-returns-in-Earlier t c =
    let d = sides_of c.requires.layable c.in-Either.ensures c.measure.ensures c.from-in-Either.ensures in
    let v = earlier_taken c.requires.layable d c.measure-in-Either.ensures c.in-Earlier.ensures in
    laid_as _ v.is v.long (laid_took earlier c.lay_pattern-in-Earlier.ensures)

pub lay_pattern-returns-in-Later : goal.lay_pattern-returns-in-Later
lay_pattern-returns-in-Later t c =
    let d = sides_of c.requires.layable c.in-Either.ensures c.measure.ensures c.from-in-Either.ensures in
    let v = later_taken c.requires.layable d c.measure-in-Either.ensures c.in-Later.ensures in
    laid_as _ v.is v.long (laid_took later c.lay_pattern-in-Later.ensures)

pub lay_pattern-returns-in-Repeat : goal.lay_pattern-returns-in-Repeat
lay_pattern-returns-in-Repeat t c =
    let u = many_of (checked_sound c.args.schema.now).within.scope_to c.requires.layable c.in-Repeat.ensures c.measure-once.ensures (c.most_of.ensures ∙ ap (λ x. most x c.in-Repeat.most) c.scope.ensures) c.split_times-left.ensures in
    laid_as _ u.is u.long c.lay_run.ensures

pub lay_run-returns-then-run-eq0 : goal.lay_run-returns-then-run-eq0
lay_run-returns-then-run-eq0 t c = laid_as _ (run_none c.args.schema.now c.args.i c.args.run c.if-run-eq0.true) (omega arith) (laid_empty c.none.ensures)

pub lay_run-nonzero_div-others : goal.lay_run-nonzero_div-others
lay_run-nonzero_div-others t c = (run_some c.from.ensures c.requires.runs c.if-run-eq0.false).some

pub lay_run-overflow_cast-others : goal.lay_run-overflow_cast-others
lay_run-overflow_cast-others t c = omega (arith, (run_some c.from.ensures c.requires.runs c.if-run-eq0.false).less, c.requires.runs.small)

pub lay_run-lay_pattern-first-requires : goal.lay_run-lay_pattern-first-requires
lay_run-lay_pattern-first-requires t c =
    let u = run_parts c.from.ensures c.requires.runs c.if-run-eq0.false refl c.split_pair-n.ensures.earlier c.split_pair-n.ensures.later in
    (omega arith, (u.first, omega (arith, u.long, c.requires.room)))

pub lay_run-lay_run-second-requires : goal.lay_run-lay_run-second-requires
lay_run-lay_run-second-requires t c =
    let u = run_parts c.from.ensures c.requires.runs c.if-run-eq0.false refl c.split_pair-n.ensures.earlier c.split_pair-n.ensures.later in
    (omega (arith, c.if-run-eq0.false), (u.others, omega (arith, u.long, c.requires.room, c.lay_pattern-first.ensures.length)))

pub lay_run-order-requires : goal.lay_run-order-requires
lay_run-order-requires t c = record { places = part_after c.lay_run-second.ensures; between = part_between c.lay_pattern-first.ensures }

pub lay_run-returns : goal.lay_run-returns
lay_run-returns t c =
    let u = run_parts c.from.ensures c.requires.runs c.if-run-eq0.false refl c.split_pair-n.ensures.earlier c.split_pair-n.ensures.later in
    laid_as _ u.is (omega (arith, u.long)) (laid_pair c.lay_pattern-first.ensures c.lay_run-second.ensures c.order.ensures.ordered c.order.ensures.tops)

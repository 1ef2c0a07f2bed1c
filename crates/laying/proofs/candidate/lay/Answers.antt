use Rattle.std.proofs.Common.{◌<◌, ◌≤◌, length, sym, inl, inr, arith}
use Rattle.numbering.proofs.Numbered.{patterns_numbered, roots_numbered}
use Rattle.laying.specs.Promises.{LayingLaws}
use Rattle.laying.proofs.Candidates.{roots_of, first_planned, planned_is, digit, follows, layable, room_at, few, begun_none, begun_more, begun_all, laid_not}
use Rattle.laying.proofs.Enclosing.{nearest, around_is_in, outermost}
use Rattle.laying.proofs.Preceding.{parts, occurrences}
use Rattle.laying.proofs.Repeating.{repetitions}
use Rattle.laying.proofs.Rows.{rows_say}
use Rattle.laying.proofs.Stay.{stay}
use Rattle.laying.proofs.candidate.lay.Goals as goal
use Rattle.laying.proofs.candidate.lay.Goals.{then-number-total-via-then-number-total, then-number-total-via-else-number-total+then-roots-eq0, then-number-total-via-else-number-total+else-roots-eq0+then-roots}

laws : LayingLaws
laws = record { nearest = nearest; around = around_is_in; outermost = outermost; parts = parts; repetitions = repetitions; occurrences = occurrences; rows = rows_say; stay = stay }

pub returns-then-number-total : goal.returns-then-number-total
returns-then-number-total c = record {
  answer = laid_not c.args.schema.now c.args.number c.args.roots (elim c.then-number-total.branch [
    | then-number-total-via-then-number-total w ↦ inl (omega (arith, w.if-number-total.true, c.total.ensures))
    | then-number-total-via-else-number-total+then-roots-eq0 w ↦ inr (inl w.if-roots-eq0.true)
    | then-number-total-via-else-number-total+else-roots-eq0+then-roots w ↦ inr (inr (omega (arith, w.if-roots.true, w.roots.ensures)))
  ]);
  numbers = (patterns_numbered, roots_numbered);
  laws = laws;
}

pub slice_bounds-root-items-end : goal.slice_bounds-root-items-end
slice_bounds-root-items-end c = sym (first_planned c.args.schema.now c.entries.result.now c.args.roots c.entries.ensures (omega (arith, c.if-roots.false, c.roots.ensures)))

pub loop-root-init : goal.loop-root-init
loop-root-init c = begun_none c.args.schema.now c.args.number c.total-after.result c.nothing-laid.result c.total-after.ensures (omega (arith, c.if-number-total.false, c.total.ensures, c.total-after.ensures)) c.nothing-laid.ensures.shown c.nothing-laid.ensures.events c.nothing-laid.ensures.roots

pub nonzero_div-after : goal.nonzero_div-after
nonzero_div-after c =
    let s = c.args.schema.now in
    let le : c.args.roots ≤ length (roots_of s) = omega (arith, c.if-roots.false, c.roots.ensures) in
    let lt : c.loop-root.root-index < c.args.roots = omega (arith, c.loop-root-test.true, first_planned s c.entries.result.now c.args.roots c.entries.ensures le) in
    let is = planned_is s c.entries.result.now c.args.roots c.loop-root.root-index c.entries.ensures lt le in
    (digit (omega (arith, lt, le)) is c.loop-root.invariant).some

pub lay_root-requires : goal.lay_root-requires
lay_root-requires c =
    let s = c.args.schema.now in
    let le : c.args.roots ≤ length (roots_of s) = omega (arith, c.if-roots.false, c.roots.ensures) in
    let lt : c.loop-root.root-index < c.args.roots = omega (arith, c.loop-root-test.true, first_planned s c.entries.result.now c.args.roots c.entries.ensures le) in
    let is = planned_is s c.entries.result.now c.args.roots c.loop-root.root-index c.entries.ensures lt le in
    let more : c.loop-root.root-index < length (roots_of s) = omega (arith, lt, le) in
    let g = c.loop-root.invariant in
    record { follows = follows more is g; layable = layable more is g c.split_pair-digit.ensures.earlier; few = few more is g; room = room_at more is g }

pub loop-root-preserved : goal.loop-root-preserved
loop-root-preserved c =
    let s = c.args.schema.now in
    let le : c.args.roots ≤ length (roots_of s) = omega (arith, c.if-roots.false, c.roots.ensures) in
    let lt : c.loop-root.root-index < c.args.roots = omega (arith, c.loop-root-test.true, first_planned s c.entries.result.now c.args.roots c.entries.ensures le) in
    let is = planned_is s c.entries.result.now c.args.roots c.loop-root.root-index c.entries.ensures lt le in
    let d = c.split_pair-digit.ensures in
    let h = c.lay_root.ensures in
    begun_more (omega (arith, lt, le)) is c.loop-root.invariant d.earlier d.later h.lays h.roots h.length

pub returns : goal.returns
returns c =
    let le : c.args.roots ≤ length (roots_of c.args.schema.now) = omega (arith, c.if-roots.false, c.roots.ensures) in
    let many = first_planned c.args.schema.now c.entries.result.now c.args.roots c.entries.ensures le in
    record {
      answer = begun_all c.args.schema.now c.args.number c.args.roots c.loop-root.root-index c.loop-root.rest c.loop-root.after c.loop-root.laid (omega (arith, c.loop-root-test.false, many)) (omega (arith, c.loop-root.auto.root-index-end, many)) (omega (arith, c.if-number-total.false)) (omega (arith, c.if-roots-eq0.false)) le c.loop-root.invariant;
      numbers = (patterns_numbered, roots_numbered);
      laws = laws;
    }

use Rattle.laying.proofs.Candidates.{Begun}
use Rattle.laying.proofs.candidate.lay.Given as goal

abbrev pub invariant-loop-root : goal.invariant-loop-root
invariant-loop-root l = Begun l.schema l.number l.root-index l.rest l.after l.laid

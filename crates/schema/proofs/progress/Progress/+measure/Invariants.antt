use Rattle.schema.proofs.progress.Progress.+measure.Given as goal

abbrev pub decreases-measure : goal.decreases-measure
decreases-measure l = l.i

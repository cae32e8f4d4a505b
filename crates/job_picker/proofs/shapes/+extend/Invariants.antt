use Rattle.job_picker.proofs.shapes.+extend.Given as goal

abbrev pub decreases-extend : goal.decreases-extend
decreases-extend g l = l.left

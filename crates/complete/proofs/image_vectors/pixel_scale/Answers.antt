-- `complete::image_vectors::pixel_scale` meets its contract. Assumes nothing.
use Rattle.complete.specs.ImageVectors.{scale_of}
use Rattle.complete.proofs.image_vectors.pixel_scale.Goals as goal

pub returns-then-candidate : goal.returns-then-candidate
unfolding scale_of
returns-then-candidate c = simp c.if-candidate.true

pub returns : goal.returns
unfolding scale_of
returns c = simp (c.if-candidate.false, c.pass_at-own.ensures)

use mathlib.Core.Path.{ap, ◌∙◌}
use lib.ListN.{length}
use Rattle.fov_sweep.specs.Sweep.{swept_of, later_of}
use Rattle.c_types.specs.Results.{swept_numbers}
use Rattle.star_search.proofs.exports.star_sweep.Goals as goal

pub returns : goal.returns
returns c =
    let a = c.args in
    let o = c.option_of-reach.ensures in
    let b = c.build_fov_sweep.ensures.swept in (
      c.from.ensures
          ∙ ap swept_numbers (b.0 ∙ ap (λ t. swept_of a.estimate t a.step (length a.out.now)) o),
      b.1 ∙ ap (λ t. later_of a.estimate t a.step a.out.now) o,
    )

use mathlib.Core.Path.{ap, ◌∙◌}
use Rattle.c_types.specs.Results.{opened_number}
use Rattle.star_search.proofs.exports.star_open.Goals as goal

pub returns-in-Ok : goal.returns-in-Ok
returns-in-Ok c = ap opened_number c.in-Ok.ensures

pub returns-in-Err : goal.returns-in-Err
returns-in-Err c = c.from.ensures ∙ ap opened_number c.in-Err.ensures

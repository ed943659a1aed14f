use mathlib.Core.Path.{ap, ◌∙◌}
use Rattle.c_types.specs.Results.{slot_numbers}
use Rattle.star_search.proofs.ThroughC.{slot_through}
use Rattle.star_search.proofs.exports.star_slot.Goals as goal

pub returns : goal.returns
returns c = let a = c.args in c.from.ensures ∙ slot_through a.words.now a.slot c.slot_of-held.result ∙ ap slot_numbers c.slot_of-held.ensures

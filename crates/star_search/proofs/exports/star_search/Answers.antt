use Rattle.star_search.proofs.ThroughC.{search_through}
use Rattle.star_search.proofs.exports.star_search.Goals as goal

pub returns : goal.returns
returns c =
    let a = c.args in
    search_through a.centroids.now a.order.now a.passes.now a.stars.now a.settings a.slots a.words.now a.packed.now a.state a.allowance
    c.from-config.result
    c.from-config.ensures
    c.from-from.result
    c.from-from.ensures
    c.search-said.result
    c.search-said.ensures.returned
    c.answer_to_c.result
    c.answer_to_c.ensures

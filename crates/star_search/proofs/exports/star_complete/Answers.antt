use Rattle.star_search.proofs.ThroughC.{complete_through}
use Rattle.star_search.proofs.exports.star_complete.Goals as goal

pub returns : goal.returns
returns c =
    let a = c.args in
    complete_through a.centroids.now a.order.now a.passes.now a.stars.now a.candidate a.scale
    c.from-given.result
    c.from-given.ensures
    c.complete-completed.result
    c.complete-completed.ensures.completed
    c.from.result
    c.from.ensures

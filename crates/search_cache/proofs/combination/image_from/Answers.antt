use Rattle.search_cache.specs.CombinationKeys.{image_from}
use Rattle.search_cache.proofs.combination.image_from.Goals as goal

pub returns : goal.returns
unfolding image_from
returns c = rw (c.compute_edge_ratios-ratios.ensures, c.sort-edges.ensures)

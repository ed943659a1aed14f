use Rattle.pattern.proofs.ListsEqual.{same_six}
use Rattle.search_cache.specs.AngleArray.{angles_beside}
use Rattle.search_cache.proofs.angles.edge_angles.Goals as goal

pub returns : goal.returns
unfolding angles_beside
returns c =
    same_six
    c.known_or-ab.ensures
    c.known_or-ac.ensures
    c.known_or-ad.ensures
    c.known_or-bc.ensures
    c.known_or-bd.ensures
    c.known_or-cd.ensures

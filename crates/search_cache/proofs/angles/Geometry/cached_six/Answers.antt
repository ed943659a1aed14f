use Rattle.pattern.proofs.ListsEqual.{same_six}
use Rattle.search_cache.proofs.angles.Geometry.cached_six.Goals as goal

pub returns : goal.returns
returns c =
    same_six
    c.cached_at-ab.ensures
    c.cached_at-ac.ensures
    c.cached_at-ad.ensures
    c.cached_at-bc.ensures
    c.cached_at-bd.ensures
    c.cached_at-cd.ensures

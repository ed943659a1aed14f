use Rattle.search_cache.proofs.AngleArray.{six_right, still_same}
use Rattle.search_cache.proofs.angles.Geometry.six_angles.Goals as goal

pub returns-then-all_known : goal.returns-then-all_known
returns-then-all_known c =
    record { six = six_right c.args.self.now.numbers c.args.q c.requires.0 c.requires.1 _ c.cached_six-kept.ensures (c.all_known.ensures.known c.if-all_known.true); directions = still_same _ }

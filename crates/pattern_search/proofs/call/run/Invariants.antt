use mathlib.Core.Path.{◌≡◌}
use Prim.Native.Nat.{◌≤◌}
use Rattle.undivided_run.specs.CallInvariant.{continuing}
use Rattle.search_feed.specs.Lent.{data_in}
use Rattle.search_feed.specs.Feed.{feed}
use Rattle.fast_path.specs.ValidStars.{ValidBelow, known_count}
use Rattle.pattern_search.specs.Iteration.{Ready}
use Rattle.pattern_search.proofs.call.run.Given as goal

abbrev pub invariant-loop-reply : goal.invariant-loop-reply
invariant-loop-reply l =
    let D = data_in l.fitting.frame l.table in
    (continuing (feed D) l.fitting.frame.config.cap l.st l.a l.w ≡ continuing (feed D) l.fitting.frame.config.cap l.st l.allowance l.initial.w)
    × Ready D l.w l.cache
    × (l.a ≤ l.allowance)
    × ValidBelow l.table.stars.now (known_count l.known)

abbrev pub decreases-loop-reply : goal.decreases-loop-reply
decreases-loop-reply l =
    l.a

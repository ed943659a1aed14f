use mathlib.Core.Path.{◌≡◌}
use mathlib.Core.List.{List}
use Prim.Native.Nat.{ℕ, ◌-◌, ◌/◌, ◌≤◌}
use lib.ListN.{length}
use lib.Ieee.{Float}
use Rattle.undivided_run.specs.Step.{to_pass}
use Rattle.search_feed.specs.Data.{data_of}
use Rattle.search_feed.specs.Lent.{frame_in}
use Rattle.search_feed.specs.Feed.{feed}
use Rattle.search_step.specs.CacheAfter.{CacheAfter}
use Rattle.search_step.proofs.next_pass.to_pass.Given as goal

abbrev pub invariant-loop-i : goal.invariant-loop-i
invariant-loop-i l =
    (l.i ≤ length l.fitting.frame.passes.now / 3)
    × (l.n ≡ length l.fitting.frame.passes.now / 3)
    × ((w p : List ℕ) (x : List Float) → to_pass (feed (data_of (frame_in l.fitting.frame) l.slots w p x)) l.fitting.frame.config.cap (length l.fitting.frame.passes.now / 3 - l.i) l.i l.s l.tried ≡ to_pass (feed (data_of (frame_in l.fitting.frame) l.slots w p x)) l.fitting.frame.config.cap (length l.fitting.frame.passes.now / 3 - l.from) l.from l.initial.s l.tried)
    × CacheAfter (frame_in l.fitting.frame) l.initial.cache l.cache

-- The offsets of a sweep, one after another. The values of the sweep are those of these offsets (`pairs_are`). Definitions only.
use Rattle.std.specs.Prelude.{ℕ, zero, suc, cond, ◌&&◌, List, [], ◌∷◌, Float}
use Rattle.std.specs.Float.{binary32}
use Rattle.std.specs.Float.Ieee.{add, lt, le}
use Rattle.numeric.specs.Value.{pi32}
use Rattle.fov_sweep.specs.declared.SweepOffsets.{SweepOffsets}

-- At most k offsets from a first one on, as `pairs_from` takes them.
unfoldable pub offsets_from : ℕ → Float → Float → Float → Float → List Float
offsets_from zero estimate reach step offset = []
offsets_from (suc k) estimate reach step offset =
    cond (le offset reach && lt (add binary32 estimate offset) pi32)
    (offset ∷ cond (le (add binary32 offset step) offset) [] (offsets_from k estimate reach step (add binary32 offset step)))
    []

-- The offsets that an iterator over them has left.
abbrev pub offsets_left : SweepOffsets → List Float
offsets_left s = offsets_from s.left s.estimate s.reach s.step s.offset

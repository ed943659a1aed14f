-- The ends of the parts before i are found.
use Rattle.std.proofs.Common.{◌≡◌, ℕ, ◌<◌, length, get_or}
use lib.Ieee.{nan}
use Rattle.numeric.specs.KeyPart.{low_of, high_of}
use Rattle.pattern_keys.proofs.key_range.KeyRange.new.Given as goal

abbrev pub invariant-loop-i : goal.invariant-loop-i
invariant-loop-i l =
    record {
      lo_long : length l.lo ≡ 5;
      hi_long : length l.hi ≡ 5;
      ends : (k : ℕ) → k < l.i → (get_or l.lo k 0 ≡ low_of (get_or l.fn.r k nan) l.fn.e l.fn.bins) × (get_or l.hi k 0 ≡ high_of (get_or l.fn.r k nan) l.fn.e l.fn.bins);
    }

-- The set of the codes whose keys are in the ranges and never fall from left to right, where the lower ends never fall. Definitions only.
use Rattle.std.specs.Prelude.{ℕ, suc, Bool, cond, List, eqb, get_or}
use Rattle.std.specs.Int.Bits.{bit_and}

-- The set v where the test is false, and what v and mask have in common where it is true.
unfoldable pub masked : ℕ → Bool → ℕ → ℕ
masked v test mask = cond test (bit_and v mask) v

-- The set v, cut to the codes of mask where the range of part i has one value.
abbrev pub single : ℕ → List ℕ → List ℕ → ℕ → ℕ → ℕ
single i lo hi mask v = masked v (eqb (get_or lo i 0) (get_or hi i 0)) mask

-- The codes that are at the lower end in each part whose range has one value.
unfoldable pub ranged_of : List ℕ → List ℕ → ℕ
ranged_of lo hi =
    single 4 lo hi 0x55555555 (single 3 lo hi 0x33333333 (single 2 lo hi 0x0f0f0f0f (single 1 lo hi 0x00ff00ff (single 0 lo hi 0x0000ffff 0xffffffff))))

-- of v the codes of mask where parts i and i + 1 have the same lower end
abbrev pub level : ℕ → List ℕ → ℕ → ℕ → ℕ
level i lo mask v = masked v (eqb (get_or lo i 0) (get_or lo (suc i) 0)) mask

-- Those of these codes whose parts never fall. Where two neighbouring parts have the same lower end, the left part must not be above it while the
-- right part is at it.
unfoldable pub valid_of : List ℕ → List ℕ → ℕ
valid_of lo hi = level 3 lo 0xbbbbbbbb (level 2 lo 0xcfcfcfcf (level 1 lo 0xf0fff0ff (level 0 lo 0xff00ffff (ranged_of lo hi))))

-- What readers may rely on, written as a statement. proofs/ has its proof under the name given after it. Definitions only.
use Rattle.std.specs.Prelude.{◌≡◌, ℕ, ◌≤◌, ◌<◌, false, pos}
use Rattle.std.specs.Float.{fin, binary32}
use Rattle.std.specs.Float.Ieee.{mul, div}
use Rattle.numeric.specs.Value.{two32}
use Rattle.numeric.specs.KeyPart.{bins32}

-- The source's 16 / (2 · bins) is the same f32 as 8 / bins: `ceiling_as_the_source`.
abbrev pub CeilingAsTheSource : Type 0
CeilingAsTheSource = (bins : ℕ) → 0 < bins → bins ≤ 4096
    → div binary32 (fin false 1 (pos 4)) (mul binary32 two32 (bins32 bins)) ≡ div binary32 (fin false 1 (pos 3)) (bins32 bins)

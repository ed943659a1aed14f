-- The limits that question 5 of document 01 sets for each number of a pass. Definitions only.
use Rattle.std.specs.Prelude.{Bool, ◌&&◌, Float}
use Rattle.std.specs.Float.{binary32}
use Rattle.std.specs.Float.Ieee.{of_bits, neg, le, lt}
use Rattle.numeric.specs.Value.{zero32, one32, pi32}

-- Whether a field of view is "above 0 and below f32 pi".
unfoldable pub field_fits : Float → Bool
field_fits x = lt zero32 x && lt x pi32

-- Whether a pixel scale is "above 0 and at most 16".
unfoldable pub scale_fits : Float → Bool
scale_fits x = lt zero32 x && le x (of_bits binary32 0x4180_0000)

-- Whether a cosine is "from −1 to 1".
unfoldable pub cosine_fits : Float → Bool
cosine_fits x = le (neg one32) x && le x one32

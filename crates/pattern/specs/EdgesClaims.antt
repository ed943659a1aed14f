-- What callers rest on, as statements. The files of proofs/ prove each one under the name given in its comment. Definitions only.
use Rattle.std.specs.Prelude.{◌≡◌, List, length, Float}
use mathlib.Core.List.{Permᴰ}
use Rattle.numeric.specs.Value.{zero32, one32, pi32}
use Rattle.numeric.specs.Rising.{Rising, Between}
use Rattle.numeric.specs.Ratios.{Ratios}
use Rattle.pattern.specs.Edges.{angles, edges_of, ratios_of}
use Rattle.pattern.specs.Directions.{Directions}

-- The six edges rise, and each lies from 0 to the f32 nearest to pi, so it is finite and not negative. Proved as `edges_rise`.
abbrev pub EdgesRise : Type 0
EdgesRise = (v : List (List Float)) → Directions v → Rising (edges_of v) × Between zero32 pi32 (edges_of v) × (length (edges_of v) ≡ 6)

-- The edges are the six angles in another order, whatever the angles are. Proved as `edges_permuted`.
abbrev pub EdgesPermuted : Type 0
EdgesPermuted = (v : List (List Float)) → Permᴰ (edges_of v) (angles v)

-- The ratios of sorted edges rise within [0, 1]. Proved as `edge_ratios_rise`.
abbrev pub EdgeRatiosRise : Type 0
EdgeRatiosRise = (e : List Float) → length e ≡ 6 → Rising e → Between zero32 pi32 e → Rising (ratios_of e) × Between zero32 one32 (ratios_of e)

-- So the ratios of four directions have the property that the keys ask for. Proved as `directions_ratios`.
abbrev pub DirectionsRatios : Type 0
DirectionsRatios = (v : List (List Float)) → Directions v → Ratios (ratios_of (edges_of v))

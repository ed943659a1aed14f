use native.Mathlib.Omega.{arith}
use Rattle.search_cache.proofs.AnglePlaces.{place_inside}
use Rattle.search_cache.proofs.angles.Geometry.cached_at.Goals as goal

pub overflow_add-result : goal.overflow_add-result
overflow_add-result c = record { fits = omega (arith, c.row.ensures, place_inside c.args.i c.args.j c.requires.0 c.requires.1) }

pub offset_bounds-self-row : goal.offset_bounds-self-row
offset_bounds-self-row c = record { fits = omega (arith, c.row.ensures, place_inside c.args.i c.args.j c.requires.0 c.requires.1) }

pub bounds-self-row : goal.bounds-self-row
bounds-self-row c = omega (arith, c.row.ensures, place_inside c.args.i c.args.j c.requires.0 c.requires.1)

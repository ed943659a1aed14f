use native.Mathlib.Omega.{arith}
use native.Mathlib.Nat.{mul-le-mul}
use Prim.Native.Nat.{◌*◌, ◌≤◌}
use Rattle.search_cache.proofs.AnglePlaces.{row_is, square_room}
use Rattle.search_cache.proofs.angles.row.Goals as goal

pub overflow_mul-result : goal.overflow_mul-result
overflow_mul-result c = let s : c.args.j * c.args.j ≤ 64 * 64 = mul-le-mul c.requires c.requires in record { fits = omega (arith, s) }

pub overflow_sub-result : goal.overflow_sub-result
overflow_sub-result c = square_room c.args.j

pub overflow_add-result : goal.overflow_add-result
overflow_add-result c = let s : c.args.j * c.args.j ≤ 64 * 64 = mul-le-mul c.requires c.requires in record { fits = omega (arith, s) }

pub returns : goal.returns
returns c = row_is c.args.j

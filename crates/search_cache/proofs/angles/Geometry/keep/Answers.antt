use borrow.Author.Rules.{rules}
use native.Mathlib.Omega.{arith}
use Rattle.search_cache.proofs.AnglePlaces.{place_inside}
use Rattle.search_cache.proofs.AngleArray.{still_stored}
use Rattle.search_cache.proofs.angles.Geometry.keep.Goals as goal

pub overflow_add-at : goal.overflow_add-at
overflow_add-at c = record { fits = omega (arith, c.row.ensures, place_inside c.args.i c.args.j c.requires.0 c.requires.1) }

pub offset_bounds-self-at : goal.offset_bounds-self-at
offset_bounds-self-at c = record { fits = omega (arith, c.row.ensures, place_inside c.args.i c.args.j c.requires.0 c.requires.1) }

pub bounds-self-at : goal.bounds-self-at
bounds-self-at c = omega (arith, c.row.ensures, place_inside c.args.i c.args.j c.requires.0 c.requires.1)

pub returns : goal.returns
returns c = rw c.row.ensures (still_stored c.args.self.now.numbers c.args.i c.args.j c.args.w c.requires.0 c.requires.1 (search rules) c.requires.2)

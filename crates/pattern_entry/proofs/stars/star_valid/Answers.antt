use mathlib.Core.Path.{◌∙◌}
use native.Mathlib.Omega.{arith}
use borrow.Author.Tests.{le-ltb, lt-ltb}
use Rattle.std.proofs.Common.{rules, tests}
use Rattle.std.proofs.lemmas.Iterator.{YieldsList-from_slice}
use Rattle.std.proofs.lemmas.Iterator.Search.{all_from_yields_List}
use Rattle.pattern_entry.specs.Stars.{unit, star_valid}
use Rattle.pattern_entry.proofs.StarSlice.{three_units}
use Rattle.pattern_entry.proofs.stars.star_valid.Goals as goal

pub returns-then-k-n : goal.returns-then-k-n
unfolding star_valid
returns-then-k-n c =
    simp (lt-ltb _ _ c.if-k-n.true)
    (all_from_yields_List unit _ _ c.all.result c.all.ensures.ran (YieldsList-from_slice _ cc) (λ x b q k. search (rules, tests))
    ∙ three_units c.args.stars.now c.args.i.0 (omega arith))

pub returns-else-k-n : goal.returns-else-k-n
unfolding star_valid
returns-else-k-n c = simp (le-ltb _ _ c.if-k-n.false)

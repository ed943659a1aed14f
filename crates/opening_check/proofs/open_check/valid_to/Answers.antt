use Prim.Native.Nat.{ℕ, ◌/◌}
use lib.ListN.{length}
use mathlib.Core.Path.{refl, sym, ◌∙◌}
use native.Mathlib.Omega.{arith}
use Rattle.std.proofs.Common.{rules, tests}
use Rattle.std.proofs.lemmas.Iterator.{YieldsList-from_range}
use Rattle.std.proofs.lemmas.Iterator.Search.{all_from_yields_List}
use Rattle.pattern_entry.specs.Entry.{bytes_at}
use Rattle.pattern_entry.specs.Validity.{entry_valid}
use Rattle.pattern_entry.specs.ValidityShortcuts.{indices_below}
use Rattle.pattern_entry.proofs.Every.{every_is}
use Rattle.opening_check.specs.Shortcuts.{all_valid, all_below}
use Rattle.opening_check.proofs.OpenCheck.{below_all}
use Rattle.opening_check.proofs.open_check.valid_to.Goals as goal

pub returns-then-every_star_valid : goal.returns-then-every_star_valid
unfolding all_below
returns-then-every_star_valid c =
    let a = c.args in
    let test = λ (p : ℕ). indices_below (length a.stars.now / 3) (bytes_at a.packed.now p) in
    all_from_yields_List test _ _ c.all.result c.all.ensures.ran (YieldsList-from_range 0 a.n a.n refl (omega arith)) (λ x b q k. search (rules, tests))
    ∙ every_is test a.n
    ∙ below_all a.stars.now (sym c.every_star_valid.ensures ∙ c.if-every_star_valid.true) a.packed.now a.n c.requires.0

pub returns : goal.returns
unfolding all_valid
returns c =
    let a = c.args in
    let test = λ (p : ℕ). entry_valid a.stars.now (bytes_at a.packed.now p) in
    all_from_yields_List test _ _ c.all-2.result c.all-2.ensures.ran (YieldsList-from_range 0 a.n a.n refl (omega arith)) (λ x b q k. search (rules, tests))
    ∙ every_is test a.n

-- `fov_sweep::build_fov_sweep` meets its contract. Assumes nothing.
use mathlib.Core.Path.{◌∙◌, sym}
use borrow.Author.Tests.{not-true, not-false}
use Rattle.fov_sweep.proofs.Answers.{says_by}
use Rattle.fov_sweep.proofs.BuildFovSweep.{refused_12, refused_13, swept}
use Rattle.fov_sweep.proofs.build_fov_sweep.Goals as goal

pub returns-then-not-sweep_fits : goal.returns-then-not-sweep_fits
returns-then-not-sweep_fits c =
    let a = c.args in
    let h = refused_12 a.estimate a.error a.step a.out.now (sym c.sweep_fits.ensures ∙ not-true _ c.if-not-sweep_fits.true-raw) in
    record { swept = h; says = says_by a.estimate a.error a.step a.out.now _ _ h }

pub returns-then-n-out : goal.returns-then-n-out
returns-then-n-out c =
    let a = c.args in
    let h = refused_13 a.estimate a.error a.step a.out.now (sym c.sweep_fits.ensures ∙ not-false _ c.if-not-sweep_fits.false-raw) _ c.reach_of-reach.ensures _ c.count_values-n.ensures c.if-n-out.true in
    record { swept = h; says = says_by a.estimate a.error a.step a.out.now _ _ h }

pub returns : goal.returns
returns c =
    let a = c.args in
    let h = swept a.estimate a.error a.step a.out.now (sym c.sweep_fits.ensures ∙ not-false _ c.if-not-sweep_fits.false-raw) _ c.reach_of-reach.ensures _ c.count_values-n.ensures c.if-n-out.false _ c.write_values.ensures in
    record { swept = h; says = says_by a.estimate a.error a.step a.out.now _ _ h }

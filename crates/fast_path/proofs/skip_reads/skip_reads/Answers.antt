use mathlib.Core.Path.{refl, ◌∙◌}
use native.Mathlib.Omega.{arith}
use Rattle.fast_path.proofs.skip_reads.skip_reads.Goals as goal

pub loop-end-init : goal.loop-end-init
loop-end-init c = record { key = c.requires.0; probe = c.requires.2; same = refl }

pub skip_step-requires : goal.skip_step-requires
skip_step-requires c = let i = c.loop-end.invariant in (i.key, i.probe)

pub returns-in-Break : goal.returns-in-Break
returns-in-Break c = c.in-Break.ensures ∙ c.loop-end.invariant.same

pub loop-end-smaller : goal.loop-end-smaller
loop-end-smaller c = let o = c.in-Continue.ensures in omega (arith, o.later, o.exists)

pub loop-end-preserved : goal.loop-end-preserved
loop-end-preserved c = let o = c.in-Continue.ensures in let i = c.loop-end.invariant in record { key = o.exists; probe = omega (arith, i.probe); same = o.same ∙ i.same }

use mathlib.Core.Path.{refl, sym, ap, ◌∙◌}
use native.Mathlib.Omega.{arith}
use Rattle.undivided_run.specs.declared.state.Next.TheVariants.{Goes}
use Rattle.settings.proofs.PassLimits.{passes_fitting}
use Rattle.search_step.proofs.NextPass.{passes_end, passes_timeout, passes_first, passes_past}
use Rattle.search_cache.proofs.Loaded.{kept_64}
use Rattle.search_step.proofs.CacheAfter.{kept_same, kept_loaded}
use Rattle.search_step.proofs.next_pass.to_pass.Goals as goal

pub overflow_cast-n : goal.overflow_cast-n
overflow_cast-n c = omega (arith, (passes_fitting c.args.fitting.now.frame.passes.now c.args.fitting.now.fits.five).few)

pub loop-i-init : goal.loop-i-init
loop-i-init c = (c.requires.1, refl, λ w p x. refl, kept_same _ _ c.requires.0)

pub returns-then-reached : goal.returns-then-reached
returns-then-reached c = record { next = λ w p x. sym (passes_timeout _ _ w p x _ _ _ _ c.loop-i-test.true _ c.reached.ensures c.if-reached.true) ∙ c.loop-i.invariant.2 w p x; caches = c.loop-i.invariant.3 }

pub rebuild_pass-kept-requires : goal.rebuild_pass-kept-requires
rebuild_pass-kept-requires c = c.loop-i-test.true

pub start_pass-requires : goal.start_pass-requires
start_pass-requires c = omega (arith, c.rebuild_pass-kept.ensures.count, kept_64 _ _ _ c.rebuild_pass-kept.ensures.loaded)

pub returns-in-First : goal.returns-in-First
returns-in-First c = record { next = λ w p x. ap Goes c.first_of.ensures ∙ sym (passes_first _ _ w p x _ _ _ _ c.loop-i-test.true _ c.reached.ensures c.if-reached.false _ c.rebuild_pass-kept.ensures.count _ c.start_pass.ensures _ c.in-First.is) ∙ c.loop-i.invariant.2 w p x; caches = kept_loaded _ _ _ _ _ c.loop-i.invariant.3 c.rebuild_pass-kept.ensures.loaded (λ l _. c.rebuild_pass-kept.ensures.combination l) c.rebuild_pass-kept.ensures.hashes }

pub loop-i-preserved : goal.loop-i-preserved
loop-i-preserved c = (omega (arith, c.loop-i-test.true), refl, λ w p x. passes_past _ _ w p x _ _ _ _ c.loop-i-test.true _ c.reached.ensures c.if-reached.false _ c.rebuild_pass-kept.ensures.count _ c.start_pass.ensures _ c.in-Over.is ∙ c.loop-i.invariant.2 w p x, kept_loaded _ _ _ _ _ c.loop-i.invariant.3 c.rebuild_pass-kept.ensures.loaded (λ l _. c.rebuild_pass-kept.ensures.combination l) c.rebuild_pass-kept.ensures.hashes)

pub returns : goal.returns
returns c = record { next = λ w p x. sym (passes_end _ _ w p x _ _ _ _ c.loop-i-test.false) ∙ c.loop-i.invariant.2 w p x; caches = c.loop-i.invariant.3 }

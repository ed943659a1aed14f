use mathlib.Core.Path.{sym, ◌∙◌}
use native.Mathlib.Omega.{arith}
use Rattle.settings.proofs.PassLimits.{passes_fitting}
use Rattle.search_cache.proofs.Loaded.{loaded_pass, next_pass_inside}
use Rattle.search_step.proofs.CacheAfter.{kept_same}
use Rattle.search_step.proofs.NextRead.{four_follows, four_ends}
use Rattle.search_step.proofs.next_read.after_combination.Goals as goal

pub overflow_add-p : goal.overflow_add-p
overflow_add-p c =
    record { fits = omega (arith, c.requires.loaded.inside, (passes_fitting c.args.fitting.now.frame.passes.now c.args.fitting.now.fits.five).few) }

pub to_pass-requires : goal.to_pass-requires
to_pass-requires c = (loaded_pass _ _ _ c.requires.loaded, next_pass_inside _ _ _ c.requires.loaded)

pub returns-in-Some : goal.returns-in-Some
returns-in-Some c = record { next = λ w e x. c.to_combination.ensures ∙ sym (four_follows _ _ w e x _ _ _ _ _ c.requires.kept _ c.next.ensures _ c.in-Some.is); caches = kept_same _ _ (loaded_pass _ _ _ c.requires.loaded) }

pub returns-in-None : goal.returns-in-None
returns-in-None c = record { next = λ w e x. c.to_pass.ensures.next w e x ∙ sym (four_ends _ _ w e x _ _ _ _ _ c.requires.kept _ c.next.ensures c.in-None.is); caches = c.to_pass.ensures.caches }

use mathlib.Core.Path.{sym, ap, ◌∙◌}
use Rattle.search_cache.proofs.Loaded.{loaded_pass}
use Rattle.search_step.proofs.CacheAfter.{kept_same}
use Rattle.search_step.proofs.NextRead.{probe_follows, probes_end, probe_stops}
use Rattle.undivided_run.specs.declared.state.Next.TheVariants.{Goes}
use Rattle.search_step.proofs.next_read.after.Goals as goal
use Rattle.search_step.proofs.next_read.after.Goals.{else-full-via-then-full+else-p-slots, else-full-via-else-full}

pub returns-then-p-slots : goal.returns-then-p-slots
returns-then-p-slots c = record { next = λ w e x h. ap Goes c.next_probe.ensures ∙ sym (probe_follows _ _ w e x _ _ c.args.p _ h c.if-full.true c.if-p-slots.true); caches = kept_same _ _ (loaded_pass _ _ _ c.requires.loaded) }

pub returns : goal.returns
returns c = record { next = λ w e x h. c.after_key.ensures.next w e x ∙ sym (elim c.else-full.branch [ else-full-via-then-full+else-p-slots u ↦ probes_end _ _ w e x _ _ c.args.p _ h u.if-full.true u.if-p-slots.false | else-full-via-else-full u ↦ probe_stops _ _ w e x _ _ c.args.p _ h u.if-full.false ]); caches = c.after_key.ensures.caches }

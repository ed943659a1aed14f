use mathlib.Core.Path.{sym, ap, ◌∙◌}
use Rattle.search_cache.proofs.Loaded.{loaded_pass}
use Rattle.search_step.proofs.CacheAfter.{kept_same}
use Rattle.search_step.proofs.NextRead.{key_follows, key_ends}
use Rattle.undivided_run.specs.declared.state.Next.TheVariants.{Goes}
use Rattle.search_step.proofs.next_read.after_key.Goals as goal

pub returns-then-p-loaded : goal.returns-then-p-loaded
returns-then-p-loaded c = record { next = λ w e x. ap Goes c.next_key.ensures ∙ sym (key_follows _ _ w e x _ _ c.args.p _ c.requires.keys c.if-p-loaded.true); caches = kept_same _ _ (loaded_pass _ _ _ c.requires.loaded) }

pub returns : goal.returns
returns c = record { next = λ w e x. c.after_combination.ensures.next w e x ∙ sym (key_ends _ _ w e x _ _ c.args.p _ c.requires.keys c.if-p-loaded.false); caches = c.after_combination.ensures.caches }

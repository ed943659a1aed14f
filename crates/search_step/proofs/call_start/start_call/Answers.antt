use Rattle.search_step.proofs.CacheAfter.{kept_same}
use Rattle.search_step.proofs.CallStart.{begun_fresh, begun_ended, begun_at}
use Rattle.search_step.proofs.call_start.start_call.Goals as goal

pub returns-in-Fresh : goal.returns-in-Fresh
returns-in-Fresh c = record { next = λ w e x. begun_fresh _ _ w e x _ _ _ c.in-Fresh.is (c.to_pass.ensures.next w e x); caches = c.to_pass.ensures.caches }

pub returns-in-Ended : goal.returns-in-Ended
returns-in-Ended c = record { next = λ w e x. begun_ended _ _ w e x _ _ _ c.in-Ended.is; caches = kept_same _ _ c.requires }

pub returns-in-At : goal.returns-in-At
returns-in-At c = record { next = λ w e x. begun_at _ _ w e x _ _ _ c.in-At.is; caches = kept_same _ _ c.requires }

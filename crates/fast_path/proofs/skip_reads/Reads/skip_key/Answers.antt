use mathlib.Core.Path.{sym, subst, ◌∙◌}
use Prim.Native.Nat.{ℕ, ◌<◌}
use native.Mathlib.Omega.{arith}
use Rattle.search_feed.proofs.TableRead.{home_below}
use Rattle.fast_path.proofs.SkipStep.{key_stops, key_last, key_over, key_over_left}
use Rattle.fast_path.proofs.skip_reads.Reads.skip_key.Goals as goal

pub probe_chain-requires : goal.probe_chain-requires
probe_chain-requires c =
    let r = c.args.self.now in
    (subst (λ (h : ℕ). h < r.known.table.slots) (sym c.requires.2) (home_below _ r.known.table.slots (omega arith)), c.requires.1)

pub overflow_add-result : goal.overflow_add-result
overflow_add-result c = let l : c.in-Over.left < c.args.allowance = key_over_left c.args.self.now c.args.k c.args.probe c.args.allowance c.in-Over.probe c.in-Over.left (c.in-Over.ensures ∙ rw (c.requires.2, c.mark_of-mark.ensures)) in record { fits = omega arith }

pub returns-then-self-k : goal.returns-then-self-k
returns-then-self-k c = key_last c.args.self.now _ _ _ _ _ (c.in-Over.ensures ∙ rw (c.requires.2, c.mark_of-mark.ensures)) c.if-self-k.true

pub returns-in-Stops : goal.returns-in-Stops
returns-in-Stops c = key_stops c.args.self.now _ _ _ _ _ (c.in-Stops.ensures ∙ rw (c.requires.2, c.mark_of-mark.ensures))

pub returns-else-self-k : goal.returns-else-self-k
returns-else-self-k c = key_over c.args.self.now _ _ _ _ _ (c.in-Over.ensures ∙ rw (c.requires.2, c.mark_of-mark.ensures)) (omega arith)

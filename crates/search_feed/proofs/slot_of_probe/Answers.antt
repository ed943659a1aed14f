use mathlib.Core.Path.{◌∙◌, ap}
use Prim.Native.Nat.{ℕ, ◌+◌, ◌*◌, ◌%◌}
use native.Mathlib.Omega.{arith}
use Rattle.search_feed.proofs.TableRead.{home_below}
use Rattle.search_feed.proofs.slot_of_probe.Goals as goal

pub probe_slot-requires : goal.probe_slot-requires
probe_slot-requires c =
    let a = c.args in
    let h = home_below a.hash a.slots (omega arith) in
    (omega (arith, c.hash_to_index.ensures), omega arith, omega arith)

pub returns : goal.returns
returns c =
    let a = c.args in
    let e = c.hash_to_index.ensures in
    (c.probe_slot.ensures.0 ∙ ap (λ (h : ℕ). (h + a.c * a.c) % a.slots) e, c.probe_slot.ensures.1)

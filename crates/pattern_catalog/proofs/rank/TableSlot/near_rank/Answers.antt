use mathlib.Core.Path.{sym, ap, ap₂, ◌∙◌}
use Prim.Native.Nat.{◌+◌}
use native.Mathlib.Omega.{arith}
use Rattle.std.specs.Prelude.{Some}
use Rattle.pattern_catalog.proofs.SlotPlace.{rank_out, rank_in, near_place}
use Rattle.pattern_catalog.proofs.rank.TableSlot.near_rank.Goals as goal

pub returns-then-here-entries : goal.returns-then-here-entries
returns-then-here-entries c =
    let a = c.args in
    let p = c.requires in
    rank_out a.self.now.words.now a.self.now.slot a.entries (omega (arith, p.2, c.ones_below.ensures.0, near_place a.self.now.words.now a.self.now.slot a.from p.0 p.1, c.if-here-entries.true))

pub returns : goal.returns
returns c =
    let a = c.args in
    let p = c.requires in
    let here = ap₂ ◌+◌ p.2 c.ones_below.ensures.0 ∙ sym (near_place a.self.now.words.now a.self.now.slot a.from p.0 p.1) in
    ap Some here ∙ rank_in a.self.now.words.now a.self.now.slot a.entries (omega (arith, here, c.if-here-entries.false))

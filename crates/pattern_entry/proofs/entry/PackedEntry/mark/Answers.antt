use Prim.Native.Nat.{◌+◌, ◌*◌}
use mathlib.Core.Path.{◌≡◌, ◌∙◌}
use Rattle.std.proofs.Common.{rules}
use Rattle.pattern_entry.specs.Entry.{half_at}
use Rattle.pattern_entry.proofs.Bytes.{mark_is}
use Rattle.pattern_entry.proofs.entry.PackedEntry.mark.Goals as goal

pub returns : goal.returns
returns c =
    let a = c.args in
    let e : c.from_le_bytes.result ≡ half_at a.self.now.packed.now (a.self.now.place * 22 + 20) = search rules in
    e ∙ mark_is a.self.now.packed.now a.self.now.place

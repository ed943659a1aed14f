use Rattle.pattern_entry.proofs.Bytes.{part_is}
use Rattle.pattern_entry.proofs.entry.PackedEntry.bytes.Goals as goal

pub returns : goal.returns
returns c = part_is c.args.self.now.packed.now c.args.self.now.place

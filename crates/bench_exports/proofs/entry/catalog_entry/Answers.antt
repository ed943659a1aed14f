use mathlib.Core.Path.{ap, ◌∙◌}
use Rattle.pattern_entry.specs.Entry.{entry_read}
use Rattle.bench_exports.specs.Numbers.{raw_of}
use Rattle.bench_exports.proofs.entry.catalog_entry.Goals as goal

pub returns : goal.returns
returns c = c.from.ensures ∙ ap raw_of (c.read_packed.ensures ∙ ap entry_read c.entry_of.ensures.bytes)

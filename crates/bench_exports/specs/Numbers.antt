-- An entry as plain numbers. Definitions only.
use Rattle.std.specs.Prelude.{ℕ, List, get_or}
use Rattle.std.specs.Float.{binary32}
use Rattle.std.specs.Float.Ieee.{of_bits}
use Rattle.pattern_entry.specs.Entry.{star, word_at, mark_in}
use Rattle.pattern_entry.specs.declared.entry.PatternEntry.{PatternEntry}
use Rattle.bench_exports.specs.declared.entry.RawEntry.{RawEntry}

-- The numbers of the entry in a list of bytes, read little-endian.
abbrev pub raw_entry : List ℕ → RawEntry
raw_entry e = record {
  star0 = word_at e 0;
  star1 = word_at e 4;
  star2 = word_at e 8;
  star3 = word_at e 12;
  edge = of_bits binary32 (word_at e 16);
  mark = mark_in e;
}

-- The numbers of an entry that is read.
abbrev pub raw_of : PatternEntry → RawEntry
raw_of e = record {
  star0 = (get_or e.stars 0 (star 0)).0;
  star1 = (get_or e.stars 1 (star 0)).0;
  star2 = (get_or e.stars 2 (star 0)).0;
  star3 = (get_or e.stars 3 (star 0)).0;
  edge = e.edge;
  mark = e.mark;
}

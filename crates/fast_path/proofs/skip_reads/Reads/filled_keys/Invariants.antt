use Prim.Native.Nat.{◌+◌, ◌≤◌}
use mathlib.Core.Path.{◌≡◌}
use lib.ListN.{length, take}
use Rattle.fast_path.specs.SkipStep.{FilledKeys}
use Rattle.fast_path.proofs.skip_reads.Reads.filled_keys.Given as goal

abbrev pub invariant-loop-key : goal.invariant-loop-key
invariant-loop-key l = record { room : length l.found ≡ 16; few : l.from + l.m ≤ l.key; filled : FilledKeys l.self l.from l.key (take l.m l.found) }

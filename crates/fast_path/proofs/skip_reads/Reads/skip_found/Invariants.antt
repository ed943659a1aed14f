use mathlib.Core.Path.{◌≡◌}
use Prim.Native.Nat.{◌≤◌, ◌<◌}
use lib.ListN.{drop}
use Rattle.fast_path.specs.SkipStep.{skipped_from, FilledKeys}
use Rattle.fast_path.proofs.skip_reads.Reads.skip_found.Given as goal

abbrev pub invariant-loop-f : goal.invariant-loop-f
invariant-loop-f l =
    record {
      later : l.k ≤ l.at;
      exists : l.at < l.self.keys;
      fewer : l.left ≤ l.allowance;
      whole : l.at ≡ l.k → l.left ≡ l.allowance;
      passed : 0 < l.f-index → l.k < l.at;
      same : (0 < l.c → l.k < l.at) → skipped_from l.self l.at 0 l.left ≡ skipped_from l.self l.k l.c l.allowance;
      filled : FilledKeys l.self l.at l.end (drop l.f-index l.found);
    }

-- `square_root::pattern` meets its contract: n is m * 2 ^ (23 + e % 2), by cases on e % 2. Assumes nothing.
use mathlib.Core.Path.{refl, subst}
use Prim.Native.Nat.{ℕ, ◌%◌}
use native.Mathlib.Omega.{arith}
use Rattle.square_root.specs.Steps.{Nearest}
use Rattle.square_root.proofs.Values.{doubled}
use Rattle.square_root.proofs.pattern.Goals as goal

pub returns : goal.returns
returns c =
    let a = c.args in
    record {
      q = c.nearest-q.result;
      near = subst (λ (n : ℕ). Nearest n c.nearest-q.result) (doubled a.m (a.e % 2) (omega arith)) c.nearest-q.ensures;
      is = refl;
    }

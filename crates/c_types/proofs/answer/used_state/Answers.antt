use mathlib.Core.Path.{◌≡◌}
use native.Mathlib.Omega.{arith}
use borrow.Author.Tests.{ne_eqb}
use Rattle.c_types.proofs.answer.used_state.Goals as goal

-- With allowance 0 the state received is returned, and otherwise the new one.
pub returns-then-allowance-eq0 : goal.returns-then-allowance-eq0
returns-then-allowance-eq0 c = let z : c.args.allowance ≡ 0 = omega arith in rw z

pub returns-else-allowance-eq0 : goal.returns-else-allowance-eq0
returns-else-allowance-eq0 c = rw (ne_eqb c.args.allowance 0 (λ z. omega arith))

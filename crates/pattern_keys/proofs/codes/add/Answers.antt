use mathlib.Core.Path.{◌≡◌}
use native.Mathlib.Nat.{sub-zero}
use borrow.Author.Tests.{eq-eqb, ne_eqb}
use borrow.Author.Rules.{rules}
use Prim.Native.Nat.{◌+◌, ◌-◌}
use native.Mathlib.Omega.{arith}
use Rattle.pattern_keys.proofs.CodeList.{adding_yes, adding_no, adding_last}
use Rattle.pattern_keys.proofs.codes.add.Goals as goal
use Rattle.pattern_keys.proofs.codes.add.Goals.{then-valid-code-eq1, else-valid-code-eq1}

pub loop-init : goal.loop-init
loop-init c = record { whole = rw sub-zero; room = omega arith; long = search rules }

pub loop-preserved : goal.loop-preserved
loop-preserved c =
    let l = c.loop in
    let a = c.args in
    let fewer : a.count - (l.counter + 1) ≡ a.count - l.counter - 1 = omega arith in
    elim c.if-valid-code-eq1.branch [
      | then-valid-code-eq1 w ↦ rw (w.n-is, fewer) (adding_yes a.sums.now a.valid a.out.now l.out a.m l.n a.word a.count l.w (a.count - l.counter) l.invariant (omega arith) c.requires (eq-eqb _ _ w.if-valid-code-eq1.true))
      | else-valid-code-eq1 w ↦ rw (w.n-is, fewer) (adding_no a.sums.now a.valid a.out.now l.out a.m l.n a.word a.count l.w (a.count - l.counter) l.invariant (omega arith) c.requires (ne_eqb _ _ w.if-valid-code-eq1.false))
    ]

pub returns : goal.returns
returns c =
    let l = c.loop in
    let a = c.args in
    adding_last a.sums.now a.valid a.out.now l.out a.m l.n a.word a.count l.w (a.count - l.counter) l.invariant (omega arith) c.requires (search rules)

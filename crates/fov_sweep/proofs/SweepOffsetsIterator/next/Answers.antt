use native.Mathlib.Omega.{arith}
use Rattle.std.proofs.Common.{rules}
use Rattle.fov_sweep.proofs.OffsetList.{none_allowed, none_reached, none_below_pi, last_taken, next_taken}
use Rattle.fov_sweep.proofs.SweepOffsetsIterator.next.Goals as goal
use Rattle.fov_sweep.proofs.SweepOffsetsIterator.next.Goals.{then-self-offset, else-self-offset, then-self-eq0-via-then-self-eq0, then-self-eq0-via-else-self-eq0+then-not-offset-self, then-self-eq0-via-else-self-eq0+else-not-offset-self+then-not-self-offset}

pub returns-then-self-eq0-clause-steps : goal.returns-then-self-eq0-clause-steps
returns-then-self-eq0-clause-steps c =
    let s = c.args.self.now in (
      elim c.then-self-eq0.branch [
        | then-self-eq0-via-then-self-eq0 w ↦ rw w.if-self-eq0.true (none_allowed s.estimate s.reach s.step s.offset)
        | then-self-eq0-via-else-self-eq0+then-not-offset-self w ↦ none_reached s.estimate s.reach s.step s.offset s.left w.if-not-offset-self.true
        | then-self-eq0-via-else-self-eq0+else-not-offset-self+then-not-self-offset w ↦ none_below_pi s.estimate s.reach s.step s.offset s.left w.if-not-self-offset.true
      ],
      none_allowed s.estimate s.reach s.step s.offset,
    )

pub returns-clause-steps : goal.returns-clause-steps
returns-clause-steps c =
    let s = c.args.self.now in
    elim c.if-self-offset.branch [
      | then-self-offset w ↦ rw w.self-is (last_taken s.estimate s.reach s.step s.offset s.left (omega arith) c.if-not-offset-self.false c.if-not-self-offset.false w.if-self-offset.true)
      | else-self-offset w ↦ rw w.self-is (next_taken s.estimate s.reach s.step s.offset s.left (omega arith) c.if-not-offset-self.false c.if-not-self-offset.false w.if-self-offset.false)
    ]

pub returns-clause-goes : goal.returns-clause-goes
returns-clause-goes c = let h = returns-clause-steps c in search rules

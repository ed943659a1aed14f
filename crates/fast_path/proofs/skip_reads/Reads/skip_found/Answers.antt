use mathlib.Core.Path.{◌∙◌}
use native.Mathlib.Omega.{arith}
use Rattle.fast_path.proofs.FilledKeys.{next_filled, none_after}
use Rattle.fast_path.proofs.SkipStep.{short, past, reach, skip_last}
use Rattle.fast_path.proofs.skip_reads.Reads.skip_found.Goals as goal

pub overflow_sub-f : goal.overflow_sub-f
overflow_sub-f c = let n = next_filled c.args.self.now _ _ _ _ c.loop-f-test.true c.loop-f.invariant.filled in n.from

pub returns-in_default : goal.returns-in_default
returns-in_default c =
    let i = c.loop-f.invariant in
    let n = next_filled c.args.self.now _ _ _ _ c.loop-f-test.true i.filled in
    short c.args.self.now (omega arith) _ _ _ n.between (omega (arith, n.below)) (omega (arith, c.in_default.ensures)) ∙ i.same (λ h. let e = c.requires.4 h in omega (arith, e.0, n.below, i.later, c.in_default.ensures))

pub skip_key-requires : goal.skip_key-requires
skip_key-requires c =
    let n = next_filled c.args.self.now _ _ _ _ c.loop-f-test.true c.loop-f.invariant.filled in
    (omega arith, c.requires.2, n.home)

pub returns-in_err-left : goal.returns-in_err-left
returns-in_err-left c =
    let i = c.loop-f.invariant in
    let n = next_filled c.args.self.now _ _ _ _ c.loop-f-test.true i.filled in
    rw c.from_residual.ensures (c.in_err-left.ensures ∙ reach c.args.self.now (omega arith) c.args.k c.args.c c.args.allowance c.loop-f.at c.loop-f.left _ c.in-Some.over i.later n.from (omega arith) (λ h. let e = c.requires.4 h in omega (arith, e.0)) i.whole i.same n.between (omega (arith, c.in-Some.ensures.0, c.in-Some.ensures.1)))

pub loop-f-preserved : goal.loop-f-preserved
loop-f-preserved c =
    let i = c.loop-f.invariant in
    let n = next_filled c.args.self.now _ _ _ _ c.loop-f-test.true i.filled in
    let s = c.in_ok-left.ensures in
    record {
      later = omega (arith, s.later);
      exists = s.exists;
      fewer = omega (arith, s.fewer, i.fewer);
      whole = λ h. absurd (omega (arith, s.later));
      passed = λ h. omega (arith, s.later, n.from, i.later);
      same = λ h. s.same ∙ reach c.args.self.now (omega arith) c.args.k c.args.c c.args.allowance c.loop-f.at c.loop-f.left _ c.in-Some.over i.later n.from (omega arith) (λ h. let e = c.requires.4 h in omega (arith, e.0)) i.whole i.same n.between (omega (arith, c.in-Some.ensures.0, c.in-Some.ensures.1));
      filled = n.rest;
    }

pub overflow_sub-last : goal.overflow_sub-last
overflow_sub-last c =
    let n = none_after c.args.self.now _ _ _ _ c.loop-f-test.false c.loop-f.invariant.filled in
    omega arith

pub returns-in_default-checked_sub : goal.returns-in_default-checked_sub
returns-in_default-checked_sub c =
    let i = c.loop-f.invariant in
    let n = none_after c.args.self.now _ _ _ _ c.loop-f-test.false i.filled in
    short c.args.self.now (omega arith) c.loop-f.at c.min-last.result c.loop-f.left (λ q a b. n.1 q a (omega arith)) (omega arith) (omega (arith, c.in_default-checked_sub.ensures)) ∙ i.same (λ h. let e = c.requires.4 h in i.passed (omega (arith, e.1, c.loop-f-test.false)))

pub returns-then-end-self : goal.returns-then-end-self
returns-then-end-self c =
    let i = c.loop-f.invariant in
    let n = none_after c.args.self.now _ _ _ _ c.loop-f-test.false i.filled in
    record {
      later = c.requires.0;
      exists = c.if-end-self.true;
      fewer = omega (arith, i.fewer, c.in-Some-checked_sub.ensures.1);
      same = past c.args.self.now (omega arith) c.loop-f.at c.args.end c.loop-f.left n.1 (omega arith) c.in-Some-checked_sub.over (omega (arith, c.in-Some-checked_sub.ensures.0, c.in-Some-checked_sub.ensures.1)) n.0 ∙ i.same (λ h. let e = c.requires.4 h in i.passed (omega (arith, e.1, c.loop-f-test.false)));
    }

pub returns : goal.returns
returns c =
    let i = c.loop-f.invariant in
    let n = none_after c.args.self.now _ _ _ _ c.loop-f-test.false i.filled in
    skip_last c.args.self.now (omega arith) _ _ (n.1 _ (omega arith) (omega arith)) (omega arith) ∙ past c.args.self.now (omega arith) c.loop-f.at c.min-last.result c.loop-f.left (λ q a b. n.1 q a (omega arith)) (omega arith) c.in-Some-checked_sub.over (omega (arith, c.in-Some-checked_sub.ensures.0, c.in-Some-checked_sub.ensures.1)) (omega arith) ∙ i.same (λ h. let e = c.requires.4 h in i.passed (omega (arith, e.1, c.loop-f-test.false)))

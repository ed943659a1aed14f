use mathlib.Core.Path.{refl, sym, subst, ◌∙◌, ap}
use native.Mathlib.Omega.{arith}
use Rattle.fast_path.specs.ValidStars.{ValidBelow, known_count}
use Rattle.fast_path.specs.declared.valid_stars.ValidStars.{ValidStars}
use Rattle.fast_path.proofs.ValidStars.{known_below}
use Rattle.pattern_search.specs.Answers.{searched}
use Rattle.pattern_search.proofs.call.run.Goals as goal

pub loop-reply-init : goal.loop-reply-init
loop-reply-init c = (refl, c.requires.0, omega arith, λ i l. absurd (omega arith))

pub overflow_sub-allowance : goal.overflow_sub-allowance
overflow_sub-allowance c = omega (arith, c.loop-reply.invariant.2)

pub validate_stars-k-requires : goal.validate_stars-k-requires
validate_stars-k-requires c = c.requires.1

pub invariant_of-known_table : goal.invariant_of-known_table
invariant_of-known_table c =
    record {
      whole = c.loop-reply.invariant.1.table;
      below = rw c.count.ensures (subst (λ (k : ValidStars). ValidBelow c.args.table.now.stars.now (known_count k)) (sym c.validate_stars-k.ensures) (known_below _ _ _ c.loop-reply.invariant.3));
    }

pub iterate-requires : goal.iterate-requires
iterate-requires c = c.loop-reply.invariant.1

pub loop-reply-smaller : goal.loop-reply-smaller
loop-reply-smaller c = let t = c.in-Continue.ensures in omega (arith, t.0)

pub loop-reply-preserved : goal.loop-reply-preserved
loop-reply-preserved c =
    let t = c.in-Continue.ensures in
    let i = c.loop-reply.invariant in
    (t.1 ∙ i.0, t.2, omega (arith, t.0, i.2), subst (λ (k : ValidStars). ValidBelow c.args.table.now.stars.now (known_count k)) (sym c.validate_stars-k.ensures) (known_below _ _ _ i.3))

pub returns-in-Break : goal.returns-in-Break
returns-in-Break c = c.in-Break.ensures ∙ ap searched c.loop-reply.invariant.0

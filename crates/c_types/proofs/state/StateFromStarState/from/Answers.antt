use native.Mathlib.Omega.{arith}
use borrow.Author.Tests.{eq-eqb, ne_eqb}
use Rattle.c_types.specs.State.{state_of}
use Rattle.c_types.proofs.state.StateFromStarState.from.Goals as goal

pub returns-in-0 : goal.returns-in-0
unfolding state_of
returns-in-0 c = rw (eq-eqb _ _ c.in-0.is)

pub returns-in-1 : goal.returns-in-1
unfolding state_of
returns-in-1 c = rw (ne_eqb c.args.raw.phase 0 (λ e. omega arith), eq-eqb c.args.raw.phase 1 c.in-1.is, c.position_of.ensures)

pub returns-in-2 : goal.returns-in-2
unfolding state_of
returns-in-2 c = rw (ne_eqb c.args.raw.phase 0 (λ e. omega arith), ne_eqb c.args.raw.phase 1 (λ e. omega arith), eq-eqb c.args.raw.phase 2 c.in-2.is, c.ended_of.ensures)

pub returns-in_default : goal.returns-in_default
unfolding state_of
returns-in_default c = rw (ne_eqb c.args.raw.phase 0 (λ e. omega arith), ne_eqb c.args.raw.phase 1 (λ e. omega arith), ne_eqb c.args.raw.phase 2 (λ e. omega arith), c.unknown_state.ensures)

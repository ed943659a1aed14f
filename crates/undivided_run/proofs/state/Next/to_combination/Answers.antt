use mathlib.Core.Path.{sym, ◌∙◌}
use Rattle.undivided_run.specs.Moves.{to_combination}
use Rattle.undivided_run.proofs.state.Next.to_combination.Goals as goal

pub returns-then-reached : goal.returns-then-reached
unfolding to_combination
returns-then-reached c = simp (sym c.reached.ensures ∙ c.if-reached.true)

pub returns : goal.returns
unfolding to_combination
returns c = simp (c.first_of.ensures, sym c.reached.ensures ∙ c.if-reached.false)

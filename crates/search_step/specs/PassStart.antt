-- How a pass begins. Definitions only.
use Rattle.std.specs.Prelude.{ℕ, cond, ◌||◌, ltb}
use Rattle.combinations.specs.Successor.{first_combination}
use Rattle.undivided_run.specs.declared.state.Status.TheVariants.{TooFew, NoMatch}
use Rattle.undivided_run.specs.Undivided.{is_zero, cases}
use Rattle.search_step.specs.declared.pass_start.PassStart.{PassStart}
use Rattle.search_step.specs.declared.pass_start.PassStart.TheVariants.{First, Over}

-- How a pass begins that keeps n spots: with its first combination, or, where it makes no read, with its status.
unfoldable pub start_of_pass : ℕ → ℕ → ℕ → PassStart
start_of_pass n slots patterns =
    cond (ltb n 4) (Over TooFew)
    (cond (is_zero slots || is_zero patterns) (Over NoMatch) (cases (first_combination n) (Over NoMatch) First))

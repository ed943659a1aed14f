-- How a pass begins, test by test. Assumes nothing.
use mathlib.Core.Path.{◌≡◌}
use Prim.Native.Nat.{ℕ, ◌≤◌, ◌<◌}
use borrow.Author.Tests.{lt-ltb, le-ltb}
use Rattle.combinations.specs.declared.Combination.{Combination}
use Rattle.combinations.specs.Successor.{first_combination}
use Rattle.std.specs.Prelude.{Option, None, Some}
use Rattle.undivided_run.specs.declared.state.Status.TheVariants.{TooFew, NoMatch}
use Rattle.undivided_run.specs.Undivided.{cases}
use Rattle.undivided_run.proofs.Steps.{zero_is, zero_not}
use Rattle.search_step.specs.PassStart.{start_of_pass}
use Rattle.search_step.specs.declared.pass_start.PassStart.TheVariants.{First, Over}

module _ (n slots patterns : ℕ) where
  pub start_pass_few : n < 4 → Over TooFew ≡ start_of_pass n slots patterns
  unfolding start_of_pass
  start_pass_few h = rw (lt-ltb _ _ h)

  module _ (h : 4 ≤ n) where
    pub start_pass_no_slot : slots ≡ 0 → Over NoMatch ≡ start_of_pass n slots patterns
    unfolding start_of_pass
    start_pass_no_slot z = rw (le-ltb _ _ h, zero_is _ z)

    module _ (z : slots ≡ 0 → ⊥) where
      pub start_pass_no_pattern : patterns ≡ 0 → Over NoMatch ≡ start_of_pass n slots patterns
      unfolding start_of_pass
      start_pass_no_pattern p = rw (le-ltb _ _ h, zero_not _ z, zero_is _ p)

      module _ (p : patterns ≡ 0 → ⊥) (m : Option Combination) (e : m ≡ first_combination n) where
        pub start_pass_open : (q : Combination) → m ≡ Some q → First q ≡ start_of_pass n slots patterns
        unfolding start_of_pass cases
        start_pass_open q f = rw (le-ltb _ _ h, zero_not _ z, zero_not _ p, ← e, f)

        pub start_pass_none : m ≡ None → Over NoMatch ≡ start_of_pass n slots patterns
        unfolding start_of_pass cases
        start_pass_none f = rw (le-ltb _ _ h, zero_not _ z, zero_not _ p, ← e, f)

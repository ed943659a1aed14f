-- The ended state by what its status's number says. Assumes nothing.
use mathlib.Core.Path.{◌≡◌, refl, ap, ◌∙◌}
use Prim.Native.Nat.{ℕ}
use mathlib.Core.Bool.{Bool, true, false, cond}
use lib.Dec.{eqb}
use Rattle.std.specs.Prelude.{Option, Some, None}
use Rattle.undivided_run.specs.declared.state.State.{State}
use Rattle.undivided_run.specs.declared.state.Status.{Status}
use Rattle.undivided_run.specs.declared.state.Status.TheVariants.{TooFew, NoMatch, Timeout}
use Rattle.undivided_run.specs.declared.state.Phase.TheVariants.{Ended}
use Rattle.undivided_run.specs.Undivided.{cases}
use Rattle.undivided_run.specs.StatusNumber.{status_of}
use Rattle.c_types.specs.State.{ended_of, unknown}

module _ (n patterns reads : ℕ) where
  ended_in : Status → State
  ended_in s = record { phase = Ended s; patterns = patterns; reads = reads }

  ended_by : Option Status → State
  ended_by o = cases o unknown ended_in

  by : (a b c : Bool) → ended_by (cond a (Some TooFew) (cond b (Some NoMatch) (cond c (Some Timeout) None)))
      ≡ cond a (ended_in TooFew) (cond b (ended_in NoMatch) (cond c (ended_in Timeout) unknown))
  unfolding ended_by cases
  by true b c = refl
  by false true c = refl
  by false false true = refl
  by false false false = refl

  ended_is : ended_by (status_of n) ≡ ended_of n patterns reads
  unfolding ended_in ended_by ended_of status_of
  ended_is = by (eqb n 0) (eqb n 1) (eqb n 2)

  pub ended_known : (s : Status) → Some s ≡ status_of n → record { phase = Ended s; patterns = patterns; reads = reads } ≡ ended_of n patterns reads
  unfolding ended_in ended_by cases
  ended_known s e = ap ended_by e ∙ ended_is

  pub ended_unknown : ◌≡◌ {A = Option Status} None (status_of n) → unknown ≡ ended_of n patterns reads
  unfolding ended_by cases
  ended_unknown e = ap ended_by e ∙ ended_is

-- What the numbers of a state in C show of the state that they mean. Assumes nothing.
use mathlib.Core.Path.{◌≡◌, refl, sym, ap, ◌∙◌, subst}
use Prim.Native.Nat.{ℕ}
use native.Mathlib.Omega.{arith}
use mathlib.Core.Bool.{Bool, true, false, cond}
use mathlib.Core.Logic.{◌⊎◌, inl, inr}
use lib.Dec.{eqb}
use borrow.Author.Tests.{eqb-true}
use Rattle.undivided_run.specs.declared.state.State.{State}
use Rattle.undivided_run.specs.declared.state.Position.{Position}
use Rattle.undivided_run.specs.declared.state.Phase.{Phase}
use Rattle.undivided_run.specs.declared.state.Phase.TheVariants.{Fresh, At, Ended}
use Rattle.undivided_run.specs.declared.state.Status.{Status}
use Rattle.undivided_run.specs.declared.state.Status.TheVariants.{TooFew, NoMatch, Timeout}
use Rattle.c_types.specs.State.{position_of, unknown, ended_of, state_of}
use Rattle.undivided_run.specs.StatusNumber.{status_number}
use Rattle.c_types.specs.declared.structs.StarState.{StarState}

-- The number of a phase.
abbrev pub stage_number : Phase → ℕ
stage_number Fresh = 0
stage_number (At r) = 1
stage_number (Ended s) = 2

-- The numbers x show the state st: its counts, its phase, its status where it is ended, and its next read where it is at one.
pub record Shows (x : StarState) (st : State) : Type 0 where
  pub patterns : x.patterns ≡ st.patterns
  pub reads : x.reads ≡ st.reads
  pub phase : x.phase ≡ stage_number st.phase
  pub status : (s : Status) → st.phase ≡ Ended s → x.status ≡ status_number s
  pub place : (r : Position) → st.phase ≡ At r → position_of x ≡ r

module _ (x : StarState) where
  -- The numbers show the state st, or st is what a state with an unknown tag becomes.
  abbrev Known : State → Type 0
  Known st = (st ≡ unknown) ⊎ Shows x st

  fresh_known : (b : Bool) → eqb x.phase 0 ≡ b → (st : State) → Known st → Known (cond b (record { phase = Fresh; patterns = x.patterns; reads = x.reads }) st)
  fresh_known false e st k = k
  fresh_known true e st k =
      inr
      (record {
        patterns = refl;
        reads = refl;
        phase = eqb-true _ _ e;
        status = λ s f. absurd (let z : ◌≡◌ {A = ℕ} 0 1 = cc in omega arith);
        place = λ r f. absurd (let z : ◌≡◌ {A = ℕ} 0 1 = cc in omega arith);
      })

  at_known : (b : Bool) → eqb x.phase 1 ≡ b → (st : State) → Known st → Known (cond b (record { phase = At (position_of x); patterns = x.patterns; reads = x.reads }) st)
  at_known false e st k = k
  at_known true e st k =
      inr
      (record {
        patterns = refl;
        reads = refl;
        phase = eqb-true _ _ e;
        status = λ s f. absurd (let z : ◌≡◌ {A = ℕ} 0 1 = cc in omega arith);
        place = λ r f. cc;
      })

  -- Where the phase is 2, the test of the status number against n, the number of t, chooses between the state ended with t and a known one.
  status_known : x.phase ≡ 2 → (t : Status) (n : ℕ) → n ≡ status_number t → (b : Bool) → eqb x.status n ≡ b → (st : State) → Known st → Known (cond b (record { phase = Ended t; patterns = x.patterns; reads = x.reads }) st)
  status_known p t n ne false e st k = k
  status_known p t n ne true e st k =
      inr
      (record {
        patterns = refl;
        reads = refl;
        phase = p;
        status = λ s f. let z : t ≡ s = cc in eqb-true _ _ e ∙ ne ∙ ap status_number z;
        place = λ r f. absurd (let z : ◌≡◌ {A = ℕ} 0 1 = cc in omega arith);
      })

  ended_known : (b : Bool) → eqb x.phase 2 ≡ b → Known (cond b (ended_of x.status x.patterns x.reads) unknown)
  unfolding ended_of
  ended_known false e = inl refl
  ended_known true e =
      let p = eqb-true _ _ e in
      status_known p TooFew 0 refl _ refl _ (status_known p NoMatch 1 refl _ refl _ (status_known p Timeout 2 refl _ refl _ (inl refl)))

  known : Known (state_of x)
  unfolding state_of
  known = fresh_known _ refl _ (at_known _ refl _ (ended_known _ refl))

  -- The numbers show the state that they mean, unless it is what a state with an unknown tag becomes.
  pub shows : (st : State) → state_of x ≡ st → (st ≡ unknown → ⊥) → Shows x st
  shows st e n = by known
    where
      by : Known (state_of x) → Shows x st
      by (inl u) = absurd (n (sym e ∙ u))
      by (inr s) = subst (Shows x) e s

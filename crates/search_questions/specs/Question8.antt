-- Question 8 as a test. `eight_true` and `eight_holds` of proofs/Question8.antt say that it tests `Question8Holds`. Definitions only.
use Rattle.std.specs.Prelude.{ℕ, Bool, ◌&&◌, leb, ltb, eqb}
use Rattle.combinations.specs.declared.Combination.{Combination}
use Rattle.undivided_run.specs.declared.state.Position.{Position as Read}
use Rattle.undivided_run.specs.Undivided.{Feed}
use Rattle.undivided_run.specs.declared.state.Phase.{Phase as Stage}
use Rattle.undivided_run.specs.declared.state.Phase.TheVariants.{Fresh as new}
use Rattle.undivided_run.specs.declared.state.Phase.TheVariants.{At as at}
use Rattle.undivided_run.specs.declared.state.Phase.TheVariants.{Ended as done}
use Rattle.undivided_run.specs.declared.state.State.{State}

-- Whether the four positions of a combination rise and are below n.
unfoldable pub rises_below : ℕ → Combination → Bool
rises_below n q = ltb q.a q.b && (ltb q.b q.c && (ltb q.c q.d && ltb q.d n))

-- Whether the read r is at "pass, combination, key and probe numbers that exist here (none do with 0 slots or a pattern count of 0; the cap isn't
-- considered)".
unfoldable pub position_exists : {E C : Type 0} → Feed E C → Read → Bool
position_exists F r =
    ltb 0 F.patterns
    && (ltb r.pass F.passes
    && (rises_below (F.kept r.pass) r.four
    && (ltb r.key (F.keys r.pass r.four)
    && ltb r.probe F.slots)))

-- Whether the counts are "at most 162,656,256 patterns and 2^62 reads".
unfoldable pub within_counts : ℕ → ℕ → Bool
within_counts n m = leb n 162656256 && leb m 4611686018427387904

-- Question 8 of a state with this phase, n patterns and m reads: "A state is fresh (0 patterns and 0 reads counted, else it isn't fresh), ended
-- with its status, or at its next read".
unfoldable pub phase_fits : {E C : Type 0} → Feed E C → Stage → ℕ → ℕ → Bool
phase_fits F new n m = eqb n 0 && eqb m 0
phase_fits F (at r) n m = position_exists F r && within_counts n m
phase_fits F (done s) n m = within_counts n m

-- Question 8 of the state st.
abbrev pub state_fits : {E C : Type 0} → Feed E C → State → Bool
state_fits F st = phase_fits F st.phase st.patterns st.reads

-- The test of question 8 is true exactly where the state's numbers exist here and its counts are within the limits. Assumes nothing.
use mathlib.Core.Path.{◌≡◌, refl}
use Prim.Native.Nat.{ℕ, ◌≤◌, ◌<◌}
use native.Mathlib.Omega.{arith}
use mathlib.Core.Bool.{Bool, true, false, ◌&&◌}
use lib.Dec.{ltb, leb, eqb}
use borrow.Author.Tests.{ltb-true, leb-true, eqb-true, lt-ltb, le-leb, eq-eqb}
use Rattle.combinations.specs.declared.Combination.{Combination}
use Rattle.combinations.specs.Combinations.{Rising}
use Rattle.undivided_run.specs.declared.state.Position.{Position as Read}
use Rattle.undivided_run.specs.declared.state.Phase.{Phase as Stage}
use Rattle.undivided_run.specs.declared.state.Phase.TheVariants.{Fresh as new, At as at, Ended as done}
use Rattle.undivided_run.specs.Undivided.{Feed}
use Rattle.undivided_run.specs.PositionExists.{ReadExists}
use Rattle.undivided_run.specs.PositionExists.{Question8Holds}
use Rattle.search_questions.specs.Question8.{rises_below, position_exists, within_counts, phase_fits}

pub both : (a b : Bool) → a && b ≡ true → (a ≡ true) × (b ≡ true)
both true b h = (refl, h)
both false b h = absurd (let z : ◌≡◌ {A = ℕ} 0 1 = cc in omega arith)

pub rises_true : (n : ℕ) (q : Combination) → rises_below n q ≡ true → Rising n q
unfolding rises_below
rises_true n q h =
    let p1 = both (ltb q.a q.b) _ h in
    let p2 = both (ltb q.b q.c) _ p1.1 in
    let p3 = both (ltb q.c q.d) (ltb q.d n) p2.1 in
    record { ab = ltb-true _ _ p1.0; bc = ltb-true _ _ p2.0; cd = ltb-true _ _ p3.0; dn = ltb-true _ _ p3.1 }

pub rises_holds : (n : ℕ) (q : Combination) → Rising n q → rises_below n q ≡ true
unfolding rises_below
rises_holds n q h = rw (lt-ltb _ _ h.ab, lt-ltb _ _ h.bc, lt-ltb _ _ h.cd, lt-ltb _ _ h.dn)

pub within_true : (n m : ℕ) → within_counts n m ≡ true → (n ≤ 162656256) × (m ≤ 4611686018427387904)
unfolding within_counts
within_true n m h = let p = both (leb n 162656256) (leb m 4611686018427387904) h in (leb-true _ _ p.0, leb-true _ _ p.1)

module _ {E C : Type 0} (F : Feed E C) where
  pub here_true : (r : Read) → position_exists F r ≡ true → ReadExists F r
  unfolding position_exists
  here_true r h =
      let p1 = both (ltb 0 F.patterns) _ h in
      let p2 = both (ltb r.pass F.passes) _ p1.1 in
      let p3 = both (rises_below (F.kept r.pass) r.four) _ p2.1 in
      let p4 = both (ltb r.key (F.keys r.pass r.four)) (ltb r.probe F.slots) p3.1 in
      let probe : r.probe < F.slots = ltb-true _ _ p4.1 in
      record {
        four = record { pass = ltb-true _ _ p2.0; rising = rises_true _ _ p3.0; slots = omega (arith, probe); table = ltb-true _ _ p1.0 };
        key = ltb-true _ _ p4.0;
        probe = probe;
      }

  here_holds : (r : Read) → ReadExists F r → position_exists F r ≡ true
  unfolding position_exists
  here_holds r h =
      rw (
        lt-ltb _ _ h.four.table,
        lt-ltb _ _ h.four.pass,
        rises_holds _ _ h.four.rising,
        lt-ltb _ _ h.key,
        lt-ltb _ _ h.probe,
      )

  pub eight_true : (g : Stage) (n m : ℕ) → phase_fits F g n m ≡ true → Question8Holds F g n m
  unfolding phase_fits
  eight_true new n m h = let p = both (eqb n 0) (eqb m 0) h in (eqb-true _ _ p.0, eqb-true _ _ p.1)
  eight_true (at r) n m h = let p = both (position_exists F r) (within_counts n m) h in let q = within_true n m p.1 in (here_true r p.0, q.0, q.1)
  eight_true (done s) n m h = within_true n m h

  pub eight_holds : (g : Stage) (n m : ℕ) → Question8Holds F g n m → phase_fits F g n m ≡ true
  unfolding phase_fits within_counts
  eight_holds new n m h = rw (eq-eqb _ _ h.0, eq-eqb _ _ h.1)
  eight_holds (at r) n m h = rw (here_holds r h.0, le-leb _ _ h.1, le-leb _ _ h.2)
  eight_holds (done s) n m h = rw (le-leb _ _ h.0, le-leb _ _ h.1)

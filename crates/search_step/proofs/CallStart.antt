-- The read that a call begins with, or its end, by the phase of the state. Assumes nothing.
use mathlib.Core.Path.{◌≡◌, sym, ◌∙◌, ap}
use Prim.Native.Nat.{ℕ, ◌-◌, ◌/◌}
use native.Mathlib.Omega.{arith}
use mathlib.Core.List.{List}
use lib.ListN.{length}
use lib.Ieee.{Float}
use Rattle.undivided_run.specs.declared.state.Status.{Status}
use Rattle.undivided_run.specs.declared.state.Status.TheVariants.{NoMatch}
use Rattle.undivided_run.specs.Undivided.{Cap}
use Rattle.undivided_run.specs.declared.state.Position.{Position}
use Rattle.undivided_run.specs.declared.state.Next.{Next}
use Rattle.undivided_run.specs.declared.state.Next.TheVariants.{Goes, Ends}
use Rattle.undivided_run.specs.declared.state.Phase.{Phase}
use Rattle.undivided_run.specs.declared.state.Phase.TheVariants.{Fresh, At, Ended}
use Rattle.undivided_run.specs.Step.{to_pass, first_read, resume}
use Rattle.search_feed.specs.Data.{Frame, data_of}
use Rattle.search_feed.specs.Feed.{feed}

module _ (fr : Frame) (slots : ℕ) (w e : List ℕ) (x : List Float) (cap : Cap) (g : Phase) where
  abbrev begun : Next
  begun = resume (first_read (feed (data_of fr slots w e x)) cap) g

  pub begun_fresh : (y : Next) → g ≡ Fresh → y ≡ to_pass (feed (data_of fr slots w e x)) cap (length fr.passes / 3 - 0) 0 NoMatch 0 → y ≡ begun
  unfolding resume first_read feed
  begun_fresh y f h =
      let z : length fr.passes / 3 - 0 ≡ length fr.passes / 3 = omega arith in
      h ∙ ap (λ n. to_pass (feed (data_of fr slots w e x)) cap n 0 NoMatch 0) z ∙ sym (ap (resume (first_read (feed (data_of fr slots w e x)) cap)) f)

  pub begun_ended : (s : Status) → g ≡ Ended s → Ends s ≡ begun
  unfolding resume
  begun_ended s f = sym (ap (resume (first_read (feed (data_of fr slots w e x)) cap)) f)

  pub begun_at : (p : Position) → g ≡ At p → Goes p ≡ begun
  unfolding resume
  begun_at p f = sym (ap (resume (first_read (feed (data_of fr slots w e x)) cap)) f)

-- Question 8, by the tests that the code makes. Assumes nothing.
use mathlib.Core.Path.{◌≡◌}
use Prim.Native.Nat.{ℕ, ◌/◌, ◌≤◌, ◌<◌}
use native.Mathlib.Omega.{arith}
use mathlib.Core.Bool.{Bool, true, false}
use mathlib.Core.List.{List}
use lib.Dec.{ltb, eqb}
use lib.ListN.{length}
use lib.Ieee.{Float}
use borrow.Author.Tests.{lt-ltb, le-ltb, eq-eqb, ne_eqb}
use Rattle.undivided_run.specs.declared.state.Position.{Position}
use Rattle.undivided_run.specs.declared.state.Status.{Status}
use Rattle.undivided_run.specs.declared.state.Phase.{Phase}
use Rattle.undivided_run.specs.declared.state.Phase.TheVariants.{Fresh, At, Ended}
use Rattle.undivided_run.specs.Undivided.{Feed}
use Rattle.search_questions.specs.Question8.{rises_below, within_counts, position_exists, phase_fits}
use Rattle.search_feed.specs.Data.{Frame, data_of}
use Rattle.search_feed.specs.Image.{keys_in, kept_places, image_at}
use Rattle.search_feed.specs.Feed.{feed}

-- ---- Whether a position's numbers exist here.
module _ (F : Frame) (slots : ℕ) (p : Position) (w e : List ℕ) (s : List Float) where
  abbrev here : Bool
  here = position_exists (feed (data_of F slots w e s)) p

  pub no_pattern : F.config.patterns ≡ 0 → false ≡ here
  unfolding position_exists feed
  no_pattern h = rw (le-ltb 0 F.config.patterns (omega (arith, h)))

  module _ (h1 : F.config.patterns ≡ 0 → ⊥) where
    some_pattern : ltb 0 F.config.patterns ≡ true
    some_pattern = lt-ltb 0 F.config.patterns (omega (arith, h1))

    pub no_pass : length F.passes / 3 ≤ p.pass → false ≡ here
    unfolding position_exists feed
    no_pass h = rw (some_pattern, le-ltb _ _ h)

    module _ (h2 : p.pass < length F.passes / 3) (k : ℕ) (ke : k ≡ length (kept_places F p.pass)) where
      pub no_rise : rises_below k p.four ≡ false → false ≡ here
      unfolding position_exists feed
      no_rise h = rw (some_pattern, lt-ltb _ _ h2, ← ke, h)

      module _ (h3 : rises_below k p.four ≡ true) (j : ℕ) (je : j ≡ length (keys_in F.config (image_at F p.pass p.four))) where
        pub no_key : j ≤ p.key → false ≡ here
        unfolding position_exists feed
        no_key h = rw (some_pattern, lt-ltb _ _ h2, ← ke, h3, ← je, le-ltb _ _ h)

        pub by_probe : p.key < j → ltb p.probe slots ≡ here
        unfolding position_exists feed
        by_probe h = rw (some_pattern, lt-ltb _ _ h2, ← ke, h3, ← je, lt-ltb _ _ h)

-- ---- Question 8, by the phase.
module _ {E C : Type 0} (F : Feed E C) (g : Phase) (n m : ℕ) where
  abbrev fits : Bool
  fits = phase_fits F g n m

  pub fresh_counted : g ≡ Fresh → (n ≡ 0 → ⊥) → false ≡ fits
  unfolding phase_fits
  fresh_counted e h = rw (e, ne_eqb _ _ h)

  pub fresh_by_reads : g ≡ Fresh → n ≡ 0 → eqb m 0 ≡ fits
  unfolding phase_fits
  fresh_by_reads e h = rw (e, eq-eqb _ _ h)

  pub ended_by_counts : (s : Status) → g ≡ Ended s → (b : Bool) → b ≡ within_counts n m → b ≡ fits
  unfolding phase_fits
  ended_by_counts s e b be = rw e be

  module _ (p : Position) (e : g ≡ At p) (c : Bool) (ce : c ≡ position_exists F p) where
    pub at_not : c ≡ false → false ≡ fits
    unfolding phase_fits
    at_not h = rw (e, ← ce, h)

    pub at_by_counts : c ≡ true → (b : Bool) → b ≡ within_counts n m → b ≡ fits
    unfolding phase_fits
    at_by_counts h b be = rw (e, ← ce, h) be

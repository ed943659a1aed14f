-- The read after a read, of the search's own feed. Assumes nothing.
use mathlib.Core.Path.{◌≡◌}
use Prim.Native.Nat.{ℕ, ◌+◌, ◌-◌, ◌/◌, ◌≤◌, ◌<◌}
use mathlib.Core.List.{List}
use lib.ListN.{length}
use lib.Ieee.{Float}
use mathlib.Core.Bool.{Bool, true, false}
use Rattle.combinations.specs.declared.Combination.{Combination}
use Rattle.combinations.specs.Successor.{next_combination}
use Rattle.std.specs.Prelude.{Option, None, Some}
use Rattle.undivided_run.specs.declared.state.Status.TheVariants.{NoMatch}
use Rattle.undivided_run.specs.Undivided.{Cap}
use Rattle.undivided_run.specs.declared.state.Position.{Position}
use Rattle.undivided_run.specs.declared.state.Next.{Next}
use Rattle.undivided_run.specs.declared.state.Next.TheVariants.{Goes}
use Rattle.undivided_run.specs.Undivided.{filled}
use Rattle.undivided_run.specs.Step.{to_pass, after_combination, after_key, next_read}
use Rattle.undivided_run.specs.Moves.{probed, keyed, to_combination}
use Rattle.undivided_run.proofs.Steps.{four_more, four_last, key_more, key_last, probe_more, probe_last, probe_empty}
use Rattle.search_feed.specs.Data.{Frame, data_of}
use Rattle.search_feed.specs.Image.{keys_in, kept_places, image_at}
use Rattle.search_feed.specs.Feed.{feed}

module _ (fr : Frame) (slots : ℕ) (w e : List ℕ) (x : List Float) (cap : Cap) (tried : ℕ) where
  -- after the last read of a combination
  module _ (i : ℕ) (q : Combination) (k : ℕ) (ke : k ≡ length (kept_places fr i)) (m : Option Combination) (me : m ≡ next_combination k q) where
    pub four_follows : (p : Combination) → m ≡ Some p → after_combination (feed (data_of fr slots w e x)) cap i q tried ≡ to_combination cap tried i p
    unfolding feed
    four_follows p o = four_more (feed (data_of fr slots w e x)) cap tried i q k ke m me p o

    pub four_ends : m ≡ None → after_combination (feed (data_of fr slots w e x)) cap i q tried ≡ to_pass (feed (data_of fr slots w e x)) cap (length fr.passes / 3 - (i + 1)) (i + 1) NoMatch tried
    unfolding feed
    four_ends o = four_last (feed (data_of fr slots w e x)) cap tried i q k ke m me o

  module _ (r : Position) where
    -- after the last read of a key
    abbrev past : Next
    past = after_key (feed (data_of fr slots w e x)) cap r.pass r.four r.key tried

    module _ (k : ℕ) (ke : k ≡ length (keys_in fr.config (image_at fr r.pass r.four))) where
      pub key_follows : r.key + 1 < k → past ≡ Goes (keyed r)
      unfolding feed
      key_follows h = key_more (feed (data_of fr slots w e x)) cap tried r k ke h

      pub key_ends : k ≤ r.key + 1 → past ≡ after_combination (feed (data_of fr slots w e x)) cap r.pass r.four tried
      unfolding feed
      key_ends h = key_last (feed (data_of fr slots w e x)) cap tried r k ke h

    -- after any read
    module _ (b : Bool) (be : b ≡ filled (feed (data_of fr slots w e x)) r) where
      pub probe_follows : b ≡ true → r.probe + 1 < slots → next_read (feed (data_of fr slots w e x)) cap r tried ≡ Goes (probed r)
      unfolding feed
      probe_follows f h = probe_more (feed (data_of fr slots w e x)) cap tried r b be f h

      pub probes_end : b ≡ true → slots ≤ r.probe + 1 → next_read (feed (data_of fr slots w e x)) cap r tried ≡ past
      unfolding feed
      probes_end f h = probe_last (feed (data_of fr slots w e x)) cap tried r b be f h

      pub probe_stops : b ≡ false → next_read (feed (data_of fr slots w e x)) cap r tried ≡ past
      probe_stops f = probe_empty (feed (data_of fr slots w e x)) cap tried r b be f

-- What holds of a call between two reads: its next read exists, and few enough reads are left for the counts to stay in range. Definitions only.
use Rattle.std.specs.Prelude.{ℕ, ◌+◌, ◌≤◌, List, length}
use Rattle.undivided_run.specs.Undivided.{Status, Read, Feed, Cap, gives}
use Rattle.undivided_run.specs.Calls.{Answer}
use Rattle.undivided_run.specs.Step.{Next, goes, ends, State, Traverses, count_tried, go, valid_at, next_read}
use Rattle.undivided_run.specs.PositionExists.{ReadExists}
use Rattle.undivided_run.specs.declared.state.Cursor.{Cursor}

module _ {E C : Type 0} (F : Feed E C) where
  -- The numbers of the next read exist here, where the run has a next read.
  abbrev pub NextExists : Next → Type 0
  NextExists (goes r) = ReadExists F r
  NextExists (ends s) = Unit {0}

  module _ (cap : Cap) where
    -- Where w is next, and n combinations and m reads are counted, some list of reads is left, and counting all of them takes neither count past 2^63.
    pub record Room (w : Next) (n m : ℕ) : Type 0 where
      -- The reads that are left.
      pub reads : List Read
      -- The status that ends the run after them.
      pub status : Status
      -- The successor of reads gives exactly these reads and this status.
      pub traverses : Traverses (next_read F cap) w n reads status
      -- The reads counted, with those left, are at most 2^63.
      pub counted : m + length reads ≤ 9223372036854775808
      -- The combinations counted, with one for each read left, are below 2^63.
      pub tried : n + length reads ≤ 9223372036854775807

    -- What holds of a cursor between two reads of a call.
    pub record CallInvariant (w : Cursor) : Type 0 where
      pub here : NextExists w.next
      pub room : Room w.next w.patterns w.reads

    -- What a call answers from here on and the state that it leaves: st is the state received, a the number of reads still allowed.
    abbrev pub continuing : State → ℕ → Cursor → Answer C × State
    continuing st a w = go (gives F) (valid_at F) (next_read F cap) st a w.next w.patterns w.reads

    -- The cursor after the read r, where w is the cursor before it.
    abbrev pub after_read : Cursor → Read → Cursor
    after_read w r = record { next = next_read F cap r (count_tried r w.patterns); patterns = count_tried r w.patterns; reads = w.reads + 1 }

-- What one iteration of a search call returns, and what holds of the call between two iterations. Definitions only.
use Rattle.std.specs.Prelude.{◌≡◌, ℕ, ◌+◌, ◌-◌, ◌<◌, Bool, true, false, cond, eqb, Ok}
use Rattle.std.specs.declared.ops.ControlFlow.{ControlFlow}
use Rattle.std.specs.declared.ops.ControlFlow.TheVariants.{Continue, Break}
use Rattle.pattern_catalog.specs.Blocks.{table_fits}
use Rattle.undivided_run.specs.declared.state.Position.{Position}
use Rattle.undivided_run.specs.declared.state.State.{State}
use Rattle.undivided_run.specs.declared.state.Cursor.{Cursor}
use Rattle.undivided_run.specs.declared.state.Next.TheVariants.{Goes as goes}
use Rattle.undivided_run.specs.Step.{phase_of, count_tried}
use Rattle.undivided_run.specs.CallInvariant.{CallInvariant, continuing}
use Rattle.search_feed.specs.Data.{Data}
use Rattle.search_feed.specs.Feed.{feed}
use Rattle.search_cache.specs.Cache.{PassCacheValid, CombinationCacheValid}
use Rattle.search_feed.specs.Claims.{FrameFits}
use Rattle.search_cache.specs.declared.pass.Cache.{Cache}
use Rattle.search_feed.specs.declared.ReadOutcome.{ReadOutcome}
use Rattle.search_feed.specs.declared.ReadOutcome.TheVariants.{Empty, Passed, Found}
use Rattle.undivided_run.specs.Moves.{at_key}
use Rattle.fast_path.specs.declared.skip_reads.SkipResult.{SkipResult}
use Rattle.pattern_search.specs.Answers.{searched}
use Rattle.pattern_search.specs.declared.Searched.{Searched}
use Rattle.pattern_search.specs.declared.Answer.TheVariants.{Candidate as SaidCandidate}

-- Whether the slot of a read with this outcome is filled.
abbrev pub saw_entry : ReadOutcome → Bool
saw_entry Empty = false
saw_entry Passed = true
saw_entry (Found x) = true

-- The iteration of a read with this outcome, where w is the cursor after the read.
abbrev pub iteration_after : ReadOutcome → Cursor → ℕ → ControlFlow Searched (Cursor × ℕ)
iteration_after (Found x) w left = Break (record { answer = Ok (SaidCandidate x); state = record { phase = phase_of w.next; patterns = w.patterns; reads = w.reads } })
iteration_after Empty w left = Continue (w, left)
iteration_after Passed w left = Continue (w, left)

-- The cursor after the reads that `fast_path` skipped, where w is the cursor before them, p its read, and a the reads allowed before them.
abbrev pub cursor_after_skip : Cursor → Position → SkipResult → ℕ → Cursor
cursor_after_skip w p s a = cond (eqb s.left a) w (record { next = goes (at_key p s.key s.probe); patterns = count_tried p w.patterns; reads = w.reads + (a - s.left) })

module _ (D : Data) where
  -- What holds of a call between two reads: questions 1 to 6 are answered yes, the call's invariant holds, and the cache holds what it says.
  pub record Ready (w : Cursor) (h : Cache) : Type 0 where
    -- Questions 1 to 5 are answered yes.
    pub asked : FrameFits D.frame
    -- Question 6 is answered yes.
    pub table : table_fits D.slots D.words ≡ true
    pub good : CallInvariant (feed D) D.frame.config.cap w
    pub pass : PassCacheValid D.frame h
    -- The array of the combination holds what the cache says.
    pub four : CombinationCacheValid D.frame h

  -- What the call returns from the cursor w on, where st is the state received and a the reads still allowed.
  abbrev pub rest : State → ℕ → Cursor → Searched
  rest st a w = searched (continuing (feed D) D.frame.config.cap st a w)

  -- What an iteration ensures that leaves the cache h. If it ends the call, its reply is the call's reply; if not, fewer reads are allowed, the rest
  -- of the call is the same, and the call is ready to go on.
  abbrev pub Iterated : State → ℕ → Cursor → Cache → ControlFlow Searched (Cursor × ℕ) → Type 0
  Iterated st a w h (Break reply) = reply ≡ rest st a w
  Iterated st a w h (Continue (v, left)) =
      (left < a) × (continuing (feed D) D.frame.config.cap st left v ≡ continuing (feed D) D.frame.config.cap st a w) × Ready v h

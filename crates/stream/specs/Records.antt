-- The meaning of the records of a replay stream: what each kind sets and asks for. The table of kinds is at the head of Words.antt. Definitions only.
use Rattle.std.specs.Prelude.{ℕ, cond, eqb, Float, Option, Some, None, slice_index}
use Rattle.std.specs.Float.{binary32}
use Rattle.std.specs.Float.Ieee.{of_bits}
use Rattle.stream.specs.Words.{Words, long_of}
use Rattle.settings.specs.declared.tolerance.Tolerance.{Tolerance}
use Rattle.settings.specs.declared.tolerance.Tolerance.TheVariants.{Given, Absent}
use Rattle.undivided_run.specs.Undivided.{Cap, cases}
use Rattle.undivided_run.specs.StatusNumber.{status_of}
use Rattle.undivided_run.specs.Step.{start}
use Rattle.undivided_run.specs.declared.state.Phase.{Phase}
use Rattle.undivided_run.specs.declared.state.Phase.TheVariants.{Fresh, At, Ended}
use Rattle.undivided_run.specs.declared.state.Position.{Position}
use Rattle.undivided_run.specs.declared.state.State.{State}
use Rattle.search_feed.specs.declared.SearchConfig.{SearchConfig}
use Rattle.stream.specs.declared.records.Inputs.{Inputs}
use Rattle.stream.specs.declared.records.Record.{Record}
use Rattle.stream.specs.declared.records.Request.{Request}
use Rattle.stream.specs.declared.records.Request.TheVariants.{Call, Run, Open, Slot, Sweep, Complete}

-- The f32 whose bits a word holds.
abbrev pub float_of : ℕ → Float
float_of bits = of_bits binary32 bits

-- An option, which is absent where its first word is 0.
unfoldable pub option_of : ℕ → ℕ → Tolerance
option_of present bits = cond (eqb present 0) Absent (Given (float_of bits))

-- The cap, which is absent where its first word is 0.
unfoldable pub cap_of : ℕ → ℕ → ℕ → Cap
cap_of present low high = cond (eqb present 0) None (Some (long_of low high))

-- The settings of a payload of kind 3.
unfoldable pub config_of : Words → SearchConfig
config_of w =
    record {
      bins = slice_index w 0;
      checking = slice_index w 1;
      error = float_of (slice_index w 2);
      radius = float_of (slice_index w 3);
      matching = option_of (slice_index w 4) (slice_index w 5);
      fov = option_of (slice_index w 6) (slice_index w 7);
      cap = cap_of (slice_index w 8) (slice_index w 9) (slice_index w 10);
      patterns = long_of (slice_index w 11) (slice_index w 12);
    }

-- The state in a phase, with the counts of a payload of kind 5.
unfoldable pub state_in : Phase → Words → State
state_in phase w = record { phase = phase; patterns = long_of (slice_index w 9) (slice_index w 10); reads = long_of (slice_index w 11) (slice_index w 12) }

-- The next read that a payload of kind 5 names.
unfoldable pub position_of : Words → Position
position_of w =
    record {
      pass = slice_index w 2;
      four = record { a = slice_index w 3; b = slice_index w 4; c = slice_index w 5; d = slice_index w 6 };
      key = slice_index w 7;
      probe = slice_index w 8;
    }

-- The ended state of a payload of kind 5, by the number of its status; none where that is unknown.
abbrev pub ended_of : ℕ → Words → Option State
ended_of status w = cases (status_of status) None λ s. Some (state_in (Ended s) w)

-- The state of a payload of kind 5, by the number of its phase; none where that or its status is unknown.
unfoldable pub state_of : ℕ → Words → Option State
state_of phase w =
    cond (eqb phase 0) (Some (state_in Fresh w))
    (cond (eqb phase 1) (ended_of (slice_index w 1) w)
    (cond (eqb phase 2) (Some (state_in (At (position_of w)) w))
    None))

-- The inputs at the start: all parts are empty, and the state is fresh.
unfoldable pub at_start : Inputs
at_start =
    record {
      table = record { slots = 0; words = 0; packed = 0; stars = 0 };
      frame = record { centroids = 0; order = 0; passes = 0 };
      config =
          record {
            bins = 0;
            checking = 0;
            error = of_bits binary32 0;
            radius = of_bits binary32 0;
            matching = Absent;
            fov = Absent;
            cap = None;
            patterns = 0;
          };
      state = start;
    }

-- The inputs with the table that a payload of kind 1 describes in the place of the one before.
unfoldable pub with_table : Words → Inputs → Inputs
with_table w d =
    record {
      table = record { slots = slice_index w 0; words = slice_index w 1; packed = slice_index w 2; stars = slice_index w 3 };
      frame = d.frame;
      config = d.config;
      state = d.state;
    }

-- The inputs with the frame that a payload of kind 2 describes in the place of the one before.
unfoldable pub with_frame : Words → Inputs → Inputs
with_frame w d =
    record {
      table = d.table;
      frame = record { centroids = slice_index w 0; order = slice_index w 1; passes = slice_index w 2 };
      config = d.config;
      state = d.state;
    }

-- The inputs with other settings.
unfoldable pub with_config : SearchConfig → Inputs → Inputs
with_config s d = record { table = d.table; frame = d.frame; config = s; state = d.state }

-- The inputs with another state.
unfoldable pub with_state : State → Inputs → Inputs
with_state s d = record { table = d.table; frame = d.frame; config = d.config; state = s }

-- The inputs after a record of any kind but 5.
unfoldable pub inputs_after : ℕ → Words → Inputs → Inputs
inputs_after kind w d =
    cond (eqb kind 1) (with_table w d)
    (cond (eqb kind 2) (with_frame w d)
    (cond (eqb kind 3) (with_config (config_of w) d)
    (cond (eqb kind 4) (with_state start d)
    d)))

-- What a record of any kind but 5 asks for: `Some None` for one that sets something and so asks for nothing, none where its kind is unknown.
unfoldable pub request_of : ℕ → Words → Option (Option Request)
request_of kind w =
    cond (eqb kind 1) (Some None)
    (cond (eqb kind 2) (Some None)
    (cond (eqb kind 3) (Some None)
    (cond (eqb kind 4) (Some None)
    (cond (eqb kind 6) (Some (Some (Call (long_of (slice_index w 0) (slice_index w 1)))))
    (cond (eqb kind 7) (Some (Some (Run (long_of (slice_index w 0) (slice_index w 1)))))
    (cond (eqb kind 8) (Some (Some Open))
    (cond (eqb kind 9) (Some (Some (Slot (long_of (slice_index w 0) (slice_index w 1)))))
    (cond (eqb kind 10) (Some (Some Sweep))
    (cond (eqb kind 11) (Some (Some Complete))
    None)))))))))

-- The effect of a state record, kind 5, given the state that it names; none where its phase or status is unknown, since it can't be read then.
abbrev pub state_taken : Option State → Words → Inputs → Option Record
state_taken (Some s) w d = Some (record { request = None; words = w; inputs = with_state s d })
state_taken None w d = None

-- The effect of a state record whose payload begins with the words w.
abbrev pub state_record : Words → Inputs → Option Record
state_record w d = state_taken (state_of (slice_index w 0) w) w d

-- The effect of a record that leaves these inputs, given what `request_of` says of it; none where its kind is unknown, since it can't be read then.
abbrev pub effect : Option (Option Request) → Words → Inputs → Option Record
effect (Some r) w d = Some (record { request = r; words = w; inputs = d })
effect None w d = None

-- The effect of a record of this kind whose payload begins with the words w, given the inputs before it; none where it can't be read.
unfoldable pub record_of : ℕ → Words → Inputs → Option Record
record_of kind w d = cond (eqb kind 5) (state_record w d) (effect (request_of kind w) w (inputs_after kind w d))

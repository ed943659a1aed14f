-- The kinds of records by their numbers. Definitions only.
use Rattle.std.specs.Prelude.{ℕ, cond, eqb}
use Rattle.stream.specs.declared.kind.Kind.{Kind}
use Rattle.stream.specs.declared.kind.Kind.TheVariants.{Table, Frame, Settings, Fresh, State, Call, Run, Open, Slot, Sweep, Complete, Unknown}

-- The number of a kind; 0, which no kind has, for `Unknown`.
abbrev pub number_of : Kind → ℕ
number_of Table = 1
number_of Frame = 2
number_of Settings = 3
number_of Fresh = 4
number_of State = 5
number_of Call = 6
number_of Run = 7
number_of Open = 8
number_of Slot = 9
number_of Sweep = 10
number_of Complete = 11
number_of Unknown = 0

-- The kind with this number, or `Unknown` where no kind has it.
unfoldable pub kind_of : ℕ → Kind
kind_of number =
    cond (eqb number 1) Table
    (cond (eqb number 2) Frame
    (cond (eqb number 3) Settings
    (cond (eqb number 4) Fresh
    (cond (eqb number 5) State
    (cond (eqb number 6) Call
    (cond (eqb number 7) Run
    (cond (eqb number 8) Open
    (cond (eqb number 9) Slot
    (cond (eqb number 10) Sweep
    (cond (eqb number 11) Complete
    Unknown))))))))))

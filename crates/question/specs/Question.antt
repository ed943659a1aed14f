-- The number that document 01, "Questions, first no wins", gives each question. Definitions only.
use Rattle.std.specs.Prelude.{ℕ, cond, eqb, Option, None, Some, Result, Ok, Err}
use Rattle.question.specs.declared.Question.{Question}
use Rattle.question.specs.declared.Question.TheVariants.{CentroidSlice, Coordinates, BrightnessList, Settings, Passes, SlotsAndWords, StarSlice, SavedState, EntryAndStars, RanksAndSection, SlotNumber, SweepNumbers, SweepRoom, CandidateAndScale}

-- The number of a question.
abbrev pub number_of : Question → ℕ
number_of CentroidSlice = 1
number_of Coordinates = 2
number_of BrightnessList = 3
number_of Settings = 4
number_of Passes = 5
number_of SlotsAndWords = 6
number_of StarSlice = 7
number_of SavedState = 8
number_of EntryAndStars = 9
number_of RanksAndSection = 10
number_of SlotNumber = 11
number_of SweepNumbers = 12
number_of SweepRoom = 13
number_of CandidateAndScale = 14

-- The question with this number. No call is refused with a number that isn't a question's; such a number gives the last one.
abbrev pub question_of : ℕ → Question
question_of n =
    cond (eqb n 1) CentroidSlice
    (cond (eqb n 2) Coordinates
    (cond (eqb n 3) BrightnessList
    (cond (eqb n 4) Settings
    (cond (eqb n 5) Passes
    (cond (eqb n 6) SlotsAndWords
    (cond (eqb n 7) StarSlice
    (cond (eqb n 8) SavedState
    (cond (eqb n 9) EntryAndStars
    (cond (eqb n 10) RanksAndSection
    (cond (eqb n 11) SlotNumber
    (cond (eqb n 12) SweepNumbers
    (cond (eqb n 13) SweepRoom
    CandidateAndScale))))))))))))

-- The number of the question that refuses, or none where no question does.
abbrev pub refused_by : {T : Type 0} → Result T Question → Option ℕ
refused_by (Ok x) = None
refused_by (Err q) = Some (number_of q)

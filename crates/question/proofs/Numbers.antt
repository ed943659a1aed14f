-- No two questions have one number. Assumes nothing.
use Rattle.std.specs.Prelude.{◌≡◌}
use Rattle.std.proofs.Common.{ap, sym, refl, ◌∙◌}
use Rattle.question.specs.Claims.{NumberOnce}
use Rattle.question.specs.Question.{number_of, question_of}
use Rattle.question.specs.declared.Question.{Question}
use Rattle.question.specs.declared.Question.TheVariants.{CentroidSlice, Coordinates, BrightnessList, Settings, Passes, SlotsAndWords, StarSlice, SavedState, EntryAndStars, RanksAndSection, SlotNumber, SweepNumbers, SweepRoom, CandidateAndScale}

-- The question with a question's number is that question.
pub question_again : (q : Question) → question_of (number_of q) ≡ q
question_again CentroidSlice = refl
question_again Coordinates = refl
question_again BrightnessList = refl
question_again Settings = refl
question_again Passes = refl
question_again SlotsAndWords = refl
question_again StarSlice = refl
question_again SavedState = refl
question_again EntryAndStars = refl
question_again RanksAndSection = refl
question_again SlotNumber = refl
question_again SweepNumbers = refl
question_again SweepRoom = refl
question_again CandidateAndScale = refl

pub number_once : NumberOnce
number_once q p h = sym (question_again q) ∙ (ap question_of h ∙ question_again p)

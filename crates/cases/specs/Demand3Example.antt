-- A small example of demand 3: a table of two slots, one of them filled, a frame of four spots, and three calls, one of which is lent something
-- that is refused. Definitions only.
use Rattle.std.specs.Prelude.{◌≡◌, false, List, [], ◌∷◌, negsuc, Float}
use Rattle.std.specs.Prelude.{None, Some}
use Rattle.std.specs.Float.{fin}
use Rattle.numeric.specs.Value.{zero32, one32}
use Rattle.settings.specs.declared.tolerance.Tolerance.TheVariants.{Absent as NoOption}
use Rattle.candidates.specs.declared.entry_tests.Candidate.{Candidate}
use Rattle.std.specs.Prelude.{None}
use Rattle.undivided_run.specs.declared.state.Phase.TheVariants.{Ended}
use Rattle.undivided_run.specs.declared.state.State.{State}
use Rattle.undivided_run.specs.declared.state.Status.TheVariants.{NoMatch}
use Rattle.undivided_run.specs.Calls.{candidate, over, refused}
use Rattle.undivided_run.specs.Step.{start, refusal_of}
use Rattle.search_feed.specs.Data.{Frame, Data}
use Rattle.search_feed.specs.declared.SearchConfig.{SearchConfig}
use Rattle.search_questions.specs.Questions.{first_seven}
use Rattle.pattern_search.specs.Demand3.{Given, Opens, AllSame, Listed, lent_by, replies, answers_of, last_state}

-- The f32 2^-2.
abbrev pub quarter : Float
quarter = fin false 1 (negsuc 1)

-- The f32 2^-13.
abbrev pub small : Float
small = fin false 1 (negsuc 12)

-- The settings: one bin, a table's error of 0.25, four checking stars, and no options.
abbrev pub settings : SearchConfig
settings =
    record {
      bins = 1;
      checking = 4;
      error = quarter;
      radius = zero32;
      matching = NoOption;
      fov = NoOption;
      cap = None;
      patterns = 1;
    }

-- The frame: three spots at the image's centre and one beside it, in this order of brightness, and one pass with field 1, scale 2^-13, cosine 1.
abbrev pub frame : Frame
frame =
    record {
      centroids = zero32 ∷ zero32 ∷ zero32 ∷ zero32 ∷ zero32 ∷ zero32 ∷ one32 ∷ zero32 ∷ [];
      order = 0 ∷ 1 ∷ 2 ∷ 3 ∷ [];
      config = settings;
      passes = one32 ∷ small ∷ one32 ∷ [];
    }

-- The data of the example: the frame and a table of one block, in which slot 0 is filled and slot 1 empty. The one entry has the stars
-- 0, 0, 0, 1, edge 0 and mark 2. The two stars are where the spots are.
abbrev pub sample : Data
sample =
    record {
      frame = frame;
      slots = 2;
      words = 0 ∷ 1 ∷ 0 ∷ 0 ∷ 0 ∷ 0 ∷ 0 ∷ 0 ∷ [];
      packed = 0 ∷ 0 ∷ 0 ∷ 0 ∷ 0 ∷ 0 ∷ 0 ∷ 0 ∷ 0 ∷ 0 ∷ 0 ∷ 0 ∷ 1 ∷ 0 ∷ 0 ∷ 0 ∷ 0 ∷ 0 ∷ 0 ∷ 0 ∷ 2 ∷ 0 ∷ [];
      stars = zero32 ∷ zero32 ∷ one32 ∷ small ∷ zero32 ∷ one32 ∷ [];
    }

-- Data that question 1 refuses: a centroid slice of odd length; brightness list, passes, words, packed section and stars are empty.
abbrev pub odd : Data
odd =
    record {
      frame = record { centroids = zero32 ∷ []; order = []; config = settings; passes = [] };
      slots = 2;
      words = [];
      packed = [];
      stars = [];
    }

-- The first call: the example's data, with an allowance of 1 read.
abbrev pub first : Given
first = record { lent_data = sample; allowance = 1 }

-- The second call: data that question 1 refuses.
abbrev pub second : Given
second = record { lent_data = odd; allowance = 5 }

-- The third call: the example's data, with an allowance of 7 reads. It goes on where the first call left off.
abbrev pub third : Given
third = record { lent_data = sample; allowance = 7 }

-- The list of the three calls.
abbrev pub calls : List Given
calls = first ∷ second ∷ third ∷ []

-- The candidate that the first read gives: the four spots, slot 0, the entry's stars, and a field of view of 1.
abbrev pub given : Candidate
given =
    record {
      pass = 0;
      places = record { 0 = 0 } ∷ record { 0 = 1 } ∷ record { 0 = 2 } ∷ record { 0 = 3 } ∷ [];
      slot = 0;
      stars = record { 0 = 0 } ∷ record { 0 = 0 } ∷ record { 0 = 0 } ∷ record { 0 = 1 } ∷ [];
      field = one32;
      rebuild = false;
    }

-- What is proved of the example.
pub record Demand3Example : Type 0 where
  -- The table passes the opening check.
  pub opens : Opens sample
  -- The frame passes questions 1 to 7.
  pub seven : first_seven frame 2 sample.words sample.stars ≡ None
  -- The calls that aren't refused are all lent the same data.
  pub same : AllSame sample start calls
  -- Demand 3 applies to this list of calls.
  pub listed_here : Listed sample calls
  -- The second call is refused with 1. The first, the third and a call after the list are not refused.
  pub first_taken : refusal_of start (lent_by first) ≡ None
  pub refused_one : (st : State) → refusal_of st (lent_by second) ≡ Some 1
  pub third_taken : refusal_of (last_state start (first ∷ second ∷ [])) (lent_by third) ≡ None
  pub goes_on : refusal_of (last_state start calls) (lent_by first) ≡ None
  -- The answers are: a candidate, refused with 1, ended with NoMatch.
  pub answered : answers_of (replies start calls) ≡ candidate given ∷ refused 1 ∷ over NoMatch ∷ []
  -- The state after the list has ended and counts 1 combination and 5 reads.
  pub left : last_state start calls ≡ record { phase = Ended NoMatch; patterns = 1; reads = 5 }

-- What else demand 3 says of the run of a search, as statements. proofs/ has a proof of each one under the name given in its comment.
-- Definitions only.
use Rattle.std.specs.Prelude.{◌≡◌, ℕ, ◌↔◌, true, List, Float}
use Rattle.std.specs.Prelude.{None, Some}
use Rattle.pattern.specs.Key.{mark_of}
use Rattle.pattern.specs.Edges.{edges_of}
use Rattle.pattern_catalog.specs.Blocks.{filled, place}
use Rattle.pattern_entry.specs.Entry.{bytes_at, entry_read}
use Rattle.candidates.specs.StarVectors.{stars_of}
use Rattle.candidates.specs.EntryTests.{measured_of}
use Rattle.candidates.specs.Claims.{Agrees}
use Rattle.candidates.specs.declared.entry_tests.Candidate.{Candidate}
use Rattle.undivided_run.specs.declared.state.Position.{Position}
use Rattle.undivided_run.specs.Undivided.{Cap}
use Rattle.undivided_run.specs.Undivided.{gives, undivided}
use Rattle.undivided_run.specs.Calls.{candidates}
use Rattle.undivided_run.specs.Tried.{tried_in, capped, all_combinations, Begins, NoHigher}
use Rattle.search_feed.specs.Data.{Frame, Data}
use Rattle.search_feed.specs.Image.{tolerance_in, pass_of, image_at}
use Rattle.search_feed.specs.Feed.{feed, slot_at, hash_of_read, candidate_of}
use Rattle.search_feed.specs.declared.SearchConfig.{SearchConfig}
use Rattle.search_questions.specs.Questions.{first_seven}

-- "each pass tries every four of its kept centroids once, by sum of positions in the kept list and then lexicographically, until the cap stops
-- the search": `every_combination_tried`. `all_combinations` lists no combination where there is no slot or no pattern; the laws
-- `combinations_all` and `combinations_once` of the crate combinations say "every" and "once".
abbrev pub EveryCombinationTried : Type 0
EveryCombinationTried = (D : Data) → first_seven D.frame D.slots D.words D.stars ≡ None
    → tried_in (undivided (feed D) D.frame.config.cap).reads ≡ capped D.frame.config.cap (all_combinations (feed D))

-- "A read gives a candidate exactly when its slot is filled, its 16-bit mark agrees, all five ratios lie strictly inside the tolerance and both
-- field-of-view tests pass." The candidate carries the field of view measured then: `gives_exactly`.
module _ (D : Data) (r : Position) where
  -- The bytes of the entry of the slot that the read r reads.
  abbrev pub bytes : List ℕ
  bytes = bytes_at D.packed (place D.words (slot_at D r))

  -- The field of view measured from the four stars of that entry.
  abbrev pub measured : Float
  measured = measured_of (edges_of (stars_of D.stars (entry_read bytes).stars)) (image_at D.frame r.pass r.four).edge (pass_of D.frame r.pass).field

  -- The slot of the read r is filled, its entry passes all tests, and x is the candidate that carries what document 01 says.
  pub record Gives (x : Candidate) : Type 0 where
    pub slot_filled : filled D.words (slot_at D r) ≡ true
    pub entry_agrees : Agrees (entry_read bytes) (mark_of (hash_of_read D.frame r)) D.stars (image_at D.frame r.pass r.four) (tolerance_in D.frame.config) (pass_of D.frame r.pass).field D.frame.config.fov
    pub carries : x ≡ candidate_of D r bytes measured

-- A read gives a candidate exactly when `Gives` holds of it.
abbrev pub GivesExactly : Type 0
GivesExactly = (D : Data) (r : Position) (x : Candidate) → (gives (feed D) r ≡ Some x) ↔ Gives D r x

-- The same settings with another cap.
abbrev pub with_cap : Cap → SearchConfig → SearchConfig
with_cap cap c = record { bins = c.bins; checking = c.checking; error = c.error; radius = c.radius; matching = c.matching; fov = c.fov; cap = cap; patterns = c.patterns }

-- The same frame with another cap.
abbrev pub frame_with : Cap → Frame → Frame
frame_with cap F = record { centroids = F.centroids; order = F.order; config = with_cap cap F.config; passes = F.passes }

-- The same data, settings and table with another cap.
abbrev pub data_with : Cap → Data → Data
data_with cap D = record { frame = frame_with cap D.frame; slots = D.slots; words = D.words; packed = D.packed; stars = D.stars }

-- The full list of a search: all candidates of its undivided run, in order.
abbrev pub full_list : Data → List Candidate
full_list D = candidates (gives (feed D)) (undivided (feed D) D.frame.config.cap).reads

-- "Of any two caps, all else equal, the higher one's full list begins with the lower one's.": `higher_cap_begins`.
abbrev pub HigherCapBegins : Type 0
HigherCapBegins = (D : Data) (lo hi : Cap) → NoHigher lo hi → Begins (full_list (data_with lo D)) (full_list (data_with hi D))

-- Document 01, "One search": what the undivided run is fed. Definitions only.
use Rattle.std.specs.Prelude.{ℕ, ◌+◌, ◌*◌, ◌/◌, ◌%◌, cond, List, [], ◌∷◌, length, Float}
use Rattle.std.specs.Prelude.{Option, None, Some}
use Rattle.combinations.specs.declared.Combination.{Combination}
use Rattle.preprocess.specs.declared.brightness_list.Place.{Place}
use Rattle.pattern.specs.Key.{home_of, mark_of}
use Rattle.pattern_catalog.specs.Blocks.{filled, place}
use Rattle.pattern_entry.specs.Entry.{bytes_at, entry_read}
use Rattle.pattern_entry.specs.Validity.{entry_valid}
use Rattle.candidates.specs.Comparisons.{rebuild_of}
use Rattle.preprocess.specs.BrightnessList.{place_of}
use Rattle.candidates.specs.EntryTests.{test_of}
use Rattle.candidates.specs.declared.entry_tests.Candidate.{Candidate}
use Rattle.undivided_run.specs.declared.state.Position.{Position}
use Rattle.undivided_run.specs.Undivided.{Feed}
use Rattle.search_feed.specs.Data.{Frame, Data}
use Rattle.search_feed.specs.Image.{tolerance_in, keys_in, hash_in, pass_of, kept_places, kept_place, image_at}

-- "The combination is given as four places in the brightness list"
unfoldable pub places_of : Frame → ℕ → Combination → List Place
places_of F i q = place_of (kept_place F i q.a) ∷ place_of (kept_place F i q.b) ∷ place_of (kept_place F i q.c) ∷ place_of (kept_place F i q.d) ∷ []

-- The hash of the key of this read.
abbrev pub hash_of_read : Frame → Position → ℕ
hash_of_read F r = hash_in F.config (image_at F r.pass r.four) r.key

module _ (D : Data) where
  -- The slot of this read.
  unfoldable pub slot_at : Position → ℕ
  slot_at r = (home_of (hash_of_read D.frame r) D.slots + r.probe * r.probe) % D.slots

  -- The bytes of the entry of slot x, where the slot is filled. They are fewer than 22 where the entry lies outside the packed section; it is
  -- invalid then.
  unfoldable pub entry_at : ℕ → Option (List ℕ)
  entry_at x = cond (filled D.words x) (Some (bytes_at D.packed (place D.words x))) None

  -- "A candidate carries its combination, slot, four stars, field of view and rebuild mark, and its pass.": the candidate of the read r,
  -- where e are the bytes of its entry and f is the measured field.
  unfoldable pub candidate_of : Position → List ℕ → Float → Candidate
  candidate_of r e f =
      record {
        pass = r.pass;
        places = places_of D.frame r.pass r.four;
        slot = slot_at r;
        stars = (entry_read e).stars;
        field = f;
        rebuild = rebuild_of f (pass_of D.frame r.pass).field D.frame.config.radius;
      }

  -- What the tests say of the entry with the bytes e at the read r.
  unfoldable pub tested_at : Position → List ℕ → Option Float
  tested_at r e =
      test_of (entry_read e) (mark_of (hash_of_read D.frame r)) D.stars (image_at D.frame r.pass r.four)
      (tolerance_in D.frame.config) (pass_of D.frame r.pass).field D.frame.config.fov

  -- The candidate, if any, that the read r gives by what the tests said of its entry.
  abbrev pub if_hit : Position → List ℕ → Option Float → Option Candidate
  if_hit r e None = None
  if_hit r e (Some f) = Some (candidate_of r e f)

  -- What the run is fed. An entry is given as its bytes.
  unfoldable pub feed : Feed (List ℕ) Candidate
  feed =
      record {
        passes = length D.frame.passes / 3;
        kept = λ i. length (kept_places D.frame i);
        keys = λ i q. length (keys_in D.frame.config (image_at D.frame i q));
        home = λ i q k. home_of (hash_in D.frame.config (image_at D.frame i q) k) D.slots;
        slots = D.slots;
        patterns = D.frame.config.patterns;
        entry = entry_at;
        test = λ r e. if_hit r e (tested_at r e);
        valid = entry_valid D.stars;
      }

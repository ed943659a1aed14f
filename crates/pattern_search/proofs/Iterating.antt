-- One iteration of a call: what the outcome of a read means, the cache that is loaded for it, and the reply or the cursor after it. Assumes
-- nothing.
use mathlib.Core.Path.{◌≡◌, refl, sym, ◌∙◌, ap, subst}
use Prim.Native.Nat.{ℕ, ◌+◌, ◌-◌, ◌*◌, ◌/◌, ◌%◌, ◌≤◌, ◌<◌}
use native.Mathlib.Omega.{arith}
use mathlib.Core.Bool.{Bool, true, false, cond}
use mathlib.Core.List.{List}
use Rattle.std.specs.Prelude.{Option, None, Some, Result, Ok, Err}
use Rattle.std.proofs.lemmas.List.{get_or-map}
use Rattle.preprocess.specs.BrightnessList.{place_of}
use lib.ListN.{length, get_or}
use lib.Seq.{get_or-take}
use lib.Ieee.{Float}
use Rattle.combinations.specs.Combinations.{Rising}
use Rattle.pattern.specs.Key.{home_of}
use Rattle.pattern_catalog.specs.Blocks.{table_fits, filled as slotFilled, place}
use Rattle.pattern_catalog.proofs.SlotRead.{fits_few}
use Rattle.pattern_entry.specs.Entry.{bytes_at, entry_read}
use Rattle.pattern_entry.specs.Validity.{entry_valid}
use Rattle.candidates.specs.declared.entry_tests.Candidate.{Candidate}
use Rattle.undivided_run.specs.declared.state.Position.{Position}
use Rattle.undivided_run.specs.declared.state.State.{State}
use Rattle.undivided_run.specs.declared.state.Cursor.{Cursor}
use Rattle.undivided_run.specs.declared.state.Status.{Status}
use Rattle.undivided_run.specs.Undivided.{Cap}
use Rattle.undivided_run.specs.declared.state.Next.TheVariants.{Goes as goes, Ends as ends}
use Rattle.undivided_run.specs.Undivided.{cases, is_some, filled, gives, slot_of}
use Rattle.undivided_run.specs.Step.{phase_of, valid_at}
use Rattle.undivided_run.specs.PositionExists.{ReadExists}
use Rattle.undivided_run.specs.CallInvariant.{continuing, after_read}
use Rattle.undivided_run.proofs.CallSteps.{good_after, good_room, iterate_ends, iterate_used, iterate_refused, iterate_hit, iterate_passed}
use Rattle.search_feed.specs.Data.{Data}
use Rattle.search_feed.specs.Image.{kept_places, kept_place, pass_of}
use Rattle.search_feed.specs.Feed.{feed, entry_at, slot_at, tested_at, if_hit, candidate_of, places_of, hash_of_read}
use Rattle.search_feed.specs.TableRead.{places_in, made_candidate, evaluated_entry, table_read}
use Rattle.search_feed.proofs.TableRead.{table_read_at}
use Rattle.search_cache.specs.Cache.{PassCacheValid, CombinationCacheValid, LoadedPass, LoadedCombination, LoadedFor}
use Rattle.search_feed.specs.Claims.{FrameFits}
use Rattle.search_cache.specs.declared.pass.Cache.{Cache}
use Rattle.search_cache.specs.declared.read.Loaded.{Loaded}
use Rattle.question.specs.Question.{number_of}
use Rattle.question.specs.declared.Question.{Question}
use Rattle.question.specs.declared.Question.TheVariants.{EntryAndStars}
use Rattle.search_feed.specs.declared.ReadOutcome.{ReadOutcome}
use Rattle.search_feed.specs.declared.ReadOutcome.TheVariants.{Empty, Passed, Found}
use Rattle.search_feed.proofs.WithinLimits.{every_combination_keyed, fitting, keys_counted}
use Rattle.search_step.specs.LoadedRead.{LoadedRead}
use Rattle.pattern_search.specs.Answers.{said}
use Rattle.pattern_search.specs.declared.Searched.{Searched}
use Rattle.pattern_search.specs.Iteration.{saw_entry, iteration_after, Ready, Iterated, rest}
use Rattle.std.specs.declared.ops.ControlFlow.{ControlFlow}
use Rattle.std.specs.declared.ops.ControlFlow.TheVariants.{Continue}
use Rattle.question.proofs.Numbers.{number_once}
use Rattle.pattern_search.specs.declared.Answer.TheVariants.{Candidate as SaidCandidate, AllowanceUsed, Ended}
use Rattle.search_cache.proofs.Loaded.{kept_64, four_below}

-- What the outcome of a read means: f is whether its slot is filled, s whether its entry is valid, g the candidate that it gives, if any.
abbrev pub Means : Result ReadOutcome Question → Bool → Bool → Option Candidate → Type 0
Means (Ok Empty) f s g = (f ≡ false) × (s ≡ true) × (g ≡ None)
Means (Ok Passed) f s g = (f ≡ true) × (s ≡ true) × (g ≡ None)
Means (Ok (Found x)) f s g = (f ≡ true) × (s ≡ true) × (g ≡ Some x)
Means (Err q) f s g = (s ≡ false) × (number_of q ≡ 9)

-- An outcome that question 9 does not refuse tells whether the slot is filled.
filled_means : (s : ReadOutcome) (f b : Bool) (g : Option Candidate) → Means (Ok s) f b g → saw_entry s ≡ f
filled_means Empty f b g m = sym m.0
filled_means Passed f b g m = sym m.0
filled_means (Found x) f b g m = sym m.0

module _ (D : Data) (r : Position) where
  means_of : Means (table_read_at D r) (filled (feed D) r) (valid_at (feed D) r) (gives (feed D) r)
  unfolding table_read evaluated_entry filled valid_at gives slot_of feed slot_at entry_at tested_at candidate_of cases is_some
  means_of = by (slotFilled D.words (slot_at D r))
    where
      e : List ℕ
      e = bytes_at D.packed (place D.words (slot_at D r))

      tested : Option Float → Result ReadOutcome Question
      tested t = Ok (made_candidate t r.pass (places_of D.frame r.pass r.four) (slot_at D r) (entry_read e).stars (pass_of D.frame r.pass).field D.frame.config.radius)

      entry : Bool → Option Float → Result ReadOutcome Question
      entry c t = cond c (tested t) (Err EntryAndStars)

      two : (c : Bool) (t : Option Float) → Means (entry c t) true c (if_hit D r e t)
      two false t = (refl, refl)
      two true None = (refl, refl, refl)
      two true (Some f) = (refl, refl, refl)

      by : (b : Bool) → let o : Option (List ℕ) = cond b (Some e) None in Means (cond b (entry (entry_valid D.stars e) (tested_at D r e)) (Ok Empty)) (is_some o) (cases o true (entry_valid D.stars)) (cases o None λ e. if_hit D r e (tested_at D r e))
      by false = (refl, refl, refl)
      by true = two (entry_valid D.stars e) (tested_at D r e)

  pub means : (x : Result ReadOutcome Question) → x ≡ table_read_at D r → Means x (filled (feed D) r) (valid_at (feed D) r) (gives (feed D) r)
  means x e = subst (λ y. Means y (filled (feed D) r) (valid_at (feed D) r) (gives (feed D) r)) (sym e) means_of

  pub entry_filled : (x : ReadOutcome) → Means (Ok x) (filled (feed D) r) (valid_at (feed D) r) (gives (feed D) r) → saw_entry x ≡ filled (feed D) r
  entry_filled x m = filled_means x (filled (feed D) r) (valid_at (feed D) r) (gives (feed D) r) m

-- ---- A call between two reads.
module _ (D : Data) (w : Cursor) (r : Position) (h : Cache) (y : Ready D w h) (e : w.next ≡ goes r) where
  -- The next read of the call is at numbers that exist.
  pub here_of : ReadExists (feed D) r
  here_of = rw e at y.good.here

  -- The cache can be loaded for the next read.
  pub load_ready : FrameFits D.frame × PassCacheValid D.frame h × CombinationCacheValid D.frame h × (r.pass < length D.frame.passes / 3) × Rising (length (kept_places D.frame r.pass)) r.four
  unfolding feed
  load_ready = (y.asked, y.pass, y.four, here_of.four.pass, here_of.four.rising)

  -- The counts have room for the next read.
  pub room_of : (w.patterns < 9223372036854775808) × (w.reads < 9223372036854775808)
  room_of = let g = good_room (feed D) D.frame.config.cap (every_combination_keyed D y.asked) w r e y.good in (g.1, g.0)

-- ---- The cache that is loaded for a read.
module _ (D : Data) (r : Position) (h : Cache) (x : Loaded) (a : FrameFits D.frame) (p : LoadedPass D.frame r.pass h) (o : LoadedCombination D.frame r.pass r.four h) (u : LoadedFor D.frame r.pass r.four x) (n : ReadExists (feed D) r) where
  rises : Rising (length (kept_places D.frame r.pass)) r.four
  unfolding feed
  rises = n.four.rising

  key_below : r.key < x.keys
  unfolding feed
  key_below = subst (λ k. r.key < k) (sym u.keys) n.key

  keys_few : x.keys ≤ 1024
  unfolding feed
  keys_few = subst (λ k. k ≤ 1024) (sym u.keys) (keys_counted D.frame a r.pass n.four.pass r.four n.four.rising).1

  cached_place : (k : ℕ) → k < length (kept_places D.frame r.pass) → get_or h.places k (place_of 0) ≡ place_of (kept_place D.frame r.pass k)
  cached_place k l = sym (get_or-take p.held.kept h.places k (place_of 0) (omega (arith, p.cached.count))) ∙ ap (λ z. get_or z k (place_of 0)) p.cached.places_are ∙ get_or-map place_of (kept_places D.frame r.pass) k 0 (place_of 0) l

  places_same : places_in h.places r.four ≡ places_of D.frame r.pass r.four
  unfolding places_of
  places_same =
      let s = rises in
      rw (
        cached_place r.four.a (omega (arith, s.ab, s.bc, s.cd, s.dn)),
        cached_place r.four.b (omega (arith, s.bc, s.cd, s.dn)),
        cached_place r.four.c (omega (arith, s.cd, s.dn)),
        cached_place r.four.d s.dn,
      )

  hash_same : get_or h.hashes r.key 0 ≡ hash_of_read D.frame r
  hash_same = o.cached.hash r.key (omega (arith, key_below, u.keys, o.cached.count))

  -- what `read_slot` gives from the cache is `table_read_at` of the read
  pub read_slot_same : (field : Float) → field ≡ (pass_of D.frame r.pass).field → (y : Result ReadOutcome Question) → y ≡ table_read D.words D.packed ((home_of (get_or h.hashes r.key 0) D.slots + r.probe * r.probe) % D.slots) (get_or h.hashes r.key 0) (places_in h.places r.four) r.pass x.image D.frame.config field D.stars → y ≡ table_read_at D r
  unfolding slot_at
  read_slot_same field fe y ye = ye ∙ rw (hash_same, places_same, fe, u.image)

  -- .. and its numbers are in bounds
  pub read_slot_bounds : table_fits D.slots D.words ≡ true → (r.key < 1024) × (r.probe < D.slots) × (r.four.a < 64) × (r.four.b < 64) × (r.four.c < 64) × (r.four.d < 64) × (D.frame.config.bins ≤ 4096) × (table_fits D.slots D.words ≡ true)
  unfolding feed
  read_slot_bounds t =
      let b = four_below D.frame r.pass h p a r.four rises in
      (omega (arith, key_below, keys_few), n.probe, b.0, b.1, b.2, b.3, (fitting D.frame.config a.four).narrow.few_bins, t)

  pub at_read : table_fits D.slots D.words ≡ true → LoadedRead D.frame D.slots h x r
  unfolding feed
  at_read t =
      record {
        loaded = p;
        kept = u.kept;
        keys = u.keys;
        small = omega (arith, u.kept, kept_64 D.frame r.pass h p);
        rising = rw u.kept rises;
        few = keys_few;
        key = key_below;
        probe = n.probe;
        slots_few = fits_few D.slots D.words t;
      }

-- ---- The replies that the code makes.
module _ (D : Data) (st : State) (a : ℕ) (w : Cursor) where
  abbrev cap : Cap
  cap = D.frame.config.cap

  module _ (z : State) (ze : z ≡ record { phase = phase_of w.next; patterns = w.patterns; reads = w.reads }) where
    pub reply_ended : (s : Status) → w.next ≡ ends s → record { answer = Ok (Ended s); state = z } ≡ rest D st a w
    unfolding said
    reply_ended s e = rw (iterate_ends (feed D) cap st a w s e, ze)

    pub reply_used : (r : Position) → w.next ≡ goes r → a ≡ 0 → record { answer = Ok AllowanceUsed; state = z } ≡ rest D st a w
    unfolding said
    reply_used r e p = rw (iterate_used (feed D) cap st a w r e p, ze)

  module _ (r : Position) (e : w.next ≡ goes r) (p : 0 < a) where
    pub reply_refused : valid_at (feed D) r ≡ false → (q : Question) → number_of q ≡ 9 → record { answer = Err q; state = st } ≡ rest D st a w
    unfolding said
    reply_refused s q qe = rw (iterate_refused (feed D) cap st a w r e p s, number_once q EntryAndStars qe)

    pub reply_hit : (f : Candidate) → valid_at (feed D) r ≡ true → gives (feed D) r ≡ Some f → (v : Cursor) → v ≡ after_read (feed D) cap w r → (z : State) → z ≡ record { phase = phase_of v.next; patterns = v.patterns; reads = v.reads } → record { answer = Ok (SaidCandidate f); state = z } ≡ rest D st a w
    unfolding said
    reply_hit f s g v ve z ze = rw (iterate_hit (feed D) cap st a w r e p f s g, ze, ve)

    -- An iteration after which the call goes on.
    iterate_more : valid_at (feed D) r ≡ true → gives (feed D) r ≡ None → (v : Cursor) → v ≡ after_read (feed D) cap w r → (h : Cache) → Ready D v h → Iterated D st a w h (Continue (v, a - 1))
    iterate_more s n v ve h y = (omega (arith, p), ap (continuing (feed D) cap st (a - 1)) ve ∙ iterate_passed (feed D) cap st a w r e p s n, y)

    -- The iteration of a read that question 9 does not refuse.
    module _ (v : Cursor) (ve : v ≡ after_read (feed D) cap w r) (h : Cache) (y : Ready D v h) where
      by_outcome : (s : ReadOutcome) → Means (Ok s) (filled (feed D) r) (valid_at (feed D) r) (gives (feed D) r) → Iterated D st a w h (iteration_after s v (a - 1))
      by_outcome Empty m = iterate_more m.1 m.2 v ve h y
      by_outcome Passed m = iterate_more m.1 m.2 v ve h y
      by_outcome (Found x) m = reply_hit x m.1 m.2 v ve _ refl

      pub read_iterated : (x : ReadOutcome) → Means (Ok x) (filled (feed D) r) (valid_at (feed D) r) (gives (feed D) r) → (u : ControlFlow Searched (Cursor × ℕ)) → u ≡ iteration_after x v (a - 1) → Iterated D st a w h u
      read_iterated x m u ue = subst (Iterated D st a w h) (sym ue) (by_outcome x m)

-- after a read the call is ready for the next
pub ready_after : (D : Data) (w : Cursor) (r : Position) (h g : Cache) → Ready D w h → w.next ≡ goes r → (v : Cursor) → v ≡ after_read (feed D) D.frame.config.cap w r → PassCacheValid D.frame g → CombinationCacheValid D.frame g → Ready D v g
ready_after D w r h g y e v ve pd fd =
    record {
      asked = y.asked;
      table = y.table;
      good = rw ve (good_after (feed D) D.frame.config.cap (every_combination_keyed D y.asked) w r e y.good);
      pass = pd;
      four = fd;
    }

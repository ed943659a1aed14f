-- A candidate that a search gave can be completed, directly and through C. Assumes nothing.
use mathlib.Core.Path.{◌≡◌, refl, ap, ◌∙◌}
use Prim.Native.Nat.{ℕ}
use native.Mathlib.Omega.{arith}
use mathlib.Core.Bool.{Bool, true, false, ◌&&◌, cond, false≢true}
use mathlib.Core.List.{List}
use lib.Dec.{eqb}
use lib.ListN.{length}
use Rattle.std.specs.Prelude.{None, Some, Result, Ok, Err, is_ok}
use lib.Ieee.{Float}
use borrow.Author.Tests.{lt-ltb}
use Rattle.settings.specs.PassLimits.{scale_fits}
use Rattle.combinations.specs.Combinations.{Rising}
use Rattle.combinations.specs.declared.Combination.{Combination}
use Rattle.pattern_catalog.specs.Blocks.{filled}
use Rattle.pattern_entry.specs.Entry.{entry_read}
use Rattle.pattern_entry.specs.Validity.{entry_valid}
use Rattle.candidates.specs.declared.entry_tests.Candidate.{Candidate}
use Rattle.complete.specs.Question14.{places_rise, candidate_fits, four_valid}
use Rattle.question.specs.declared.Question.{Question}
use Rattle.complete.specs.declared.completing.Completed.{Completed}
use Rattle.complete.specs.Completing.{completed_of}
use Rattle.complete.proofs.Answers.{done_exactly}
use Rattle.undivided_run.specs.declared.state.Position.{Position}
use Rattle.undivided_run.specs.declared.state.State.{State}
use Rattle.undivided_run.specs.Undivided.{cases, slot_of}
use Rattle.undivided_run.specs.Calls.{Answer, candidate, used, over, refused}
use Rattle.undivided_run.specs.Step.{valid_at, search_call}
use Rattle.undivided_run.specs.PositionExists.{ReadExists}
use Rattle.search_feed.specs.Data.{Frame, Data}
use Rattle.search_feed.specs.Image.{kept_places}
use Rattle.search_feed.specs.Feed.{places_of, slot_at, entry_at, candidate_of, feed}
use Rattle.search_feed.proofs.KeptSpots.{place_below, place_rises}
use Rattle.search_questions.proofs.Questions1To7.{seven_asked, seven_stars}
use Rattle.pattern_search.specs.Answers.{said, searched}
use Rattle.pattern_search.specs.Claims.{Gives, bytes}
use Rattle.pattern_search.specs.Demand3.{lent_by}
use Rattle.pattern_search.proofs.Demand3.{candidate_read}
use Rattle.pattern_search.proofs.Run.{gives_exactly}
use Rattle.pattern_search.proofs.Answers.{says}
use Rattle.c_types.specs.State.{state_of}
use Rattle.c_types.specs.Candidate.{candidate_from}
use Rattle.c_types.specs.Answer.{candidate_numbers, answer_of}
use Rattle.c_types.specs.Results.{completed_numbers}
use Rattle.star_search.specs.Call.{given_by, answered}
use Rattle.star_search.specs.Claims.{Completable, CompletableThroughC}
use Rattle.star_search.proofs.Tags.{candidate_back}
use Rattle.c_types.specs.declared.structs.StarState.{StarState}

-- ---- Question 14: the places of a combination rise in the brightness list.
rising_places : (F : Frame) (i : ℕ) (q : Combination) → Rising (length (kept_places F i)) q → places_rise (places_of F i q) (length F.order) ≡ true
unfolding places_rise places_of
rising_places F i q r =
    rw (
      lt-ltb _ _ (place_rises F i q.a q.b r.ab (omega (arith, r.bc, r.cd, r.dn))),
      lt-ltb _ _ (place_rises F i q.b q.c r.bc (omega (arith, r.cd, r.dn))),
      lt-ltb _ _ (place_rises F i q.c q.d r.cd r.dn),
      lt-ltb _ _ (place_below F i q.d r.dn),
    )

-- ---- Question 9: the stars of a valid entry are valid.
valid_filled : (D : Data) (r : Position) → filled D.words (slot_at D r) ≡ true → valid_at (feed D) r ≡ true → entry_valid D.stars (bytes D r) ≡ true
unfolding valid_at feed slot_of slot_at entry_at cases
valid_filled D r f s = by (filled D.words (slot_at D r)) f s
  where
    by : (b : Bool) → b ≡ true → cases (cond b (Some (bytes D r)) None) true (entry_valid D.stars) ≡ true → entry_valid D.stars (bytes D r) ≡ true
    by true _ s = s
    by false e _ = absurd (false≢true e)

and_second : (a b : Bool) → a && b ≡ true → b ≡ true
and_second true b h = h
and_second false b h = absurd (false≢true h)

valid_four : (stars : List Float) (e : List ℕ) → entry_valid stars e ≡ true → four_valid stars (entry_read e).stars ≡ true
unfolding entry_valid four_valid
valid_four stars e h = and_second (eqb (length e) 22) _ h

-- ---- A candidate that a read gave.
module _ (D : Data) (r : Position) (x : Candidate) (here : ReadExists (feed D) r) (valid : valid_at (feed D) r ≡ true) (g : Gives D r x) where
  fits : (scale : Float) → scale_fits scale ≡ true → candidate_fits D.frame.order D.frame.passes x scale ≡ true
  unfolding candidate_fits candidate_of feed
  fits scale h = rw (g.carries, lt-ltb _ _ here.four.pass, rising_places D.frame r.pass r.four here.four.rising) h

  stars_valid : four_valid D.stars x.stars ≡ true
  unfolding candidate_of
  stars_valid = rw g.carries (valid_four D.stars (bytes D r) (valid_filled D r g.slot_filled valid))

  four_each : (length x.places ≡ 4) × (length x.stars ≡ 4)
  unfolding candidate_of places_of
  four_each = rw g.carries (refl, refl)

pub completable : Completable
completable st g x scale h sc =
    let (s, r, here, valid, e) = candidate_read st g x h in
    let q = seven_asked _ _ _ _ s in
    let v = (gives_exactly g.lent_data r x).0 e in
    (done_exactly _ _ _ _ x scale).1
    (record {
      one = q.one;
      two = q.two;
      three = q.three;
      five = q.five;
      seven = seven_stars _ _ _ _ s;
      fourteen = fits g.lent_data r x here valid v scale sc;
      nine = stars_valid g.lent_data r x here valid v;
    })

-- ---- Through C, where the answer 0 is that of a candidate.
zero_candidate : (raw : StarState) (a : ℕ) (t : Answer Candidate × State) → (answer_of raw a (searched t)).answer ≡ 0 → (x : Candidate) × (t.0 ≡ candidate x) × ((answer_of raw a (searched t)).candidate ≡ candidate_numbers x)
unfolding said
zero_candidate raw a (candidate x, s) h = (x, refl, refl)
zero_candidate raw a (used, s) h = absurd (omega (arith, h))
zero_candidate raw a (over z, s) h = absurd (omega (arith, h))
zero_candidate raw a (refused k, s) h = absurd (omega (arith, h))

done_zero : (c : Result Completed Question) → is_ok c ≡ true → (completed_numbers c).answer ≡ 0
done_zero (Ok x) e = refl
done_zero (Err q) e = absurd (false≢true e)

pub completable_through_c : CompletableThroughC
completable_through_c raw g scale h sc =
    let st = state_of raw in
    let (x, e, c) = zero_candidate raw g.allowance (search_call st (lent_by (given_by g))) h in
    let f = says st (given_by g) ∙ e in
    let (s, r, here, valid, o) = candidate_read st (given_by g) x f in
    let l = four_each (given_by g).lent_data r x here valid ((gives_exactly (given_by g).lent_data r x).0 o) in
    let b : candidate_from (answered raw g).candidate ≡ x = ap candidate_from c ∙ candidate_back x l.0 l.1 in
    let made = completed_of g.centroids g.order g.passes g.stars in
    ap (λ z. (completed_numbers (made z scale)).answer) b ∙ done_zero (made x scale) (completable st (given_by g) x scale f sc)

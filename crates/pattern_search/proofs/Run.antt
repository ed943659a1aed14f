-- What else demand 3 says of the run of a search: the proofs of the statements in specs/Claims. Assumes nothing.
use mathlib.Core.Path.{◌≡◌, refl, sym, ◌∙◌, ap, subst}
use Prim.Native.Nat.{ℕ}
use native.Mathlib.Omega.{arith}
use mathlib.Core.Bool.{Bool, true, false, cond}
use mathlib.Core.List.{List}
use Rattle.std.specs.Prelude.{Option, None, Some}
use lib.Ieee.{Float}
use Rattle.pattern_catalog.specs.Blocks.{filled, place}
use Rattle.pattern_entry.specs.Entry.{bytes_at}
use Rattle.candidates.specs.declared.entry_tests.Candidate.{Candidate}
use Rattle.candidates.proofs.Hits.{hit_exactly}
use Rattle.undivided_run.specs.declared.state.Position.{Position}
use Rattle.undivided_run.specs.Undivided.{Cap}
use Rattle.undivided_run.specs.Undivided.{cases, gives, slot_of, undivided}
use Rattle.undivided_run.specs.Calls.{candidates}
use Rattle.undivided_run.specs.Tried.{Begins}
use Rattle.undivided_run.proofs.Tried.{run_tries}
use Rattle.undivided_run.proofs.Closed.{candidates_begin}
use Rattle.search_feed.specs.Data.{Data}
use Rattle.search_feed.specs.Image.{keys_in, hash_in, kept_places, directions_of}
use Rattle.search_feed.specs.Feed.{feed, entry_at, slot_at, tested_at, if_hit, candidate_of, places_of}
use Rattle.search_feed.proofs.WithinLimits.{every_combination_keyed}
use Rattle.pattern_search.specs.Claims.{EveryCombinationTried, Gives, GivesExactly, data_with, full_list, HigherCapBegins}
use Rattle.search_questions.proofs.Questions1To7.{seven_asked}

pub every_combination_tried : EveryCombinationTried
every_combination_tried D s = run_tries (feed D) (every_combination_keyed D (seven_asked _ _ _ _ s)) D.frame.config.cap

module _ (D : Data) (r : Position) (x : Candidate) where
  abbrev e : List ℕ
  e = bytes_at D.packed (place D.words (slot_at D r))

  -- The candidate of a read is the one that the tests give for the entry of its slot.
  gives_is : gives (feed D) r ≡ cond (filled D.words (slot_at D r)) (if_hit D r e (tested_at D r e)) None
  unfolding gives feed slot_of slot_at entry_at cases
  gives_is = by (filled D.words (slot_at D r))
    where
      by : (b : Bool) → cases (cond b (Some e) None) None (λ z. if_hit D r z (tested_at D r z)) ≡ cond b (if_hit D r e (tested_at D r e)) None
      by true = refl
      by false = refl

  from_hit : (b : Bool) (t : Option Float) → cond b (if_hit D r e t) None ≡ Some x → (b ≡ true) × (f : Float) × (t ≡ Some f) × (x ≡ candidate_of D r e f)
  from_hit false t h = absurd (let z : ◌≡◌ {A = ℕ} 0 1 = cc in omega arith)
  from_hit true None h = absurd (let z : ◌≡◌ {A = ℕ} 0 1 = cc in omega arith)
  from_hit true (Some f) h = (refl, f, refl, cc)

  exactly_to : gives (feed D) r ≡ Some x → Gives D r x
  unfolding tested_at
  exactly_to h =
      let p = from_hit (filled D.words (slot_at D r)) (tested_at D r e) (sym gives_is ∙ h) in
      let q = (hit_exactly _ _ _ _ _ _ _ p.1).0 p.2 in
      record { slot_filled = p.0; entry_agrees = q.0; carries = p.3 ∙ ap (candidate_of D r e) q.1 }

  exactly_from : Gives D r x → gives (feed D) r ≡ Some x
  unfolding tested_at
  exactly_from g =
      let t : tested_at D r e ≡ Some _ = (hit_exactly _ _ _ _ _ _ _ _).1 (g.entry_agrees, refl) in
      gives_is ∙ rw (g.slot_filled, t, g.carries)

pub gives_exactly : GivesExactly
gives_exactly D r x = (exactly_to D r x, exactly_from D r x)

-- What the run is fed does not depend on the cap.
feed_same : (D : Data) (lo hi : Cap) → feed (data_with lo D) ≡ feed (data_with hi D)
unfolding feed keys_in hash_in kept_places directions_of entry_at slot_at tested_at candidate_of places_of
feed_same D lo hi = refl

pub higher_cap_begins : HigherCapBegins
higher_cap_begins D lo hi h =
    subst (λ F. Begins (candidates (gives F) (undivided F lo).reads) (full_list (data_with hi D))) (feed_same D hi lo)
    (candidates_begin (feed (data_with hi D)) lo hi h)

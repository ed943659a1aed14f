-- The undivided run of the example: five reads, of which the first gives a candidate. Assumes nothing.
use mathlib.Core.Path.{◌≡◌, refl, ◌∙◌, ap}
use Prim.Native.Nat.{ℕ, ◌+◌, ◌*◌, ◌%◌}
use mathlib.Core.Bool.{Bool, true, false}
use mathlib.Core.List.{List, [], ◌∷◌}
use Rattle.std.specs.Prelude.{Option, None, Some, Float}
use lib.ListN.{length, get_or}
use lib.Ieee.{of_bits, add, sub, mul, div, lt, of_int, to_unsigned}
use Rattle.numeric.specs.Magnitude.{magnitude_of}
use Rattle.numeric.specs.Value.{one32}
use Rattle.combinations.specs.declared.Combination.{Combination}
use Rattle.combinations.specs.Lists.{each, span, upto}
use Rattle.combinations.specs.Combinations.{combinations_of_sum, combination_list}
use Rattle.pattern.specs.Key.{key_of, hash_of, home_of, mark_of}
use Rattle.pattern_keys.specs.Keys.{concat_map, run, part_values, in_range, squared_difference, squared_distance, at_distance, nearest_first, farther, farthest, keys_of}
use Rattle.pattern_keys.specs.KeyBounds.{lower_of, upper_of, keys_for}
use Rattle.settings.specs.Tolerance.{tolerance_of}
use Rattle.settings.specs.Passes.{pass_at}
use Rattle.pattern_catalog.specs.Blocks.{bit_at, ones_in, place}
use Rattle.pattern_entry.specs.Entry.{bytes_at}
use Rattle.candidates.specs.StarVectors.{star_of, stars_of}
use Rattle.candidates.specs.Comparisons.{fov_consistent, inside_one, inside, rebuild_of}
use Rattle.candidates.specs.EntryTests.{measured_of, field_valid, test_of}
use Rattle.candidates.specs.declared.entry_tests.Candidate.{Candidate}
use Rattle.undivided_run.specs.declared.state.Position.{Position}
use Rattle.std.specs.Prelude.{None}
use Rattle.undivided_run.specs.declared.state.Status.TheVariants.{NoMatch}
use Rattle.undivided_run.specs.Undivided.{Feed, reached, is_zero, is_some, cases, slot_of, filled, gives, chain, reads_of, ended, ◌before◌, checked, combinations, passes_from, undivided}
use Rattle.undivided_run.specs.Calls.{candidate, over, refused, allowed, refusal, fresh, final_of, serve, machine, calls}
use Rattle.search_feed.specs.Image.{keys_in, hash_in}
use Rattle.search_feed.specs.Feed.{places_of, slot_at, entry_at, candidate_of, tested_at, if_hit, feed}
use Rattle.cases.specs.Demand3Example.{settings, sample, given}
use Rattle.cases.proofs.SampleImage.{edges_are, ratios_are, image, q, image_is, kept_all}

-- ---- The three keys, whose hashes are 2, 1 and 0.
abbrev keys : List (List ℕ)
keys = (0 ∷ 0 ∷ 0 ∷ 1 ∷ 1 ∷ []) ∷ (0 ∷ 0 ∷ 0 ∷ 0 ∷ 1 ∷ []) ∷ (0 ∷ 0 ∷ 0 ∷ 0 ∷ 0 ∷ []) ∷ []

keys_are : keys_in settings image ≡ keys
unfolding keys_in keys_for lower_of upper_of key_of tolerance_of keys_of farthest farther nearest_first at_distance squared_distance squared_difference in_range part_values run concat_map add sub mul div lt of_bits of_int to_unsigned
keys_are = refl

-- ---- A read, by its key and its probe.
abbrev pub at : ℕ → ℕ → Position
at k c = record { pass = 0; four = q; key = k; probe = c }

at_slot : (k c : ℕ) → slot_at sample (at k c) ≡ (home_of (hash_of (get_or keys k []) 1) 2 + c * c) % 2
unfolding slot_at hash_in
at_slot k c = rw (image_is, keys_are)

-- ---- What the two slots hold.
entry_0 : entry_at sample 0 ≡ Some sample.packed
unfolding entry_at bit_at ones_in place bytes_at
entry_0 = refl

entry_1 : entry_at sample 1 ≡ None
unfolding entry_at bit_at ones_in place bytes_at
entry_1 = refl

-- ---- The entry's tests against the image.
first_hit : tested_at sample (at 0 0) sample.packed ≡ Some one32
unfolding tested_at test_of hash_in hash_of mark_of stars_of star_of fov_consistent inside inside_one measured_of field_valid tolerance_of pass_at add sub mul div lt of_bits of_int
first_hit = rw (image_is, keys_are, ratios_are, edges_are)

last_over : tested_at sample (at 2 0) sample.packed ≡ None
unfolding tested_at test_of hash_in hash_of mark_of
last_over = rw (image_is, keys_are)

-- ---- Which slots the reads find filled, and which candidates they give.
abbrev F : Feed (List ℕ) Candidate
F = feed sample

-- The candidate that a slot's entry gives at a read, where there is an entry.
abbrev from : Position → Option (List ℕ) → Option Candidate
from r o = cases o None λ e. if_hit sample r e (tested_at sample r e)

gives_at : (r : Position) (x : ℕ) → slot_at sample r ≡ x → gives F r ≡ from r (entry_at sample x)
unfolding gives slot_of feed slot_at
gives_at r x e = ap (λ n. from r (entry_at sample n)) e

at_filled : (r : Position) (t : Option Float) → slot_at sample r ≡ 0 → tested_at sample r sample.packed ≡ t → gives F r ≡ if_hit sample r sample.packed t
unfolding cases
at_filled r t e f = gives_at r 0 e ∙ ap (from r) entry_0 ∙ ap (if_hit sample r sample.packed) f

at_empty : (r : Position) → slot_at sample r ≡ 1 → gives F r ≡ None
unfolding cases
at_empty r e = gives_at r 1 e ∙ ap (from r) entry_1

given_is : candidate_of sample (at 0 0) sample.packed one32 ≡ given
unfolding candidate_of places_of hash_of home_of rebuild_of magnitude_of pass_at sub mul div lt of_bits
given_is = rw (at_slot 0 0, kept_all)

-- ---- The reads in order: two of the first key, one of the second, two of the third.
abbrev pub five : List Position
five = at 0 0 ∷ at 0 1 ∷ at 1 0 ∷ at 2 0 ∷ at 2 1 ∷ []

filled_at : (r : Position) (x : ℕ) → slot_at sample r ≡ x → filled F r ≡ is_some (entry_at sample x)
unfolding filled slot_of feed slot_at
filled_at r x e = ap (λ n. is_some (entry_at sample n)) e

full : (r : Position) → slot_at sample r ≡ 0 → filled F r ≡ true
unfolding is_some
full r e = filled_at r 0 e ∙ ap is_some entry_0

empty : (r : Position) → slot_at sample r ≡ 1 → filled F r ≡ false
unfolding is_some
empty r e = filled_at r 1 e ∙ ap is_some entry_1

-- The reads of any run with one pass, two slots and one pattern, given which slots are filled.
module _ {E C : Type 0} (kept : ℕ → ℕ) (keys : ℕ → Combination → ℕ) (home : ℕ → Combination → ℕ → ℕ) (entry : ℕ → Option E) (test : Position → E → Option C) (valid : E → Bool) where
  abbrev G : Feed E C
  G = record { passes = 1; kept = kept; keys = keys; home = home; slots = 2; patterns = 1; entry = entry; test = test; valid = valid }

  module _ (few : keys 0 q ≡ 3) (a : filled G (at 0 0) ≡ true) (b : filled G (at 0 1) ≡ false) (c : filled G (at 1 0) ≡ false) (d : filled G (at 2 0) ≡ true) (e : filled G (at 2 1) ≡ false) where
    of_reads : reads_of G 0 q ≡ five
    unfolding reads_of chain each upto span
    of_reads = rw (few, a, b, c, d, e)

    run_of : kept 0 ≡ 4 → undivided G None ≡ record { reads = five; status = NoMatch }
    unfolding undivided passes_from checked reached combinations ended ◌before◌ is_zero combination_list combinations_of_sum each upto span
    run_of k = rw (k, of_reads)

pub run_is : undivided F None ≡ record { reads = five; status = NoMatch }
unfolding feed hash_of home_of
run_is =
    run_of F.kept F.keys F.home F.entry F.test F.valid (ap (λ i. length (keys_in settings i)) image_is ∙ ap length keys_are)
    (full (at 0 0) (at_slot 0 0))
    (empty (at 0 1) (at_slot 0 1))
    (empty (at 1 0) (at_slot 1 0))
    (full (at 2 0) (at_slot 2 0))
    (empty (at 2 1) (at_slot 2 1))
    (ap length kept_all)

-- ---- The calls on this run.
module _ {C : Type 0} (g : Position → Option C) (x : C) (a : g (at 0 0) ≡ Some x) (b : g (at 0 1) ≡ None) (c : g (at 1 0) ≡ None) (d : g (at 2 0) ≡ None) (e : g (at 2 1) ≡ None) where
  pub on_five : calls (machine g (record { reads = five; status = NoMatch })) fresh (allowed 1 ∷ refusal 1 ∷ allowed 7 ∷ []) ≡ (candidate x ∷ refused 1 ∷ over NoMatch ∷ [], record { taken = 5; final = Some NoMatch })
  unfolding calls machine serve fresh final_of cases
  on_five = rw (a, b, c, d, e)

pub calls_are : calls (machine (gives F) (undivided F None)) fresh (allowed 1 ∷ refusal 1 ∷ allowed 7 ∷ []) ≡ (candidate given ∷ refused 1 ∷ over NoMatch ∷ [], record { taken = 5; final = Some NoMatch })
unfolding hash_of home_of
calls_are =
    rw run_is
    (on_five (gives F) given (at_filled (at 0 0) (Some one32) (at_slot 0 0) first_hit ∙ ap Some given_is) (at_empty (at 0 1) (at_slot 0 1)) (at_empty (at 1 0) (at_slot 1 0)) (at_filled (at 2 0) None (at_slot 2 0) last_over) (at_empty (at 2 1) (at_slot 2 1)))

-- The example of demand 3: its hypotheses hold of the small list of calls, and what the calls answer. Assumes nothing.
use mathlib.Core.Path.{◌≡◌, refl, sym, ◌∙◌, ap}
use Prim.Native.Nat.{ℕ}
use native.Mathlib.Omega.{arith}
use mathlib.Core.List.{List, [], ◌∷◌, map}
use Rattle.std.specs.Prelude.{Option, None, Some}
use lib.ListN.{take}
use lib.Ieee.{le, of_bits, mul, div, of_int, neg}
use Rattle.numeric.specs.Magnitude.{magnitude_of}
use Rattle.preprocess.specs.Questions.{centroids_fit, coordinate_fits, coordinates_fit}
use Rattle.preprocess.specs.BrightnessList.{all_below, among, none_twice, order_fits}
use Rattle.settings.specs.Tolerance.{tolerance_of}
use Rattle.settings.specs.SettingsLimits.{narrow_fits, settings_fit}
use Rattle.settings.specs.PassLimits.{field_fits, scale_fits, cosine_fits}
use Rattle.settings.specs.Passes.{pass_fits, pass_at, first_fit, passes_fit}
use Rattle.pattern_catalog.specs.Blocks.{table_fits, bit_at, ones_in, place}
use Rattle.pattern_entry.specs.FirstNo.{every}
use Rattle.pattern_entry.specs.Stars.{stars_fit, unit, star_valid}
use Rattle.pattern_entry.specs.Entry.{bytes_at, in_section}
use Rattle.pattern_entry.specs.Validity.{entry_valid}
use Rattle.opening_check.specs.OpenCheck.{index_right, opening}
use Rattle.undivided_run.specs.declared.state.Status.TheVariants.{NoMatch}
use Rattle.undivided_run.specs.declared.state.Phase.TheVariants.{Ended}
use Rattle.undivided_run.specs.Undivided.{is_zero, cases, starts}
use Rattle.undivided_run.specs.Calls.{candidate, over, refused, allowed, refusal, tried}
use Rattle.undivided_run.specs.Demand3.{fed_for, feeds}
use Rattle.undivided_run.specs.declared.state.State.{State}
use Rattle.undivided_run.specs.Step.{start, refusal_of}
use Rattle.search_questions.specs.Questions.{first_seven, first_no}
use Rattle.pattern_search.specs.Answers.{lent_of}
use Rattle.pattern_search.specs.Demand3.{Given, Opens, AllSame, Listed, lent_by, last_state, run, on_run}
use Rattle.pattern_search.proofs.Demand3.{listed, never_refused}
use Rattle.cases.specs.Demand3Example.{frame, sample, first, second, third, calls, given, Demand3Example}
use Rattle.cases.proofs.FiveReads.{run_is, calls_are}

opens_sample : Opens sample
unfolding opening table_fits stars_fit index_right bit_at ones_in place every unit star_valid magnitude_of bytes_at in_section entry_valid le
opens_sample = refl

seven_sample : first_seven frame 2 sample.words sample.stars ≡ None
unfolding first_seven centroids_fit coordinate_fits coordinates_fit all_below among none_twice order_fits magnitude_of tolerance_of narrow_fits settings_fit field_fits scale_fits cosine_fits pass_fits pass_at first_fit passes_fit table_fits stars_fit le of_bits mul div of_int neg
seven_sample = refl

one_refused : (st : State) → refusal_of st (lent_by second) ≡ Some 1
unfolding refusal_of lent_of first_no first_seven centroids_fit cases
one_refused st = refl

not_some : {n : ℕ} → ◌≡◌ {A = Option ℕ} (Some n) None → ⊥
not_some e = let z : ◌≡◌ {A = ℕ} 0 1 = cc (e) in absurd (omega arith)

two_same : AllSame sample start (first ∷ second ∷ [])
two_same = (λ _. refl, (λ e. absurd (not_some (sym (one_refused _) ∙ e)), tt))

same_sample : AllSame sample start calls
same_sample = (two_same.0, (two_same.1.0, (λ _. refl, tt)))

-- ---- Which calls are refused.
taken : (gs : List Given) → AllSame sample start gs → (a : ℕ) → refusal_of (last_state start gs) (lent_by (record { lent_data = sample; allowance = a })) ≡ None
taken gs h a = never_refused sample opens_sample seven_sample gs h (record { lent_data = sample; allowance = a }) refl

first_none : refusal_of start (lent_by first) ≡ None
unfolding last_state
first_none = taken [] tt 1

third_none : refusal_of (last_state start (first ∷ second ∷ [])) (lent_by third) ≡ None
third_none = taken (first ∷ second ∷ []) two_same 7

fed : feeds start (map lent_by calls) ≡ allowed 1 ∷ refusal 1 ∷ allowed 7 ∷ []
unfolding feeds fed_for last_state lent_of
fed = rw (first_none, one_refused _, third_none)

-- ---- The answers, and the state after the list.
along_run : on_run sample calls ≡ (candidate given ∷ refused 1 ∷ over NoMatch ∷ [], record { taken = 5; final = Some NoMatch })
along_run = rw fed calls_are

one_tried : tried (take 5 (run sample).reads) ≡ 1
unfolding tried starts is_zero
one_tried = rw run_is

state_is : (st : State) → st.phase ≡ Ended NoMatch → st.patterns ≡ 1 → st.reads ≡ 5 → st ≡ record { phase = Ended NoMatch; patterns = 1; reads = 5 }
state_is st p n m = rw (← p, ← n, ← m)

pub demand3_example : Demand3Example
demand3_example =
    record {
      opens = opens_sample;
      seven = seven_sample;
      same = same_sample;
      listed_here = here;
      first_taken = first_none;
      refused_one = one_refused;
      third_taken = third_none;
      goes_on = taken calls same_sample 1;
      answered = here.answers ∙ ap (λ t. t.0) along_run;
      left = state_is (last_state start calls) (here.leaves.ended NoMatch (ap (λ t. t.1.final) along_run)) (here.patterns ∙ ap (λ n. tried (take n (run sample).reads)) five_read ∙ one_tried) five_read;
    }
  where
    here : Listed sample calls
    here = listed sample opens_sample calls same_sample

    five_read : (last_state start calls).reads ≡ 5
    five_read = here.reads ∙ ap (λ t. t.1.taken) along_run

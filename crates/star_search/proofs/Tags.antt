-- The conversions from C and to C: states and candidates come back the same, unknown tags are refused, and a part is given by its numbers.
-- Assumes nothing.
use mathlib.Core.Path.{◌≡◌, refl, sym, ap}
use Prim.Native.Nat.{ℕ, ◌<◌}
use native.Mathlib.Omega.{arith}
use mathlib.Core.Bool.{Bool, true, false, not, ◌&&◌, false≢true}
use mathlib.Core.Logic.{◌⊎◌, inl, inr}
use mathlib.Core.List.{List, [], ◌∷◌}
use lib.ListN.{length, get_or}
use Rattle.std.specs.Prelude.{Option, None, Some}
use lib.Dec.{eqb, leb}
use lib.Ieee.{Float, le, lt}
use lib.Ieee.Scale.{finite}
use borrow.Author.Tests.{ne_eqb, lt-leb}
use Rattle.undivided_run.specs.declared.state.Phase.{Phase}
use Rattle.undivided_run.specs.declared.state.Phase.TheVariants.{Fresh, At, Ended}
use Rattle.undivided_run.specs.declared.state.Status.TheVariants.{TooFew, NoMatch, Timeout}
use Rattle.search_questions.specs.Question8.{phase_fits}
use Rattle.undivided_run.specs.Step.{start}
use Rattle.numeric.specs.Value.{zero32, one32, pi32}
use Rattle.settings.specs.declared.tolerance.Tolerance.{Tolerance}
use Rattle.settings.specs.Tolerance.{option_fits}
use Rattle.settings.specs.SettingsLimits.{narrow_fits, settings_fit}
use Rattle.pattern_entry.specs.FirstNo.{ask, every}
use Rattle.pattern_entry.specs.Entry.{bytes_at}
use Rattle.pattern_entry.specs.Stars.{stars_fit}
use Rattle.pattern_catalog.specs.Blocks.{table_fits}
use Rattle.opening_check.specs.OpenCheck.{opening, index_right, slot_valid}
use Rattle.pattern_catalog.specs.Answers.{filled_at, empty, refused}
use Rattle.fov_sweep.specs.Sweep.{sweep_fits}
use Rattle.candidates.specs.StarVectors.{no_star}
use Rattle.complete.specs.Question14.{no_place}
use Rattle.c_types.specs.Config.{option_of, bins_of, config_of}
use Rattle.c_types.specs.State.{position_of, unknown, ended_of, state_of}
use Rattle.c_types.specs.Candidate.{candidate_from}
use Rattle.c_types.specs.Answer.{phase_numbers, flag_number}
use Rattle.c_types.specs.Results.{opened_number}
use Rattle.star_search.specs.Claims.{ZeroPasses, StateBack, CandidateBack, ZeroIsFresh, UnknownSettings, UnknownError, UnknownState, PartAsNumbers}

-- ---- The opening check.
zero_none : (a b c d : Bool) → let o : Option ℕ = ask a (Some 6) (ask b (Some 7) (ask c (Some 10) (ask d (Some 9) None))) in opened_number o ≡ 0 → o ≡ None
zero_none false b c d h = absurd (omega (arith, h))
zero_none true false c d h = absurd (omega (arith, h))
zero_none true true false d h = absurd (omega (arith, h))
zero_none true true true false h = absurd (omega (arith, h))
zero_none true true true true h = refl

pub zero_passes : ZeroPasses
unfolding opening
zero_passes slots words packed stars = (zero_none (table_fits slots words) (stars_fit stars) (index_right slots words packed) (every slots (slot_valid words packed stars)), λ e. ap opened_number e)

-- ---- A state that goes to C and comes back.
phase_back : (p : Phase) (n m : ℕ) → state_of (phase_numbers p n m) ≡ record { phase = p; patterns = n; reads = m }
unfolding state_of position_of ended_of
phase_back Fresh n m = refl
phase_back (At r) n m = refl
phase_back (Ended TooFew) n m = refl
phase_back (Ended NoMatch) n m = refl
phase_back (Ended Timeout) n m = refl

pub state_back : StateBack
state_back s = phase_back s.phase s.patterns s.reads

pub zero_is_fresh : ZeroIsFresh
unfolding state_of start
zero_is_fresh = refl

-- ---- A candidate that goes to C and comes back.
four_back : {A : Type 0} (xs : List A) (d : A) → length xs ≡ 4 → get_or xs 0 d ∷ get_or xs 1 d ∷ get_or xs 2 d ∷ get_or xs 3 d ∷ [] ≡ xs
four_back (a ∷ b ∷ c ∷ e ∷ []) d h = refl
four_back [] d h = absurd (omega (arith, h))
four_back (a ∷ []) d h = absurd (omega (arith, h))
four_back (a ∷ b ∷ []) d h = absurd (omega (arith, h))
four_back (a ∷ b ∷ c ∷ []) d h = absurd (omega (arith, h))
four_back (a ∷ b ∷ c ∷ e ∷ f ∷ xs) d h = absurd (omega (arith, h))

flag_back : (b : Bool) → not (eqb (flag_number b) 0) ≡ b
flag_back true = refl
flag_back false = refl

pub candidate_back : CandidateBack
unfolding candidate_from
candidate_back c p s = rw (four_back c.places no_place p, four_back c.stars no_star s, flag_back c.rebuild)

-- ---- Unknown tags.
unknown_option : (tag : ℕ) (x : Float) → 1 < tag → option_fits (option_of tag x) ≡ false
unfolding option_of
unknown_option tag x h = rw (ne_eqb tag 0 (λ e. omega arith), ne_eqb tag 1 (λ e. omega arith))

unknown_bins : (tag bins : ℕ) → 1 < tag → bins_of tag bins ≡ 0
unfolding bins_of
unknown_bins tag bins h = rw (lt-leb _ _ h)

-- ---- Question 4 refuses settings with an unknown tag.
false_right : (b : Bool) → (b && false) ≡ false
false_right true = refl
false_right false = refl

-- The tests joined fail where one of the two options doesn't fit.
option_out : (p a b n : Bool) → (a ≡ false) ⊎ (b ≡ false) → (p && (a && b) && n) ≡ false
option_out false a b n h = refl
option_out true false b n h = refl
option_out true true false n h = refl
option_out true true true n (inl e) = absurd (false≢true (sym e))
option_out true true true n (inr e) = absurd (false≢true (sym e))

abbrev others : ℕ → ℕ → Float → Float → Bool
others bins stars table radius = (leb 1 bins && leb bins 4096) && leb stars 64 && (le zero32 table && le table one32) && (finite radius && le zero32 radius)

unfit_option : (bins stars : ℕ) (table radius : Float) (own field : Tolerance) → (option_fits own ≡ false) ⊎ (option_fits field ≡ false) → settings_fit bins stars table radius own field ≡ false
unfolding settings_fit
unfit_option bins stars table radius own field h = option_out (others bins stars table radius) (option_fits own) (option_fits field) (narrow_fits own table bins) h

no_bins : (stars : ℕ) (table radius : Float) (own field : Tolerance) → settings_fit 0 stars table radius own field ≡ false
unfolding settings_fit
no_bins stars table radius own field = refl

pub unknown_settings : UnknownSettings
unfolding config_of
unknown_settings s (inl (inl h)) = unfit_option _ _ _ _ _ _ (inl (unknown_option s.matching_given s.matching h))
unknown_settings s (inl (inr h)) = unfit_option _ _ _ _ _ _ (inr (unknown_option s.fov_given s.fov h))
unknown_settings s (inr h) = rw (unknown_bins s.cap_given s.bins h) (no_bins s.checking s.error s.radius _ _)

-- ---- Questions 12 and 8 refuse unknown tags.
pub unknown_error : UnknownError
unfolding sweep_fits
unknown_error estimate error step tag h = rw (unknown_option tag error h) (false_right ((lt zero32 estimate && lt estimate pi32) && (finite step && lt zero32 step)))

pub unknown_state : UnknownState
unfolding state_of ended_of unknown phase_fits
unknown_state D s (inl h) = rw (ne_eqb s.phase 0 (λ e. omega arith), ne_eqb s.phase 1 (λ e. omega arith), ne_eqb s.phase 2 (λ e. omega arith))
unknown_state D s (inr (p, h)) = rw (p, ne_eqb s.status 0 (λ e. omega arith), ne_eqb s.status 1 (λ e. omega arith), ne_eqb s.status 2 (λ e. omega arith))

-- ---- The part of the packed section as offset and length.
pub part_as_numbers : PartAsNumbers
unfolding bytes_at
part_as_numbers packed (filled_at p) = refl
part_as_numbers packed empty = refl
part_as_numbers packed (refused n) = refl

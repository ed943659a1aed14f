-- Document 01: question 14, and question 9 for a candidate's stars. Definitions only.
use Rattle.std.specs.Prelude.{ℕ, ◌/◌, Bool, ◌&&◌, List, ltb, length, get_or, Float}
use Rattle.preprocess.specs.declared.brightness_list.Place.{Place}
use Rattle.settings.specs.PassLimits.{scale_fits}
use Rattle.pattern_entry.specs.declared.stars.StarIndex.{StarIndex}
use Rattle.pattern_entry.specs.Stars.{star_valid}
use Rattle.candidates.specs.StarVectors.{no_star}
use Rattle.candidates.specs.declared.entry_tests.Candidate.{Candidate}

-- What is read past the end of a list of places. The lists here have four, so this is never reached.
abbrev pub no_place : Place
no_place = record { 0 = 0 }

-- The k-th of four places, counted from 0.
abbrev pub place_at : List Place → ℕ → Place
place_at places k = get_or places k no_place

-- A part of question 14: "do the four places rise below the list's length". Here n is that length.
unfoldable pub places_rise : List Place → ℕ → Bool
places_rise places n =
    ltb (place_at places 0).0 (place_at places 1).0
    && (ltb (place_at places 1).0 (place_at places 2).0
    && (ltb (place_at places 2).0 (place_at places 3).0 && ltb (place_at places 3).0 n))

-- Question 14: "does the pass exist, do the four places rise below the list's length, is the scale above 0 and at most 16?"
-- The scale is asked about whether or not the rebuild mark is set.
unfoldable pub candidate_fits : List ℕ → List Float → Candidate → Float → Bool
candidate_fits order passes candidate scale =
    ltb candidate.pass (length passes / 3) && (places_rise candidate.places (length order) && scale_fits scale)

-- Question 9 "for its stars": each lies inside the star slice, and its components are finite and of magnitude at most 1.
unfoldable pub four_valid : List Float → List StarIndex → Bool
four_valid stars four =
    star_valid stars (get_or four 0 no_star).0
    && (star_valid stars (get_or four 1 no_star).0
    && (star_valid stars (get_or four 2 no_star).0 && star_valid stars (get_or four 3 no_star).0))

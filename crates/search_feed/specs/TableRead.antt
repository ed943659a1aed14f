-- The result of one read of the table, in the form that the code returns. Definitions only.
use Rattle.std.specs.Prelude.{ℕ, cond, List, [], ◌∷◌, get_or, Float, Option, None, Some, Result, Ok, Err}
use Rattle.combinations.specs.declared.Combination.{Combination}
use Rattle.preprocess.specs.declared.brightness_list.Place.{Place}
use Rattle.pattern.specs.Key.{mark_of}
use Rattle.pattern_entry.specs.declared.stars.StarIndex.{StarIndex}
use Rattle.pattern_catalog.specs.Blocks.{filled, place}
use Rattle.pattern_entry.specs.Entry.{bytes_at, entry_read}
use Rattle.pattern_entry.specs.Validity.{entry_valid}
use Rattle.candidates.specs.Comparisons.{rebuild_of}
use Rattle.preprocess.specs.BrightnessList.{place_of}
use Rattle.candidates.specs.EntryTests.{test_of}
use Rattle.candidates.specs.declared.entry_tests.Image.{Image}
use Rattle.search_feed.specs.Image.{tolerance_in}
use Rattle.search_feed.specs.declared.SearchConfig.{SearchConfig}
use Rattle.question.specs.declared.Question.{Question}
use Rattle.question.specs.declared.Question.TheVariants.{EntryAndStars}
use Rattle.search_feed.specs.declared.ReadOutcome.{ReadOutcome}
use Rattle.search_feed.specs.declared.ReadOutcome.TheVariants.{Empty, Passed, Found}

-- the places at four positions of a list
abbrev pub places_in : List Place → Combination → List Place
places_in l q = get_or l q.a (place_of 0) ∷ get_or l q.b (place_of 0) ∷ get_or l q.c (place_of 0) ∷ get_or l q.d (place_of 0) ∷ []

-- what the tests make of a valid entry
abbrev pub made_candidate : Option Float → ℕ → List Place → ℕ → List StarIndex → Float → Float → ReadOutcome
made_candidate None pass places slot stars field radius = Passed
made_candidate (Some f) pass places slot stars field radius =
    Found (record { pass = pass; places = places; slot = slot; stars = stars; field = f; rebuild = rebuild_of f field radius })

-- a filled slot, by its bytes: question 9 of the entry, then the tests
unfoldable pub evaluated_entry : List ℕ → ℕ → ℕ → List Place → ℕ → Image → SearchConfig → Float → List Float → Result ReadOutcome Question
evaluated_entry e slot hash places pass image c field stars =
    cond (entry_valid stars e)
    (Ok (made_candidate (test_of (entry_read e) (mark_of hash) stars image (tolerance_in c) field c.fov) pass places slot (entry_read e).stars field c.radius))
    (Err EntryAndStars)

-- a read of a slot: an empty slot; an entry that question 9 refuses; one that is passed over; one that gives a candidate
unfoldable pub table_read : List ℕ → List ℕ → ℕ → ℕ → List Place → ℕ → Image → SearchConfig → Float → List Float → Result ReadOutcome Question
table_read words packed slot hash places pass image c field stars =
    cond (filled words slot) (evaluated_entry (bytes_at packed (place words slot)) slot hash places pass image c field stars) (Ok Empty)

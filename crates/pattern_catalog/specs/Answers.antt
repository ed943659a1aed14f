-- The answers of the slot read in document 01's words, and what each case of an enum says. Definitions only.
use Rattle.std.specs.Prelude.{ℕ, List, Option, None, Some, Result, Ok, Err}
use Rattle.pattern_catalog.specs.Blocks.{place}
use Rattle.question.specs.Question.{number_of}
use Rattle.question.specs.declared.Question.{Question}
use Rattle.pattern_catalog.specs.declared.slot_read.Slot.{Slot}

-- A slot read finds the slot filled, with its entry at this place of the packed section, or empty, or it is refused with this question's number.
pub data Answer : Type 0 where
  filled_at : ℕ → Answer
  empty : Answer
  refused : ℕ → Answer

-- What an answer of `find`, `find_in` or `find_near` says.
abbrev pub found_says : Result (Option ℕ) Question → Answer
found_says (Ok (Some p)) = filled_at p
found_says (Ok None) = empty
found_says (Err q) = refused (number_of q)

-- What an answer of `slot_of` says of a slot. A filled slot has its entry at the slot's place.
abbrev pub slot_says : List ℕ → ℕ → Result Slot Question → Answer
slot_says words s (Ok Slot.Filled) = filled_at (place words s)
slot_says words s (Ok Slot.Empty) = empty
slot_says words s (Err q) = refused (number_of q)

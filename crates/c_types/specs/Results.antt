-- What the opening check, a slot read, the sweep and completing give to a host in C: document 01's answers as numbers. Definitions only.
use Rattle.std.specs.Prelude.{ℕ, ◌*◌, List, [], ◌∷◌, get_or, Float, Result, Ok, Err}
use Rattle.std.specs.Prelude.{Option, None, Some}
use Rattle.std.specs.Float.{nan}
use Rattle.pattern_catalog.specs.Answers.{Answer, filled_at, empty, refused}
use Rattle.numeric.specs.Value.{zero32}
use Rattle.question.specs.Question.{number_of}
use Rattle.question.specs.declared.Question.{Question}
use Rattle.pattern_catalog.specs.declared.slot_read.Slot.{Slot}
use Rattle.complete.specs.declared.completing.Completed.{Completed}
use Rattle.c_types.specs.declared.structs.StarSlot.{StarSlot}
use Rattle.c_types.specs.declared.structs.StarPart.{StarPart}
use Rattle.c_types.specs.declared.structs.StarSwept.{StarSwept}
use Rattle.c_types.specs.declared.structs.StarVector.{StarVector}
use Rattle.c_types.specs.declared.structs.StarCompleted.{StarCompleted}

-- The number of the opening check's answer: 0 where no question refuses, else the number of the one that does.
abbrev pub opened_number : Option ℕ → ℕ
opened_number None = 0
opened_number (Some n) = n

-- The numbers of a slot read's answer: 0 for filled, 1 for empty, 2 for refused with the question's number.
abbrev pub slot_numbers : Answer → StarSlot
slot_numbers (filled_at p) = record { answer = 0; number = 0 }
slot_numbers empty = record { answer = 1; number = 0 }
slot_numbers (refused n) = record { answer = 2; number = n }

-- The part of the packed section that a slot read hands back: the entry's 22 bytes, or an empty part.
abbrev pub part_numbers : Answer → StarPart
part_numbers (filled_at p) = record { offset = p * 22; length = 22 }
part_numbers empty = record { offset = 0; length = 0 }
part_numbers (refused n) = record { offset = 0; length = 0 }

-- The numbers of what `slot_of` returned.
abbrev pub slot_result_numbers : Result Slot Question → StarSlot
slot_result_numbers (Ok Slot.Filled) = record { answer = 0; number = 0 }
slot_result_numbers (Ok Slot.Empty) = record { answer = 1; number = 0 }
slot_result_numbers (Err q) = record { answer = 2; number = number_of q }

-- The numbers of the sweep's answer: 0 for written with the count of values, 1 for refused with the question's number.
abbrev pub swept_numbers : Result ℕ Question → StarSwept
swept_numbers (Ok n) = record { answer = 0; number = 0; count = n }
swept_numbers (Err q) = record { answer = 1; number = number_of q; count = 0 }

-- A direction as a vector for C.
abbrev pub vector_numbers : List Float → StarVector
vector_numbers v = record { x = get_or v 0 nan; y = get_or v 1 nan; z = get_or v 2 nan }

-- Four directions as vectors for C.
abbrev pub four_vectors : List (List Float) → List StarVector
four_vectors v = vector_numbers (get_or v 0 []) ∷ vector_numbers (get_or v 1 []) ∷ vector_numbers (get_or v 2 []) ∷ vector_numbers (get_or v 3 []) ∷ []

-- The vectors that stand in a refusal: they are all zero.
abbrev pub refused_vectors : List StarVector
refused_vectors = let z = zero32 ∷ zero32 ∷ zero32 ∷ [] in four_vectors (z ∷ z ∷ z ∷ z ∷ [])

-- The numbers of what `complete` returned: 0 for done with the vectors, 1 for refused with the question's number.
abbrev pub completed_numbers : Result Completed Question → StarCompleted
completed_numbers (Ok c) = record { answer = 0; number = 0; image = four_vectors c.image; star = four_vectors c.stars }
completed_numbers (Err q) = record { answer = 1; number = number_of q; image = refused_vectors; star = refused_vectors }

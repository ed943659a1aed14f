-- What is promised of the next record of a stream. Definitions only. A contract can't speak of the stream's bytes themselves.
use Rattle.std.specs.Prelude.{ℕ, ◌≡◌, List, true, Option, Some, None, Result, Ok, Err}
use Rattle.stream.specs.Kind.{number_of}
use Rattle.stream.specs.Words.{room_for}
use Rattle.stream.specs.declared.kind.Kind.{Kind}
use Rattle.stream.specs.declared.broken.Broken.{Broken}

-- The arrays of a record that was read fit their room.
abbrev pub Fits : Result (Option (Kind × List ℕ)) Broken → Type 0
Fits (Ok (Some (kind, w))) = room_for (number_of kind) w ≡ true
Fits (Ok None) = Unit {0}
Fits (Err e) = Unit {0}

-- What is proved of the numbers. The file of proofs/ proves the statement under the name given in its comment. Definitions only.
use Rattle.std.specs.Prelude.{◌≡◌}
use Rattle.question.specs.Question.{number_of}
use Rattle.question.specs.declared.Question.{Question}

-- No two questions have one number. Proved as `number_once`.
abbrev pub NumberOnce : Type 0
NumberOnce = (q p : Question) → number_of q ≡ number_of p → q ≡ p

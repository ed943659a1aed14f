-- The numbers of the kinds: each number from 1 to 11 is that of one kind, and a record with another number can't be read. Assumes nothing.
use Rattle.std.specs.Prelude.{◌≡◌, ◌≤◌, ◌<◌, ◌⊎◌, ℕ, None, false}
use Rattle.std.proofs.Common.{refl, arith}
use Rattle.std.proofs.lemmas.Bool.Decides.{nat_tests}
use Rattle.stream.specs.Kind.{number_of, kind_of}
use Rattle.stream.specs.Records.{record_of, request_of}
use Rattle.stream.specs.Words.{Words, words_of, size_of, room_for}
use Rattle.stream.specs.declared.kind.Kind.{Kind}
use Rattle.stream.specs.declared.kind.Kind.TheVariants.{Table, Frame, Settings, Fresh, State, Call, Run, Open, Slot, Sweep, Complete, Unknown}
use Rattle.stream.specs.declared.records.Inputs.{Inputs}

-- The kind with a kind's number is that kind.
pub kind_again : (k : Kind) → kind_of (number_of k) ≡ k
unfolding kind_of
kind_again Table = refl
kind_again Frame = refl
kind_again Settings = refl
kind_again Fresh = refl
kind_again State = refl
kind_again Call = refl
kind_again Run = refl
kind_again Open = refl
kind_again Slot = refl
kind_again Sweep = refl
kind_again Complete = refl
kind_again Unknown = refl

-- Each number from 1 to 11 is the number of its kind.
pub number_again : (n : ℕ) → 1 ≤ n → n ≤ 11 → number_of (kind_of n) ≡ n
unfolding kind_of
number_again n low high = grind (arith, nat_tests)

-- 0 is no kind's number, nor is any above 11.
pub outside_unknown : (n : ℕ) → (n < 1) ⊎ (11 < n) → kind_of n ≡ Unknown
unfolding kind_of
outside_unknown n h = grind (arith, nat_tests)

-- A number that is no kind's has the payload of 0, which is no kind's either.
pub unknown_words : (n : ℕ) → kind_of n ≡ Unknown → words_of n ≡ words_of 0
unfolding kind_of words_of
unknown_words n h = grind (arith, nat_tests)

pub unknown_size : (n : ℕ) (w : Words) → kind_of n ≡ Unknown → size_of n w ≡ size_of 0 w
unfolding kind_of words_of size_of
unknown_size n w h = grind (arith, nat_tests)

-- The arrays have no room for a payload of a number that is no kind's.
pub unknown_room : (n : ℕ) (w : Words) → kind_of n ≡ Unknown → room_for n w ≡ false
unfolding kind_of room_for words_of
unknown_room n w h = grind (arith, nat_tests)

-- A record with a number that is no kind's has no effect: it can't be read.
pub unknown_record : (n : ℕ) (w : Words) (d : Inputs) → kind_of n ≡ Unknown → record_of n w d ≡ None
unfolding kind_of record_of request_of
unknown_record n w d h = grind (arith, nat_tests)

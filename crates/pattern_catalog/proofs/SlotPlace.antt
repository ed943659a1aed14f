-- The place of a slot's entry, and whether it is inside the section. Assumes nothing.
use Prim.Native.Nat.{ℕ, ◌+◌, ◌-◌, ◌*◌, ◌/◌, ◌%◌, ◌^◌, ◌≤◌, ◌<◌}
use mathlib.Core.Path.{◌≡◌, ap, ◌∙◌}
use mathlib.Core.List.{List}
use native.Mathlib.Omega.{arith}
use lib.ListN.{get_or}
use lib.Count.{ones}
use borrow.Author.Tests.{lt-ltb, le-ltb}
use Rattle.pattern_catalog.specs.Blocks.{ones_in, place}
use Rattle.pattern_catalog.proofs.CountOnes.{ones_join, word_part}
use Rattle.pattern_catalog.specs.Rank.{ranked_at}
use Rattle.std.specs.Prelude.{Option, None, Some}

pub rank_out : (words : List ℕ) (s entries : ℕ) → entries ≤ place words s → ◌≡◌ {A = Option ℕ} None (ranked_at words s entries)
unfolding ranked_at
rank_out words s entries h = simp (le-ltb _ _ h)

pub rank_in : (words : List ℕ) (s entries : ℕ) → place words s < entries → Some (place words s) ≡ ranked_at words s entries
unfolding ranked_at
rank_in words s entries h = simp (lt-ltb _ _ h)

-- The place of a slot, counted on from that of a slot before it in the same word.
pub near_place :
    (words : List ℕ) (s from : ℕ) → from ≤ s → from / 64 ≡ s / 64
    → place words s ≡ place words from + ones (get_or words (s / 448 * 8 + 1 + s % 448 / 64) 0 / 2 ^ (from % 64) % 2 ^ (s - from))
unfolding place
near_place words s from le same =
    let b : from / 448 ≡ s / 448 = omega arith in
    let n : s % 448 ≡ from % 448 + (s - from) = omega arith in
    let at : s / 448 * 448 + from % 448 ≡ s / 448 * 448 + s % 448 / 64 * 64 + from % 64 = omega arith in
    let more : ones_in words (s / 448 * 448 + from % 448) (s - from) ≡ ones (get_or words (s / 448 * 8 + 1 + s % 448 / 64) 0 / 2 ^ (from % 64) % 2 ^ (s - from)) =
    ap (λ (x : ℕ). ones_in words x (s - from)) at ∙ word_part words (s / 448) (s % 448 / 64) (from % 64) (s - from) (omega arith) (omega arith) in
    let whole = ap (ones_in words (s / 448 * 448)) n ∙ ones_join words (s / 448 * 448) (from % 448) (s - from) in
    rw b (omega (arith, whole, more))

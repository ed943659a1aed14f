-- Laws of the bit of a slot, and of the number of ones among slots. Assumes nothing.
use Prim.Native.Nat.{ℕ, zero, suc, ◌+◌, ◌-◌, ◌*◌, ◌/◌, ◌%◌, ◌^◌, ◌≤◌, ◌<◌}
use mathlib.Core.Path.{◌≡◌, refl, sym, ap, ◌∙◌}
use mathlib.Core.List.{List, [], ◌∷◌}
use mathlib.Core.Bool.{Bool, true, false}
use lib.Dec.{ltb}
use borrow.Author.Tests.{ltb-true, ltb-false}
use native.Mathlib.Omega.{arith}
use native.Mathlib.Nat.{mod-eq_of_lt, mod-lt, add-suc, add-zero, add_assoc}
use native.Mathlib.Numerals.{add-one}
use lib.ListN.{get_or}
use lib.Count.{ones, ones_cat}
use lib.Pow.{pow_pos, mod-pow-add, shr-shr}
use lib.Bits.{bit_and, and_mask, and_zero_r}
use Rattle.pattern_catalog.specs.Blocks.{bit_at, ones_in}

pub bit_le : (words : List ℕ) (s : ℕ) → bit_at words s ≤ 1
unfolding bit_at
bit_le words s = omega arith

pub ones_le : (words : List ℕ) (a n : ℕ) → ones_in words a n ≤ n
unfolding ones_in
ones_le words a zero = omega arith
ones_le words a (suc n) = omega (arith, ones_le words a n, bit_le words (a + n))

pub ones_join : (words : List ℕ) (a m n : ℕ) → ones_in words a (m + n) ≡ ones_in words a m + ones_in words (a + m) n
unfolding ones_in
ones_join words a m zero = ap (ones_in words a) (add-zero m) ∙ sym (add-zero (ones_in words a m))
ones_join words a m (suc n) =
    rw (add-suc, ← add_assoc a m n) (let h = ones_join words a m n in omega arith)

pub ones_suc : (words : List ℕ) (a n : ℕ) → ones_in words a (n + 1) ≡ ones_in words a n + bit_at words (a + n)
unfolding ones_in
ones_suc words a n = rw add-one

-- The ones among a word's lowest k + 1 bits.
one_bit : (b : ℕ) → b < 2 → ones b ≡ b
unfolding ones
one_bit zero h = refl
one_bit (suc zero) h = refl
one_bit (suc (suc b)) h = absurd (omega arith)

low_step : (w k : ℕ) → ones (w % 2 ^ suc k) ≡ ones (w % 2 ^ k) + w / 2 ^ k % 2
low_step w k =
    let e : suc k ≡ 1 + k = omega arith in
    let h : ones (w % 2 ^ (1 + k)) ≡ ones (w / 2 ^ k % 2) + ones (w % 2 ^ k) =
    ap ones (mod-pow-add w 1 k) ∙ ones_cat k (w / 2 ^ k % 2) (w % 2 ^ k) (mod-lt w (pow_pos k)) in
    let b : ones (w / 2 ^ k % 2) ≡ w / 2 ^ k % 2 = one_bit (w / 2 ^ k % 2) (omega arith) in
    rw e (omega arith)

-- The bit of a slot that is given by its block, its word and its index in the word.
pub bit_of : (words : List ℕ) (b k j : ℕ) → k < 7 → j < 64 → bit_at words (b * 448 + k * 64 + j) ≡ get_or words (b * 8 + 1 + k) 0 / 2 ^ j % 2
unfolding bit_at
bit_of words b k j hk hj =
    let at : (b * 448 + k * 64 + j) / 448 * 8 + 1 + (b * 448 + k * 64 + j) % 448 / 64 ≡ b * 8 + 1 + k = omega arith in
    let below : (b * 448 + k * 64 + j) % 64 ≡ j = omega arith in
    rw (at, below)

-- The ones of a word's first j slots.
pub word_ones :
    (words : List ℕ) (b k j : ℕ) → k < 7 → j ≤ 64
    → ones_in words (b * 448 + k * 64) j ≡ ones (get_or words (b * 8 + 1 + k) 0 % 2 ^ j)
unfolding ones_in ones
word_ones words b k zero hk hj = let e : get_or words (b * 8 + 1 + k) 0 % 1 ≡ 0 = omega arith in rw e
word_ones words b k (suc j) hk hj =
    rw (word_ones words b k j hk (omega arith), bit_of words b k j hk (omega arith)) (sym (low_step (get_or words (b * 8 + 1 + k) 0) j))

-- The ones with one whole word more.
pub word_more :
    (words : List ℕ) (b k : ℕ) → k < 7 → get_or words (b * 8 + 1 + k) 0 < 2 ^ 64
    → ones_in words (b * 448) ((k + 1) * 64) ≡ ones_in words (b * 448) (k * 64) + ones (get_or words (b * 8 + 1 + k) 0)
word_more words b k hk fits =
    let e : (k + 1) * 64 ≡ k * 64 + 64 = omega arith in
    rw (e, ones_join, word_ones words b k 64 hk (omega arith), mod-eq_of_lt fits)

-- The ones with the rest of n.
pub word_last :
    (words : List ℕ) (b n : ℕ) → n / 64 < 7
    → ones_in words (b * 448) n ≡ ones_in words (b * 448) (n / 64 * 64) + ones (get_or words (b * 8 + 1 + n / 64) 0 % 2 ^ (n % 64))
word_last words b n hk =
    let e : n ≡ n / 64 * 64 + n % 64 = omega arith in
    ap (ones_in words (b * 448)) e ∙ ones_join words (b * 448) (n / 64 * 64) (n % 64)
    ∙ ap (λ (x : ℕ). ones_in words (b * 448) (n / 64 * 64) + x) (word_ones words b (n / 64) (n % 64) hk (omega arith))

-- The ones among d slots of a word from its slot j on.
pub word_part :
    (words : List ℕ) (b k j d : ℕ) → k < 7 → j + d ≤ 64
    → ones_in words (b * 448 + k * 64 + j) d ≡ ones (get_or words (b * 8 + 1 + k) 0 / 2 ^ j % 2 ^ d)
unfolding ones_in ones
word_part words b k j zero hk hj = let e : get_or words (b * 8 + 1 + k) 0 / 2 ^ j % 1 ≡ 0 = omega arith in rw e
word_part words b k j (suc d) hk hj =
    let w = get_or words (b * 8 + 1 + k) 0 in
    let e : b * 448 + k * 64 + j + d ≡ b * 448 + k * 64 + (j + d) = omega arith in
    rw (word_part words b k j d hk (omega arith), e, bit_of words b k (j + d) hk (omega arith), ← shr-shr w j d) (sym (low_step (w / 2 ^ j) d))

-- The masks of the first six words: the first six values let a word count, and the last six do not.
abbrev pub counted : List ℕ
counted = let m : ℕ = 18446744073709551615 in m ∷ m ∷ m ∷ m ∷ m ∷ m ∷ 0 ∷ 0 ∷ 0 ∷ 0 ∷ 0 ∷ 0 ∷ []

mask_first : (i : ℕ) → i < 6 → get_or counted i 0 ≡ 18446744073709551615
mask_first zero h = refl
mask_first (suc zero) h = refl
mask_first (suc (suc zero)) h = refl
mask_first (suc (suc (suc zero))) h = refl
mask_first (suc (suc (suc (suc zero)))) h = refl
mask_first (suc (suc (suc (suc (suc zero))))) h = refl
mask_first (suc (suc (suc (suc (suc (suc i)))))) h = absurd (omega arith)

mask_second : (i : ℕ) → i < 6 → get_or counted (6 + i) 0 ≡ 0
mask_second zero h = refl
mask_second (suc zero) h = refl
mask_second (suc (suc zero)) h = refl
mask_second (suc (suc (suc zero))) h = refl
mask_second (suc (suc (suc (suc zero)))) h = refl
mask_second (suc (suc (suc (suc (suc zero))))) h = refl
mask_second (suc (suc (suc (suc (suc (suc i)))))) h = absurd (omega arith)

-- A word under a mask is whole or zero.
mask_all : (w : ℕ) → w < 18446744073709551616 → ones (bit_and w 18446744073709551615) ≡ ones w
mask_all w h = ap ones (and_mask w 64 ∙ mod-eq_of_lt h)

mask_none : (w : ℕ) → ones (bit_and w 0) ≡ 0
unfolding ones
mask_none w = rw (and_zero_r w)

-- How many of the first k words count, where the first q words do.
first_in : (k q : ℕ) → k ≤ q → k - (k - q) ≡ k
first_in k q l = omega arith

first_out : (k q : ℕ) → q ≤ k → k - (k - q) ≡ q
first_out k q l = omega arith

-- A word that counts adds its ones, and one that does not adds none.
more_in :
    (words : List ℕ) (b q k : ℕ) → q ≤ 6 → k < q → get_or words (b * 8 + 1 + k) 0 < 18446744073709551616
    → ones_in words (b * 448) (k * 64) + ones (bit_and (get_or words (b * 8 + 1 + k) 0) (get_or counted (6 - q + k) 0)) ≡ ones_in words (b * 448) ((k + 1) * 64)
more_in words b q k hq l fits =
    rw (mask_first (6 - q + k) (omega arith), mask_all (get_or words (b * 8 + 1 + k) 0) fits) (sym (word_more words b k (omega arith) fits))

more_out :
    (words : List ℕ) (b q k : ℕ) → q ≤ k → k < 6
    → ones_in words (b * 448) (q * 64) + ones (bit_and (get_or words (b * 8 + 1 + k) 0) (get_or counted (6 - q + k) 0)) ≡ ones_in words (b * 448) (q * 64)
more_out words b q k l hk =
    let z : 6 - q + k ≡ 6 + (k - q) = omega arith in
    rw (z, mask_second (k - q) (omega arith), mask_none, add-zero)

-- One of the six words more, where the first q count.
pub count_step :
    (words : List ℕ) (b q k : ℕ) → q ≤ 6 → k < 6 → get_or words (b * 8 + 1 + k) 0 < 18446744073709551616
    → ones_in words (b * 448) ((k - (k - q)) * 64) + ones (bit_and (get_or words (b * 8 + 1 + k) 0) (get_or counted (6 - q + k) 0)) ≡ ones_in words (b * 448) ((k + 1 - (k + 1 - q)) * 64)
count_step words b q k hq hk fits = by (ltb k q) refl
  where
    by : (t : Bool) → ltb k q ≡ t → ones_in words (b * 448) ((k - (k - q)) * 64) + ones (bit_and (get_or words (b * 8 + 1 + k) 0) (get_or counted (6 - q + k) 0)) ≡ ones_in words (b * 448) ((k + 1 - (k + 1 - q)) * 64)
    by true e =
        let l = ltb-true k q e in
        rw (first_in k q (omega (arith, l)), first_in (k + 1) q (omega (arith, l))) (more_in words b q k hq l fits)
    by false e =
        let l = ltb-false k q e in
        rw (first_out k q l, first_out (k + 1) q (omega (arith, l))) (more_out words b q k l hk)

pub count_none : (words : List ℕ) (b q : ℕ) → 0 ≡ ones_in words (b * 448) ((0 - (0 - q)) * 64)
unfolding ones_in
count_none words b q = let z : (0 - (0 - q)) * 64 ≡ 0 = omega arith in rw z

-- Cutting to a whole number, `to_unsigned w`, keeps the order of all floats that are no NaN: a negative one gives 0. Assumes nothing.
use Rattle.std.proofs.Common.{◌≡◌, ℕ, ◌-◌, ◌*◌, ◌/◌, ◌^◌, ◌<◌, ◌≤◌, min, Bool, true, false, cond, T, sym, refl, ap, ◌∙◌, subst, inl, inr, zero-le, le_refl, le_antisymm, le-div_iff_mul-le, arith, pow_pos}
use lib.Ieee.{Float, nan, inf, fin, up, down, le, lt, to_unsigned}
use lib.Ieee.Fits.{down_pos}
use lib.Ieee.Nearest as Nearest
use Rattle.numeric.specs.Value.{zero32}
use Rattle.numeric.proofs.Fraction.{number, at}
use Rattle.numeric.proofs.Order.{le→below, below→le, lt→le, le_or_lt, le_same}
use Rattle.numeric.proofs.Rounding.{no_product}
use Rattle.numeric.specs.MinMax.{larger, smaller}
use Rattle.numeric.specs.Claims.{TruncationMono}

under_cap : (a b t : ℕ) → a ≤ b → min a t ≤ min b t
under_cap a b t h = omega arith

capped : (a t : ℕ) → min a t ≤ t
capped a t = omega arith

no_cut : (a t : ℕ) → a ≤ 0 → min a t ≤ 0
no_cut a t h = omega arith

pub truncation_mono : TruncationMono
unfolding le to_unsigned
truncation_mono w nan y h = absurd h
truncation_mono w (inf true) y h = zero-le
truncation_mono w (inf false) nan h = absurd h
truncation_mono w (inf false) (inf true) h = absurd h
truncation_mono w (inf false) (inf false) h = le_refl (2 ^ w - 1)
truncation_mono w (inf false) (fin t n d) h = absurd h
truncation_mono w (fin true m e) y h = zero-le
truncation_mono w (fin false m e) nan h = absurd h
truncation_mono w (fin false m e) (inf true) h = absurd h
truncation_mono w (fin false m e) (inf false) h = capped (m * up e / down e) (2 ^ w - 1)
truncation_mono w (fin false m e) (fin true n d) h =
    let b = le→below (fin false m e) (fin true n d) tt tt h in
    let z : m * up e ≡ 0 = no_product (m * up e) (down d) (down_pos d) (omega arith) in
    no_cut (m * up e / down e) (2 ^ w - 1) (Nearest.div_mono (m * up e) (down e) 0 1 (down_pos e) (pow_pos 0) (omega arith))
truncation_mono w (fin false m e) (fin false n d) h =
    let b = le→below (fin false m e) (fin false n d) tt tt h in
    under_cap (m * up e / down e) (n * up d / down d) (2 ^ w - 1) (Nearest.div_mono (m * up e) (down e) (n * up d) (down d) (down_pos e) (down_pos d) (omega arith))

first_of : (n a t : ℕ) → n ≤ min a t → n ≤ a
first_of n a t h = omega arith

none : (n : ℕ) → 0 < n → n ≤ 0 → ⊥
none n p h = omega arith

pub cut_reaches : (w n : ℕ) (x : Float) → 0 < n → n ≤ to_unsigned w x → T (le (at n) x)
unfolding to_unsigned le
cut_reaches w n nan p h = absurd (none n p h)
cut_reaches w n (inf true) p h = absurd (none n p h)
cut_reaches w n (inf false) p h = tt
cut_reaches w n (fin true m e) p h = absurd (none n p h)
cut_reaches w n (fin false m e) p h =
    let a : n * down e ≤ m * up e = (le-div_iff_mul-le (down_pos e)).0 (first_of n (m * up e / down e) (2 ^ w - 1) h) in
    below→le (at n) (fin false m e) tt tt (omega arith)

pub cut_at : (w n : ℕ) → n < 2 ^ w → to_unsigned w (at n) ≡ n
unfolding to_unsigned
cut_at w n h = ap (λ (k : ℕ). min k (2 ^ w - 1)) (quotient n) ∙ uncapped n (2 ^ w) h
  where
    quotient : (n : ℕ) → n * 1 / 1 ≡ n
    quotient n = omega arith

    uncapped : (a c : ℕ) → a < c → min a (c - 1) ≡ a
    uncapped a c k = omega arith

pub cut_least : (w n : ℕ) (x : Float) → n < 2 ^ w → T (le (at n) x) → n ≤ to_unsigned w x
cut_least w n x h k = subst (λ (z : ℕ). z ≤ to_unsigned w x) (cut_at w n h) (truncation_mono w (at n) x k)

-- Raising a negative x to 0 before the cut changes nothing, since the cut gives 0 for it anyhow.
pub cut_larger : (w : ℕ) (x : Float) → to_unsigned w (larger x zero32) ≡ to_unsigned w x
cut_larger w x = go (lt x zero32) (λ t. lt→le x zero32 t)
  where
    zero_cut : to_unsigned w zero32 ≡ 0
    zero_cut = cut_at w 0 (pow_pos w)

    go : (b : Bool) → (T b → T (le x zero32)) → to_unsigned w (cond b zero32 x) ≡ to_unsigned w x
    go true h = le_antisymm (subst (λ (z : ℕ). z ≤ to_unsigned w x) (sym zero_cut) zero-le) (truncation_mono w x zero32 (h tt))
    go false h = refl

pub smaller_reaches : (a x y : Float) → T (le a x) → T (le a y) → T (le a (smaller x y))
smaller_reaches a x y h k = go (lt y x)
  where
    go : (b : Bool) → T (le a (cond b y x))
    go true = k
    go false = h

pub smaller_left : (x y : Float) → T (number x) → T (le (smaller x y) x)
smaller_left x y p = go (lt y x) (λ t. lt→le y x t)
  where
    go : (b : Bool) → (T b → T (le y x)) → T (le (cond b y x) x)
    go true h = h tt
    go false h = le_same x p

pub smaller_right : (x y : Float) → T (number x) → T (number y) → T (le (smaller x y) y)
smaller_right x y p q = elim (le_or_lt x y p q) [ inl h ↦ under_it (lt y x) h | inr t ↦ picked (lt y x) t ]
  where
    under_it : (b : Bool) → T (le x y) → T (le (cond b y x) y)
    under_it true h = le_same y q
    under_it false h = h

    picked : (b : Bool) → T b → T (le (cond b y x) y)
    picked true t = le_same y q
    picked false t = absurd t

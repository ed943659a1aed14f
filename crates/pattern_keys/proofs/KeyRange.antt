-- A key in the middle of ranges and a key that is listed in them are the same, and the ends of the ranges part by part. Assumes nothing.
use mathlib.Core.Path.{◌≡◌, refl, sym, subst}
use Prim.Native.Nat.{ℕ, zero, suc, ◌<◌}
use native.Mathlib.Omega.{arith}
use mathlib.Core.List.{List}
use lib.ListN.{length, get_or}
use lib.Ieee.{Float, nan}
use Rattle.numeric.specs.KeyPart.{part_of, low_of, high_of}
use Rattle.numeric.specs.Ratios.{Ratio, Ratios}
use Rattle.pattern.specs.Key.{key_of}
use Rattle.pattern_keys.specs.KeyBounds.{five, lower_of, upper_of}
use Rattle.pattern.proofs.ListsEqual.{five_elements}
use Rattle.pattern_keys.specs.KeyRange.{Inside}
use Rattle.pattern_keys.specs.Listed.{Listed}

pub inside_of : (c lo hi : List ℕ) → Listed lo hi c → Inside c lo hi
inside_of c lo hi l =
    subst (λ (k : List ℕ). Inside k lo hi) (sym l.is)
    (record { first = l.first; second = l.second; third = l.third; fourth = l.fourth; fifth = l.fifth; rises = l.rises })

pub listed_of : (c lo hi : List ℕ) → length c ≡ 5 → Inside c lo hi → Listed lo hi c
listed_of c lo hi h i =
    record { p = _; q = _; r = _; s = _; t = _; is = five_elements 0 c h; rises = i.rises; first = i.first; second = i.second; third = i.third; fourth = i.fourth; fifth = i.fifth }

-- ---- the ends, part by part
pub ratio_at : (r : List Float) (i : ℕ) → Ratios r → i < 5 → Ratio (get_or r i nan)
ratio_at r zero p h = p.first
ratio_at r (suc zero) p h = p.second
ratio_at r (suc (suc zero)) p h = p.third
ratio_at r (suc (suc (suc zero))) p h = p.fourth
ratio_at r (suc (suc (suc (suc zero)))) p h = p.fifth
ratio_at r (suc (suc (suc (suc (suc i))))) p h = absurd (omega arith)

pub image_at : (r : List Float) (B i : ℕ) → i < 5 → get_or (key_of r B) i 0 ≡ part_of (get_or r i nan) B
unfolding key_of
image_at r B zero h = refl
image_at r B (suc zero) h = refl
image_at r B (suc (suc zero)) h = refl
image_at r B (suc (suc (suc zero))) h = refl
image_at r B (suc (suc (suc (suc zero)))) h = refl
image_at r B (suc (suc (suc (suc (suc i))))) h = absurd (omega arith)

-- Five numbers, each what f gives for the ratio at its place.
five_is : (f : Float → ℕ) (r : List Float) (l : List ℕ) → length l ≡ 5 → ((k : ℕ) → k < 5 → get_or l k 0 ≡ f (get_or r k nan)) → l ≡ five f r
five_is f r l h e = rw (five_elements 0 l h) (cc (e 0 (omega arith), e 1 (omega arith), e 2 (omega arith), e 3 (omega arith), e 4 (omega arith)))

pub lower_is : (r : List Float) (e : Float) (B : ℕ) (l : List ℕ) → length l ≡ 5 → ((k : ℕ) → k < 5 → get_or l k 0 ≡ low_of (get_or r k nan) e B) → l ≡ lower_of r e B
unfolding lower_of
lower_is r e B l h d = five_is (λ (x : Float). low_of x e B) r l h d

pub upper_is : (r : List Float) (e : Float) (B : ℕ) (l : List ℕ) → length l ≡ 5 → ((k : ℕ) → k < 5 → get_or l k 0 ≡ high_of (get_or r k nan) e B) → l ≡ upper_of r e B
unfolding upper_of
upper_is r e B l h d = five_is (λ (x : Float). high_of x e B) r l h d

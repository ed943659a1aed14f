-- A value that the format holds rounds to itself. So a rounded fraction lies on the same side of such a value as the fraction itself
-- (`rounds_le`, `rounds_ge`). Assumes nothing.
use Rattle.std.proofs.Common.{◌≡◌, ℕ, zero, suc, ◌+◌, ◌-◌, ◌*◌, ◌%◌, ◌^◌, ◌<◌, ◌≤◌, Bool, true, false, ◌&&◌, T, eqb, ltb, leb, ℤ, pos, negsuc, sym, refl, ap, ◌∙◌, subst, true≢false, lt_of_lt_of_le, le_of_suc-le-suc, mul_assoc, mul_comm, mul-lt-mul_of_pos_right, lt_of_not-le, mul-one, not-le_of_lt, arith, ltb→lt, leb→le, pow_pos, pow_mono, pow-add, shl_lt}
use mathlib.Core.Bool.{false≢true}
use lib.Pow.{pow-lt}
use lib.Ieee.{Float, nan, inf, fin, Format, prec, emax, low, up, down, round, fits, le}
use lib.Ieee.Fits.{down_pos, and_l, and_r, reach}
use lib.Ieee.Exact.{HasValue, round_exact}
use lib.Ieee.Back.{round_whole}
use lib.Ieee.Scale.{finite}
use lib.Ieee.Positive.{den, den_pos}
use Rattle.numeric.proofs.Fraction.{over, under}
use Rattle.numeric.proofs.Order.{below→le, le_through}
use Rattle.numeric.proofs.Rounding.{Rounds, plus, minus, rounds_mono}

-- ---- the fields of `fits`
small : (f : Format) (s : Bool) (m : ℕ) (e : ℤ) → T (fits f (fin s (suc m) e)) → suc m < 2 ^ prec f
unfolding fits
small f s m e t =
    let a = eqb (suc m % 2) 1 in
    let b = ltb (suc m) (2 ^ prec f) in
    let c = leb (down e) (2 ^ low f) in
    let d = ltb (suc m * up e) (2 ^ suc (emax f) * down e) in
    ltb→lt (suc m) (2 ^ prec f) (and_r a b (and_l (a && b) c (and_l (a && b && c) d t)))

fine : (f : Format) (s : Bool) (m : ℕ) (e : ℤ) → T (fits f (fin s (suc m) e)) → down e ≤ 2 ^ low f
unfolding fits
fine f s m e t =
    let a = eqb (suc m % 2) 1 in
    let b = ltb (suc m) (2 ^ prec f) in
    let c = leb (down e) (2 ^ low f) in
    let d = ltb (suc m * up e) (2 ^ suc (emax f) * down e) in
    leb→le (down e) (2 ^ low f) (and_r (a && b) c (and_l (a && b && c) d t))

bounded : (f : Format) (s : Bool) (m : ℕ) (e : ℤ) → T (fits f (fin s (suc m) e)) → suc m * up e < 2 ^ suc (emax f) * down e
unfolding fits
bounded f s m e t =
    let a = eqb (suc m % 2) 1 in
    let b = ltb (suc m) (2 ^ prec f) in
    let c = leb (down e) (2 ^ low f) in
    let d = ltb (suc m * up e) (2 ^ suc (emax f) * down e) in
    ltb→lt (suc m * up e) (2 ^ suc (emax f) * down e) (and_r (a && b && c) d t)

-- ---- such a value rounds to itself
exponent : (i j : ℕ) → 2 ^ i ≤ 2 ^ j → i ≤ j
exponent i j h = le_of_suc-le-suc (lt_of_not-le (λ (g : suc j ≤ i). not-le_of_lt (pow-lt g) h))

room : (p l m j k : ℕ) → p ≤ m → j + k ≡ l → p + j ≤ l + m
room p l m j k h e = omega arith

put_back : (l k : ℕ) → k ≤ l → l - k + k ≡ l
put_back l k h = omega arith

fit_value : (f : Format) (s : Bool) (m : ℕ) (e : ℤ) → T (fits f (fin s m e)) → HasValue (round f s (m * up e) (down e)) s (m * up e) (down e)
fit_value f s zero e t = round_exact f s (zero * up e) (down e) 0 0 (down_pos e) (pow_pos (prec f)) (pow_pos (low f + suc (emax f))) (omega arith)
fit_value f s (suc m) (pos k) t =
    let l = low f in
    let b = bounded f s m (pos k) t in
    let moved : suc m * 2 ^ (k + l) ≡ suc m * 2 ^ k * 2 ^ l = ap (λ (z : ℕ). suc m * z) (pow-add 2 k l) ∙ sym (mul_assoc (suc m) (2 ^ k) (2 ^ l)) in
    let top : 2 ^ (l + suc (emax f)) ≡ 2 ^ suc (emax f) * 1 * 2 ^ l = pow-add 2 l (suc (emax f)) ∙ mul_comm (2 ^ l) (2 ^ suc (emax f)) ∙ ap (λ (z : ℕ). z * 2 ^ l) (sym (mul-one (2 ^ suc (emax f)))) in
    round_exact f s (suc m * 2 ^ k) 1 (suc m) (k + l) (pow_pos 0) (small f s m (pos k) t)
    (subst (λ (z : ℕ). suc m * 2 ^ (k + l) < z) (sym top) (subst (λ (z : ℕ). z < 2 ^ suc (emax f) * 1 * 2 ^ l) (sym moved) (mul-lt-mul_of_pos_right b (pow_pos l))))
    (sym moved ∙ sym (mul-one (suc m * 2 ^ (k + l))))
fit_value f s (suc m) (negsuc k) t =
    let l = low f in
    let i = exponent (suc k) l (fine f s m (negsuc k) t) in
    let j = l - suc k in
    let e : j + suc k ≡ l = put_back l (suc k) i in
    round_exact f s (suc m * 1) (2 ^ suc k) (suc m) j (down_pos (negsuc k)) (small f s m (negsuc k) t)
    (lt_of_lt_of_le (shl_lt (prec f) j (small f s m (negsuc k) t)) (pow_mono (room (prec f) l (suc (emax f)) j (suc k) (reach f) e)))
    (ap (λ (z : ℕ). z * 2 ^ l) (mul-one (suc m)) ∙ ap (λ (z : ℕ). suc m * 2 ^ z) (sym e) ∙ ap (λ (z : ℕ). suc m * z) (pow-add 2 j (suc k)) ∙ sym (mul_assoc (suc m) (2 ^ j) (2 ^ suc k)))

-- ---- two values of one sign and size
value_below : (z : Float) (s : Bool) (m : ℕ) (e : ℤ) → HasValue z s (m * up e) (down e) → T (le z (fin s m e)) × T (le (fin s m e) z)
value_below nan s m e v = absurd v
value_below (inf t) s m e v = absurd v
value_below (fin true n d) true m e v = let w = v.1 in (below→le (fin true n d) (fin true m e) tt tt (omega arith), below→le (fin true m e) (fin true n d) tt tt (omega arith))
value_below (fin true n d) false m e v = absurd (true≢false v.0)
value_below (fin false n d) true m e v = absurd (false≢true v.0)
value_below (fin false n d) false m e v = let w = v.1 in (below→le (fin false n d) (fin false m e) tt tt (omega arith), below→le (fin false m e) (fin false n d) tt tt (omega arith))

-- The float x taken as a fraction and rounded.
self : Format → Float → Float
self f nan = nan
self f (inf s) = inf s
self f (fin s m e) = round f s (m * up e) (down e)

self_rounds : (f : Format) (x : Float) → T (finite x) → Rounds f (over x) (under x) (den x) (self f x)
unfolding self
self_rounds f nan p = absurd p
self_rounds f (inf s) p = absurd p
self_rounds f (fin true m e) p = minus (m * up e) (omega arith) refl
self_rounds f (fin false m e) p = plus (m * up e) (omega arith) refl

self_same : (f : Format) (x : Float) → T (finite x) → T (fits f x) → T (le (self f x) x) × T (le x (self f x))
unfolding self
self_same f nan p h = absurd p
self_same f (inf s) p h = absurd p
self_same f (fin s m e) p h = value_below (round f s (m * up e) (down e)) s m e (fit_value f s m e h)

-- The format f holds x exactly: rounding leaves x as it is.
pub Representable : Format → Float → Type 0
Representable f x = T (le (self f x) x) × T (le x (self f x))

pub representable_fits : (f : Format) (x : Float) → T (finite x) → T (fits f x) → Representable f x
unfolding Representable
representable_fits f x p h = self_same f x p h

-- The value m / 2 ^ (k + 1) is held exactly, with m even or odd.
pub representable_dyadic : (f : Format) (m k : ℕ) → m < 2 ^ prec f → suc k ≤ low f → Representable f (fin false m (negsuc k))
unfolding Representable self
representable_dyadic f m k h i =
    let l = low f in
    let j = l - suc k in
    let e : j + suc k ≡ l = put_back l (suc k) i in
    value_below (round f false (m * 1) (2 ^ suc k)) false m (negsuc k)
    (round_exact f false (m * 1) (2 ^ suc k) m j (down_pos (negsuc k)) h
    (lt_of_lt_of_le (shl_lt (prec f) j h) (pow_mono (room (prec f) l (suc (emax f)) j (suc k) (reach f) e)))
    (ap (λ (z : ℕ). z * 2 ^ l) (mul-one m) ∙ ap (λ (z : ℕ). m * 2 ^ z) (sym e) ∙ ap (λ (z : ℕ). m * z) (pow-add 2 j (suc k)) ∙ sym (mul_assoc m (2 ^ j) (2 ^ suc k))))

-- A whole number is held exactly.
pub representable_whole : (f : Format) (n : ℕ) → n ≤ 2 ^ prec f → Representable f (fin false n (pos 0))
unfolding Representable self
representable_whole f n h = value_below (round f false (n * 1) 1) false n (pos 0) (subst (λ (k : ℕ). HasValue (round f false k 1) false k 1) (sym (mul-one n)) (round_whole f false n h))

pub rounds_le : (f : Format) (p n c : ℕ) (z x : Float) → 0 < c → Rounds f p n c z → T (finite x) → Representable f x → p * den x + under x * c ≤ over x * c + n * den x → T (le z x)
unfolding Representable
rounds_le f p n c z x C r q k h =
    le_through z (self f x) x (rounds_mono f p n c (over x) (under x) (den x) z (self f x) C (den_pos x) r (self_rounds f x q) h) k.0

pub rounds_ge : (f : Format) (p n c : ℕ) (z x : Float) → 0 < c → Rounds f p n c z → T (finite x) → Representable f x → over x * c + n * den x ≤ p * den x + under x * c → T (le x z)
unfolding Representable
rounds_ge f p n c z x C r q k h =
    le_through x (self f x) z k.1 (rounds_mono f (over x) (under x) (den x) p n c (self f x) z (den_pos x) C (self_rounds f x q) r h)

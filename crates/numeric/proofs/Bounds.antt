-- Bounds of the result of one operation, from the order: x - y ≤ x ≤ x + y for a y that is not negative; x / y from 0 to 1 for 0 ≤ x ≤ y;
-- x / x = 1; x * y ≤ y for x ≤ 1. A factor above zero keeps the order of infinite values too. Assumes nothing.
use Rattle.std.proofs.Common.{◌≡◌, ℕ, ◌+◌, ◌*◌, ◌<◌, ◌≤◌, Bool, true, false, cond, T, eqb, sym, refl, ap, ◌∙◌, subst, true≢false, mul-le-mul_right, mul_comm, mul-pos, arith, eqb→eq, ltb→lt, pow_pos}
use lib.Ieee.{Float, nan, inf, fin, Format, binary32, binary64, up, down, round, add, sub, mul, div, le, fits, unlike}
use lib.Ieee.Fits.{up_pos, down_pos}
use lib.Ieee.Scale.{round_same, finite}
use lib.Ieee.Exact.{HasValue}
use lib.Ieee.Positive.{den, den_pos, positive, positive-finite}
use Rattle.numeric.specs.Value.{zero32, one32}
use Rattle.numeric.proofs.Fraction.{number, over, under}
use Rattle.numeric.proofs.Order.{le→below, below→le, least, greatest, le_left, le_right}
use Rattle.numeric.proofs.Rounding.{Rounds, rounds_number, rounds_scale, rounds_same}
use Rattle.numeric.proofs.Operations.{add_rounds, sub_rounds, mul_rounds_up, div_rounds, div_mono, mul_mono, nonneg_under, over_pos, dens}
use Rattle.numeric.proofs.Representable.{Representable, representable_fits, rounds_le, rounds_ge}

-- ---- small facts
pub positive_nonneg : (y : Float) → T (positive y) → T (le zero32 y)
positive_nonneg nan p = absurd p
positive_nonneg (inf s) p = absurd p
positive_nonneg (fin true m e) p = absurd p
positive_nonneg (fin false m e) p = below→le zero32 (fin false m e) tt tt (omega arith)

pub finite_between : (x z y : Float) → T (finite x) → T (finite y) → T (le x z) → T (le z y) → T (finite z)
unfolding le
finite_between x nan y p q h k = absurd (le_left nan y k)
finite_between x (fin s m e) y p q h k = tt
finite_between x (inf false) nan p q h k = absurd k
finite_between x (inf false) (inf t) p q h k = absurd q
finite_between x (inf false) (fin t n d) p q h k = absurd k
finite_between nan (inf true) y p q h k = absurd h
finite_between (inf t) (inf true) y p q h k = absurd p
finite_between (fin t n d) (inf true) y p q h k = absurd h

-- ---- sums and differences of two values that are not negative
pub add_up : (f : Format) (x y : Float) → T (finite x) → T (finite y) → T (le zero32 x) → T (le zero32 y) → Rounds f (over x * den y + over y * den x) 0 (den x * den y) (add f x y)
add_up f x y p q h k =
    let a = ap (λ (z : ℕ). z * den y) (nonneg_under x p h) in
    let b = ap (λ (z : ℕ). z * den x) (nonneg_under y q k) in
    rounds_same f (over x * den y + over y * den x) (under x * den y + under y * den x) (den x * den y) (over x * den y + over y * den x) 0 (den x * den y) (add f x y) refl (omega arith) refl (add_rounds f x y p q)

pub sub_up : (f : Format) (x y : Float) → T (finite x) → T (finite y) → T (le zero32 x) → T (le zero32 y) → Rounds f (over x * den y) (over y * den x) (den x * den y) (sub f x y)
sub_up f x y p q h k =
    let a = ap (λ (z : ℕ). z * den y) (nonneg_under x p h) in
    let b = ap (λ (z : ℕ). z * den x) (nonneg_under y q k) in
    rounds_same f (over x * den y + under y * den x) (under x * den y + over y * den x) (den x * den y) (over x * den y) (over y * den x) (den x * den y) (sub f x y) (omega arith) (omega arith) refl (sub_rounds f x y p q)

pub sub_below : (f : Format) (x y : Float) → T (finite x) → T (finite y) → T (fits f x) → T (le zero32 y) → T (le (sub f x y) x)
sub_below f x y p q h k =
    let z = ap (λ (u : ℕ). u * den x * den x) (nonneg_under y q k) in
    rounds_le f (over x * den y + under y * den x) (under x * den y + over y * den x) (den x * den y) (sub f x y) x (dens x y) (sub_rounds f x y p q) p (representable_fits f x p h)
    (fact (over x) (under x) (den x) (over y) (under y) (den y) z)
  where
    fact : (ox ux dx oy uy dy : ℕ) → uy * dx * dx ≡ 0 * dx * dx → (ox * dy + uy * dx) * dx + ux * (dx * dy) ≤ ox * (dx * dy) + (ux * dy + oy * dx) * dx
    fact ox ux dx oy uy dy z = omega arith

pub add_above : (f : Format) (x y : Float) → T (finite x) → T (finite y) → T (fits f x) → T (le zero32 y) → T (le x (add f x y))
add_above f x y p q h k =
    let z = ap (λ (u : ℕ). u * den x * den x) (nonneg_under y q k) in
    rounds_ge f (over x * den y + over y * den x) (under x * den y + under y * den x) (den x * den y) (add f x y) x (dens x y) (add_rounds f x y p q) p (representable_fits f x p h)
    (fact (over x) (under x) (den x) (over y) (under y) (den y) z)
  where
    fact : (ox ux dx oy uy dy : ℕ) → uy * dx * dx ≡ 0 * dx * dx → ox * (dx * dy) + (ux * dy + uy * dx) * dx ≤ (ox * dy + oy * dx) * dx + ux * (dx * dy)
    fact ox ux dx oy uy dy z = omega arith

pub add_number : (f : Format) (x y : Float) → T (finite x) → T (finite y) → T (number (add f x y))
add_number f x y p q = rounds_number f (over x * den y + over y * den x) (under x * den y + under y * den x) (den x * den y) (add f x y) (dens x y) (add_rounds f x y p q)

-- ---- the product with a factor that is finite and above zero
mul_inf : (f : Format) (s : Bool) (y : Float) → T (positive y) → mul f (inf s) y ≡ inf s
unfolding mul
mul_inf f s nan q = absurd q
mul_inf f s (inf t) q = absurd q
mul_inf f s (fin true n d) q = absurd q
mul_inf f s (fin false n d) q = go (eqb n 0) (eqb→eq n 0) s
  where
    no : n ≡ 0 → ⊥
    no z = let h = ltb→lt 0 n q in omega arith

    go : (b : Bool) → (T b → n ≡ 0) → (s : Bool) → cond b nan (inf (unlike s false)) ≡ inf s
    go true h s = absurd (no (h tt))
    go false h true = refl
    go false h false = refl

pub mul_number : (f : Format) (x y : Float) → T (number x) → T (positive y) → T (number (mul f x y))
mul_number f nan y p q = absurd p
mul_number f (inf s) y p q = subst (λ (z : Float). T (number z)) (sym (mul_inf f s y q)) tt
mul_number f (fin s m e) y p q =
    let x = fin s m e in
    let r = positive-finite y q in
    rounds_number f (over x * over y) (under x * over y) (den x * den y) (mul f x y) (dens x y) (mul_rounds_up f x y tt r (nonneg_under y r (positive_nonneg y q)))

pub mul_scale : (f : Format) (x x' y : Float) → T (positive y) → T (le x x') → T (le (mul f x y) (mul f x' y))
unfolding le
mul_scale f nan x' y q h = absurd h
mul_scale f (inf true) x' y q h = subst (λ (z : Float). T (le z (mul f x' y))) (sym (mul_inf f true y q)) (least (mul f x' y) (mul_number f x' y (le_right (inf true) x' h) q))
mul_scale f (inf false) nan y q h = absurd h
mul_scale f (inf false) (inf true) y q h = absurd h
mul_scale f (inf false) (inf false) y q h = subst (λ (z : Float). T (le z z)) (sym (mul_inf f false y q)) tt
mul_scale f (inf false) (fin t n d) y q h = absurd h
mul_scale f (fin s m e) nan y q h = absurd h
mul_scale f (fin s m e) (inf true) y q h = absurd h
mul_scale f (fin s m e) (inf false) y q h = subst (λ (z : Float). T (le (mul f (fin s m e) y) z)) (sym (mul_inf f false y q)) (greatest (mul f (fin s m e) y) (mul_number f (fin s m e) y tt q))
mul_scale f (fin s m e) (fin t n d) y q h = mul_mono f (fin s m e) (fin t n d) y tt tt (positive-finite y q) (positive_nonneg y q) h

-- A product x * y is at most y where x ≤ 1.
pub mul_within : (f : Format) (x y : Float) → T (finite x) → T (positive y) → T (fits f y) → T (le x one32) → T (le (mul f x y) y)
mul_within f x y p q g h =
    let r = positive-finite y q in
    let u = nonneg_under y r (positive_nonneg y q) in
    rounds_le f (over x * over y) (under x * over y) (den x * den y) (mul f x y) y (dens x y) (mul_rounds_up f x y p r u) r (representable_fits f y r g)
    (fact (over x) (under x) (den x) (over y) (under y) (den y) (le→below x one32 p tt h) u)
  where
    fact : (ox ux dx oy uy dy : ℕ) → ox * 1 + 0 * dx ≤ 1 * 1 * dx + ux * 1 → uy ≡ 0 → ox * oy * dy + uy * (dx * dy) ≤ oy * (dx * dy) + ux * oy * dy
    fact ox ux dx oy uy dy i z =
        let a = mul-le-mul_right (oy * dy) i in
        let b = ap (λ (k : ℕ). k * (dx * dy)) z in
        omega arith

-- The product of x with a whole number B rounds the fraction x * B.
pub mul_whole : (f : Format) (x b : Float) (B : ℕ) → T (finite x) → T (finite b) → HasValue b false B 1 → Rounds f (over x * B) (under x * B) (den x) (mul f x b)
mul_whole f x nan B p q v = absurd q
mul_whole f x (inf s) B p q v = absurd q
mul_whole f x (fin true n d) B p q v = absurd (true≢false v.0)
mul_whole f x (fin false n d) B p q v =
    let b = fin false n d in
    let i = ap (λ (k : ℕ). over x * den x * k) v.1 in
    let j = ap (λ (k : ℕ). under x * den x * k) v.1 in
    rounds_scale f (over x * over b) (under x * over b) (den x * den b) (over x * B) (under x * B) (den x) (mul f x b) (dens x b) (den_pos x) (omega arith) (omega arith) (mul_rounds_up f x b p tt refl)

-- ---- the quotient
one_at_one : (f : Format) → round f false 1 1 ≡ one32
unfolding round
one_at_one binary32 = refl
one_at_one binary64 = refl

pub div_self : (f : Format) (x : Float) → T (positive x) → div f x x ≡ one32
unfolding div
div_self f nan p = absurd p
div_self f (inf s) p = absurd p
div_self f (fin true m e) p = absurd p
div_self f (fin false m e) p = go (eqb m 0) (eqb→eq m 0)
  where
    M : 0 < m
    M = ltb→lt 0 m p

    no : m ≡ 0 → ⊥
    no z = let h = M in omega arith

    go : (b : Bool) → (T b → m ≡ 0) → cond b (cond b nan (inf false)) (round f false (m * up e * down e) (m * up e * down e)) ≡ one32
    go true h = absurd (no (h tt))
    go false h = round_same f false (m * up e * down e) (m * up e * down e) 1 1 (mul-pos (mul-pos M (up_pos e)) (down_pos e)) (pow_pos 0) (mul_comm (m * up e * down e) 1) ∙ one_at_one f

zero_representable : (f : Format) → Representable f zero32
unfolding fits
zero_representable binary32 = representable_fits binary32 zero32 tt tt
zero_representable binary64 = representable_fits binary64 zero32 tt tt

pub div_nonneg : (f : Format) (x y : Float) → T (finite x) → T (positive y) → T (le zero32 x) → T (le zero32 (div f x y))
div_nonneg f x y p q h =
    rounds_ge f (over x * den y) (under x * den y) (over y * den x) (div f x y) zero32 (mul-pos (over_pos y q) (den_pos x)) (div_rounds f x y p q) tt (zero_representable f)
    (let z = ap (λ (u : ℕ). u * den y) (nonneg_under x p h) in omega arith)

pub div_at_most_one : (f : Format) (x y : Float) → T (finite x) → T (positive y) → T (le x y) → T (le (div f x y) one32)
div_at_most_one f x y p q h = subst (λ (z : Float). T (le (div f x y) z)) (div_self f y q) (div_mono f x y y p (positive-finite y q) q h)

pub mul_by_one : (f : Format) (y : Float) → T (positive y) → T (fits f y) → T (le y (mul f one32 y))
mul_by_one f y q g =
    let r = positive-finite y q in
    let u = nonneg_under y r (positive_nonneg y q) in
    rounds_ge f (over one32 * over y) (under one32 * over y) (den one32 * den y) (mul f one32 y) y (dens one32 y) (mul_rounds_up f one32 y tt r u) r (representable_fits f y r g) (omega arith)

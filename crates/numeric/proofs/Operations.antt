-- The four operations keep the order. Each rounds a signed fraction once (`Rounds`), and that fraction rises with the arguments. Assumes nothing.
use Rattle.std.proofs.Common.{◌≡◌, ℕ, ◌+◌, ◌-◌, ◌*◌, ◌<◌, ◌≤◌, Bool, true, false, cond, not, ◌&&◌, T, eqb, ltb, refl, ap, subst, mul-le-mul_right, mul-pos, arith, eqb→eq, ltb→lt, nltb→le}
use lib.Ieee.{Float, nan, inf, fin, Format, up, down, round, sum, add, sub, mul, div, le, neg, unlike}
use lib.Ieee.Fits.{up_pos}
use lib.Ieee.Scale.{finite}
use lib.Ieee.Positive.{den, den_pos, positive}
use Rattle.numeric.specs.Value.{zero32}
use Rattle.numeric.proofs.Fraction.{over, under}
use Rattle.numeric.proofs.Order.{le→below}
use Rattle.numeric.proofs.Rounding.{Rounds, plus, minus, rounds_mono, rounds_same}

-- ---- the sum
sum_rounds : (f : Format) (s : Bool) (a : ℕ) (t : Bool) (b c : ℕ) → Rounds f (cond s 0 a + cond t 0 b) (cond s a 0 + cond t b 0) c (sum f s a t b c)
unfolding sum
sum_rounds f true a true b c = minus (a + b) (omega arith) refl
sum_rounds f false a false b c = plus (a + b) (omega arith) refl
sum_rounds f false a true b c = go (ltb a b) (ltb→lt a b) (nltb→le a b)
  where
    go : (t : Bool) → (T t → a < b) → (T (not t) → b ≤ a) → Rounds f (a + 0) (0 + b) c (cond t (round f true (b - a) c) (round f false (a - b) c))
    go true h k = let l = h tt in minus (b - a) (omega arith) refl
    go false h k = let l = k tt in plus (a - b) (omega arith) refl
sum_rounds f true a false b c = go (ltb a b) (ltb b a) (ltb→lt a b) (nltb→le a b) (nltb→le b a)
  where
    go : (t u : Bool) → (T t → a < b) → (T (not t) → b ≤ a) → (T (not u) → a ≤ b) → Rounds f (0 + b) (a + 0) c (cond t (round f false (b - a) c) (round f (true && u) (a - b) c))
    go true u h k i = let l = h tt in plus (b - a) (omega arith) refl
    go false true h k i = let l = k tt in minus (a - b) (omega arith) refl
    go false false h k i = let l = k tt in let j = i tt in plus (a - b) (omega arith) refl

pub add_rounds : (f : Format) (x y : Float) → T (finite x) → T (finite y) → Rounds f (over x * den y + over y * den x) (under x * den y + under y * den x) (den x * den y) (add f x y)
unfolding add
add_rounds f nan y p q = absurd p
add_rounds f (inf s) y p q = absurd p
add_rounds f (fin s m e) nan p q = absurd q
add_rounds f (fin s m e) (inf t) p q = absurd q
add_rounds f (fin s m e) (fin t n d) p q = at s t (sum_rounds f s (m * up e * down d) t (n * up d * down e) (down e * down d))
  where
    at : (s t : Bool) → Rounds f (cond s 0 (m * up e * down d) + cond t 0 (n * up d * down e)) (cond s (m * up e * down d) 0 + cond t (n * up d * down e) 0) (down e * down d) (sum f s (m * up e * down d) t (n * up d * down e) (down e * down d))
        → Rounds f (over (fin s m e) * down d + over (fin t n d) * down e) (under (fin s m e) * down d + under (fin t n d) * down e) (down e * down d) (sum f s (m * up e * down d) t (n * up d * down e) (down e * down d))
    at true true r = rounds_same f _ _ _ _ _ _ _ (omega arith) (omega arith) refl r
    at true false r = rounds_same f _ _ _ _ _ _ _ (omega arith) (omega arith) refl r
    at false true r = rounds_same f _ _ _ _ _ _ _ (omega arith) (omega arith) refl r
    at false false r = rounds_same f _ _ _ _ _ _ _ (omega arith) (omega arith) refl r

-- ---- the difference
pub neg_finite : (x : Float) → T (finite x) → T (finite (neg x))
unfolding neg
neg_finite nan p = absurd p
neg_finite (inf s) p = absurd p
neg_finite (fin s m e) p = tt

over_neg : (x : Float) → over (neg x) ≡ under x
unfolding neg
over_neg nan = refl
over_neg (inf s) = refl
over_neg (fin true m e) = refl
over_neg (fin false m e) = refl

under_neg : (x : Float) → under (neg x) ≡ over x
unfolding neg
under_neg nan = refl
under_neg (inf s) = refl
under_neg (fin true m e) = refl
under_neg (fin false m e) = refl

den_neg : (x : Float) → den (neg x) ≡ den x
unfolding neg
den_neg nan = refl
den_neg (inf s) = refl
den_neg (fin s m e) = refl

sub_is : (f : Format) (x y : Float) → add f x (neg y) ≡ sub f x y
unfolding sub
sub_is f x y = refl

pub sub_rounds : (f : Format) (x y : Float) → T (finite x) → T (finite y) → Rounds f (over x * den y + under y * den x) (under x * den y + over y * den x) (den x * den y) (sub f x y)
sub_rounds f x y p q =
    subst (λ (z : Float). Rounds f (over x * den y + under y * den x) (under x * den y + over y * den x) (den x * den y) z) (sub_is f x y)
    (rw (den_neg, over_neg, under_neg) at (add_rounds f x (neg y) p (neg_finite y q)))

-- ---- the product
pub mul_rounds : (f : Format) (x y : Float) → T (finite x) → T (finite y) → Rounds f (over x * over y + under x * under y) (over x * under y + under x * over y) (den x * den y) (mul f x y)
unfolding mul
mul_rounds f nan y p q = absurd p
mul_rounds f (inf s) y p q = absurd p
mul_rounds f (fin s m e) nan p q = absurd q
mul_rounds f (fin s m e) (inf t) p q = absurd q
mul_rounds f (fin true m e) (fin true n d) p q = plus (m * up e * (n * up d)) (omega arith) refl
mul_rounds f (fin true m e) (fin false n d) p q = minus (m * up e * (n * up d)) (omega arith) refl
mul_rounds f (fin false m e) (fin true n d) p q = minus (m * up e * (n * up d)) (omega arith) refl
mul_rounds f (fin false m e) (fin false n d) p q = plus (m * up e * (n * up d)) (omega arith) refl

-- ---- the quotient by a value that is finite and above zero
pub div_rounds : (f : Format) (x y : Float) → T (finite x) → T (positive y) → Rounds f (over x * den y) (under x * den y) (over y * den x) (div f x y)
unfolding div
div_rounds f nan y p q = absurd p
div_rounds f (inf s) y p q = absurd p
div_rounds f (fin s m e) nan p q = absurd q
div_rounds f (fin s m e) (inf t) p q = absurd q
div_rounds f (fin s m e) (fin true n d) p q = absurd q
div_rounds f (fin s m e) (fin false n d) p q = go (eqb n 0) (eqb→eq n 0) s
  where
    no : n ≡ 0 → ⊥
    no z = let h = ltb→lt 0 n q in omega arith

    go : (b : Bool) → (T b → n ≡ 0) → (s : Bool) → Rounds f (over (fin s m e) * down d) (under (fin s m e) * down d) (n * up d * down e) (cond b (cond (eqb m 0) nan (inf (unlike s false))) (round f (unlike s false) (m * up e * down d) (n * up d * down e)))
    go true h s = absurd (no (h tt))
    go false h true = minus (m * up e * down d) (omega arith) refl
    go false h false = plus (m * up e * down d) (omega arith) refl

-- ---- the order of the results. Only the arguments are asked to be finite: a result may be an infinity
sum_arith : (ox ux dx ox' ux' dx' oy uy dy oy' uy' dy' : ℕ) → ox * dx' + ux' * dx ≤ ox' * dx + ux * dx' → oy * dy' + uy' * dy ≤ oy' * dy + uy * dy'
    → (ox * dy + oy * dx) * (dx' * dy') + (ux' * dy' + uy' * dx') * (dx * dy) ≤ (ox' * dy' + oy' * dx') * (dx * dy) + (ux * dy + uy * dx) * (dx' * dy')
sum_arith ox ux dx ox' ux' dx' oy uy dy oy' uy' dy' h k =
    let a = scaled ox ux dx ox' ux' dx' dy dy' h in
    let b = scaled oy uy dy oy' uy' dy' dx dx' k in
    parts (ox * dy) (oy * dx) (ux' * dy') (uy' * dx') (ox' * dy') (oy' * dx') (ux * dy) (uy * dx) (dx * dy) (dx' * dy') a (swapped oy uy dy oy' uy' dy' dx dx' b)
  where
    scaled : (o u d o' u' d' e e' : ℕ) → o * d' + u' * d ≤ o' * d + u * d' → o * e * (d' * e') + u' * e' * (d * e) ≤ o' * e' * (d * e) + u * e * (d' * e')
    scaled o u d o' u' d' e e' i = let l = mul-le-mul_right (e * e') i in omega arith

    swapped : (o u d o' u' d' e e' : ℕ) → o * e * (d' * e') + u' * e' * (d * e) ≤ o' * e' * (d * e) + u * e * (d' * e') → o * e * (e' * d') + u' * e' * (e * d) ≤ o' * e' * (e * d) + u * e * (e' * d')
    swapped o u d o' u' d' e e' i = omega arith

    parts : (a b c d a' b' c' d' C C' : ℕ) → a * C' + c * C ≤ a' * C + c' * C' → b * C' + d * C ≤ b' * C + d' * C' → (a + b) * C' + (c + d) * C ≤ (a' + b') * C + (c' + d') * C'
    parts a b c d a' b' c' d' C C' i j = omega arith

pub dens : (x y : Float) → 0 < den x * den y
dens x y = mul-pos (den_pos x) (den_pos y)

pub add_mono : (f : Format) (x x' y y' : Float) → T (finite x) → T (finite x') → T (finite y) → T (finite y') → T (le x x') → T (le y y') → T (le (add f x y) (add f x' y'))
add_mono f x x' y y' p p' q q' h k =
    rounds_mono f (over x * den y + over y * den x) (under x * den y + under y * den x) (den x * den y)
    (over x' * den y' + over y' * den x') (under x' * den y' + under y' * den x') (den x' * den y') (add f x y) (add f x' y') (dens x y) (dens x' y')
    (add_rounds f x y p q) (add_rounds f x' y' p' q')
    (sum_arith (over x) (under x) (den x) (over x') (under x') (den x') (over y) (under y) (den y) (over y') (under y') (den y') (le→below x x' p p' h) (le→below y y' q q' k))

pub sub_mono : (f : Format) (x x' y y' : Float) → T (finite x) → T (finite x') → T (finite y) → T (finite y') → T (le x x') → T (le y' y) → T (le (sub f x y) (sub f x' y'))
sub_mono f x x' y y' p p' q q' h k =
    rounds_mono f (over x * den y + under y * den x) (under x * den y + over y * den x) (den x * den y)
    (over x' * den y' + under y' * den x') (under x' * den y' + over y' * den x') (den x' * den y') (sub f x y) (sub f x' y') (dens x y) (dens x' y')
    (sub_rounds f x y p q) (sub_rounds f x' y' p' q')
    (sum_arith (over x) (under x) (den x) (over x') (under x') (den x') (under y) (over y) (den y) (under y') (over y') (den y') (le→below x x' p p' h)
    (let b = le→below y' y q' q k in omega arith))

-- A factor y that is not negative has `under y` 0.
pub nonneg_under : (y : Float) → T (finite y) → T (le zero32 y) → under y ≡ 0
nonneg_under nan q h = refl
nonneg_under (inf s) q h = refl
nonneg_under (fin true n d) q h = let b = le→below zero32 (fin true n d) tt tt h in omega arith
nonneg_under (fin false n d) q h = refl

mul_arith : (ox ux dx ox' ux' dx' oy dy : ℕ) → ox * dx' + ux' * dx ≤ ox' * dx + ux * dx' → ox * oy * (dx' * dy) + ux' * oy * (dx * dy) ≤ ox' * oy * (dx * dy) + ux * oy * (dx' * dy)
mul_arith ox ux dx ox' ux' dx' oy dy h = let a = mul-le-mul_right (oy * dy) h in omega arith

-- So such a y is over y / den y, and the product rounds this fraction.
pub mul_rounds_up : (f : Format) (x y : Float) → T (finite x) → T (finite y) → under y ≡ 0 → Rounds f (over x * over y) (under x * over y) (den x * den y) (mul f x y)
mul_rounds_up f x y p q z =
    let a = ap (λ (k : ℕ). under x * k) z in
    let b = ap (λ (k : ℕ). over x * k) z in
    rounds_same f (over x * over y + under x * under y) (over x * under y + under x * over y) (den x * den y) (over x * over y) (under x * over y) (den x * den y) (mul f x y) (omega arith) (omega arith) refl (mul_rounds f x y p q)

pub mul_mono : (f : Format) (x x' y : Float) → T (finite x) → T (finite x') → T (finite y) → T (le zero32 y) → T (le x x') → T (le (mul f x y) (mul f x' y))
mul_mono f x x' y p p' q k h =
    let z = nonneg_under y q k in
    rounds_mono f (over x * over y) (under x * over y) (den x * den y) (over x' * over y) (under x' * over y) (den x' * den y) (mul f x y) (mul f x' y) (dens x y) (dens x' y)
    (mul_rounds_up f x y p q z) (mul_rounds_up f x' y p' q z)
    (mul_arith (over x) (under x) (den x) (over x') (under x') (den x') (over y) (den y) (le→below x x' p p' h))

-- A divisor above zero has `over y` above 0.
pub over_pos : (y : Float) → T (positive y) → 0 < over y
over_pos nan p = absurd p
over_pos (inf s) p = absurd p
over_pos (fin true m e) p = absurd p
over_pos (fin false m e) p = mul-pos (ltb→lt 0 m p) (up_pos e)

div_arith : (ox ux dx ox' ux' dx' oy dy : ℕ) → ox * dx' + ux' * dx ≤ ox' * dx + ux * dx' → ox * dy * (oy * dx') + ux' * dy * (oy * dx) ≤ ox' * dy * (oy * dx) + ux * dy * (oy * dx')
div_arith ox ux dx ox' ux' dx' oy dy h = let a = mul-le-mul_right (oy * dy) h in omega arith

pub div_mono : (f : Format) (x x' y : Float) → T (finite x) → T (finite x') → T (positive y) → T (le x x') → T (le (div f x y) (div f x' y))
div_mono f x x' y p p' q h =
    rounds_mono f (over x * den y) (under x * den y) (over y * den x) (over x' * den y) (under x' * den y) (over y * den x') (div f x y) (div f x' y)
    (mul-pos (over_pos y q) (den_pos x)) (mul-pos (over_pos y q) (den_pos x')) (div_rounds f x y p q) (div_rounds f x' y p' q)
    (div_arith (over x) (under x) (den x) (over x') (under x') (den x') (over y) (den y) (le→below x x' p p' h))

-- The order of the floats that are not NaN. A finite x is the fraction (over x - under x) / den x, of which one of `over` and `under` is 0,
-- so that an order of two is one inequality of natural numbers, `Below`, for `omega` to work with. Assumes nothing.
use Rattle.std.proofs.Common.{◌≡◌, ℕ, ◌+◌, ◌*◌, ◌<◌, ◌≤◌, Bool, true, false, not, ◌&&◌, ◌||◌, T, eqb, ltb, ◌⊎◌, sym, subst, inl, inr, le_of_eq, le_refl, le_of_lt, mul-le-mul_right, eq-zero-or-pos, eq-or-lt_of_le, le_of_mul-le-mul_right, arith, eqb→eq, ltb→lt, lt→ltb, nltb→le}
use lib.Ieee.{Float, nan, inf, fin, up, down, lt, eq, le, neg}
use lib.Ieee.Fits.{and_l, and_r, and_i, eq→eqb}
use lib.Ieee.Scale.{finite}
use lib.Ieee.Positive.{den, den_pos}
use Rattle.numeric.proofs.Fraction.{over, under, Below, Strictly, number}

pub finite_number : (x : Float) → T (finite x) → T (number x)
finite_number nan p = absurd p
finite_number (inf s) p = absurd p
finite_number (fin s m e) p = tt

-- ---- tests
or_l : (a b : Bool) → T a → T (a || b)
or_l true b t = tt
or_l false b t = absurd t

or_r : (a b : Bool) → T b → T (a || b)
or_r true b t = tt
or_r false b t = t

or_split : (a b : Bool) → T (a || b) → T a ⊎ T b
or_split true b t = inl tt
or_split false b t = inr t

eq→T : (a b : ℕ) → a ≡ b → T (eqb a b)
eq→T a b h = eq→eqb h

-- One of a < b and c = d, which is how `le` compares two values of one sign, gives a ≤ b.
same_sign : (a b c d : ℕ) → T (ltb a b || (eqb c d && true)) → (c ≡ d → a ≤ b) → a ≤ b
same_sign a b c d t k = elim (or_split (ltb a b) (eqb c d && true) t) [ inl u ↦ le_of_lt (ltb→lt a b u) | inr u ↦ k (eqb→eq c d (and_l (eqb c d) true u)) ]

of_same_sign : (a b c d : ℕ) → a ≤ b → (a ≡ b → c ≡ d) → T (ltb a b || (eqb c d && true))
of_same_sign a b c d h k =
    elim (eq-or-lt_of_le h) [
      | inl p ↦ or_r (ltb a b) (eqb c d && true) (and_i (eqb c d) true (eq→eqb (k p)) tt)
      | inr q ↦ or_l (ltb a b) (eqb c d && true) (lt→ltb a b q)
    ]

-- ---- `le` and `Below`
both_zero : (a b : ℕ) → T (eqb a b && eqb a 0) → a + b ≤ 0
both_zero a b t =
    let p : a ≡ b = eqb→eq a b (and_l (eqb a b) (eqb a 0) t) in
    let q : a ≡ 0 = eqb→eq a 0 (and_r (eqb a b) (eqb a 0) t) in
    omega arith

signs_differ : (a b : ℕ) → T (ltb 0 (a + b) || (eqb a b && eqb a 0))
signs_differ a b =
    elim (eq-zero-or-pos (a + b)) [
      | inl z ↦ or_r (ltb 0 (a + b)) (eqb a b && eqb a 0) (and_i (eqb a b) (eqb a 0) (eq→T a b (omega arith)) (eq→T a 0 (omega arith)))
      | inr p ↦ or_l (ltb 0 (a + b)) (eqb a b && eqb a 0) (lt→ltb 0 (a + b) p)
    ]

pub le→below : (x y : Float) → T (finite x) → T (finite y) → T (le x y) → Below x y
unfolding le
le→below nan y p q h = absurd p
le→below (inf s) y p q h = absurd p
le→below (fin s m e) nan p q h = absurd q
le→below (fin s m e) (inf t) p q h = absurd q
le→below (fin true m e) (fin true n d) p q h = let k = same_sign (n * up d * down e) (m * up e * down d) (m * up e * down d) (n * up d * down e) h (λ z. le_of_eq (sym z)) in omega arith
le→below (fin true m e) (fin false n d) p q h = omega arith
le→below (fin false m e) (fin true n d) p q h = let k = both_zero (m * up e * down d) (n * up d * down e) h in omega arith
le→below (fin false m e) (fin false n d) p q h = let k = same_sign (m * up e * down d) (n * up d * down e) (m * up e * down d) (n * up d * down e) h (λ z. le_of_eq z) in omega arith

pub below→le : (x y : Float) → T (finite x) → T (finite y) → Below x y → T (le x y)
unfolding le
below→le nan y p q h = absurd p
below→le (inf s) y p q h = absurd p
below→le (fin s m e) nan p q h = absurd q
below→le (fin s m e) (inf t) p q h = absurd q
below→le (fin true m e) (fin true n d) p q h = of_same_sign (n * up d * down e) (m * up e * down d) (m * up e * down d) (n * up d * down e) (omega arith) (λ z. sym z)
below→le (fin true m e) (fin false n d) p q h = signs_differ (m * up e * down d) (n * up d * down e)
below→le (fin false m e) (fin true n d) p q h = and_i (eqb (m * up e * down d) (n * up d * down e)) (eqb (m * up e * down d) 0) (eq→T (m * up e * down d) (n * up d * down e) (omega arith)) (eq→T (m * up e * down d) 0 (omega arith))
below→le (fin false m e) (fin false n d) p q h = of_same_sign (m * up e * down d) (n * up d * down e) (m * up e * down d) (n * up d * down e) (omega arith) (λ z. z)

-- ---- `lt` and `Strictly`
pub lt→strictly : (x y : Float) → T (finite x) → T (finite y) → T (lt x y) → Strictly x y
unfolding lt
lt→strictly nan y p q h = absurd p
lt→strictly (inf s) y p q h = absurd p
lt→strictly (fin s m e) nan p q h = absurd q
lt→strictly (fin s m e) (inf t) p q h = absurd q
lt→strictly (fin true m e) (fin true n d) p q h = let k = ltb→lt (n * up d * down e) (m * up e * down d) h in omega arith
lt→strictly (fin true m e) (fin false n d) p q h = let k = ltb→lt 0 (m * up e * down d + n * up d * down e) h in omega arith
lt→strictly (fin false m e) (fin true n d) p q h = absurd h
lt→strictly (fin false m e) (fin false n d) p q h = let k = ltb→lt (m * up e * down d) (n * up d * down e) h in omega arith

pub strictly→lt : (x y : Float) → T (finite x) → T (finite y) → Strictly x y → T (lt x y)
unfolding lt
strictly→lt nan y p q h = absurd p
strictly→lt (inf s) y p q h = absurd p
strictly→lt (fin s m e) nan p q h = absurd q
strictly→lt (fin s m e) (inf t) p q h = absurd q
strictly→lt (fin true m e) (fin true n d) p q h = lt→ltb (n * up d * down e) (m * up e * down d) (omega arith)
strictly→lt (fin true m e) (fin false n d) p q h = lt→ltb 0 (m * up e * down d + n * up d * down e) (omega arith)
strictly→lt (fin false m e) (fin true n d) p q h = absurd (nothing_below (m * up e * down d) (n * up d * down e) (omega arith))
  where
    nothing_below : (a b : ℕ) → a + b < 0 → ⊥
    nothing_below a b k = omega arith
strictly→lt (fin false m e) (fin false n d) p q h = lt→ltb (m * up e * down d) (n * up d * down e) (omega arith)

-- ---- the ends
pub least : (x : Float) → T (number x) → T (le (inf true) x)
unfolding le
least nan p = absurd p
least (inf true) p = tt
least (inf false) p = tt
least (fin s m e) p = tt

pub greatest : (x : Float) → T (number x) → T (le x (inf false))
unfolding le
greatest nan p = absurd p
greatest (inf true) p = tt
greatest (inf false) p = tt
greatest (fin s m e) p = tt

-- ---- an order: what is below something is a number, and `le` is reflexive, transitive and total on numbers
pub le_left : (x y : Float) → T (le x y) → T (number x)
unfolding le
le_left nan y h = absurd h
le_left (inf s) y h = tt
le_left (fin s m e) y h = tt

pub le_right : (x y : Float) → T (le x y) → T (number y)
unfolding le
le_right nan y h = absurd h
le_right (inf s) nan h = absurd h
le_right (inf s) (inf t) h = tt
le_right (inf s) (fin t n d) h = tt
le_right (fin s m e) nan h = absurd h
le_right (fin s m e) (inf t) h = tt
le_right (fin s m e) (fin t n d) h = tt

pub le_same : (x : Float) → T (number x) → T (le x x)
unfolding le
le_same nan p = absurd p
le_same (inf true) p = tt
le_same (inf false) p = tt
le_same (fin s m e) p = below→le (fin s m e) (fin s m e) tt tt (le_refl (over (fin s m e) * down e + under (fin s m e) * down e))

chain : (ox ux dx oy uy dy oz uz dz : ℕ) → 0 < dy → ox * dy + uy * dx ≤ oy * dx + ux * dy → oy * dz + uz * dy ≤ oz * dy + uy * dz → ox * dz + uz * dx ≤ oz * dx + ux * dz
chain ox ux dx oy uy dy oz uz dz D h k =
    let a = mul-le-mul_right dz h in
    let b = mul-le-mul_right dx k in
    let c : (ox * dz + uz * dx) * dy ≤ (oz * dx + ux * dz) * dy = omega arith in
    le_of_mul-le-mul_right c D

pub le_through : (x y z : Float) → T (le x y) → T (le y z) → T (le x z)
unfolding le
le_through nan y z h k = absurd h
le_through (inf true) y z h k = least z (le_right y z k)
le_through (inf false) nan z h k = absurd h
le_through (inf false) (inf true) z h k = absurd h
le_through (inf false) (inf false) z h k = k
le_through (inf false) (fin t n d) z h k = absurd h
le_through (fin s m e) nan z h k = absurd h
le_through (fin s m e) (inf true) z h k = absurd h
le_through (fin s m e) (inf false) nan h k = absurd k
le_through (fin s m e) (inf false) (inf true) h k = absurd k
le_through (fin s m e) (inf false) (inf false) h k = tt
le_through (fin s m e) (inf false) (fin r l c) h k = absurd k
le_through (fin s m e) (fin t n d) nan h k = absurd k
le_through (fin s m e) (fin t n d) (inf true) h k = absurd k
le_through (fin s m e) (fin t n d) (inf false) h k = tt
le_through (fin s m e) (fin t n d) (fin r l c) h k =
    below→le (fin s m e) (fin r l c) tt tt
    (chain (over (fin s m e)) (under (fin s m e)) (down e) (over (fin t n d)) (under (fin t n d)) (down d) (over (fin r l c)) (under (fin r l c)) (down c)
    (den_pos (fin t n d)) (le→below (fin s m e) (fin t n d) tt tt h) (le→below (fin t n d) (fin r l c) tt tt k))

pub lt_or_le : (a b : ℕ) → (a < b) ⊎ (b ≤ a)
lt_or_le a b = go (ltb a b) (ltb→lt a b) (nltb→le a b)
  where
    go : (t : Bool) → (T t → a < b) → (T (not t) → b ≤ a) → (a < b) ⊎ (b ≤ a)
    go true h k = inl (h tt)
    go false h k = inr (k tt)

-- The order is total, and `lt` is its strict part.
pub le_or_lt : (x y : Float) → T (number x) → T (number y) → T (le x y) ⊎ T (lt y x)
unfolding le
le_or_lt nan y p q = absurd p
le_or_lt (inf s) nan p q = absurd q
le_or_lt (inf true) (inf true) p q = inl tt
le_or_lt (inf true) (inf false) p q = inl tt
le_or_lt (inf false) (inf true) p q = inr tt
le_or_lt (inf false) (inf false) p q = inl tt
le_or_lt (inf true) (fin t n d) p q = inl tt
le_or_lt (inf false) (fin t n d) p q = inr tt
le_or_lt (fin s m e) nan p q = absurd q
le_or_lt (fin s m e) (inf true) p q = inr tt
le_or_lt (fin s m e) (inf false) p q = inl tt
le_or_lt (fin s m e) (fin t n d) p q =
    let x = fin s m e in
    let y = fin t n d in
    elim (lt_or_le (over y * den x + under x * den y) (over x * den y + under y * den x)) [
      | inl a ↦ inr (strictly→lt y x tt tt a)
      | inr b ↦ inl (below→le x y tt tt b)
    ]

pub lt→le : (x y : Float) → T (lt x y) → T (le x y)
unfolding le
lt→le x y h = or_l (lt x y) (eq x y) h

pub lt_not_le : (x y : Float) → T (lt x y) → T (le y x) → ⊥
unfolding le
lt_not_le nan y h k = h
lt_not_le (inf s) nan h k = h
lt_not_le (inf true) (inf true) h k = h
lt_not_le (inf true) (inf false) h k = k
lt_not_le (inf false) (inf t) h k = h
lt_not_le (inf true) (fin t n d) h k = k
lt_not_le (inf false) (fin t n d) h k = h
lt_not_le (fin s m e) nan h k = h
lt_not_le (fin s m e) (inf true) h k = h
lt_not_le (fin s m e) (inf false) h k = k
lt_not_le (fin s m e) (fin t n d) h k = clash (lt→strictly (fin s m e) (fin t n d) tt tt h) (le→below (fin t n d) (fin s m e) tt tt k)
  where
    clash : Strictly (fin s m e) (fin t n d) → Below (fin t n d) (fin s m e) → ⊥
    clash a b = omega arith

-- ---- the order upside down
pub le_neg : (x y : Float) → T (le x y) → T (le (neg y) (neg x))
unfolding le neg
le_neg nan y h = absurd h
le_neg (inf s) nan h = absurd h
le_neg (inf true) (inf true) h = tt
le_neg (inf true) (inf false) h = tt
le_neg (inf false) (inf true) h = absurd h
le_neg (inf false) (inf false) h = tt
le_neg (inf true) (fin t n d) h = tt
le_neg (inf false) (fin t n d) h = absurd h
le_neg (fin s m e) nan h = absurd h
le_neg (fin s m e) (inf true) h = absurd h
le_neg (fin s m e) (inf false) h = tt
le_neg (fin true m e) (fin true n d) h = below→le (fin false n d) (fin false m e) tt tt (let k = le→below (fin true m e) (fin true n d) tt tt h in omega arith)
le_neg (fin true m e) (fin false n d) h = below→le (fin true n d) (fin false m e) tt tt (let k = le→below (fin true m e) (fin false n d) tt tt h in omega arith)
le_neg (fin false m e) (fin true n d) h = below→le (fin false n d) (fin true m e) tt tt (let k = le→below (fin false m e) (fin true n d) tt tt h in omega arith)
le_neg (fin false m e) (fin false n d) h = below→le (fin true n d) (fin true m e) tt tt (let k = le→below (fin false m e) (fin false n d) tt tt h in omega arith)

-- ---- a test of a program, as an equation
pub holds : (b : Bool) → b ≡ true → T b
holds b p = subst T (sym p) tt

pub fails : (b : Bool) → b ≡ false → T b → ⊥
fails b p t = subst T p t

-- Where `x < y` is false of two numbers, y ≤ x.
pub not_lt : (x y : Float) → T (number x) → T (number y) → lt x y ≡ false → T (le y x)
not_lt x y p q h = elim (le_or_lt y x q p) [ inl a ↦ a | inr b ↦ absurd (fails (lt x y) h b) ]

-- Two values each of which is at most the other are equal in the sense of `==`, which has +0 equal to -0.
pub le_antisym : (x y : Float) → T (le x y) → T (le y x) → T (eq x y)
unfolding le
le_antisym x y h k = elim (or_split (lt x y) (eq x y) h) [ inl t ↦ absurd (lt_not_le x y t k) | inr t ↦ t ]

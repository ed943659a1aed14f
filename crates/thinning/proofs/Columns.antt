-- A direction stored into the columns becomes the next row, and the rows before it stay as they are. Assumes nothing.
use mathlib.Core.Path.{◌≡◌, refl, ap₂, ◌∙◌}
use mathlib.Core.List.{List, [], ◌∷◌, ◌++◌}
use Prim.Native.Nat.{ℕ, zero, suc, ◌+◌, ◌≤◌, ◌<◌}
use native.Mathlib.Omega.{arith}
use native.Mathlib.Numerals.{add-one}
use lib.ListN.{length, get_or, set, length-append}
use lib.Seq.{get_or-set_same, get_or-set_other}
use lib.Ieee.{Float, nan}
use Rattle.thinning.specs.Columns.{row_at, rows_of}

-- A list of length 3 is made of its three elements.
three : (v : List Float) → length v ≡ 3 → (get_or v 0 nan ∷ get_or v 1 nan ∷ get_or v 2 nan ∷ []) ≡ v
three [] h = absurd (omega arith)
three (a ∷ []) h = absurd (omega arith)
three (a ∷ b ∷ []) h = absurd (omega arith)
three (a ∷ b ∷ c ∷ []) h = refl
three (a ∷ b ∷ c ∷ d ∷ l) h = absurd (omega arith)

same_row : {a b c a' b' c' : Float} → a ≡ a' → b ≡ b' → c ≡ c' → ◌≡◌ {A = List Float} (a ∷ b ∷ c ∷ []) (a' ∷ b' ∷ c' ∷ [])
same_row p q r = cc

module _ (x y z : List Float) (n : ℕ) (a b c : Float) where
  before : (j : ℕ) → j < n → row_at (set x n a) (set y n b) (set z n c) j ≡ row_at x y z j
  unfolding row_at
  before j h =
      let d : j ≡ n → ⊥ = λ e. omega arith in
      same_row (get_or-set_other x n j a nan d) (get_or-set_other y n j b nan d) (get_or-set_other z n j c nan d)

  rows_before : (k : ℕ) → k ≤ n → rows_of (set x n a) (set y n b) (set z n c) k ≡ rows_of x y z k
  unfolding rows_of
  rows_before zero h = refl
  rows_before (suc k) h = ap₂ (λ (l : List (List Float)) (w : List Float). l ++ (w ∷ [])) (rows_before k (omega arith)) (before k (omega arith))

  here : n < length x → n < length y → n < length z → row_at (set x n a) (set y n b) (set z n c) n ≡ a ∷ b ∷ c ∷ []
  unfolding row_at
  here p q r = same_row (get_or-set_same x n a nan p) (get_or-set_same y n b nan q) (get_or-set_same z n c nan r)

pub vector_stored : (x y z : List Float) (n : ℕ) (v : List Float) → length v ≡ 3 → n < length x → n < length y → n < length z
    → rows_of (set x n (get_or v 0 nan)) (set y n (get_or v 1 nan)) (set z n (get_or v 2 nan)) (n + 1) ≡ rows_of x y z n ++ (v ∷ [])
unfolding rows_of
vector_stored x y z n v h p q r =
    rw add-one
    (ap₂ (λ (l : List (List Float)) (w : List Float). l ++ (w ∷ []))
    (rows_before x y z n (get_or v 0 nan) (get_or v 1 nan) (get_or v 2 nan) n (omega arith))
    (here x y z n (get_or v 0 nan) (get_or v 1 nan) (get_or v 2 nan) p q r ∙ three v h))

-- There are n directions in the first n rows.
pub rows_count : (x y z : List Float) (n : ℕ) → length (rows_of x y z n) ≡ n
unfolding rows_of
rows_count x y z zero = refl
rows_count x y z (suc n) = omega (arith, rows_count x y z n, length-append (rows_of x y z n) (row_at x y z n ∷ []))

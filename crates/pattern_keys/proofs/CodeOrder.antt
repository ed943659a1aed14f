-- The order of the codes around each code is right, by computing all 32 orders. Assumes nothing.
use mathlib.Core.Bool.{Bool, true, false, cond}
use mathlib.Core.List.{List, [], ◌∷◌}
use Prim.Native.Nat.{ℕ, suc, ◌+◌, ◌*◌, ◌/◌, ◌%◌, ◌≤◌, ◌<◌}
use lib.Dec.{T, eqb, ltb, leb, ltb→lt, leb→le}
use Rattle.pattern_keys.specs.Keys.{squared_difference}
use Rattle.pattern_keys.specs.CodeOrder.{unpack, ones, twos, codes_around}
use Rattle.pattern_keys.proofs.CodeSets.{both, below, at, both_left, both_right}

-- The number of parts in which two codes differ.
unfoldable pub differ : ℕ → ℕ → ℕ
differ c x =
    squared_difference (c / 16 % 2) (x / 16 % 2) + squared_difference (c / 8 % 2) (x / 8 % 2) + squared_difference (c / 4 % 2) (x / 4 % 2) + squared_difference (c / 2 % 2) (x / 2 % 2) + squared_difference (c % 2) (x % 2)

-- The rank of x around c: by the number of parts that differ, then by code.
unfoldable pub rank : ℕ → ℕ → ℕ
rank c x = differ c x * 32 + x

-- The codes of the list have five bits each, and their ranks rise, the first one being at least m.
unfoldable pub rising : ℕ → ℕ → List ℕ → Bool
rising c m [] = true
rising c m (x ∷ l) = both (ltb x 32) (both (leb m (rank c x)) (rising c (suc (rank c x)) l))

pub record Step (c m x : ℕ) (l : List ℕ) : Type 0 where
  pub small : x < 32
  pub late : m ≤ rank c x
  pub rest : T (rising c (suc (rank c x)) l)

pub step : (c m x : ℕ) (l : List ℕ) → T (rising c m (x ∷ l)) → Step c m x l
unfolding rising
step c m x l t =
    let u = both (leb m (rank c x)) (rising c (suc (rank c x)) l) in
    let w = both_right (ltb x 32) u t in
    record { small = ltb→lt x 32 (both_left (ltb x 32) u t); late = leb→le m (rank c x) (both_left (leb m (rank c x)) (rising c (suc (rank c x)) l) w); rest = both_right (leb m (rank c x)) (rising c (suc (rank c x)) l) w }

-- Whether x is in the list.
unfoldable pub among : ℕ → List ℕ → Bool
among x [] = false
among x (y ∷ l) = cond (eqb x y) true (among x l)

complete : ℕ → Bool
complete c = below (λ (x : ℕ). among x (codes_around c)) 32

right : ℕ → Bool
right c = both (rising c 0 (codes_around c)) (complete c)

all_right : T (below right 32)
unfolding squared_difference unpack ones twos codes_around right rising rank differ complete among
all_right = tt

-- The ranks of the order around c rise.
pub order_rises : (c : ℕ) → c < 32 → T (rising c 0 (codes_around c))
unfolding right
order_rises c h = both_left (rising c 0 (codes_around c)) (complete c) (at right 32 all_right c h)

-- The order around c has every code.
pub order_all : (c : ℕ) → c < 32 → (x : ℕ) → x < 32 → T (among x (codes_around c))
unfolding right complete
order_all c h x k = at (λ (z : ℕ). among z (codes_around c)) 32 (both_right (rising c 0 (codes_around c)) (complete c) (at right 32 all_right c h)) x k

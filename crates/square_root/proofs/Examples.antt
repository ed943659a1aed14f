-- The roots of single values, by computation: the conditions are tests of numerals. Assumes nothing.
use mathlib.Core.Path.{◌≡◌, ap, ◌∙◌}
use Prim.Native.Nat.{ℕ, suc, ◌+◌, ◌-◌, ◌*◌, ◌/◌, ◌^◌}
use mathlib.Core.Bool.{Bool, false, ◌&&◌}
use lib.IntN.{ℤ, negsuc}
use lib.Dec.{T, leb, ltb, eqb, ltb→lt, leb→le, eqb→eq}
use lib.Ieee.{fin, up, down, size, odd}
use lib.Ieee.Fits.{and_l, and_r}
use Rattle.square_root.specs.Root.{nearest_root, root_of}
use Rattle.square_root.proofs.Count.{nearest_is}
use Rattle.square_root.proofs.Values.{of_whole_at, root_pos}

-- The number w is n * 4 ^ d, and q is the number nearest to √n.
unfoldable pub right : ℕ → ℕ → ℕ → ℕ → Bool
unfolding size
right w n d q = eqb w (n * 4 ^ d) && eqb ((size w - 47) / 2) d && ltb (q * q) (n + q) && leb n (q * q + q) && leb q 16777216

pub root_is : (m : ℕ) (e : ℤ) (n d q : ℕ) → T (right (suc m * up e * 2 ^ 298 / down e) n d q) → root_of (fin false (suc m) e) ≡ odd 24 false q d 149
unfolding right
root_is m e n d q t =
    let w = suc m * up e * 2 ^ 298 / down e in
    let a = eqb w (n * 4 ^ d) in
    let b = eqb ((size w - 47) / 2) d in
    let f = ltb (q * q) (n + q) in
    let g = leb n (q * q + q) in
    let h = leb q 16777216 in
    let t4 : T (a && b && f && g) = and_l (a && b && f && g) h t in
    let t3 : T (a && b && f) = and_l (a && b && f) g t4 in
    let t2 : T (a && b) = and_l (a && b) f t3 in
    root_pos m e
    ∙ of_whole_at w q d (eqb→eq ((size w - 47) / 2) d (and_r a b t2))
    (ap (λ (x : ℕ). nearest_root x d) (eqb→eq w (n * 4 ^ d) (and_l a b t2))
    ∙ nearest_is n q d (ltb→lt (q * q) (n + q) (and_r (a && b) f t3)) (leb→le n (q * q + q) (and_r (a && b && f) g t4)) (leb→le q 16777216 (and_r (a && b && f && g) h t)))

-- The root of 0.25 is 0.5.
pub quarter : root_of (fin false 1 (negsuc 1)) ≡ fin false 1 (negsuc 0)
unfolding right odd
quarter = root_is 0 (negsuc 1) (2 ^ 46) 125 (2 ^ 23) tt

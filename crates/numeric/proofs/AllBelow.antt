-- What `all` of a range says: of one number more, where a definition goes from number to number. Assumes nothing.
use Prim.Native.Nat.{ℕ, zero, suc, ◌+◌}
use mathlib.Core.Path.{◌≡◌, ap, ◌∙◌}
use mathlib.Core.Bool.{Bool, ◌&&◌, and-true}
use mathlib.Core.List.{[], ◌∷◌, ◌++◌}
use native.Mathlib.Omega.{arith}
use native.Mathlib.Nat.{add-zero, zero-add}
use Rattle.std.specs.List.{list_all, range_with_len}
use Rattle.std.proofs.lemmas.List.Folds.{list_all-append}

range_more : (a n : ℕ) → range_with_len a (suc n) ≡ range_with_len a n ++ ((a + n) ∷ [])
range_more a zero = rw add-zero
range_more a (suc n) = let e : a + 1 + n ≡ a + suc n = omega arith in ap (a ∷◌) (range_more (a + 1) n ∙ ap (λ (x : ℕ). range_with_len (a + 1) n ++ (x ∷ [])) e)

pub all_more : (p : ℕ → Bool) (n : ℕ) → list_all p (range_with_len 0 (suc n)) ≡ (list_all p (range_with_len 0 n) && p n)
all_more p n =
    ap (list_all p) (range_more 0 n)
    ∙ list_all-append p (range_with_len 0 n) ((0 + n) ∷ [])
    ∙ ap (list_all p (range_with_len 0 n) &&◌) (and-true (p (0 + n)) ∙ ap p (zero-add n))

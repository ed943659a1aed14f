-- The combinations that the undivided run tries: those of all passes, in order, each once, as many as the cap lets through. Assumes nothing.
use mathlib.Core.Path.{◌≡◌, refl, ◌∙◌, ap, ap₂}
use Prim.Native.Nat.{ℕ, zero, suc, ◌<◌}
use native.Mathlib.Omega.{arith}
use native.Mathlib.Nat.{sub-zero}
use mathlib.Core.List.{List, [], ◌∷◌, ◌++◌}
use mathlib.Core.Bool.{Bool, true, false, cond}
use lib.ListN.{length}
use Rattle.combinations.specs.declared.Combination.{Combination}
use Rattle.combinations.specs.Lists.{each, span, upto}
use Rattle.undivided_run.specs.Undivided.{Cap}
use Rattle.undivided_run.specs.declared.state.Position.{Position as Read}
use Rattle.undivided_run.specs.Undivided.{Feed, is_zero, starts, filled, chain, reads_of, undivided}
use Rattle.undivided_run.specs.Calls.{tried}
use Rattle.undivided_run.specs.Tried.{capped, all_combinations}
use Rattle.undivided_run.proofs.Closed.{reads_closed}
use Rattle.undivided_run.specs.Tried.{tried_in}
use Rattle.combinations.specs.Lists.{All}
use Rattle.undivided_run.specs.PositionExists.{Keyed}
use Rattle.undivided_run.proofs.CombinationExists.{Fit, all_fit}

tried_in_append : (xs ys : List Read) → tried_in (xs ++ ys) ≡ tried_in xs ++ tried_in ys
unfolding tried_in
tried_in_append [] ys = refl
tried_in_append (x ∷ xs) ys = by (starts x) (tried_in_append xs ys)
  where
    by : (b : Bool) → tried_in (xs ++ ys) ≡ tried_in xs ++ tried_in ys → cond b ((x.pass, x.four) ∷ tried_in (xs ++ ys)) (tried_in (xs ++ ys)) ≡ cond b ((x.pass, x.four) ∷ tried_in xs) (tried_in xs) ++ tried_in ys
    by true h = ap ((x.pass, x.four) ∷◌) h
    by false h = h

-- `tried` counts the combinations that `tried_in` lists.
pub tried_length : (rs : List Read) → tried rs ≡ length (tried_in rs)
unfolding tried tried_in
tried_length [] = refl
tried_length (r ∷ rs) = by (starts r) (tried_length rs)
  where
    by : (b : Bool) → tried rs ≡ length (tried_in rs) → cond b (suc (tried rs)) (tried rs) ≡ length (cond b ((r.pass, r.four) ∷ tried_in rs) (tried_in rs))
    by true h = ap suc h
    by false h = h

module _ {E C : Type 0} (F : Feed E C) where
  stop : (b : Bool) (xs : List Read) → tried_in xs ≡ [] → tried_in (cond b xs []) ≡ []
  unfolding tried_in
  stop true xs h = h
  stop false xs h = refl

  later_probe : (i : ℕ) (q : Combination) (k m c : ℕ) → tried_in (chain F i q k m (suc c)) ≡ []
  unfolding tried_in chain starts is_zero
  later_probe i q k zero c = refl
  later_probe i q k (suc m) c = stop (filled F _) _ (later_probe i q k m (suc c))

  later_key : (i : ℕ) (q : Combination) (k m : ℕ) → tried_in (chain F i q (suc k) m 0) ≡ []
  unfolding tried_in chain starts is_zero
  later_key i q k zero = refl
  later_key i q k (suc m) = stop (filled F _) _ (later_probe i q (suc k) m 0)

  later_keys : (i : ℕ) (q : Combination) (n k m : ℕ) → tried_in (each (span (suc k) n) λ k. chain F i q k m 0) ≡ []
  unfolding tried_in each span
  later_keys i q zero k m = refl
  later_keys i q (suc n) k m = tried_in_append (chain F i q (suc k) m 0) _ ∙ ap₂ ◌++◌ (later_key i q k m) (later_keys i q n (suc k) m)

  first_key : (i : ℕ) (q : Combination) (m : ℕ) → 0 < m → tried_in (chain F i q 0 m 0) ≡ (i, q) ∷ []
  unfolding tried_in chain starts is_zero
  first_key i q zero h = absurd (omega arith)
  first_key i q (suc m) h = ap ((i, q) ∷◌) (stop (filled F _) _ (later_probe i q 0 m 0))

  all_keys : (i : ℕ) (q : Combination) (n m : ℕ) → 0 < n → 0 < m → tried_in (each (span 0 n) λ k. chain F i q k m 0) ≡ (i, q) ∷ []
  unfolding each span
  all_keys i q zero m h s = absurd (omega arith)
  all_keys i q (suc n) m h s = tried_in_append (chain F i q 0 m 0) _ ∙ ap₂ ◌++◌ (first_key i q m s) (later_keys i q n 0 m)

  tried_four : (i : ℕ) (q : Combination) → 0 < F.keys i q → 0 < F.slots → tried_in (reads_of F i q) ≡ (i, q) ∷ []
  unfolding upto reads_of
  tried_four i q h s = rw sub-zero (all_keys i q (F.keys i q) F.slots h s)

  tried_all : Keyed F → (xs : List (ℕ × Combination)) → All (Fit F) xs → tried_in (each xs λ x. reads_of F x.0 x.1) ≡ xs
  unfolding tried_in each
  tried_all keyed [] h = refl
  tried_all keyed (x ∷ xs) h = tried_in_append (reads_of F x.0 x.1) _ ∙ ap₂ ◌++◌ (tried_four x.0 x.1 (keyed x.0 x.1 h.0) h.0.slots) (tried_all keyed xs h.1)

  -- The run tries the combinations of all passes, in order, each once, as many as the cap lets through.
  pub run_tries : Keyed F → (cap : Cap) → tried_in (undivided F cap).reads ≡ capped cap (all_combinations F)
  run_tries keyed cap = rw (reads_closed F cap) (tried_all keyed (capped cap (all_combinations F)) (all_fit F cap))

-- How keys with filled home slots are looked for ahead. Assumes nothing.
use mathlib.Core.Path.{◌≡◌, refl, sym, ap, subst, ◌∙◌}
use Prim.Native.Nat.{ℕ, suc, ◌+◌, ◌≤◌, ◌<◌}
use native.Mathlib.Omega.{arith}
use mathlib.Core.Bool.{Bool, true, false}
use mathlib.Core.List.{List, [], ◌∷◌}
use lib.Dec.{ltb}
use lib.ListN.{length, get_or, take, drop, set}
use mir.Val.{bool_byte}
use Rattle.std.proofs.lemmas.List.{take-set, take_more_set, drop_more, drop_all}
use Rattle.std.proofs.Common.{◌++◌}
use borrow.Author.Tests.{ltb-true, ltb-false}
use Rattle.pattern_catalog.specs.Blocks.{filled}
use Rattle.fast_path.specs.SkipStep.{home_at, EmptyHomes, FilledKeys}
use Rattle.fast_path.specs.declared.skip_reads.FilledKey.{FilledKey}
use Rattle.fast_path.specs.declared.skip_reads.Reads.{Reads}

module _ (r : Reads) where
  pub none_filled : (lo : ℕ) → FilledKeys r lo lo []
  unfolding FilledKeys
  none_filled lo = (omega arith, λ q a b. absurd (omega arith))

  -- The key lo alone, found with its home slot.
  pub one_found : (lo v : ℕ) → v ≡ home_at r lo → FilledKeys r lo (lo + 1) (record { key = lo; home = v } ∷ [])
  unfolding FilledKeys
  one_found lo v e = (omega arith, omega arith, e, (λ q a b. absurd (omega arith)), (omega arith, λ q a b. absurd (omega arith)))

  -- The first of them is the next key whose home slot is filled.
  pub record NextFilled (lo hi : ℕ) (f : FilledKey) (found : List FilledKey) : Type 0 where
    pub from : lo ≤ f.key
    pub below : f.key < hi
    pub home : f.home ≡ home_at r f.key
    pub between : EmptyHomes r lo f.key
    pub rest : FilledKeys r (f.key + 1) hi found

  next_of : (lo hi : ℕ) (f : FilledKey) (found : List FilledKey) → FilledKeys r lo hi (f ∷ found) → NextFilled lo hi f found
  unfolding FilledKeys
  next_of lo hi f found A = record { from = A.0; below = A.1; home = A.2; between = A.3; rest = subst (λ (x : ℕ). FilledKeys r x hi found) (let z : suc f.key ≡ f.key + 1 = omega arith in z) A.4 }

  pub next_filled : (lo hi : ℕ) (l : List FilledKey) (i : ℕ) → i < length l → FilledKeys r lo hi (drop i l) → NextFilled lo hi (get_or l i (record { key = 0; home = 0 })) (drop (i + 1) l)
  next_filled lo hi l i h A = next_of lo hi _ _ (subst (FilledKeys r lo hi) (drop_more l i (record { key = 0; home = 0 }) h) A)

  none_of : (lo hi : ℕ) → FilledKeys r lo hi [] → (lo ≤ hi) × EmptyHomes r lo hi
  unfolding FilledKeys
  none_of lo hi A = A

  -- After the last of them every key has an empty home slot.
  pub none_after : (lo hi : ℕ) (l : List FilledKey) (i : ℕ) → length l ≤ i → FilledKeys r lo hi (drop i l) → (lo ≤ hi) × EmptyHomes r lo hi
  none_after lo hi l i h A = none_of lo hi (subst (FilledKeys r lo hi) (drop_all i l h) A)

  empty_more : (lo hi : ℕ) → EmptyHomes r lo hi → filled r.known.table.words.now (home_at r hi) ≡ false → EmptyHomes r lo (hi + 1)
  empty_more lo hi E f q a b = by (ltb q hi) refl
    where
      by : (t : Bool) → ltb q hi ≡ t → filled r.known.table.words.now (home_at r q) ≡ false
      by true e = E q a (ltb-true q hi e)
      by false e = let l = ltb-false q hi e in let s : q ≡ hi = omega (arith, l, b) in rw s f

  -- The next key is looked at. Its home slot is empty, or it is one more of them.
  pub filled_same : (found : List FilledKey) (lo hi : ℕ) → filled r.known.table.words.now (home_at r hi) ≡ false → FilledKeys r lo hi found → FilledKeys r lo (hi + 1) found
  unfolding FilledKeys
  filled_same [] lo hi f A = (omega (arith, A.0), empty_more lo hi A.1 f)
  filled_same (g ∷ found) lo hi f A = (A.0, omega (arith, A.1), A.2, A.3, filled_same found (suc g.key) hi f A.4)

  pub filled_more : (found : List FilledKey) (lo hi v : ℕ) → v ≡ home_at r hi → FilledKeys r lo hi found → FilledKeys r lo (hi + 1) (found ++ (record { key = hi; home = v } ∷ []))
  unfolding FilledKeys
  filled_more [] lo hi v e A = (A.0, omega arith, e, A.1, (omega arith, λ q a b. absurd (omega arith)))
  filled_more (g ∷ found) lo hi v e A = (A.0, omega (arith, A.1), A.2, A.3, filled_more found (suc g.key) hi v e A.4)

  -- The key is written after the m found before, and the test of its home slot, as a number, is added to their count.
  pub filled_looked : (found : List FilledKey) (lo hi m v : ℕ) → m < length found → v ≡ home_at r hi → FilledKeys r lo hi (take m found) → (b : Bool) → b ≡ filled r.known.table.words.now v → FilledKeys r lo (hi + 1) (take (m + bool_byte b) (set found m (record { key = hi; home = v })))
  filled_looked found lo hi m v h e A true be = rw (take_more_set found m (record { key = hi; home = v }) h) (filled_more (take m found) lo hi v e A)
  filled_looked found lo hi m v h e A false be =
      let z : m + 0 ≡ m = omega arith in
      rw (z, take-set found m (record { key = hi; home = v })) (filled_same (take m found) lo hi (ap (filled r.known.table.words.now) (sym e) ∙ sym be) A)

pub byte_most : (b : Bool) → bool_byte b ≤ 1
byte_most true = omega arith
byte_most false = omega arith

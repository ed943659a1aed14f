-- The reads along a chain step by step, in the terms that the code uses. Assumes nothing.
use mathlib.Core.Path.{◌≡◌, sym, ap, ◌∙◌}
use Prim.Native.Nat.{ℕ, zero, suc, ◌+◌, ◌-◌, ◌*◌, ◌%◌, ◌≤◌, ◌<◌}
use native.Mathlib.Omega.{arith}
use native.Mathlib.Numerals.{add-one}
use mathlib.Core.Bool.{Bool, true, false, cond}
use mathlib.Core.List.{List}
use lib.Dec.{ltb}
use lib.Ieee.{Float}
use borrow.Author.Tests.{lt-ltb, le-ltb}
use Rattle.fast_path.specs.SlotPeek.{peek_of}
use Rattle.fast_path.specs.ProbeChain.{along_chain, along_chain_by, peek_at}
use Rattle.fast_path.specs.declared.probe_chain.SlotPeek.{SlotPeek}
use Rattle.fast_path.specs.declared.probe_chain.SlotPeek.TheVariants.{Empty, Passed, Stop}
use Rattle.fast_path.specs.declared.probe_chain.ChainResult.{ChainResult}
use Rattle.fast_path.specs.declared.probe_chain.ChainResult.TheVariants.{Over, Stops}

module _ (words packed : List ℕ) (stars : List Float) (slots home mark : ℕ) where
  abbrev along : ℕ → ℕ → ChainResult
  along = along_chain words packed stars slots home mark

  pub along_used : (a c : ℕ) → a ≡ 0 → Stops c a ≡ along a c
  unfolding along_chain
  along_used a c h = rw h

  module _ (a c : ℕ) (p : 0 < a) (slot : ℕ) (se : slot ≡ (home + c * c) % slots) (g : SlotPeek) (ge : g ≡ peek_of words packed stars mark slot) where
    along_step : along a c ≡ along_chain_by words packed stars slots home mark g (a - 1) c (along (a - 1) (c + 1))
    unfolding along_chain
    along_step = let z : a ≡ suc (a - 1) = omega arith in ap (λ n. along n c) z ∙ rw (ge, se, add-one)

    pub along_stop : g ≡ Stop → Stops c a ≡ along a c
    along_stop e = let z : a ≡ suc (a - 1) = omega arith in sym (along_step ∙ rw (e, ← z))

    pub along_empty : g ≡ Empty → Over c (a - 1) ≡ along a c
    along_empty e = sym (along_step ∙ rw e)

    -- A read that isn't the chain's last leads to the next probe, and the last one ends the chain.
    pub along_next : (n : ℕ) → g ≡ Passed n → c + 1 < slots → along (a - 1) (c + 1) ≡ along a c
    along_next n e h = sym (along_step ∙ rw (e, lt-ltb (suc c) slots (omega arith)))

    pub along_last : (n : ℕ) → g ≡ Passed n → slots ≤ c + 1 → Over c (a - 1) ≡ along a c
    along_last n e h = sym (along_step ∙ rw (e, le-ltb (suc c) slots (omega arith)))

  -- Where a chain is over at least one read was made.
  along_over : (a c q l : ℕ) → along a c ≡ Over q l → l < a
  unfolding along_chain
  along_over zero c q l o = cc
  along_over (suc a) c q l o = by (λ n m e. along_over a (suc c) n m e) (peek_at words packed stars slots home mark c) o
    where
      two : ((n m : ℕ) → along a (suc c) ≡ Over n m → m < a) → (b : Bool) → cond b (along a (suc c)) (Over c a) ≡ Over q l → l < suc a
      two ih true e = omega (arith, ih q l e)
      two ih false e = let z : a ≡ l = cc in omega arith

      by : ((n m : ℕ) → along a (suc c) ≡ Over n m → m < a) → (g : SlotPeek) → along_chain_by words packed stars slots home mark g a c (along a (suc c)) ≡ Over q l → l < suc a
      by ih Empty e = let z : a ≡ l = cc in omega arith
      by ih Stop e = cc
      by ih (Passed n) e = two ih (ltb (suc c) slots) e

  pub over_left : (a c q l : ℕ) → Over q l ≡ along a c → l < a
  over_left a c q l e = along_over a c q l (sym e)

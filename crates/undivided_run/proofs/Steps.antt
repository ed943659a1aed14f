-- The steps of the successor, test by test, from the numbers that the code works out. Assumes nothing.
use mathlib.Core.Path.{◌≡◌, refl, sym, ◌∙◌, ap}
use Prim.Native.Nat.{ℕ, zero, suc, ◌+◌, ◌-◌, ◌≤◌, ◌<◌}
use native.Mathlib.Omega.{arith}
use native.Mathlib.Numerals.{add-one}
use mathlib.Core.Bool.{Bool, true, false, cond, ◌||◌}
use lib.Dec.{ltb}
use borrow.Author.Tests.{lt-ltb, le-ltb}
use Rattle.combinations.specs.declared.Combination.{Combination}
use Rattle.combinations.specs.Successor.{first_combination, next_combination}
use Rattle.std.specs.Prelude.{Option, None, Some}
use Rattle.undivided_run.specs.Undivided.{Status, TooFew, NoMatch, Timeout, Read, Feed, Cap, reached, is_zero, cases, filled}
use Rattle.undivided_run.specs.Step.{Next, goes, ends, to_pass, after_combination, after_key, next_read}
use Rattle.undivided_run.specs.Moves.{first_of, probed, keyed, to_combination}

pub zero_not : (x : ℕ) → (x ≡ 0 → ⊥) → is_zero x ≡ false
unfolding is_zero
zero_not zero h = absurd (h refl)
zero_not (suc x) h = refl

pub zero_is : (x : ℕ) → x ≡ 0 → is_zero x ≡ true
unfolding is_zero
zero_is x h = rw h

module _ {E C : Type 0} (F : Feed E C) (cap : Cap) (tried : ℕ) where
  -- ---- The passes from i on.
  abbrev pub from : ℕ → Status → Next
  from i s = to_pass F cap (F.passes - i) i s tried

  pub from_end : (i : ℕ) (s : Status) → F.passes ≤ i → from i s ≡ ends s
  unfolding to_pass
  from_end i s h = let e : F.passes - i ≡ 0 = omega arith in rw e

  module _ (i : ℕ) (s : Status) (h : i < F.passes) where
    from_at : from i s ≡ cond (reached cap tried) (ends Timeout) (cond (ltb (F.kept i) 4) (from (suc i) TooFew) (cond (is_zero F.slots || is_zero F.patterns) (from (suc i) NoMatch) (cases (first_combination (F.kept i)) (from (suc i) NoMatch) λ q. to_combination cap tried i q)))
    unfolding to_pass
    from_at = let e : F.passes - i ≡ suc (F.passes - suc i) = omega arith in ap (λ n. to_pass F cap n i s tried) e

    pub from_timeout : (b : Bool) → b ≡ reached cap tried → b ≡ true → from i s ≡ ends Timeout
    from_timeout b e f = from_at ∙ rw (← e, f)

    module _ (b : Bool) (e : b ≡ reached cap tried) (f : b ≡ false) (k : ℕ) (ke : k ≡ F.kept i) where
      pub from_few : k < 4 → from (i + 1) TooFew ≡ from i s
      from_few l = sym (from_at ∙ rw (← e, f, ← ke, lt-ltb k 4 l, add-one))

      module _ (l : 4 ≤ k) where
        pub from_off : is_zero F.slots || is_zero F.patterns ≡ true → from (i + 1) NoMatch ≡ from i s
        from_off z = sym (from_at ∙ rw (← e, f, ← ke, le-ltb k 4 l, z, add-one))

        module _ (z : is_zero F.slots || is_zero F.patterns ≡ false) (m : Option Combination) (me : m ≡ first_combination k) where
          pub from_open : (q : Combination) → m ≡ Some q → from i s ≡ goes (first_of i q)
          unfolding to_combination cases
          from_open q o = from_at ∙ rw (← e, f, ← ke, le-ltb k 4 l, z, ← me, o)

          pub from_none : m ≡ None → from (i + 1) NoMatch ≡ from i s
          unfolding cases
          from_none o = sym (from_at ∙ rw (← e, f, ← ke, le-ltb k 4 l, z, ← me, o, add-one))

  -- ---- After the last read of a combination.
  module _ (i : ℕ) (q : Combination) (k : ℕ) (ke : k ≡ F.kept i) (m : Option Combination) (me : m ≡ next_combination k q) where
    pub four_more : (p : Combination) → m ≡ Some p → after_combination F cap i q tried ≡ to_combination cap tried i p
    unfolding after_combination cases
    four_more p e = rw (← ke, ← me, e)

    pub four_last : m ≡ None → after_combination F cap i q tried ≡ from (i + 1) NoMatch
    unfolding after_combination cases
    four_last e = rw (← ke, ← me, e, add-one)

  -- ---- After the last read of a key, and after any read.
  module _ (r : Read) where
    abbrev pub past : Next
    past = after_key F cap r.pass r.four r.key tried

    module _ (k : ℕ) (ke : k ≡ F.keys r.pass r.four) where
      pub key_more : r.key + 1 < k → past ≡ goes (keyed r)
      unfolding after_key
      key_more h = rw (← ke, lt-ltb (suc r.key) k (omega arith))

      pub key_last : k ≤ r.key + 1 → past ≡ after_combination F cap r.pass r.four tried
      unfolding after_key
      key_last h = rw (← ke, le-ltb (suc r.key) k (omega arith))

    module _ (b : Bool) (e : b ≡ filled F r) where
      pub probe_more : b ≡ true → r.probe + 1 < F.slots → next_read F cap r tried ≡ goes (probed r)
      unfolding next_read
      probe_more f h = rw (← e, f, lt-ltb (suc r.probe) F.slots (omega arith))

      pub probe_last : b ≡ true → F.slots ≤ r.probe + 1 → next_read F cap r tried ≡ past
      unfolding next_read
      probe_last f h = rw (← e, f, le-ltb (suc r.probe) F.slots (omega arith))

      pub probe_empty : b ≡ false → next_read F cap r tried ≡ past
      unfolding next_read
      probe_empty f = rw (← e, f)

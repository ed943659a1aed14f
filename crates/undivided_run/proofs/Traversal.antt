-- The search's successor gives the reads of the undivided run in order, and its status. Assumes nothing.
use mathlib.Core.Path.{◌≡◌, refl}
use Prim.Native.Nat.{ℕ, zero, suc, pred, ◌+◌, ◌-◌}
use native.Mathlib.Omega.{arith}
use native.Mathlib.Nat.{sub-zero}
use mathlib.Core.List.{List, [], ◌∷◌, ◌++◌, append_assoc}
use mathlib.Core.Bool.{Bool, true, false, cond, ◌&&◌, ◌||◌}
use Rattle.std.specs.Prelude.{Option}
use borrow.Author.Tests.{lt-ltb, le-ltb}
use lib.Dec.{ltb}
use Rattle.combinations.specs.declared.Combination.{Combination}
use Rattle.combinations.specs.Combinations.{combination_list}
use Rattle.combinations.specs.Lists.{each, span, upto}
use Rattle.combinations.specs.Successor.{first_combination, next_combination}
use Rattle.undivided_run.specs.declared.state.Status.{Status}
use Rattle.undivided_run.specs.declared.state.Status.TheVariants.{TooFew, NoMatch}
use Rattle.undivided_run.specs.Undivided.{Cap}
use Rattle.undivided_run.specs.declared.state.Position.{Position as Read}
use Rattle.undivided_run.specs.declared.state.Next.{Next}
use Rattle.undivided_run.specs.declared.state.Next.TheVariants.{Goes as goes}
use Rattle.undivided_run.specs.Undivided.{Run, Feed, reached, is_zero, cases, starts, filled, ended, ◌before◌, chain, reads_of, checked, combinations, passes_from, undivided}
use Rattle.undivided_run.specs.Step.{count_tried, to_pass, after_combination, after_key, next_read, first_read}
use Rattle.undivided_run.specs.Moves.{to_combination}
use Rattle.undivided_run.specs.Step.{Traverses}
use Rattle.combinations.specs.Lists.{Follows}
use Rattle.combinations.specs.Lists.{All}
use Rattle.combinations.proofs.Enumeration.{enumerates_combinations}
use Rattle.undivided_run.specs.PositionExists.{CombinationExists, Keyed}
use Rattle.undivided_run.proofs.CombinationExists.{combination_list_here}

-- The read of probe c of key k of combination q of pass i.
abbrev pub place : ℕ → Combination → ℕ → ℕ → Read
place i q k c = record { pass = i; four = q; key = k; probe = c }

pub slots_left : (m p : ℕ) → is_zero m || is_zero p ≡ false → m ≡ suc (pred m)
unfolding is_zero
slots_left zero p h = cc
slots_left (suc m) p h = omega arith

module _ {E C : Type 0} (F : Feed E C) (cap : Cap) where
  abbrev pub next : Read → ℕ → Next
  next = next_read F cap

  -- Beginning with w, and with n combinations counted, the successor gives the reads of this run and ends with its status.
  abbrev pub To : Next → ℕ → Run → Type 0
  To w n run = Traverses next w n run.reads run.status

  -- A test that chooses between two runs, and in the same way between what they begin with.
  both : (b : Bool) (w w' : Next) (n : ℕ) (run run' : Run) → (b ≡ true → To w n run) → (b ≡ false → To w' n run') → To (cond b w w') n (cond b run run')
  both true w w' n run run' h h' = h refl
  both false w w' n run run' h h' = h' refl

  -- What the successor gives after the last read of a key.
  abbrev pub follows : ℕ → Combination → ℕ → ℕ → Next
  follows = after_key F cap

  -- The reads after probe c of a key, where `left` probes remain.
  pub chain_traverses : (s : Status) (rs : List Read) (i : ℕ) (q : Combination) (k n left c : ℕ) → c + suc left ≡ F.slots → Traverses next (follows i q k n) n rs s → Traverses next (next (place i q k c) n) n (cond (filled F (place i q k c)) (chain F i q k left (suc c)) [] ++ rs) s
  unfolding next_read chain count_tried starts is_zero
  chain_traverses s rs i q k n zero c e h = by (filled F (place i q k c))
    where
      by : (b : Bool) → Traverses next (cond (b && ltb (suc c) F.slots) (goes (place i q k (suc c))) (follows i q k n)) n (cond b (chain F i q k zero (suc c)) [] ++ rs) s
      by false = h
      by true = rw (le-ltb (suc c) F.slots (omega arith)) h
  chain_traverses s rs i q k n (suc l) c e h = by (filled F (place i q k c)) (chain_traverses s rs i q k n l (suc c) (omega arith) h)
    where
      by : (b : Bool) → Traverses next (next (place i q k (suc c)) n) n (cond (filled F (place i q k (suc c))) (chain F i q k l (suc (suc c))) [] ++ rs) s → Traverses next (cond (b && ltb (suc c) F.slots) (goes (place i q k (suc c))) (follows i q k n)) n (cond b (chain F i q k (suc l) (suc c)) [] ++ rs) s
      by false ih = h
      by true ih = rw (lt-ltb (suc c) F.slots (omega arith)) (refl, ih)

  module _ (sl : ℕ) (pos : F.slots ≡ suc sl) where
    -- The chain of a key begins with the read of probe 0.
    chain_first : (i : ℕ) (q : Combination) (k : ℕ) → chain F i q k F.slots 0 ≡ place i q k 0 ∷ cond (filled F (place i q k 0)) (chain F i q k sl 1) []
    unfolding chain
    chain_first i q k = rw pos

    -- The reads of the `left` keys from key k on.
    abbrev pub chains : ℕ → Combination → ℕ → ℕ → List Read
    chains i q k left = each (span k left) λ k. chain F i q k F.slots 0

    -- The reads after key k of a combination, where `left` keys remain.
    pub keys_traversed : (s : Status) (rs : List Read) (i : ℕ) (q : Combination) (n left k : ℕ) → k + suc left ≡ F.keys i q → Traverses next (after_combination F cap i q n) n rs s → Traverses next (follows i q k n) n (chains i q (suc k) left ++ rs) s
    unfolding after_key each span count_tried starts is_zero
    keys_traversed s rs i q n zero k e h = rw (le-ltb (suc k) (F.keys i q) (omega arith)) h
    keys_traversed s rs i q n (suc l) k e h =
        rw (lt-ltb (suc k) (F.keys i q) (omega arith), append_assoc, chain_first i q (suc k))
        (refl, chain_traverses s (chains i q (suc (suc k)) l ++ rs) i q (suc k) n sl 0 (omega arith) (keys_traversed s rs i q n l (suc k) (omega arith) h))

    -- The reads of a combination that has a key.
    four_traverses : (s : Status) (rs : List Read) (i : ℕ) (q : Combination) (n ks : ℕ) → F.keys i q ≡ suc ks → Traverses next (after_combination F cap i q (suc n)) (suc n) rs s → Traverses next (goes (place i q 0 0)) n (reads_of F i q ++ rs) s
    unfolding reads_of upto each span count_tried starts is_zero
    four_traverses s rs i q n ks e h =
        rw (sub-zero, e, append_assoc, chain_first i q 0)
        (refl, chain_traverses s (chains i q 1 ks ++ rs) i q 0 (suc n) sl 0 (omega arith) (keys_traversed s rs i q (suc n) ks 0 (omega arith) h))

    -- The reads of the combinations of a pass, in the order in which `next_combination` gives them.
    pub combination_list_traversed : Keyed F → (i left : ℕ) → F.passes - suc i ≡ left → (rest : ℕ → Run) → ((n : ℕ) → To (to_pass F cap left (suc i) NoMatch n) n (rest n)) → (qs : List Combination) (o : Option Combination) (n : ℕ) → All (CombinationExists F i) qs → Follows (next_combination (F.kept i)) o qs → To (cases o (to_pass F cap left (suc i) NoMatch n) (λ q. to_combination cap n i q)) n (combinations F cap i qs rest n)
    unfolding combinations cases to_combination checked ended ◌before◌ after_combination
    combination_list_traversed keyed i left e rest h [] o n a f = rw f (h n)
    combination_list_traversed keyed i left e rest h (q ∷ qs) o n a f =
        let ih = combination_list_traversed keyed i left e rest h qs (next_combination (F.kept i) q) (suc n) a.1 f.1 in
        rw f.0
        (both (reached cap n) _ _ n _ _ (λ _. refl)
        λ _. four_traverses _ _ i q n (pred (F.keys i q)) (omega (arith, keyed i q a.0)) (rw e ih))

  -- The reads of the passes from i on.
  pub passes_traversed : Keyed F → (left i : ℕ) (status : Status) (n : ℕ) → i + left ≡ F.passes → To (to_pass F cap left i status n) n (passes_from F cap left i status n)
  unfolding to_pass passes_from checked ended
  passes_traversed keyed zero i status n e = refl
  passes_traversed keyed (suc left) i status n e =
      let ih = passes_traversed keyed left (suc i) in
      both (reached cap n) _ _ n _ _ (λ _. refl)
      λ _. both (ltb (F.kept i) 4) _ _ n _ _ (λ _. ih TooFew n (omega arith))
      λ _. both (is_zero F.slots || is_zero F.patterns) _ _ n _ _ (λ _. ih NoMatch n (omega arith))
      λ z. combination_list_traversed (pred F.slots) (slots_left F.slots F.patterns z) keyed i left (omega arith) (passes_from F cap left (suc i) NoMatch) (λ m. ih NoMatch m (omega arith)) (combination_list (F.kept i)) (first_combination (F.kept i)) n (combination_list_here F i (omega arith) z) (enumerates_combinations (F.kept i))

  -- Where each combination that exists has a key, the successor gives the reads of the undivided run.
  pub traverses_undivided : Keyed F → To (first_read F cap) 0 (undivided F cap)
  unfolding first_read undivided
  traverses_undivided keyed = passes_traversed keyed F.passes 0 NoMatch 0 (omega arith)

-- The reads of the undivided run in one line: those of the combinations of all passes, in order, as many as the cap lets through.
-- From it: of two caps, the higher one's reads and candidates begin with the lower one's. Assumes nothing.
use mathlib.Core.Path.{◌≡◌, refl, sym, ◌∙◌, ap}
use Prim.Native.Nat.{ℕ, zero, suc, ◌+◌, ◌-◌}
use native.Mathlib.Omega.{arith}
use mathlib.Core.List.{List, [], ◌∷◌, ◌++◌, map, append_assoc, append-nil}
use mathlib.Core.Bool.{Bool, true, false, cond, ◌||◌}
use borrow.Author.Tests.{leb-true, leb-false}
use lib.Dec.{ltb}
use lib.ListN.{take, drop, take-append-drop}
use lib.Seq.{take-add}
use Rattle.combinations.specs.declared.Combination.{Combination}
use Rattle.combinations.specs.Combinations.{combination_list}
use Rattle.combinations.specs.Lists.{each}
use Rattle.undivided_run.specs.declared.state.Status.{Status}
use Rattle.undivided_run.specs.declared.state.Status.TheVariants.{TooFew, NoMatch, Timeout}
use Rattle.undivided_run.specs.Undivided.{Cap}
use Rattle.std.specs.Prelude.{None, Some}
use Rattle.undivided_run.specs.declared.state.Position.{Position as Read}
use Rattle.undivided_run.specs.Undivided.{Run, Feed, reached, is_zero, ended, ◌before◌, reads_of, checked, combinations, passes_from, undivided, gives}
use Rattle.undivided_run.specs.Calls.{candidates}
use Rattle.undivided_run.proofs.Machine.{candidates_append}
use Rattle.undivided_run.specs.Tried.{capped, combinations_from, all_combinations, Begins, NoHigher}

-- the cap, less what was tried already
unfoldable pub left : Cap → ℕ → Cap
left None n = None
left (Some m) n = Some (m - n)

-- the reads of these combinations
abbrev pub reads_in : {E C : Type 0} → Feed E C → List (ℕ × Combination) → List Read
reads_in F xs = each xs λ x. reads_of F x.0 x.1

left_zero : (c : Cap) → left c 0 ≡ c
unfolding left
left_zero None = refl
left_zero (Some m) = ap Some (omega arith)

pub capped_nil : {A : Type 0} (c : Cap) → capped {A = A} c [] ≡ []
unfolding capped
capped_nil None = refl
capped_nil (Some zero) = refl
capped_nil (Some (suc m)) = refl

capped_reached : {A : Type 0} (c : Cap) (n : ℕ) (xs : List A) → reached c n ≡ true → capped (left c n) xs ≡ []
unfolding capped reached left
capped_reached None n xs h = cc
capped_reached (Some m) n xs h = let e : m - n ≡ 0 = omega (arith, leb-true m n h) in rw e

capped_cons : {A : Type 0} (c : Cap) (n : ℕ) (x : A) (xs : List A) → reached c n ≡ false → capped (left c n) (x ∷ xs) ≡ x ∷ capped (left c (suc n)) xs
unfolding capped reached left
capped_cons None n x xs h = refl
capped_cons (Some m) n x xs h = let e : m - n ≡ suc (m - suc n) = omega (arith, leb-false m n h) in rw e

module _ {E C : Type 0} (F : Feed E C) where
  module _ (cap : Cap) where
    pub combination_list_closed : (i : ℕ) (rest : ℕ → Run) (ys : List (ℕ × Combination)) → ((n : ℕ) → (rest n).reads ≡ reads_in F (capped (left cap n) ys)) → (qs : List Combination) (n : ℕ) → (combinations F cap i qs rest n).reads ≡ reads_in F (capped (left cap n) (map (λ q. (i, q)) qs ++ ys))
    unfolding combinations checked ended ◌before◌ each
    combination_list_closed i rest ys h [] n = h n
    combination_list_closed i rest ys h (q ∷ qs) n = by (reached cap n) refl (combination_list_closed i rest ys h qs (suc n))
      where
        by : (b : Bool) → reached cap n ≡ b → (combinations F cap i qs rest (suc n)).reads ≡ reads_in F (capped (left cap (suc n)) (map (λ q. (i, q)) qs ++ ys)) → (cond b (ended Timeout) (reads_of F i q before combinations F cap i qs rest (suc n))).reads ≡ reads_in F (capped (left cap n) ((i, q) ∷ (map (λ q. (i, q)) qs ++ ys)))
        by true e ih = rw (capped_reached cap n ((i, q) ∷ (map (λ q. (i, q)) qs ++ ys)) e)
        by false e ih = rw (capped_cons cap n (i, q) (map (λ q. (i, q)) qs ++ ys) e) (ap (reads_of F i q ++◌) ih)

    pub passes_closed : (more i : ℕ) (status : Status) (n : ℕ) → (passes_from F cap more i status n).reads ≡ reads_in F (capped (left cap n) (combinations_from F more i))
    unfolding passes_from checked ended combinations_from each
    passes_closed zero i status n = rw (capped_nil (left cap n))
    passes_closed (suc more) i status n =
        by (reached cap n) (ltb (F.kept i) 4) (is_zero F.slots || is_zero F.patterns) refl
        (passes_from F cap more (suc i) TooFew n)
        (passes_from F cap more (suc i) NoMatch n)
        (combinations F cap i (combination_list (F.kept i)) (passes_from F cap more (suc i) NoMatch) n)
        (combinations_from F more (suc i))
        (map (λ q. (i, q)) (combination_list (F.kept i)) ++ combinations_from F more (suc i))
        (passes_closed more (suc i) TooFew n)
        (passes_closed more (suc i) NoMatch n)
        (combination_list_closed i _ (combinations_from F more (suc i)) (passes_closed more (suc i) NoMatch) (combination_list (F.kept i)) n)
      where
        by : (b few off : Bool) → reached cap n ≡ b → (A B D : Run) (xs ys : List (ℕ × Combination)) → A.reads ≡ reads_in F (capped (left cap n) xs) → B.reads ≡ reads_in F (capped (left cap n) xs) → D.reads ≡ reads_in F (capped (left cap n) ys) → (cond b (ended Timeout) (cond few A (cond off B D))).reads ≡ reads_in F (capped (left cap n) (cond (few || off) xs ys))
        by true few off e A B D xs ys p q r = rw (capped_reached cap n (cond (few || off) xs ys) e)
        by false true off e A B D xs ys p q r = p
        by false false true e A B D xs ys p q r = q
        by false false false e A B D xs ys p q r = r

    -- The run reads the combinations of all passes in order, as many as the cap lets through.
    pub reads_closed : (undivided F cap).reads ≡ reads_in F (capped cap (all_combinations F))
    unfolding undivided all_combinations
    reads_closed = passes_closed F.passes 0 NoMatch 0 ∙ ap (λ c. reads_in F (capped c (combinations_from F F.passes 0))) (left_zero cap)

capped_begins : {A : Type 0} (lo hi : Cap) (xs : List A) → NoHigher lo hi → Begins (capped lo xs) (capped hi xs)
unfolding capped
capped_begins None None xs h = ([], sym (append-nil xs))
capped_begins None (Some n) xs h = absurd h
capped_begins (Some m) None xs h = (drop m xs, sym (take-append-drop m xs))
capped_begins (Some m) (Some n) xs h = (take (n - m) (drop m xs), let e : n ≡ m + (n - m) = omega arith in ap (λ k. take k xs) e ∙ take-add m (n - m) xs)

each_append : {A B : Type 0} (xs ys : List A) (f : A → List B) → each (xs ++ ys) f ≡ each xs f ++ each ys f
unfolding each
each_append [] ys f = refl
each_append (x ∷ xs) ys f = ap (f x ++◌) (each_append xs ys f) ∙ sym (append_assoc (f x) (each xs f) (each ys f))

module _ {E C : Type 0} (F : Feed E C) (lo hi : Cap) (h : NoHigher lo hi) where
  -- Of two caps, the higher one's reads begin with the lower one's, and so do its candidates.
  pub reads_begin : Begins (undivided F lo).reads (undivided F hi).reads
  reads_begin =
      let b = capped_begins lo hi (all_combinations F) h in
      (reads_in F b.0, reads_closed F hi ∙ ap (reads_in F) b.1 ∙ each_append (capped lo (all_combinations F)) b.0 _ ∙ ap (◌++ reads_in F b.0) (sym (reads_closed F lo)))

  pub candidates_begin : Begins (candidates (gives F) (undivided F lo).reads) (candidates (gives F) (undivided F hi).reads)
  candidates_begin =
      (candidates (gives F) reads_begin.0, ap (candidates (gives F)) reads_begin.1 ∙ candidates_append (gives F) _ reads_begin.0)

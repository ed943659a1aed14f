-- Positions that exist here, in the sense of question 8: every read of the undivided run is at one, and from each one at most 2^62 reads are
-- left. Assumes nothing.
use mathlib.Core.Path.{◌≡◌, refl, ap, subst}
use Prim.Native.Nat.{ℕ, zero, suc, pred, ◌+◌, ◌-◌, ◌*◌, ◌≤◌, ◌<◌}
use native.Mathlib.Omega.{arith}
use mathlib.Core.List.{List, [], ◌∷◌, ◌++◌, map}
use mathlib.Core.Bool.{Bool, true, false, cond, ◌&&◌, ◌||◌}
use Rattle.std.specs.Prelude.{Option, None, Some}
use lib.Dec.{ltb}
use borrow.Author.Tests.{ltb-true}
use lib.ListN.{length, length-append, length-map}
use Rattle.combinations.specs.declared.Combination.{Combination}
use Rattle.combinations.specs.Combinations.{combination_list}
use Rattle.combinations.specs.Lists.{each, span}
use Rattle.combinations.specs.Successor.{first_combination, next_combination}
use Rattle.undivided_run.specs.declared.state.Status.{Status}
use Rattle.undivided_run.specs.declared.state.Status.TheVariants.{TooFew, NoMatch}
use Rattle.undivided_run.specs.Undivided.{Cap}
use Rattle.undivided_run.specs.declared.state.Position.{Position as Read}
use Rattle.undivided_run.specs.declared.state.Next.{Next}
use Rattle.undivided_run.specs.declared.state.Next.TheVariants.{Goes as goes}
use Rattle.undivided_run.specs.Undivided.{Run, Feed, reached, is_zero, cases, filled, chain, reads_of, combinations, passes_from, undivided}
use Rattle.combinations.specs.Lists.{All, In}
use Rattle.combinations.proofs.Lists.{all_append, all_each, all_upto}
use Rattle.combinations.specs.Combinations.{Rising}
use Rattle.combinations.proofs.EachCombination.{combinations_rise, combinations_all}
use Rattle.undivided_run.specs.Tried.{capped, combinations_from, all_combinations}
use Rattle.undivided_run.proofs.Closed.{left, reads_in, reads_closed, combination_list_closed, passes_closed}
use Rattle.undivided_run.specs.Step.{count_tried, next_read, after_combination, after_key, to_pass}
use Rattle.undivided_run.specs.Moves.{to_combination}
use Rattle.undivided_run.specs.Step.{Traverses}
use Rattle.combinations.specs.Lists.{Follows}
use Rattle.combinations.proofs.Enumeration.{enumerates_combinations}
use Rattle.combinations.proofs.Successor.{first_rising, next_rising}
use Rattle.undivided_run.proofs.Traversal.{next, chain_traverses, keys_traversed, combination_list_traversed, passes_traversed}
use Rattle.undivided_run.specs.PositionExists.{CombinationExists, ReadExists, Keyed, Within}
use Rattle.undivided_run.specs.CallInvariant.{NextExists}
use Rattle.combinations.proofs.Lists.{all_after, follows_mid}
use Rattle.undivided_run.proofs.CombinationExists.{Fit, no_zero, rising_here, fit_map, here_passes, capped_fit, all_fit}
use Rattle.undivided_run.proofs.Bounds.{keys_length, chain_length, combination_list_kept, combinations_from_length, reads_in_length, capped_shorter}

module _ {E C : Type 0} (F : Feed E C) where
  here_chain : (i : ℕ) (q : Combination) (k m c : ℕ) → CombinationExists F i q → k < F.keys i q → c + m ≤ F.slots → All (ReadExists F) (chain F i q k m c)
  unfolding chain
  here_chain i q k zero c f h p = tt
  here_chain i q k (suc m) c f h p = (record { four = f; key = h; probe = omega arith }, by (filled F _) (here_chain i q k m (suc c) f h (omega arith)))
    where
      by : (b : Bool) → All (ReadExists F) (chain F i q k m (suc c)) → All (ReadExists F) (cond b (chain F i q k m (suc c)) [])
      by true h = h
      by false h = tt

  here_four : (i : ℕ) (q : Combination) → CombinationExists F i q → All (ReadExists F) (reads_of F i q)
  unfolding reads_of
  here_four i q f = all_upto (ReadExists F) 0 (F.keys i q) _ λ k _ h. here_chain i q k F.slots 0 f h (omega arith)

  -- Every read of the run is at numbers that exist.
  pub run_here : (cap : Cap) → All (ReadExists F) (undivided F cap).reads
  run_here cap = rw (reads_closed F cap) (all_each (ReadExists F) (Fit F) (capped cap (all_combinations F)) _ (λ x f. here_four x.0 x.1 f) (all_fit F cap))

module _ {E C : Type 0} (F : Feed E C) (cap : Cap) (keyed : Keyed F) where
  -- The run after combination q of pass i: the combinations `post` after it, and then the passes after i.
  pub after : ℕ → Combination → List Combination → ℕ → Run
  after i q post n = combinations F cap i post (passes_from F cap (F.passes - suc i) (suc i) NoMatch) n

  module _ (r : Read) (h : ReadExists F r) where
    -- The combinations of the pass before and after that of the read r.
    abbrev pub later : In r.four (combination_list (F.kept r.pass))
    later = combinations_all (F.kept r.pass) r.four h.four.rising

    later_here : All (CombinationExists F r.pass) later.1
    later_here =
        rising_here F r.pass h.four.pass h.four.slots h.four.table later.1
        (all_after (Rising (F.kept r.pass)) later.0 r.four later.1 (subst (All (Rising (F.kept r.pass))) later.2 (combinations_rise (F.kept r.pass))))

    after_traverses : (n : ℕ) → let z = after r.pass r.four later.1 n in Traverses (next F cap) (after_combination F cap r.pass r.four n) n z.reads z.status
    unfolding after after_combination
    after_traverses n =
        combination_list_traversed F cap (pred F.slots) (omega (arith, h.four.slots)) keyed r.pass (F.passes - suc r.pass) refl _
        (λ m. passes_traversed F cap keyed (F.passes - suc r.pass) (suc r.pass) NoMatch m (omega (arith, h.four.pass)))
        later.1 (next_combination (F.kept r.pass) r.four) n later_here
        (follows_mid (next_combination (F.kept r.pass)) later.0 r.four later.1 _ (subst (Follows (next_combination (F.kept r.pass)) (first_combination (F.kept r.pass))) later.2 (enumerates_combinations (F.kept r.pass))))

    -- The reads from the read r on: the rest of its chain, the later keys of its combination, the rest of its pass, and the later passes.
    pub reads_from : ℕ → List Read
    reads_from n =
        let m = count_tried r n in
        r ∷ (cond (filled F r) (chain F r.pass r.four r.key (F.slots - suc r.probe) (suc r.probe)) []
        ++ (each (span (suc r.key) (F.keys r.pass r.four - suc r.key)) (λ k. chain F r.pass r.four k F.slots 0)
        ++ (after r.pass r.four later.1 m).reads))

    pub traverses_from : (n : ℕ) → Traverses (next F cap) (goes r) n (reads_from n) (after r.pass r.four later.1 (count_tried r n)).status
    unfolding reads_from
    traverses_from n = (
      refl,
      chain_traverses F cap _ _ r.pass r.four r.key (count_tried r n) (F.slots - suc r.probe) r.probe (omega (arith, h.probe))
          (keys_traversed F cap (pred F.slots) (omega (arith, h.four.slots)) _ _ r.pass r.four (count_tried r n) (F.keys r.pass r.four - suc r.key) r.key (omega (arith, h.key))
          (after_traverses (count_tried r n))),
    )

    after_closed : (n : ℕ) → (after r.pass r.four later.1 n).reads ≡ reads_in F (capped (left cap n) (map (λ q. (r.pass, q)) later.1 ++ combinations_from F (F.passes - suc r.pass) (suc r.pass)))
    unfolding after
    after_closed n = combination_list_closed F cap r.pass _ (combinations_from F (F.passes - suc r.pass) (suc r.pass)) (λ m. passes_closed F cap (F.passes - suc r.pass) (suc r.pass) NoMatch m) later.1 n

    module _ (w : Within F) where
      after_length : (n : ℕ) → length (after r.pass r.four later.1 n).reads ≤ 162656255 * 17179869184
      after_length n =
          let xs = map {B = ℕ × Combination} (λ q. (r.pass, q)) later.1 ++ combinations_from F (F.passes - suc r.pass) (suc r.pass) in
          rw (after_closed n)
          (omega (
            arith,
            w.passes,
            h.four.pass,
            reads_in_length F w (capped (left cap n) xs) (capped_fit F (left cap n) xs (all_append (Fit F) (map {B = ℕ × Combination} (λ q. (r.pass, q)) later.1) (combinations_from F (F.passes - suc r.pass) (suc r.pass)) (fit_map F r.pass later.1 later_here) (here_passes F (F.passes - suc r.pass) (suc r.pass) (omega (arith, h.four.pass))))),
            capped_shorter (left cap n) xs,
            length-append (map {B = ℕ × Combination} (λ q. (r.pass, q)) later.1) (combinations_from F (F.passes - suc r.pass) (suc r.pass)),
            length-map {B = ℕ × Combination} later.1 (λ q. (r.pass, q)),
            combinations_from_length F w (F.passes - suc r.pass) (suc r.pass) (omega (arith, h.four.pass)),
            combination_list_kept F w r.pass h.four.pass,
            ap length later.2,
            length-append later.0 (r.four ∷ later.1),
          ))

      stop_shorter : (b : Bool) (xs : List Read) → length (cond b xs []) ≤ length xs
      stop_shorter true xs = omega arith
      stop_shorter false xs = omega arith

      rest_chain : List Read
      rest_chain = chain F r.pass r.four r.key (F.slots - suc r.probe) (suc r.probe)

      rest_keys : List Read
      rest_keys = each (span (suc r.key) (F.keys r.pass r.four - suc r.key)) (λ k. chain F r.pass r.four k F.slots 0)

      chain_short : length (cond (filled F r) rest_chain []) ≤ 16777215
      unfolding rest_chain
      chain_short = omega (arith, w.slots, h.probe, stop_shorter (filled F r) rest_chain, chain_length F w r.pass r.four r.key (F.slots - suc r.probe) (suc r.probe))

      keys_short : length rest_keys ≤ 1023 * 16777216
      unfolding rest_keys
      keys_short = omega (arith, w.keys r.pass r.four h.four, h.key, keys_length F w r.pass r.four (F.keys r.pass r.four - suc r.key) (suc r.key))

      -- From any position that exists, at most 2^62 reads are left.
      pub reads_from_bound : (n : ℕ) → length (reads_from n) ≤ 4611686018427387904
      unfolding reads_from rest_chain rest_keys
      reads_from_bound n =
          omega (
            arith,
            chain_short,
            keys_short,
            after_length (count_tried r n),
            length-append (cond (filled F r) rest_chain []) (rest_keys ++ (after r.pass r.four later.1 (count_tried r n)).reads),
            length-append rest_keys (after r.pass r.four later.1 (count_tried r n)).reads,
          )

-- ---- After a read at numbers that exist, the next read is at such numbers too.
and_true : (a b : Bool) → a && b ≡ true → b ≡ true
and_true true b h = h
and_true false b h = cc

module _ {E C : Type 0} (F : Feed E C) (cap : Cap) (keyed : Keyed F) where
  either : (b : Bool) (w v : Next) → (b ≡ true → NextExists F w) → (b ≡ false → NextExists F v) → NextExists F (cond b w v)
  either true w v h k = h refl
  either false w v h k = k refl

  option : (o : Option Combination) (w : Next) (f : Combination → Next) → NextExists F w → ((q : Combination) → o ≡ Some q → NextExists F (f q)) → NextExists F (cases o w f)
  unfolding cases
  option None w f h k = h
  option (Some q) w f h k = k q refl

  to_combination_here : (n i : ℕ) (q : Combination) → CombinationExists F i q → NextExists F (to_combination cap n i q)
  unfolding to_combination
  to_combination_here n i q h = either (reached cap n) _ _ (λ _. tt) (λ _. record { four = h; key = keyed i q h; probe = h.slots })

  pub to_pass_here : (left i : ℕ) (s : Status) (n : ℕ) → i + left ≤ F.passes → NextExists F (to_pass F cap left i s n)
  unfolding to_pass
  to_pass_here zero i s n p = tt
  to_pass_here (suc left) i s n p =
      let ih = to_pass_here left (suc i) in
      either (reached cap n) _ _ (λ _. tt) λ _.
      either (ltb (F.kept i) 4) _ _ (λ _. ih TooFew n (omega arith)) λ _.
      either (is_zero F.slots || is_zero F.patterns) _ _ (λ _. ih NoMatch n (omega arith)) λ z.
      option (first_combination (F.kept i)) _ _ (ih NoMatch n (omega arith)) λ q e.
      to_combination_here n i q (record { pass = omega arith; rising = first_rising (F.kept i) q e; slots = (no_zero F.slots F.patterns z).0; table = (no_zero F.slots F.patterns z).1 })

  pub next_here : (r : Read) (n : ℕ) → ReadExists F r → NextExists F (next_read F cap r n)
  unfolding next_read after_key after_combination
  next_here r n h =
      either (filled F r && ltb (suc r.probe) F.slots) _ _ (λ e. record { four = h.four; key = h.key; probe = ltb-true _ _ (and_true (filled F r) _ e) }) λ _.
      either (ltb (suc r.key) (F.keys r.pass r.four)) _ _ (λ e. record { four = h.four; key = ltb-true _ _ e; probe = h.four.slots }) λ _.
      option (next_combination (F.kept r.pass) r.four) _ _ (to_pass_here (F.passes - suc r.pass) (suc r.pass) NoMatch n (omega (arith, h.four.pass))) λ q e.
      to_combination_here n r.pass q (record { pass = h.four.pass; rising = next_rising (F.kept r.pass) r.four q h.four.rising e; slots = h.four.slots; table = h.four.table })

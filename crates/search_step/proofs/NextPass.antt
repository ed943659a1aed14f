-- The first read of the passes from a pass on, by how that pass begins. Assumes nothing.
use mathlib.Core.Path.{◌≡◌, refl, sym, ◌∙◌, ap}
use Prim.Native.Nat.{ℕ, ◌+◌, ◌-◌, ◌/◌, ◌≤◌, ◌<◌}
use native.Mathlib.Omega.{arith}
use mathlib.Core.Bool.{Bool, true, false, cond, ◌||◌}
use Rattle.std.specs.Prelude.{Option, None, Some}
use mathlib.Core.List.{List}
use lib.Dec.{ltb}
use lib.ListN.{length}
use lib.Ieee.{Float}
use borrow.Author.Tests.{ltb-true, ltb-false}
use Rattle.combinations.specs.declared.Combination.{Combination}
use Rattle.combinations.specs.Successor.{first_combination}
use Rattle.std.specs.Prelude.{Option, None, Some}
use Rattle.undivided_run.specs.declared.state.Status.{Status}
use Rattle.undivided_run.specs.Undivided.{Cap}
use Rattle.undivided_run.specs.declared.state.Status.TheVariants.{TooFew, NoMatch, Timeout}
use Rattle.undivided_run.specs.declared.state.Next.{Next}
use Rattle.undivided_run.specs.declared.state.Next.TheVariants.{Goes, Ends}
use Rattle.undivided_run.specs.Undivided.{Feed, reached, is_zero, cases}
use Rattle.undivided_run.specs.Moves.{first_of}
use Rattle.undivided_run.specs.Step.{to_pass}
use Rattle.undivided_run.proofs.Steps.{from, from_end, from_timeout, from_few, from_off, from_open, from_none}
use Rattle.search_feed.specs.Data.{Frame, data_of}
use Rattle.search_feed.specs.Image.{kept_places}
use Rattle.search_feed.specs.Feed.{feed}
use Rattle.search_step.specs.PassStart.{start_of_pass}
use Rattle.search_step.specs.declared.pass_start.PassStart.{PassStart}
use Rattle.search_step.specs.declared.pass_start.PassStart.TheVariants.{First, Over}

-- ---- the passes from a pass on, by what it begins with
module _ {E C : Type 0} (F : Feed E C) (cap : Cap) (tried i : ℕ) (s : Status) (h : i < F.passes) (b : Bool) (e : b ≡ reached cap tried) (f : b ≡ false) (k : ℕ) (ke : k ≡ F.kept i) (g : PassStart) (ge : g ≡ start_of_pass k F.slots F.patterns) where
  abbrev off : Bool
  off = is_zero F.slots || is_zero F.patterns

  abbrev begun : Bool → Bool → Option Combination → PassStart
  begun x z m = cond x (Over TooFew) (cond z (Over NoMatch) (cases m (Over NoMatch) First))

  passes_open : (q : Combination) → g ≡ First q → from F cap tried i s ≡ Goes (first_of i q)
  unfolding start_of_pass cases
  passes_open q o = by (ltb k 4) refl off refl (first_combination k) refl (sym o ∙ ge)
    where
      by : (x : Bool) → ltb k 4 ≡ x → (z : Bool) → off ≡ z → (m : Option Combination) → first_combination k ≡ m → First q ≡ begun x z m → from F cap tried i s ≡ Goes (first_of i q)
      by true xe z ze m me w = absurd (let u : ◌≡◌ {A = ℕ} 0 1 = cc in omega arith)
      by false xe true ze m me w = absurd (let u : ◌≡◌ {A = ℕ} 0 1 = cc in omega arith)
      by false xe false ze None me w = absurd (let u : ◌≡◌ {A = ℕ} 0 1 = cc in omega arith)
      by false xe false ze (Some p) me w = from_open F cap tried i s h b e f k ke (ltb-false k 4 xe) ze (Some p) (sym me) q cc

  passes_over : (t : Status) → g ≡ Over t → from F cap tried (i + 1) t ≡ from F cap tried i s
  unfolding start_of_pass cases
  passes_over t o = by (ltb k 4) refl off refl (first_combination k) refl (sym o ∙ ge)
    where
      by : (x : Bool) → ltb k 4 ≡ x → (z : Bool) → off ≡ z → (m : Option Combination) → first_combination k ≡ m → Over t ≡ begun x z m → from F cap tried (i + 1) t ≡ from F cap tried i s
      by true xe z ze m me w = let u : t ≡ TooFew = cc in ap (from F cap tried (i + 1)) u ∙ from_few F cap tried i s h b e f k ke (ltb-true k 4 xe)
      by false xe true ze m me w = let u : t ≡ NoMatch = cc in ap (from F cap tried (i + 1)) u ∙ from_off F cap tried i s h b e f k ke (ltb-false k 4 xe) ze
      by false xe false ze None me w = let u : t ≡ NoMatch = cc in ap (from F cap tried (i + 1)) u ∙ from_none F cap tried i s h b e f k ke (ltb-false k 4 xe) ze None (sym me) refl
      by false xe false ze (Some p) me w = absurd (let u : ◌≡◌ {A = ℕ} 0 1 = cc in omega arith)

-- ---- The same for what the search is fed.
module _ (fr : Frame) (slots : ℕ) (w e : List ℕ) (x : List Float) (cap : Cap) (tried i : ℕ) (s : Status) where
  -- The first read of the passes from n on, or the end of the run; t is the status of the pass before.
  abbrev on : ℕ → Status → Next
  on n t = to_pass (feed (data_of fr slots w e x)) cap (length fr.passes / 3 - n) n t tried

  pub passes_end : length fr.passes / 3 ≤ i → on i s ≡ Ends s
  unfolding feed
  passes_end h = from_end (feed (data_of fr slots w e x)) cap tried i s h

  module _ (h : i < length fr.passes / 3) (b : Bool) (be : b ≡ reached cap tried) where
    pub passes_timeout : b ≡ true → on i s ≡ Ends Timeout
    unfolding feed
    passes_timeout f = from_timeout (feed (data_of fr slots w e x)) cap tried i s h b be f

    module _ (f : b ≡ false) (k : ℕ) (ke : k ≡ length (kept_places fr i)) (g : PassStart) (ge : g ≡ start_of_pass k slots fr.config.patterns) where
      pub passes_first : (q : Combination) → g ≡ First q → on i s ≡ Goes (first_of i q)
      unfolding feed
      passes_first q o = passes_open (feed (data_of fr slots w e x)) cap tried i s h b be f k ke g ge q o

      pub passes_past : (t : Status) → g ≡ Over t → on (i + 1) t ≡ on i s
      unfolding feed
      passes_past t o = passes_over (feed (data_of fr slots w e x)) cap tried i s h b be f k ke g ge t o

use borrow.Author.Tests.{eq-eqb}
use Rattle.pattern_entry.proofs.Every.{every_none, every_more}
use Prim.Native.Nat.{ℕ, ◌+◌, ◌*◌}
use mathlib.Core.Path.{◌≡◌, refl, sym, ap, ap₂, ◌∙◌}
use native.Mathlib.Omega.{arith}
use Rattle.opening_check.specs.OpenCheck.{rank_right}
use Rattle.pattern_catalog.specs.Blocks.{ones_in}
use Rattle.pattern_entry.specs.FirstNo.{every}
use Rattle.opening_check.proofs.OpenCheck.{block_more, ranks_wrong, ranks_right}
use Rattle.pattern_catalog.proofs.CountOnes.{ones_le}
use Rattle.std.specs.Prelude.{Some}
use Rattle.opening_check.proofs.open_check.ranks_of.Goals as goal

pub loop-b-init : goal.loop-b-init
unfolding ones_in
loop-b-init c = (every_none _, refl)

pub returns-then-rank-seen : goal.returns-then-rank-seen
returns-then-rank-seen c = let a = c.args in let l = c.loop-b in ranks_wrong a.words.now a.blocks l.b c.loop-b-test.true (λ e. c.if-rank-seen.true (c.rank.ensures ∙ e ∙ sym l.invariant.1))

pub overflow_add-seen : goal.overflow_add-seen
overflow_add-seen c = let a = c.args in let l = c.loop-b in omega (arith, ones_le a.words.now 0 (l.b * 448), ones_le a.words.now (l.b * 448) 448)

pub loop-b-preserved : goal.loop-b-preserved
loop-b-preserved c = let a = c.args in let l = c.loop-b in (every_more l.b (rank_right a.words.now) l.invariant.0 (eq-eqb _ _ (sym c.rank.ensures ∙ c.if-rank-seen.false ∙ l.invariant.1)), ap₂ ◌+◌ l.invariant.1 c.ones_in-seen.ensures ∙ sym (block_more a.words.now l.b))

pub returns : goal.returns
returns c = let a = c.args in let l = c.loop-b in let e : l.b ≡ a.blocks = omega arith in ap Some (l.invariant.1 ∙ ap (λ (b : ℕ). ones_in a.words.now 0 (b * 448)) e) ∙ ranks_right a.words.now a.blocks (sym (ap (λ (b : ℕ). every b (rank_right a.words.now)) e) ∙ l.invariant.0)

-- `combinations::Combination::next` meets its contract. Assumes nothing.
use mathlib.Core.Path.{◌∙◌, sym}
use native.Mathlib.Numerals.{add-one}
use Rattle.combinations.specs.Combinations.{sum}
use Rattle.combinations.proofs.Successor.{next_within, next_past}
use Rattle.combinations.proofs.Combination.next.Goals as goal

pub returns-then-self : goal.returns-then-self
returns-then-self c =
    sym (next_within c.args.kept c.args.self c.requires.1 c.if-self.true)

pub returns : goal.returns
unfolding sum
returns c =
    c.from_b.ensures ∙ (rw add-one (sym (next_past c.args.kept c.args.self c.requires.1 c.if-self.false)))

use Rattle.opening_check.proofs.OpenCheck.{tail_none, tail_is}
use mathlib.Core.Path.{ap₂, ◌∙◌}
use lib.Dec.{eqb}
use Rattle.opening_check.proofs.open_check.tail_clear.Goals as goal

pub returns-then-rest-eq0 : goal.returns-then-rest-eq0
returns-then-rest-eq0 c = tail_none c.args.words.now c.args.slots c.if-rest-eq0.true

pub returns : goal.returns
returns c = ap₂ eqb c.ones_in.ensures c.ones_in-2.ensures ∙ tail_is c.args.words.now c.args.slots c.if-rest-eq0.false

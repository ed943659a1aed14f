use mathlib.Core.Path.{sym, ap, ◌∙◌}
use mathlib.Core.Bool.{Bool, cond}
use lib.Ieee.{of_bits}
use Rattle.pattern.specs.Edges.{angle}
use Rattle.search_cache.specs.AngleArray.{known_or}
use Rattle.search_cache.proofs.angles.known_or.Goals as goal

pub returns-then-known : goal.returns-then-known
unfolding known_or of_bits
returns-then-known c = c.angle.ensures ∙ sym (ap (λ (x : Bool). cond x (angle c.args.a c.args.b) c.args.known) c.if-known.true)

pub returns : goal.returns
unfolding known_or of_bits
returns c = sym (ap (λ (x : Bool). cond x (angle c.args.a c.args.b) c.args.known) c.if-known.false)

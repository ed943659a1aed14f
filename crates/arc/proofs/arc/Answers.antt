use mathlib.Core.Path.{ap}
use lib.Ieee.{Float, binary32, of_bits, add, mul}
use Rattle.arc.specs.Arc.{arc_of}
use Rattle.arc.proofs.arc.Goals as goal

pub returns-then-h : goal.returns-then-h
unfolding arc_of of_bits
returns-then-h c = simp c.if-h.true

pub returns-then-h-2 : goal.returns-then-h-2
unfolding arc_of of_bits
returns-then-h-2 c = let h = c.args.h in simp (c.if-h.false, c.if-h-2.true) (ap (λ (b : Float). add binary32 h (mul binary32 h b)) c.rational.ensures)

pub returns : goal.returns
unfolding arc_of of_bits
returns c = simp (c.if-h.false, c.if-h-2.false) c.near_one.ensures

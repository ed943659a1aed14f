use Rattle.std.proofs.Common.{ℕ, Bool, List, get_or, cond, sym, ap, ◌∙◌, rules, tests}
use lib.Ieee.{Float, binary32, nan, of_bits, div}
use Rattle.numeric.proofs.Arrays.{made}
use Rattle.pattern.specs.Edges.{zero_ratios, divided_by_largest, ratios_of}
use Rattle.pattern.proofs.edges.compute_edge_ratios.Goals as goal

-- The ratio of an edge to the largest.
abbrev ratio : List Float → ℕ → Float
ratio e i = div binary32 (get_or e i nan) (get_or e 5 nan)

pub returns-then-largest : goal.returns-then-largest
unfolding ratios_of divided_by_largest of_bits
returns-then-largest c =
    made _ (ratio c.args.e) _ (λ i y q d. search (rules, tests)) c.from_fn.result 5 c.from_fn.ensures.items
    ∙ sym (ap (λ (t : Bool). cond t (divided_by_largest c.args.e) zero_ratios) c.if-largest.true)

pub returns : goal.returns
unfolding ratios_of of_bits
returns c = sym (ap (λ (t : Bool). cond t (divided_by_largest c.args.e) zero_ratios) c.if-largest.false)

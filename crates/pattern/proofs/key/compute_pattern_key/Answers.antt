use Rattle.std.proofs.Common.{ℕ, map, ap, ◌∙◌, rules, tests}
use lib.Ieee.{Float, nan}
use Rattle.numeric.specs.KeyPart.{part_of}
use Rattle.numeric.proofs.Arrays.{mapped}
use Rattle.pattern.specs.Key.{key_of}
use Rattle.pattern.proofs.ListsEqual.{five_elements}
use Rattle.pattern.proofs.key.compute_pattern_key.Goals as goal

pub returns : goal.returns
unfolding key_of
returns c =
    let r = c.args.r in
    let part : Float → ℕ = λ x. part_of x c.args.bins in
    mapped _ part _ (λ x y q d. search (rules, tests)) r c.map.result 5 c.map.ensures.items c.well_formed.0.1.0.1
    ∙ ap (map part) (five_elements nan r c.well_formed.0.1.0.1)

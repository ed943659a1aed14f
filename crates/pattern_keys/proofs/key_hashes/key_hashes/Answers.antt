use mathlib.Core.Path.{sym, ◌∙◌}
use Rattle.pattern_keys.specs.KeyBounds.{keys_for}
use Rattle.pattern_keys.proofs.ImageKey.{image_pairs}
use Rattle.pattern_keys.proofs.TwoValues.{two_of}
use Rattle.pattern_keys.proofs.key_hashes.key_hashes.Goals as goal

pub two_values-requires : goal.two_values-requires
two_values-requires c =
    let e = c.new-ranges.ensures in
    let w = two_of _ _ (sym c.at_most_two.ensures ∙ c.if-at_most_two.true) in
    rw (e.0, e.1, e.2, e.3) (image_pairs c.args.r c.args.e c.args.bins c.requires.0 c.requires.1 (rw (e.1, e.2) at w))

pub returns-then-at_most_two : goal.returns-then-at_most_two
unfolding keys_for
returns-then-at_most_two c =
    let e = c.new-ranges.ensures in
    rw (e.0, e.1, e.2, e.3) at c.two_values.ensures

pub returns : goal.returns
unfolding keys_for
returns c =
    let e = c.new-ranges.ensures in
    rw (e.0, e.1, e.2, e.3) at c.enumerate_key_range.ensures

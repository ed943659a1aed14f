-- Every case of document 01, by one theorem. Both sides of each row are computed, except for the roots, which come from `root_is` and
-- `root_plus_zero`. Assumes nothing.
use mathlib.Core.Path.{refl, ap}
use Prim.Native.Nat.{◌*◌, ◌^◌}
use mathlib.Core.List.{[], ◌∷◌}
use mathlib.Core.Bool.{false}
use lib.IntN.{pos, negsuc}
use lib.Ieee.{Float, binary32, of_bits, odd, round, add, sub, mul, div, lt, le}
use Rattle.square_root.proofs.Examples.{root_is, right}
use Rattle.square_root.proofs.Laws.{root_plus_zero}
use Rattle.arc.specs.Arc.{half_pi, rational, corrected, near_one, arc_of}
use Rattle.pattern.specs.Key.{hash_of, home_of, mark_of}
use Rattle.pattern_keys.specs.Keys.{concat_map, run, part_values, in_range, squared_difference, squared_distance, at_distance, nearest_first, farther, farthest, keys_of}
use Rattle.combinations.specs.Lists.{each, span, upto}
use Rattle.combinations.specs.Combinations.{combination_list, combinations_of_sum}
use Rattle.pattern_catalog.specs.Blocks.{table_fits, bit_at, ones_in, place}
use Rattle.pattern_entry.specs.Entry.{in_section}
use Rattle.pattern_catalog.specs.SlotRead.{slot_in, slot_read}
use Rattle.preprocess.specs.UnitVectors.{norm_of, over_norm, unit_of}
use Rattle.fov_sweep.specs.Sweep.{pair_at, pairs_from, sweep_of}
use Rattle.undivided_run.specs.Undivided.{is_some, slot_of, filled, chain}
use Rattle.cases.specs.Cases.{f32, EveryCase}

-- Every row of the table holds.
pub every_case : EveryCase
unfolding hash_of home_of mark_of
    slot_of chain filled is_some
    combination_list combinations_of_sum each span upto
    keys_of farthest farther nearest_first at_distance squared_distance squared_difference in_range part_values run concat_map
    slot_read slot_in table_fits bit_at ones_in place in_section
    sweep_of pairs_from pair_at
    right odd round of_bits add sub mul div lt le
    arc_of near_one rational
    unit_of over_norm norm_of
every_case =
    let root-of-four = root_is 0 (pos 2) (2 ^ 46) 127 (2 ^ 23) tt in
    let root-of-two = root_is 0 (pos 1) (2 ^ 47) 126 0xB504F3 tt in
    -- The z of the arc of 1 is 0.
    let arc-of-one = ap (λ (s : Float). sub binary32 half_pi (mul binary32 (f32 2 1) (corrected s (f32 0 1)))) (root_plus_zero false) in
    -- The product 3 · 0.25 is 0.75, and the norm of (0.75, 0, 1) is 1.25.
    let root-of-norm = root_is 24 (negsuc 3) (25 * 2 ^ 42) 126 (5 * 2 ^ 21) tt in
    let spot-by-norm = ap (λ (n : Float). div binary32 (f32 3 4) n ∷ div binary32 (f32 0 1) n ∷ div binary32 (f32 1 1) n ∷ []) root-of-norm in
    -- One part of the proof for each row, in the table's order.
    ((refl, refl, refl), (refl, (refl, (refl, (refl, ((refl, refl), (refl, (refl, ((root-of-four, root-of-two), ((refl, arc-of-one), ((spot-by-norm, refl), tt)))))))))))

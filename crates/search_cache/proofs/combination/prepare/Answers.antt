use native.Mathlib.Omega.{arith}
use Rattle.search_feed.proofs.WithinLimits.{fitting, tolerance_narrow}
use Rattle.pattern_keys.proofs.KeyBounds.{keys_count}
use Rattle.search_cache.specs.CombinationKeys.{image_from}
use Rattle.search_cache.proofs.LoadCombination.{prepared}
use Rattle.search_cache.proofs.combination.prepare.Goals as goal

pub max_error-e-requires : goal.max_error-e-requires
max_error-e-requires c = (fitting c.args.config c.requires.0).narrow.few_bins

pub key_hashes-n-requires : goal.key_hashes-n-requires
key_hashes-n-requires c =
    let t = tolerance_narrow c.args.config c.requires.0 in
    (rw c.image_from-image.ensures c.requires.1, rw c.max_error-e.ensures t)

pub overflow_cast-result : goal.overflow_cast-result
overflow_cast-result c =
    let m = c.image_from-image.ensures in
    let k = (keys_count (image_from c.args.angles).ratios _ c.args.config.bins c.requires.1 (tolerance_narrow c.args.config c.requires.0)).1 in
    let h = rw (m, c.max_error-e.ensures) at c.key_hashes-n.ensures.count in
    record { fits = omega (arith, h, k) }

pub returns-clause-keys : goal.returns-clause-keys
returns-clause-keys c =
    prepared _ _ _ _ _ _ c.image_from-image.ensures c.max_error-e.ensures c.key_hashes-n.ensures

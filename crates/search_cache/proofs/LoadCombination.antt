-- The cache is loaded for a combination, or left as it is where it has that combination already. Assumes nothing.
use mathlib.Core.Path.{◌≡◌, refl, ◌∙◌, subst}
use Prim.Native.Nat.{ℕ, ◌≤◌}
use native.Mathlib.Omega.{arith}
use mathlib.Core.List.{List}
use lib.Ieee.{Float}
use Rattle.combinations.specs.declared.Combination.{Combination}
use Rattle.combinations.specs.Combinations.{Rising}
use Rattle.pattern_keys.specs.KeyBounds.{keys_for}
use Rattle.pattern_keys.specs.EnumerateSteps.{Hashed}
use Rattle.candidates.specs.declared.entry_tests.Image.{Image}
use Rattle.search_feed.specs.Data.{Frame}
use Rattle.pattern.specs.Edges.{angles, edges_of}
use Rattle.search_feed.specs.Image.{tolerance_in, keys_in, hash_in, image_of, image_at}
use Rattle.search_cache.specs.Cache.{HoldsCombination, CombinationOf, LoadedCombination}
use Rattle.search_cache.specs.declared.pass.Cache.{Cache}
use Rattle.search_cache.specs.declared.pass.CombinationKeys.{CombinationKeys}
use Rattle.std.specs.Prelude.{Some}
use Rattle.search_cache.specs.CombinationKeys.{image_from, Prepared}
use Rattle.search_feed.specs.declared.SearchConfig.{SearchConfig}

-- ---- a combination
pub prepared : (c : SearchConfig) (shown : Image) (n : ℕ) (image : Image) (e : Float) (hashes : List ℕ) → image ≡ shown → e ≡ tolerance_in c → Hashed hashes n (keys_for image.ratios e c.bins) c.bins → Prepared c shown n image hashes
unfolding keys_in hash_in
prepared c shown n image e hashes m t h =
    let k = rw (m, t) at h in
    record { image_is = m; count = k.count; hash = k.each }

-- Four positions that rise below n rise below any number from n on.
pub rises_wider : (n m : ℕ) (q : Combination) → n ≤ m → Rising n q → Rising m q
rises_wider n m q l r = record { ab = r.ab; bc = r.bc; cd = r.cd; dn = omega (arith, r.dn) }

-- The angles of four directions show what the directions do.
pub angles_show : (v : List (List Float)) → image_from (angles v) ≡ image_of v
unfolding image_from image_of edges_of
angles_show v = refl

-- A cache that says that it has this combination is loaded for it.
pub four_again : (F : Frame) (i : ℕ) (h : Cache) (q : Combination) (k : CombinationKeys) → CombinationOf h.four F i h.hashes → h.four ≡ Some k → k.four ≡ q → LoadedCombination F i q h
four_again F i h q k d y e =
    let f = rw y at d in
    record {
      held = k;
      yes = y;
      is = e;
      cached = subst (λ z. HoldsCombination F i z k.keys k.image h.hashes) e f;
    }

pub four_prepared : (F : Frame) (i : ℕ) (q : Combination) (c : SearchConfig) (shown : Image) (n : ℕ) (image : Image) (hashes : List ℕ) → F.config ≡ c → shown ≡ image_at F i q → Prepared c shown n image hashes → HoldsCombination F i q n image hashes
four_prepared F i q c shown n image hashes e d p =
    record {
      image_is = p.image_is ∙ d;
      count = rw (← d, e) p.count;
      hash = λ k l. rw (← d, e) (p.hash k l);
    }

-- What holds of the cache after a step of a call. Definitions only.
use Rattle.search_feed.specs.Data.{Frame}
use Rattle.std.specs.Prelude.{◌≡◌, ℕ, List}
use Rattle.search_cache.specs.Cache.{PassCacheValid, HashesFit}
use Rattle.search_cache.specs.declared.pass.Cache.{Cache}

-- What holds after a step that turned the cache `before` into `after`.
pub record CacheAfter (F : Frame) (before after : Cache) : Type 0 where
  -- The arrays of the pass hold what the cache after the step says.
  pub pass : PassCacheValid F after
  -- What the cache before may have had as hashes, the cache after may have.
  pub four : (l : List ℕ) → HashesFit F before l → HashesFit F after l
  -- The array of hashes stays as it was.
  pub hashes : after.hashes ≡ before.hashes

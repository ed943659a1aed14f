-- The cache stays valid from step to step. Assumes nothing.
use mathlib.Core.Path.{◌≡◌, refl, ◌∙◌}
use Prim.Native.Nat.{ℕ}
use mathlib.Core.List.{List}
use Rattle.search_feed.specs.Data.{Frame}
use Rattle.search_cache.specs.Cache.{PassCacheValid, CombinationCacheValid, HashesFit, LoadedPass}
use Rattle.search_cache.specs.declared.pass.Cache.{Cache}
use Rattle.search_cache.proofs.Loaded.{loaded_pass, still_valid}
use Rattle.search_step.specs.CacheAfter.{CacheAfter}

-- a cache that nothing is done to
pub kept_same : (F : Frame) (h : Cache) → PassCacheValid F h → CacheAfter F h h
kept_same F h d = record { pass = d; four = λ l x. x; hashes = refl }

-- a cache loaded anew
pub kept_loaded : (F : Frame) (i : ℕ) (before middle after : Cache) → CacheAfter F before middle → LoadedPass F i after → ((l : List ℕ) → HashesFit F middle l → HashesFit F after l) → after.hashes ≡ middle.hashes → CacheAfter F before after
kept_loaded F i before middle after k p f e = record { pass = loaded_pass F i after p; four = λ l d. f l (k.four l d); hashes = e ∙ k.hashes }

-- The hashes of the cache after a step are what that cache says.
pub after_valid : (F : Frame) (before after : Cache) → CacheAfter F before after → CombinationCacheValid F before → CombinationCacheValid F after
after_valid F before after k d = still_valid F before after k.hashes k.four d

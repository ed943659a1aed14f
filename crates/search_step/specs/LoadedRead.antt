-- What a read asks of the cache. Definitions only.
use Rattle.std.specs.Prelude.{◌≡◌, ℕ, ◌≤◌, ◌<◌, length}
use Rattle.combinations.specs.Combinations.{Rising}
use Rattle.undivided_run.specs.declared.state.Position.{Position}
use Rattle.search_feed.specs.Data.{Frame}
use Rattle.search_feed.specs.Image.{kept_places, keys_in, image_at}
use Rattle.search_cache.specs.Cache.{LoadedPass}
use Rattle.search_cache.specs.declared.pass.Cache.{Cache}
use Rattle.search_cache.specs.declared.read.Loaded.{Loaded}

-- The cache is loaded for a read that exists, and x is what it is loaded with.
pub record LoadedRead (F : Frame) (slots : ℕ) (h : Cache) (x : Loaded) (p : Position) : Type 0 where
  pub loaded : LoadedPass F p.pass h
  pub kept : x.kept ≡ length (kept_places F p.pass)
  pub keys : x.keys ≡ length (keys_in F.config (image_at F p.pass p.four))
  pub small : x.kept ≤ 64
  pub rising : Rising x.kept p.four
  pub few : x.keys ≤ 1024
  pub key : p.key < x.keys
  pub probe : p.probe < slots
  pub slots_few : slots ≤ 16777216

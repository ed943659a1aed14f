-- What is worked out for the cache from the angles of a combination: what they show, and the hashes of its keys. Definitions only.
use Rattle.std.specs.Prelude.{◌≡◌, ℕ, ◌<◌, List, length, get_or, Float}
use Rattle.std.specs.Float.{nan}
use Rattle.std.specs.Float.Ieee.{lt}
use Rattle.candidates.specs.declared.entry_tests.Image.{Image}
use Rattle.pattern.specs.Sort.{sorted}
use Rattle.pattern.specs.Edges.{ratios_of}
use Rattle.search_feed.specs.Image.{keys_in, hash_in}
use Rattle.search_feed.specs.declared.SearchConfig.{SearchConfig}

-- What six angles show: the largest of them and the five ratios. It is `image_of` where they are the angles of four directions (`angles_show`).
unfoldable pub image_from : List Float → Image
image_from a = record { edge = get_or (sorted lt a) 5 nan; ratios = ratios_of (sorted lt a) }

-- What `prepare` gives where the angles show `shown`: `image` is that, and `hashes` has the hashes of its n keys.
pub record Prepared (c : SearchConfig) (shown : Image) (n : ℕ) (image : Image) (hashes : List ℕ) : Type 0 where
  pub image_is : image ≡ shown
  pub count : n ≡ length (keys_in c shown)
  pub hash : (k : ℕ) → k < n → get_or hashes k 0 ≡ hash_in c shown k

-- What a call keeps in its cache: the kept list of one pass, and the keys of one combination. The arrays of the struct Cache are `places` (the kept
-- places), `geometry` (directions and angles) and `hashes` (the hashes of the keys). Definitions only.
use Rattle.std.specs.Prelude.{◌≡◌, ℕ, ◌/◌, ◌<◌, List, length, map, get_or, take, Float, Option, None, Some}
use Rattle.combinations.specs.declared.Combination.{Combination}
use Rattle.candidates.specs.declared.entry_tests.Image.{Image}
use Rattle.preprocess.specs.declared.brightness_list.Place.{Place}
use Rattle.preprocess.specs.BrightnessList.{place_of}
use Rattle.search_feed.specs.Data.{Frame}
use Rattle.search_cache.specs.AngleArray.{direction_at, AnglesCached}
use Rattle.search_feed.specs.Image.{keys_in, hash_in, spot_of, kept_places, kept_place, image_at}
use Rattle.search_cache.specs.declared.pass.KeptPass.{KeptPass}
use Rattle.search_cache.specs.declared.pass.CombinationKeys.{CombinationKeys}
use Rattle.search_cache.specs.declared.pass.Cache.{Cache}
use Rattle.search_cache.specs.declared.read.Loaded.{Loaded}

-- The cache holds nothing.
pub record EmptyCache (h : Cache) : Type 0 where
  pub pass : h.pass ≡ None
  pub four : h.four ≡ None

-- The arrays hold the n kept places of pass i, their directions, and the angle of each two of them or that it is not worked out.
pub record HoldsPass (F : Frame) (i n : ℕ) (places : List Place) (geometry : List Float) : Type 0 where
  pub count : n ≡ length (kept_places F i)
  pub places_are : take n places ≡ map place_of (kept_places F i)
  pub directions_are : (x : ℕ) → x < n → direction_at geometry x ≡ spot_of F i (kept_place F i x)
  pub angles : AnglesCached n geometry

-- The array holds the hashes of the n keys of combination q of pass i, and `image` is what the frame shows of that combination.
pub record HoldsCombination (F : Frame) (i : ℕ) (q : Combination) (n : ℕ) (image : Image) (hashes : List ℕ) : Type 0 where
  pub image_is : image ≡ image_at F i q
  pub count : n ≡ length (keys_in F.config (image_at F i q))
  pub hash : (k : ℕ) → k < n → get_or hashes k 0 ≡ hash_in F.config (image_at F i q) k

-- Where a cache says that it is loaded for a pass, the pass exists and the arrays hold it.
abbrev pub PassIfAny : Option KeptPass → Frame → List Place → List Float → Type 0
PassIfAny (Some p) F places geometry = (p.number < length F.passes / 3) × HoldsPass F p.number p.kept places geometry
PassIfAny None F places geometry = Unit {0}

-- Where a cache says that it is loaded for a combination, the array holds the keys of that combination of pass i.
abbrev pub CombinationOf : Option CombinationKeys → Frame → ℕ → List ℕ → Type 0
CombinationOf (Some k) F i hashes = HoldsCombination F i k.four k.keys k.image hashes
CombinationOf None F i hashes = Unit {0}

-- Where a cache says that it is loaded for a combination, the array holds the keys of that combination: of the pass that the cache is loaded for,
-- or of some pass where it is loaded for none.
abbrev pub CombinationIfAny : Option CombinationKeys → Option KeptPass → Frame → List ℕ → Type 0
CombinationIfAny (Some k) (Some p) F hashes = HoldsCombination F p.number k.four k.keys k.image hashes
CombinationIfAny (Some k) None F hashes = (i : ℕ) × HoldsCombination F i k.four k.keys k.image hashes
CombinationIfAny None p F hashes = Unit {0}

-- The numbers l are what a cache may have as hashes, by the pass and the combination that it says it is loaded for.
abbrev pub HashesFit : Frame → Cache → List ℕ → Type 0
HashesFit F h l = CombinationIfAny h.four h.pass F l

-- The arrays of a pass hold what the cache says. Their types say how long they are: 64 places, and 2208 = 64·3 + 64·63/2 numbers for the
-- directions and an angle for each two of them.
pub record PassCacheValid (F : Frame) (h : Cache) : Type 0 where
  pub pass : PassIfAny h.pass F h.places h.geometry.numbers

-- The array of a combination holds what the cache says.
pub record CombinationCacheValid (F : Frame) (h : Cache) : Type 0 where
  pub four : HashesFit F h h.hashes

-- The cache is loaded for pass i, which exists.
pub record LoadedPass (F : Frame) (i : ℕ) (h : Cache) : Type 0 where
  pub held : KeptPass
  -- The cache says that it is loaded for a pass.
  pub yes : h.pass ≡ Some held
  -- That pass is pass i.
  pub is : held.number ≡ i
  -- Pass i exists.
  pub inside : i < length F.passes / 3
  -- The arrays hold pass i.
  pub cached : HoldsPass F i held.kept h.places h.geometry.numbers

-- The cache is loaded for combination q of pass i.
pub record LoadedCombination (F : Frame) (i : ℕ) (q : Combination) (h : Cache) : Type 0 where
  pub held : CombinationKeys
  -- The cache says that it is loaded for a combination.
  pub yes : h.four ≡ Some held
  -- That combination is q.
  pub is : held.four ≡ q
  -- The array holds the keys of combination q of pass i.
  pub cached : HoldsCombination F i q held.keys held.image h.hashes

-- What `load` returns for a read of combination q of pass i: how many spots the pass keeps, how many keys the combination has, and what the frame
-- shows of the combination.
pub record LoadedFor (F : Frame) (i : ℕ) (q : Combination) (x : Loaded) : Type 0 where
  pub kept : x.kept ≡ length (kept_places F i)
  pub keys : x.keys ≡ length (keys_in F.config (image_at F i q))
  pub image : x.image ≡ image_at F i q

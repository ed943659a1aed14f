-- The cache is loaded for a pass, or left as it is where it has that pass already. Assumes nothing.
use mathlib.Core.Path.{◌≡◌, ap, ◌∙◌, subst}
use Prim.Native.Nat.{ℕ, ◌/◌, ◌≤◌, ◌<◌}
use native.Mathlib.Omega.{arith}
use mathlib.Core.List.{List}
use lib.ListN.{length, length-take}
use lib.Ieee.{Float}
use Rattle.settings.specs.declared.passes.Pass.{Pass}
use Rattle.settings.specs.Passes.{pass_at}
use Rattle.thinning.specs.KeptList.{spot_at, thinned, kept_of, Kept}
use Rattle.search_feed.specs.Data.{Frame}
use Rattle.search_cache.specs.AngleArray.{DirectionsStored}
use Rattle.preprocess.specs.declared.brightness_list.Place.{Place}
use Rattle.search_feed.specs.Image.{kept_places}
use Rattle.search_cache.specs.Cache.{HoldsPass, PassCacheValid, LoadedPass}
use Rattle.search_cache.specs.declared.pass.Cache.{Cache}
use Rattle.search_cache.specs.declared.pass.KeptPass.{KeptPass}
use Rattle.std.specs.Prelude.{Some}
use Rattle.search_cache.proofs.PassDirections.{loaded_directions}

-- A cache that says that it has this pass is loaded for it.
pub pass_again : (F : Frame) (h : Cache) (i : ℕ) (p : KeptPass) → PassCacheValid F h → h.pass ≡ Some p → p.number ≡ i → LoadedPass F i h
pass_again F h i p d y e =
    let q = rw y at d.pass in
    record {
      held = p;
      yes = y;
      is = e;
      inside = subst (λ k. k < length F.passes / 3) e q.0;
      cached = subst (λ k. HoldsPass F k p.kept h.places h.geometry.numbers) e q.1;
    }

-- The count that a cache has of the spots of the pass that it is loaded for.
pub kept_count : (F : Frame) (i : ℕ) (h : Cache) (p : KeptPass) → LoadedPass F i h → h.pass ≡ Some p → p.kept ≡ length (kept_places F i)
kept_count F i h p l y =
    let e : p ≡ l.held = cc (l.yes, y) in
    ap (λ (z : KeptPass). z.kept) e ∙ l.cached.count

-- No more spots are kept than the number that the kept list is cut to.
pub kept_most : (c : Float) (spot : ℕ → List Float) (n most r : ℕ) (places : List Place) (dirs : List (List Float)) → Kept c spot n most r places dirs → r ≤ most
unfolding kept_of
kept_most c spot n most r places dirs k = omega (arith, k.count, length-take most (thinned c spot n))

pub pass_thinned : (F : Frame) (i r : ℕ) (places : List Place) (dirs : List (List Float)) (geometry : List Float) (p : Pass) → p ≡ pass_at F.passes i → Kept p.cosine (spot_at F.centroids F.order p.scale) (length F.order) F.config.checking r places dirs → DirectionsStored dirs r geometry → HoldsPass F i r places geometry
unfolding kept_places
pass_thinned F i r places dirs geometry p e k l =
    let h = rw e at k in
    record { count = h.count; places_are = h.places_are; directions_are = loaded_directions F i r dirs geometry h.count h.dirs_are l; angles = l.cached }

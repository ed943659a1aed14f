-- What a cache holds that is empty, that is loaded for a pass, or that is loaded for a combination. Assumes nothing.
use mathlib.Core.Path.{◌≡◌, sym, ◌∙◌, subst}
use Prim.Native.Nat.{ℕ, suc, ◌+◌, ◌/◌, ◌≤◌, ◌<◌}
use native.Mathlib.Omega.{arith}
use mathlib.Core.List.{List}
use lib.ListN.{length}
use lib.Ieee.{Float}
use Rattle.std.specs.Prelude.{Option, None, Some}
use Rattle.combinations.specs.declared.Combination.{Combination}
use Rattle.combinations.specs.Combinations.{Rising}
use Rattle.pattern.specs.Directions.{Directions}
use Rattle.search_cache.specs.AngleArray.{four_at, AnglesCached, SameDirections}
use Rattle.preprocess.specs.declared.brightness_list.Place.{Place}
use Rattle.search_feed.specs.Data.{Frame}
use Rattle.search_feed.specs.Image.{kept_places, directions_of}
use Rattle.search_cache.specs.Cache.{EmptyCache, HoldsPass, HoldsCombination, CombinationOf, CombinationIfAny, HashesFit, PassCacheValid, CombinationCacheValid, LoadedPass, LoadedCombination}
use Rattle.search_feed.specs.Claims.{FrameFits}
use Rattle.search_cache.specs.declared.pass.Cache.{Cache}
use Rattle.search_cache.specs.declared.pass.CombinationKeys.{CombinationKeys}
use Rattle.search_cache.specs.declared.pass.KeptPass.{KeptPass}
use Rattle.search_feed.proofs.KeptSpots.{directions_small}
use Rattle.search_cache.proofs.AngleArray.{cached_fewer}
use Rattle.search_cache.proofs.LoadCombination.{rises_wider}
use Rattle.search_cache.proofs.PassDirections.{cached_directions}

-- The empty cache holds what it says, which is nothing.
pub empty_pass : (F : Frame) (h : Cache) → EmptyCache h → PassCacheValid F h
empty_pass F h e = record { pass = rw e.pass tt }

pub empty_four : (F : Frame) (h : Cache) → EmptyCache h → CombinationCacheValid F h
empty_four F h e = record { four = rw e.four tt }

-- A cache whose hashes stay holds what it says where its pass and its combination still fit them.
pub still_valid : (F : Frame) (before after : Cache) → after.hashes ≡ before.hashes → ((l : List ℕ) → HashesFit F before l → HashesFit F after l) → CombinationCacheValid F before → CombinationCacheValid F after
still_valid F before after e f d = record { four = subst (λ l. HashesFit F after l) (sym e) (f before.hashes d.four) }

-- The hashes of a cache that is loaded for a pass are of a combination of that pass, if of any.
of_the_pass : (k : Option CombinationKeys) (F : Frame) (p : KeptPass) (l : List ℕ) → CombinationIfAny k (Some p) F l → CombinationOf k F p.number l
of_the_pass (Some k) F p l d = d
of_the_pass None F p l d = d

pub combination_of : (F : Frame) (h : Cache) (p : KeptPass) → h.pass ≡ Some p → CombinationCacheValid F h → CombinationOf h.four F p.number h.hashes
combination_of F h p e d = of_the_pass h.four F p h.hashes (subst (λ o. CombinationIfAny h.four o F h.hashes) e d.four)

-- ---- A cache that is loaded for a pass.
module _ (F : Frame) (i : ℕ) (h : Cache) (f : LoadedPass F i h) where
  -- A cache that is loaded for a pass holds what it says.
  pub loaded_pass : PassCacheValid F h
  loaded_pass =
      record {
        pass = rw f.yes (subst (λ k. k < length F.passes / 3) (sym f.is) f.inside, subst (λ k. HoldsPass F k f.held.kept h.places h.geometry.numbers) (sym f.is) f.cached);
      }

  still_pass : (after : List Float) → SameDirections h.geometry.numbers after → HoldsPass F i f.held.kept h.places after
  still_pass after s =
      record {
        count = f.cached.count;
        places_are = f.cached.places_are;
        directions_are = λ x l. s.directions x (omega (arith, f.cached.angles.few)) ∙ f.cached.directions_are x l;
        angles = s.cached f.held.kept f.cached.angles;
      }

  -- Another cache with the same pass and the same places is loaded for that pass too, after angles were looked up.
  pub same_pass : (g : Cache) → g.pass ≡ h.pass → g.places ≡ h.places → SameDirections h.geometry.numbers g.geometry.numbers → LoadedPass F i g
  same_pass g a b s =
      record {
        held = f.held;
        yes = a ∙ f.yes;
        is = f.is;
        inside = f.inside;
        cached = subst (λ (ps : List Place). HoldsPass F i f.held.kept ps g.geometry.numbers) (sym b) (still_pass g.geometry.numbers s);
      }

  -- A pass keeps at most 64 spots.
  pub kept_64 : length (kept_places F i) ≤ 64
  kept_64 = omega (arith, f.cached.count, f.cached.angles.few)

  module _ (a : FrameFits F) (q : Combination) (r : Rising (length (kept_places F i)) q) where
    rises : Rising f.held.kept q
    rises = rw f.cached.count r

    pub four_64 : Rising 64 q
    four_64 = rises_wider _ 64 q kept_64 r

    pub four_below : (q.a < 64) × (q.b < 64) × (q.c < 64) × (q.d < 64)
    four_below = let w = four_64 in (omega (arith, w.ab, w.bc, w.cd, w.dn), omega (arith, w.bc, w.cd, w.dn), omega (arith, w.cd, w.dn), w.dn)

    -- The angles of the positions up to the last of the combination are cached.
    pub four_cached : AnglesCached (suc q.d) h.geometry.numbers
    four_cached = cached_fewer _ _ _ rises.dn f.cached.angles

    -- The directions in the array are those of the frame.
    pub four_shown : directions_of F i q ≡ four_at h.geometry.numbers q
    four_shown = sym (cached_directions F i f.held.kept h.geometry.numbers f.cached.directions_are q rises)

    -- The directions in the array are within the limits of a direction.
    pub four_directions : Directions (four_at h.geometry.numbers q)
    four_directions = subst Directions four_shown (directions_small F a i f.inside q r)

  -- A cache that is loaded for a combination of its pass holds what it says.
  pub loaded_four : (q : Combination) → LoadedCombination F i q h → CombinationCacheValid F h
  loaded_four q o =
      record {
        four =
            rw (o.yes, f.yes)
            (subst (λ k. HoldsCombination F k o.held.four o.held.keys o.held.image h.hashes) (sym f.is)
            (subst (λ k. HoldsCombination F i k o.held.keys o.held.image h.hashes) (sym o.is) o.cached));
      }

-- The keys that a cache has that is loaded for a combination.
pub keys_held : (F : Frame) (i : ℕ) (q : Combination) (h : Cache) (k : CombinationKeys) → LoadedCombination F i q h → h.four ≡ Some k → HoldsCombination F i q k.keys k.image h.hashes
keys_held F i q h k o y =
    let e : o.held ≡ k = cc (o.yes, y) in
    subst (λ (z : CombinationKeys). HoldsCombination F i q z.keys z.image h.hashes) e o.cached

-- The number after that of a loaded pass is at most the number of passes.
pub next_pass_inside : (F : Frame) (i : ℕ) (h : Cache) → LoadedPass F i h → i + 1 ≤ length F.passes / 3
next_pass_inside F i h p = omega (arith, p.inside)

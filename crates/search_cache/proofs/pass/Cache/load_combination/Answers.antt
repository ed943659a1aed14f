use mathlib.Core.Path.{◌≡◌, refl, sym, ap, ◌∙◌}
use borrow.Author.Rules.{rules}
use Rattle.search_cache.specs.AngleArray.{four_at}
use Rattle.search_cache.proofs.AngleArray.{still_same}
use Rattle.search_feed.specs.Image.{image_of}
use Rattle.search_feed.proofs.KeptSpots.{image_ratios_of}
use Rattle.search_cache.specs.CombinationKeys.{image_from}
use Rattle.search_cache.proofs.LoadCombination.{four_again, four_prepared, angles_show}
use Rattle.search_cache.proofs.pass.Cache.load_combination.Goals as goal

pub returns : goal.returns
returns c =
    let h : c.in-Some.held.four ≡ c.args.four = search rules in
    record { loaded = λ F i e d w. four_again F i _ _ _ d c.in-Some.is h; rest = (refl, refl, still_same _); keys = c.in-Some.is }

pub prepare-keys-requires : goal.prepare-keys-requires
prepare-keys-requires c =
    let v = four_at c.args.self.now.geometry.numbers c.args.four in
    let s = ap image_from c.six_angles-angles.ensures.six ∙ angles_show v in
    (c.requires.0, rw s (image_ratios_of v c.requires.3))

pub returns-2 : goal.returns-2
returns-2 c =
    let p = c.prepare-keys.ensures in
    let x = c.six_angles-angles.ensures in
    let v = four_at c.args.self.now.geometry.numbers c.args.four in
    let s = ap image_from x.six ∙ angles_show v in record {
      loaded = λ F i e d w. record { held = c.prepare-keys.result; yes = refl; is = p.four; cached = four_prepared F _ _ _ _ _ _ _ e (s ∙ ap image_of (sym w)) p.keys };
      rest = (refl, refl, x.directions);
      keys = refl;
    }

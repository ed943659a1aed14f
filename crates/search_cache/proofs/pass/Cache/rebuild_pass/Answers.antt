use mathlib.Core.Path.{refl}
use native.Mathlib.Omega.{arith}
use Rattle.preprocess.proofs.BrightnessList.{places_at_most_256}
use Rattle.search_feed.proofs.WithinLimits.{fitting}
use Rattle.search_cache.proofs.LoadPass.{pass_thinned, kept_most}
use Rattle.search_cache.proofs.pass.Cache.rebuild_pass.Goals as goal

pub thin-kept-requires : goal.thin-kept-requires
thin-kept-requires c =
    let q = c.args.fitting.now.fits in
    (q.three, places_at_most_256 _ _ q.one q.three, (fitting c.args.fitting.now.frame.config q.four).few_stars)

pub load-requires : goal.load-requires
load-requires c =
    omega (arith, kept_most _ _ _ _ _ _ _ c.thin-kept.ensures, (fitting c.args.fitting.now.frame.config c.args.fitting.now.fits.four).few_stars)

pub returns : goal.returns
returns c =
    let p = pass_thinned _ _ _ _ _ _ _ c.pass_at-p.ensures c.thin-kept.ensures c.load.ensures in record {
      loaded = record { held = record { number = c.args.pass; kept = c.thin-kept.result }; yes = refl; is = refl; inside = c.requires; cached = p };
      combination = λ l. tt;
      hashes = refl;
      count = p.count;
    }

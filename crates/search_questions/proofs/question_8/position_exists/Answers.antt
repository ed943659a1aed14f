use mathlib.Core.Path.{sym, ◌∙◌, subst}
use native.Mathlib.Omega.{arith}
use Rattle.combinations.specs.Combinations.{Rising}
use Rattle.search_questions.proofs.Question8.{rises_true}
use Rattle.settings.proofs.PassLimits.{passes_fitting}
use Rattle.search_feed.specs.Lent.{frame_in}
use Rattle.search_questions.proofs.StateFits.{no_pattern, no_pass, no_rise, no_key, by_probe}
use Rattle.search_cache.proofs.Loaded.{loaded_pass, loaded_four, still_valid}
use Rattle.search_questions.proofs.question_8.position_exists.Goals as goal

pub returns-then-fitting-eq0 : goal.returns-then-fitting-eq0
returns-then-fitting-eq0 c =
    let F = frame_in c.args.fitting.now.frame in
    record { fits = λ w e s. no_pattern F c.args.slots c.args.p w e s c.if-fitting-eq0.true; caches = (c.requires.0, c.requires.1) }

pub overflow_cast-fitting : goal.overflow_cast-fitting
overflow_cast-fitting c = omega (arith, (passes_fitting c.args.fitting.now.frame.passes.now c.args.fitting.now.fits.five).few)

pub returns-then-fitting-p : goal.returns-then-fitting-p
returns-then-fitting-p c =
    let F = frame_in c.args.fitting.now.frame in
    record { fits = λ w e s. no_pass F c.args.slots c.args.p w e s c.if-fitting-eq0.false c.if-fitting-p.true; caches = (c.requires.0, c.requires.1) }

pub returns-then-not-rises_below : goal.returns-then-not-rises_below
returns-then-not-rises_below c =
    let F = frame_in c.args.fitting.now.frame in
    let l = c.load_pass-kept.ensures in record {
      fits = λ w e s. no_rise F c.args.slots c.args.p w e s c.if-fitting-eq0.false c.if-fitting-p.false _ l.count (sym c.rises_below.ensures ∙ c.if-not-rises_below.true);
      caches = (loaded_pass F _ _ l.loaded, still_valid F _ _ l.hashes (λ k d. l.combination k (λ p e n. d)) c.requires.1);
    }

pub load-loaded-requires : goal.load-loaded-requires
load-loaded-requires c =
    let F = frame_in c.args.fitting.now.frame in
    let l = c.load_pass-kept.ensures in
    let r = rises_true _ c.args.p.four (sym c.rises_below.ensures ∙ c.if-not-rises_below.false) in
    (loaded_pass F _ _ l.loaded, still_valid F _ _ l.hashes (λ k d. l.combination k (λ p e n. d)) c.requires.1, c.if-fitting-p.false, subst (λ k. Rising k c.args.p.four) l.count r)

pub returns-then-loaded-p : goal.returns-then-loaded-p
returns-then-loaded-p c =
    let F = frame_in c.args.fitting.now.frame in
    let l = c.load_pass-kept.ensures in
    let t = sym c.rises_below.ensures ∙ c.if-not-rises_below.false in
    let o = c.load-loaded.ensures in record {
      fits = λ w e s. no_key F c.args.slots c.args.p w e s c.if-fitting-eq0.false c.if-fitting-p.false _ l.count t _ o.2.keys c.if-loaded-p.true;
      caches = (loaded_pass F _ _ o.0, loaded_four F _ _ o.0 _ o.1);
    }

pub returns : goal.returns
returns c =
    let F = frame_in c.args.fitting.now.frame in
    let l = c.load_pass-kept.ensures in
    let t = sym c.rises_below.ensures ∙ c.if-not-rises_below.false in
    let o = c.load-loaded.ensures in record {
      fits = λ w e s. by_probe F c.args.slots c.args.p w e s c.if-fitting-eq0.false c.if-fitting-p.false _ l.count t _ o.2.keys c.if-loaded-p.false;
      caches = (loaded_pass F _ _ o.0, loaded_four F _ _ o.0 _ o.1);
    }

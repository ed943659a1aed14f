use mathlib.Core.Path.{◌≡◌, refl, sym, subst}
use Rattle.search_feed.specs.Lent.{frame_in}
use Rattle.search_feed.specs.Image.{directions_of}
use Rattle.search_cache.specs.AngleArray.{four_at}
use Rattle.search_cache.specs.Cache.{LoadedCombination}
use Rattle.search_cache.proofs.Loaded.{still_valid, combination_of, same_pass, four_64, four_cached, four_shown, four_directions, keys_held}
use Rattle.search_cache.proofs.pass.Cache.load.Goals as goal

pub load_combination-keyed-requires : goal.load_combination-keyed-requires
load_combination-keyed-requires c =
    let F = frame_in c.args.fitting.now.frame in
    let l = c.load_pass-kept.ensures.loaded in
    let q = c.args.p.four in
    let a = c.args.fitting.now.fits in
    let r = c.requires.3 in
    (a.four, four_64 F _ _ l a q r, four_cached F _ _ l a q r, four_directions F _ _ l a q r)

pub returns : goal.returns
returns c =
    let F = frame_in c.args.fitting.now.frame in
    let k = c.load_pass-kept.ensures in
    let l = k.loaded in
    let n = c.load_combination-keyed.ensures in
    let d = four_shown F _ _ l c.args.fitting.now.fits c.args.p.four c.requires.3 in
    let w = subst (λ i. directions_of F i c.args.p.four ≡ four_at c.load_pass-kept.new.self.geometry.numbers c.args.p.four) (sym l.is) d in
    let v = combination_of F c.load_pass-kept.new.self l.held l.yes (still_valid F c.args.self.now c.load_pass-kept.new.self k.hashes (λ l d. k.combination l (λ p e n. d)) c.requires.1) in
    let o = subst (λ i. LoadedCombination F i c.args.p.four c.load_combination-keyed.new.self) l.is (n.loaded F l.held.number refl v w) in
    let h = keys_held F _ _ _ _ o n.keys in
    (same_pass F _ _ l _ n.rest.0 n.rest.1 n.rest.2, o, record { kept = k.count; keys = h.count; image = h.image_is })

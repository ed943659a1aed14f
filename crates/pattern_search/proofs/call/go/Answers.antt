use native.Mathlib.Omega.{arith}
use Rattle.search_feed.specs.Lent.{data_in}
use Rattle.pattern_entry.proofs.StarSlice.{fit_few}
use Rattle.search_questions.proofs.Questions1To7.{seven_asked, seven_stars}
use Rattle.search_cache.proofs.Loaded.{empty_pass, empty_four}
use Rattle.search_step.proofs.CacheAfter.{after_valid}
use Rattle.pattern_search.proofs.Calling.{call_eight, call_zero, call_run, ready}
use Rattle.pattern_search.proofs.call.go.Goals as goal

pub invariant_of-fitting : goal.invariant_of-fitting
invariant_of-fitting c =
    let D = data_in c.args.frame.now c.args.table.now in
    record { fits = seven_asked D.frame c.args.table.now.slots D.words D.stars c.requires }

pub state_fits-requires : goal.state_fits-requires
state_fits-requires c =
    let D = data_in c.args.frame.now c.args.table.now in
    (empty_pass _ _ c.empty-cache.ensures, empty_four _ _ c.empty-cache.ensures)

pub returns-then-not-state_fits : goal.returns-then-not-state_fits
returns-then-not-state_fits c =
    let D = data_in c.args.frame.now c.args.table.now in
    call_eight D c.args.st c.args.allowance c.requires _ (c.state_fits.ensures.fits D.words D.packed D.stars) c.if-not-state_fits.true

pub start_call-next-requires : goal.start_call-next-requires
start_call-next-requires c = c.state_fits.ensures.caches.0

pub returns-then-allowance-eq0 : goal.returns-then-allowance-eq0
returns-then-allowance-eq0 c =
    let D = data_in c.args.frame.now c.args.table.now in
    call_zero D c.args.st c.args.allowance c.requires _ (c.state_fits.ensures.fits D.words D.packed D.stars) c.if-not-state_fits.false _ (c.start_call-next.ensures.next D.words D.packed D.stars) c.if-allowance-eq0.true _ c.zero_call.ensures

pub run-requires : goal.run-requires
run-requires c =
    let D = data_in c.args.frame.now c.args.table.now in
    (ready D c.args.st c.args.allowance c.requires _ (c.state_fits.ensures.fits D.words D.packed D.stars) c.if-not-state_fits.false _ (c.start_call-next.ensures.next D.words D.packed D.stars) _ c.start_call-next.ensures.caches.pass (after_valid _ _ _ c.start_call-next.ensures.caches c.state_fits.ensures.caches.1), fit_few D.stars (seven_stars D.frame c.args.table.now.slots D.words D.stars c.requires))

pub returns : goal.returns
returns c =
    let D = data_in c.args.frame.now c.args.table.now in
    call_run D c.args.st c.args.allowance c.requires _ (c.state_fits.ensures.fits D.words D.packed D.stars) c.if-not-state_fits.false _ (c.start_call-next.ensures.next D.words D.packed D.stars) (omega (arith, c.if-allowance-eq0.false)) _ c.run.ensures

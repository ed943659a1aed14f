use mathlib.Core.Path.{sym, ◌∙◌, ap}
use native.Mathlib.Omega.{arith}
use Rattle.undivided_run.specs.declared.state.Next.TheVariants.{Goes as goes}
use Rattle.undivided_run.specs.CallInvariant.{continuing}
use Rattle.search_feed.specs.Lent.{data_in}
use Rattle.search_feed.specs.Feed.{feed}
use Rattle.pattern_search.specs.Answers.{searched}
use Rattle.pattern_search.proofs.Iterating.{here_of, load_ready, room_of, at_read, reply_used}
use Rattle.pattern_search.proofs.SkippedReads.{skip_reads_passes, after_skip_ready, iterated_from}
use Rattle.pattern_search.proofs.reading.skip_then_read.Goals as goal

pub load-loaded-requires : goal.load-loaded-requires
load-loaded-requires c =
    let l = load_ready (data_in c.args.fitting.now.frame c.args.known.now.table) c.args.cursor c.args.p _ c.requires.0 c.requires.1 in
    (l.1, l.2, l.3, l.4)

pub skip_reads-s-requires : goal.skip_reads-s-requires
skip_reads-s-requires c =
    let D = data_in c.args.fitting.now.frame c.args.known.now.table in
    let l = c.load-loaded.ensures in
    let r = at_read D c.args.p _ c.load-loaded.result c.requires.0.asked l.0 l.1 l.2 (here_of D c.args.cursor c.args.p _ c.requires.0 c.requires.1) c.requires.0.table in
    (r.key, r.few, r.probe)

pub after_skip-on-requires : goal.after_skip-on-requires
after_skip-on-requires c =
    let D = data_in c.args.fitting.now.frame c.args.known.now.table in
    let l = c.load-loaded.ensures in
    let t = skip_reads_passes D c.args.cursor c.args.p _ _ _ c.requires.0 c.requires.1 l.0 l.1 l.2 c.args.allowance _ c.skip_reads-s.ensures in
    let m = room_of D c.args.cursor c.args.p _ c.requires.0 c.requires.1 in
    (t.fewer, m.0, t.room)

pub returns-then-s-eq0 : goal.returns-then-s-eq0
returns-then-s-eq0 c =
    let D = data_in c.args.fitting.now.frame c.args.known.now.table in
    let l = c.load-loaded.ensures in
    let t = skip_reads_passes D c.args.cursor c.args.p _ _ _ c.requires.0 c.requires.1 l.0 l.1 l.2 c.args.allowance _ c.skip_reads-s.ensures in
    let v = c.after_skip-on.ensures in
    reply_used D c.args.st _ _ _ c.state.ensures _ (ap (λ x. x.next) v ∙ t.at) c.if-s-eq0.true ∙ ap searched (ap (continuing (feed D) c.args.fitting.now.frame.config.cap c.args.st _) v ∙ t.same c.args.st)

pub single_read-requires : goal.single_read-requires
single_read-requires c =
    let D = data_in c.args.fitting.now.frame c.args.known.now.table in
    let l = c.load-loaded.ensures in
    let t = skip_reads_passes D c.args.cursor c.args.p _ _ _ c.requires.0 c.requires.1 l.0 l.1 l.2 c.args.allowance _ c.skip_reads-s.ensures in
    let v = c.after_skip-on.ensures in
    let q = c.at_key-to.ensures in
    (after_skip_ready D c.args.cursor c.args.p _ _ _ c.requires.0 c.requires.1 l.0 l.1 l.2 c.args.allowance _ c.skip_reads-s.ensures _ v, ap (λ x. x.next) v ∙ t.at ∙ ap goes (sym q), rw q l.0, rw q l.1, rw q l.2, omega (arith, c.if-s-eq0.false))

pub returns : goal.returns
returns c =
    let D = data_in c.args.fitting.now.frame c.args.known.now.table in
    let l = c.load-loaded.ensures in
    let t = skip_reads_passes D c.args.cursor c.args.p _ _ _ c.requires.0 c.requires.1 l.0 l.1 l.2 c.args.allowance _ c.skip_reads-s.ensures in
    let v = c.after_skip-on.ensures in
    iterated_from D c.args.st c.args.allowance _ c.args.cursor _ c.single_read.new.cache c.single_read.result t.fewer (ap (continuing (feed D) c.args.fitting.now.frame.config.cap c.args.st _) v ∙ t.same c.args.st) c.single_read.ensures

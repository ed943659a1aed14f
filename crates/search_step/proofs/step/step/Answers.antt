use Rattle.search_feed.specs.Data.{data_of}
use Rattle.search_feed.specs.Lent.{frame_in}
use Rattle.search_feed.specs.Feed.{feed}
use Rattle.search_step.proofs.Stepping.{stepped}
use Rattle.search_step.proofs.step.step.Goals as goal

pub returns : goal.returns
returns c =
    let r = c.after-next.ensures in record {
      cursor = λ w e s f. stepped (feed (data_of (frame_in c.args.fitting.now.frame) c.args.slots w e s)) c.args.fitting.now.frame.config.cap c.args.cursor c.args.p _ c.count-n.ensures _ (r.next w e s f);
      caches = r.caches;
    }

-- What a call is fed by what it is lent. Definitions only.
use Rattle.search_feed.specs.Data.{Frame, Data, frame_of, data_of}
use Rattle.search_feed.specs.declared.lent.Frame.{Frame as LentFrame}
use Rattle.search_feed.specs.declared.lent.Table.{Table}

-- The frame that is lent.
abbrev pub frame_in : LentFrame → Frame
frame_in f = frame_of f.centroids.now f.order.now f.config f.passes.now

-- The frame and the table that are lent.
abbrev pub data_in : LentFrame → Table → Data
data_in f t = data_of (frame_in f) t.slots t.words.now t.packed.now t.stars.now

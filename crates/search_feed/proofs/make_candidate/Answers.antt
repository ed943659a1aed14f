use Rattle.search_feed.proofs.make_candidate.Goals as goal

pub returns-in_default : goal.returns-in_default
returns-in_default c = rw c.in_default.is

pub returns : goal.returns
returns c = rw (c.in-Some.is, c.needs_rebuild-rebuild.ensures)

use Rattle.pattern_search.proofs.reading.iteration_after.Goals as goal

pub returns : goal.returns
returns c = rw (c.in-Found.is, c.state.ensures)

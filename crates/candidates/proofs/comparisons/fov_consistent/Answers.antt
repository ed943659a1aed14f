-- `candidates::comparisons::fov_consistent` meets its contract. Assumes nothing.
use Rattle.candidates.proofs.FovConsistent.{not_asked, differs, does_not_differ}
use Rattle.candidates.proofs.comparisons.fov_consistent.Goals as goal

pub returns-then-most-magnitude : goal.returns-then-most-magnitude
returns-then-most-magnitude c = differs _ _ _ _ _ c.in-Given.is _ c.magnitude.ensures c.if-most-magnitude.true

pub returns-in-Absent : goal.returns-in-Absent
returns-in-Absent c = not_asked _ _ _ _ c.in-Absent.is

pub returns-else-most-magnitude : goal.returns-else-most-magnitude
returns-else-most-magnitude c = does_not_differ _ _ _ _ _ c.in-Given.is _ c.magnitude.ensures c.if-most-magnitude.false

-- `settings::tolerance::wanted` meets its contract. Assumes nothing.
use Rattle.settings.proofs.tolerance.wanted.Goals as goal

pub returns-in-Given : goal.returns-in-Given
returns-in-Given c = simp (c.in-Given.is, c.larger.ensures)

use Rattle.c_types.specs.Config.{config_of}
use Rattle.c_types.proofs.config.SearchConfigFromStarSettings.from.Goals as goal

pub returns : goal.returns
unfolding config_of
returns c = rw (c.bins_of.ensures, c.option_of.ensures, c.option_of-2.ensures, c.cap_of.ensures)

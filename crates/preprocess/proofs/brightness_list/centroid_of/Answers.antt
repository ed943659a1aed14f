-- `preprocess::brightness_list::centroid_of` meets its contract. Assumes nothing.
use mathlib.Core.Path.{refl}
use Rattle.preprocess.specs.BrightnessList.{centroid_of}
use Rattle.preprocess.proofs.brightness_list.centroid_of.Goals as goal

pub returns : goal.returns
unfolding centroid_of
returns c = refl

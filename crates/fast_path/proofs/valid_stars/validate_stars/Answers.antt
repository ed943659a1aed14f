use Rattle.fast_path.proofs.ValidStars.{stars_later, met_invalid, asked_all, asked_more}
use Rattle.fast_path.specs.ValidStars.{validated_stars}
use Rattle.fast_path.proofs.valid_stars.validate_stars.Goals as goal

pub returns-in_default : goal.returns-in_default
unfolding validated_stars
returns-in_default c = rw c.in_default.is

pub returns-then-to-from : goal.returns-then-to-from
returns-then-to-from c = let a = c.args in stars_later a.stars.now a.made _ _ a.known c.in-SoFar.is c.allowed_stars-to.ensures.0 c.if-to-from.true

pub returns-then-not-every_star_valid : goal.returns-then-not-every_star_valid
returns-then-not-every_star_valid c = let a = c.args in met_invalid a.stars.now a.made _ _ a.known c.in-SoFar.is c.allowed_stars-to.ensures.0 c.if-to-from.false _ c.every_star_valid.ensures c.if-not-every_star_valid.true

pub returns-then-to-n : goal.returns-then-to-n
returns-then-to-n c = let a = c.args in asked_all a.stars.now a.made _ _ a.known c.in-SoFar.is c.allowed_stars-to.ensures.0 c.if-to-from.false _ c.every_star_valid.ensures c.if-not-every_star_valid.false c.if-to-n.true

pub returns : goal.returns
returns c = let a = c.args in asked_more a.stars.now a.made _ _ a.known c.in-SoFar.is c.allowed_stars-to.ensures.0 c.if-to-from.false _ c.every_star_valid.ensures c.if-not-every_star_valid.false c.if-to-n.false

use mathlib.Core.Path.{refl}
use Rattle.search_cache.proofs.LoadPass.{pass_again, kept_count}
use Rattle.search_cache.proofs.pass.Cache.load_pass.Goals as goal

pub returns-in-Some : goal.returns-in-Some
returns-in-Some c = let l = pass_again _ _ _ _ c.requires.0 c.in-Some.is c.if-held-pass.true in record { loaded = l; combination = λ _ d. d _ c.in-Some.is c.if-held-pass.true; hashes = refl; count = kept_count _ _ _ _ l c.in-Some.is }

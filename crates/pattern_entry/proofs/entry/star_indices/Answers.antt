use Prim.Native.Nat.{ℕ}
use mathlib.Core.List.{[], ◌∷◌}
use mathlib.Core.Path.{refl}
use Rattle.std.proofs.Common.{rules, tests}
use Rattle.pattern_entry.specs.Entry.{star, word_at}
use Rattle.numeric.proofs.MapOf.{map_is}
use Rattle.pattern_entry.proofs.entry.star_indices.Goals as goal

pub returns : goal.returns
returns c = map_is _ (λ (at : ℕ). star (word_at c.args.e.now at)) (0 ∷ 4 ∷ 8 ∷ 12 ∷ []) c.map.result _ 4 0 c.map.ensures.items refl (λ x r q k. search (rules, tests))

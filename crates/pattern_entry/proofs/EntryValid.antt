-- What `all` says of an entry's four star indices, and what a yes to question 9 gives for an entry. Assumes nothing.
use Prim.Native.Nat.{ℕ}
use mathlib.Core.Bool.{Bool, ◌&&◌}
use mathlib.Core.List.{List}
use mathlib.Core.Path.{◌≡◌, ap}
use Rattle.std.specs.List.{list_all}
use Rattle.pattern_entry.specs.declared.stars.StarIndex.{StarIndex}
use borrow.Author.Tests.{eqb-true}
use lib.Dec.{eqb}
use lib.ListN.{length}
use Rattle.pattern_entry.specs.Stars.{star_valid}
use Rattle.pattern_entry.proofs.Every.{both_l, both_r, all_three}
use Rattle.pattern_entry.specs.Entry.{word_at}
use Rattle.pattern_entry.specs.StarIndices.{stars_read}
use Rattle.pattern_entry.specs.Validity.{entry_valid}
use Rattle.pattern_entry.specs.ValidityClaims.{ValidEntry}

-- A test of each of the four.
pub all_stars : (t : ℕ → Bool) (e : List ℕ) → list_all (λ (i : StarIndex). t i.0) (stars_read e) ≡ (t (word_at e 0) && (t (word_at e 4) && (t (word_at e 8) && t (word_at e 12))))
all_stars t e = ap (t (word_at e 0) &&◌) (all_three (t (word_at e 4)) (t (word_at e 8)) (t (word_at e 12)))

pub valid_entry : ValidEntry
unfolding entry_valid
valid_entry stars e h =
    let r0 = both_r (eqb (length e) 22) _ h in
    let r1 = both_r (star_valid stars (word_at e 0)) _ r0 in
    let r2 = both_r (star_valid stars (word_at e 4)) _ r1 in (
      eqb-true (length e) 22 (both_l (eqb (length e) 22) _ h),
      both_l (star_valid stars (word_at e 0)) _ r0,
      both_l (star_valid stars (word_at e 4)) _ r1,
      both_l (star_valid stars (word_at e 8)) _ r2,
      both_r (star_valid stars (word_at e 8)) _ r2,
    )

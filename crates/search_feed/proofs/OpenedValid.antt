-- Where the table passes the opening check, question 9 is answered yes at every filled slot. Assumes nothing.
use mathlib.Core.Path.{◌≡◌, refl, sym, ◌∙◌}
use Prim.Native.Nat.{ℕ, ◌≤◌, ◌<◌}
use native.Mathlib.Omega.{arith}
use native.Mathlib.Decide.{dec_le}
use mathlib.Core.Bool.{Bool, true, false, cond}
use Rattle.std.specs.Prelude.{None, Some}
use Rattle.pattern_catalog.specs.Blocks.{filled, place}
use Rattle.opening_check.proofs.Passed.{passed_filled, passed_past}
use Rattle.pattern_entry.specs.Entry.{bytes_at}
use Rattle.pattern_entry.specs.Validity.{entry_valid}
use Rattle.undivided_run.specs.Undivided.{cases}
use Rattle.search_feed.specs.Feed.{entry_at, feed}
use Rattle.search_feed.specs.Claims.{OpenedValid}

pub opened_valid : OpenedValid
unfolding feed entry_at cases
opened_valid D o x = by (filled D.words x) refl
  where
    below : filled D.words x ≡ true → Dec (D.slots ≤ x) → x < D.slots
    below e (yes l) = absurd (let z : ◌≡◌ {A = Bool} true false = sym e ∙ passed_past D.slots D.words D.packed D.stars o x l in let y : ◌≡◌ {A = ℕ} 0 1 = cc in omega arith)
    below e (no l) = omega arith

    by : (b : Bool) → filled D.words x ≡ b → cases (cond b (Some (bytes_at D.packed (place D.words x))) None) true (entry_valid D.stars) ≡ true
    by false e = refl
    by true e = (passed_filled D.slots D.words D.packed D.stars o x (below e (dec_le D.slots x)) e).valid

use native.Mathlib.Omega.{arith}
use Prim.Native.Nat.{◌<◌}
use mathlib.Core.Path.{subst, sym}
use Prim.Native.Nat.{ℕ}
use Rattle.pattern_catalog.proofs.SlotRead.{fits_few}
use Rattle.search_feed.proofs.TableRead.{home_below}
use Rattle.fast_path.proofs.skip_reads.Reads.home.Goals as goal

pub overflow_cast-result : goal.overflow_cast-result
overflow_cast-result c =
    let T = c.args.self.now.known.table in
    let f = fits_few T.slots T.words.now c.args.self.now.known.whole in
    let h : c.hash_to_index.result < T.slots = subst (λ (x : ℕ). x < T.slots) (sym c.hash_to_index.ensures) (home_below _ T.slots c.requires.1) in
    record { fits = omega arith }

pub returns : goal.returns
returns c =
    let T = c.args.self.now.known.table in
    (c.hash_to_index.ensures, subst (λ (x : ℕ). x < T.slots) (sym c.hash_to_index.ensures) (home_below _ T.slots c.requires.1))

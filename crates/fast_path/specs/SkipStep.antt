-- What a step over many reads of a combination leaves behind. Definitions only.
use Rattle.std.specs.Prelude.{◌≡◌, ℕ, suc, ◌+◌, ◌-◌, ◌≤◌, ◌<◌, false, List, [], ◌∷◌, get_or}
use Rattle.std.specs.declared.ops.ControlFlow.{ControlFlow}
use Rattle.std.specs.declared.ops.ControlFlow.TheVariants.{Continue, Break}
use Rattle.pattern.specs.Key.{home_of}
use Rattle.pattern_catalog.specs.Blocks.{filled}
use Rattle.fast_path.specs.SkipReads.{skipped_reads}
use Rattle.fast_path.specs.declared.skip_reads.FilledKey.{FilledKey}
use Rattle.fast_path.specs.declared.skip_reads.Reads.{Reads}
use Rattle.fast_path.specs.declared.skip_reads.SkipResult.{SkipResult}

-- The home slot of key q.
abbrev pub home_at : Reads → ℕ → ℕ
home_at r q = home_of (get_or r.hashes.now q 0) r.known.table.slots

-- The keys from lo to before hi have empty home slots.
abbrev pub EmptyHomes : Reads → ℕ → ℕ → Type 0
EmptyHomes r lo hi = (q : ℕ) → lo ≤ q → q < hi → filled r.known.table.words.now (home_at r q) ≡ false

-- The keys found are some of those from lo to before hi, in rising order, each with its home slot. Every other key from lo to before hi has an
-- empty home slot.
unfoldable pub FilledKeys : Reads → ℕ → ℕ → List FilledKey → Type 0
FilledKeys r lo hi [] = (lo ≤ hi) × EmptyHomes r lo hi
FilledKeys r lo hi (f ∷ found) =
    (lo ≤ f.key) × (f.key < hi) × (f.home ≡ home_at r f.key) × EmptyHomes r lo f.key × FilledKeys r (suc f.key) hi found

-- Where skipping ends from key k and probe c on, with the allowance a.
abbrev pub skipped_from : Reads → ℕ → ℕ → ℕ → SkipResult
skipped_from r k c a = skipped_reads r.known.table.words.now r.known.table.packed.now r.known.table.stars.now r.known.table.slots r.hashes.now (r.keys - (k + 1)) k c a

-- Skipping from key k and probe c on with the allowance a ends where it does from the first probe of key q on, a later key that exists, with no
-- more of the allowance left, namely b.
pub record LeadsTo (r : Reads) (k c a q b : ℕ) : Type 0 where
  pub later : k < q
  pub exists : q < r.keys
  pub fewer : b ≤ a
  pub same : skipped_from r q 0 b ≡ skipped_from r k c a

-- A step over reads from key k and probe c on leads to the first probe of another key, from which skipping goes on, or to where skipping ends.
abbrev pub SkipStep : Reads → ℕ → ℕ → ℕ → ControlFlow SkipResult (ℕ × ℕ) → Type 0
SkipStep r k c a (Continue n) = LeadsTo r k c a n.0 n.1
SkipStep r k c a (Break e) = e ≡ skipped_from r k c a

-- The same of a step over the reads of key k alone, which leads to the next key.
abbrev pub KeyStep : Reads → ℕ → ℕ → ℕ → ControlFlow SkipResult ℕ → Type 0
KeyStep r k c a (Continue b) = LeadsTo r k c a (k + 1) b
KeyStep r k c a (Break e) = e ≡ skipped_from r k c a

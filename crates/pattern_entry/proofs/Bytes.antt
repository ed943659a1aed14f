-- Laws of an entry's 22 bytes. Assumes nothing.
use Prim.Native.Nat.{ℕ, zero, suc, ◌+◌, ◌-◌, ◌*◌, ◌≤◌, ◌<◌}
use mathlib.Core.Path.{◌≡◌, refl, sym, ap, ap₂, ◌∙◌}
use mathlib.Core.List.{List, [], ◌∷◌}
use native.Mathlib.Omega.{arith}
use native.Mathlib.Nat.{add_assoc}
use lib.ListN.{length, get_or, take, drop, length-take, length-drop}
use lib.Seq.{get_or-take, get_or-drop}
use Rattle.pattern_entry.specs.Entry.{bytes_at, half_at, mark_in}

-- A byte past the end is 0.
pub past_end : (s : List ℕ) (i : ℕ) → length s ≤ i → get_or s i 0 ≡ 0
past_end [] i h = refl
past_end (x ∷ s) zero h = absurd (omega arith)
past_end (x ∷ s) (suc i) h = past_end s i (omega arith)

-- The part that the code cuts from the section is the entry's bytes.
pub part_is : (packed : List ℕ) (p : ℕ) → take (p * 22 + 22 - p * 22) (drop (p * 22) packed) ≡ bytes_at packed p
unfolding bytes_at
part_is packed p = let e : p * 22 + 22 - p * 22 ≡ 22 = omega arith in ap (λ (n : ℕ). take n (drop (p * 22) packed)) e

-- An entry inside the section has 22 bytes.
pub whole_at : (packed : List ℕ) (p : ℕ) → p * 22 + 22 ≤ length packed → length (bytes_at packed p) ≡ 22
unfolding bytes_at
whole_at packed p h = simp (length-take, length-drop) (omega arith)

-- The bytes of an entry are those of the section.
pub byte_at : (packed : List ℕ) (p k : ℕ) → k < 22 → get_or (bytes_at packed p) k 0 ≡ get_or packed (p * 22 + k) 0
unfolding bytes_at
byte_at packed p k h = rw (get_or-take, get_or-drop)

-- The mark of an entry, read from the section.
pub mark_is : (packed : List ℕ) (p : ℕ) → half_at packed (p * 22 + 20) ≡ mark_in (bytes_at packed p)
mark_is packed p =
    let a : get_or (bytes_at packed p) 20 0 ≡ get_or packed (p * 22 + 20) 0 = byte_at packed p 20 (omega arith) in
    let b : get_or (bytes_at packed p) 21 0 ≡ get_or packed (p * 22 + 20 + 1) 0 = byte_at packed p 21 (omega arith) ∙ ap (λ (i : ℕ). get_or packed i 0) (sym (add_assoc (p * 22) 20 1)) in
    ap₂ (λ (x y : ℕ). x + y * 0x100) (sym a) (sym b)

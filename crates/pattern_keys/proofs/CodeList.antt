-- What is written to the list of hashes: the steps of `add` and `listed`, and the hashes that the list has at the end. Assumes nothing.
use mathlib.Core.Path.{◌≡◌, refl, sym, ap, ◌∙◌}
use mathlib.Core.Bool.{Bool, true, false, cond}
use mathlib.Core.List.{List, [], ◌∷◌, ◌++◌, append_assoc}
use Prim.Native.Nat.{ℕ, zero, suc, ◌+◌, ◌-◌, ◌/◌, ◌%◌, ◌≤◌, ◌<◌}
use native.Mathlib.Omega.{arith}
use native.Mathlib.Numerals.{add-one}
use lib.Dec.{T}
use lib.ListN.{length, take, get_or, set, length-append, length-set}
use lib.Seq.{take-suc-set, take-set-le, get_or-take, length-take-le}
use Rattle.pattern.specs.Key.{hash_of}
use Rattle.pattern_keys.specs.EnumerateSteps.{Hashed}
use Rattle.pattern_keys.specs.Codes.{key_of_code, has, chosen}
use Rattle.pattern_keys.proofs.CodeKeys.{keys_of_codes}
use Rattle.pattern_keys.specs.CodeOrder.{unpack}
use Rattle.pattern_keys.specs.TwoValuesSteps.{Put, Sums}
use Rattle.pattern_keys.proofs.CodeOrder.{rank, rising, step}

-- ---- chosen codes
pub chosen_append : (a : List ℕ) (v : ℕ) (k l : List ℕ) → chosen a v (k ++ l) ≡ chosen a v k ++ chosen a v l
unfolding chosen
chosen_append a v [] l = refl
chosen_append a v (x ∷ k) l = go (has v x) (chosen_append a v k l)
  where
    go : (b : Bool) → chosen a v (k ++ l) ≡ chosen a v k ++ chosen a v l → cond b (get_or a x 0 ∷ chosen a v (k ++ l)) (chosen a v (k ++ l)) ≡ cond b (get_or a x 0 ∷ chosen a v k) (chosen a v k) ++ chosen a v l
    go true e = ap (λ (z : List ℕ). get_or a x 0 ∷ z) e
    go false e = e

-- ---- the loop of `add`: what is in the list and what is still to come make up what there was
pub record Adding (a : List ℕ) (v : ℕ) (before after : List ℕ) (m n word count w left : ℕ) : Type 0 where
  pub whole : take n after ++ chosen a v (unpack w left) ≡ take m before ++ chosen a v (unpack word count)
  pub room : n + left ≤ m + count
  pub long : length after ≡ 1024

iteration_word : (a : List ℕ) (v w left : ℕ) → 0 < left → chosen a v (unpack w left) ≡ cond (has v (w % 32)) (get_or a (w % 32) 0 ∷ chosen a v (unpack (w / 32) (left - 1))) (chosen a v (unpack (w / 32) (left - 1)))
unfolding chosen unpack
iteration_word a v w zero h = absurd (omega arith)
iteration_word a v w (suc n) h = let e : suc n - 1 ≡ n = omega arith in rw e refl

module _ (a : List ℕ) (v : ℕ) (before after : List ℕ) (m n word count w left : ℕ) (t : Adding a v before after m n word count w left) (some : 0 < left) (fits : m + count < 1024) where
  pub adding_yes : has v (w % 32) ≡ true → Adding a v before (set after n (get_or a (w % 32) 0)) m (n + 1) word count (w / 32) (left - 1)
  adding_yes e =
      let r = t.room in
      let l = t.long in
      let in_list : n < length after = omega arith in
      let one : take (n + 1) (set after n (get_or a (w % 32) 0)) ≡ take n after ++ (get_or a (w % 32) 0 ∷ []) = ap (λ (z : ℕ). take z (set after n (get_or a (w % 32) 0))) (add-one n) ∙ take-suc-set after n (get_or a (w % 32) 0) in_list in
      let rest = chosen a v (unpack (w / 32) (left - 1)) in
      let to-come : chosen a v (unpack w left) ≡ get_or a (w % 32) 0 ∷ rest = iteration_word a v w left some ∙ ap (λ (b : Bool). cond b (get_or a (w % 32) 0 ∷ rest) rest) e in
      record {
        whole = ap (λ (z : List ℕ). z ++ rest) one ∙ append_assoc (take n after) (get_or a (w % 32) 0 ∷ []) rest ∙ ap (λ (z : List ℕ). take n after ++ z) (sym to-come) ∙ t.whole;
        room = omega arith;
        long = length-set after n (get_or a (w % 32) 0) ∙ l;
      }

  pub adding_no : has v (w % 32) ≡ false → Adding a v before (set after n (get_or a (w % 32) 0)) m n word count (w / 32) (left - 1)
  adding_no e =
      let r = t.room in
      let l = t.long in
      let rest = chosen a v (unpack (w / 32) (left - 1)) in
      let to-come : chosen a v (unpack w left) ≡ rest = iteration_word a v w left some ∙ ap (λ (b : Bool). cond b (get_or a (w % 32) 0 ∷ rest) rest) e in
      record {
        whole = ap (λ (z : List ℕ). z ++ rest) (take-set-le n after n (get_or a (w % 32) 0) (omega arith)) ∙ ap (λ (z : List ℕ). take n after ++ z) (sym to-come) ∙ t.whole;
        room = omega arith;
        long = length-set after n (get_or a (w % 32) 0) ∙ l;
      }

append_none : (l : List ℕ) → l ++ [] ≡ l
append_none [] = refl
append_none (x ∷ l) = ap (λ (z : List ℕ). x ∷ z) (append_none l)

-- What the loop ensures when no code is left.
pub adding_last : (a : List ℕ) (v : ℕ) (before after : List ℕ) (m n word count w left : ℕ) → Adding a v before after m n word count w left → left ≡ 0 → m + count < 1024 → length before ≡ 1024
    → Put before after m n (chosen a v (unpack word count)) × (n ≤ m + count)
unfolding unpack chosen
adding_last a v before after m n word count w left t z h k =
    let r = t.room in
    let l = t.long in
    let all = chosen a v (unpack word count) in
    let e0 : chosen a v (unpack w left) ≡ [] = ap (λ (y : ℕ). chosen a v (unpack w y)) z in
    let e : take n after ≡ take m before ++ all = sym (append_none (take n after)) ∙ ap (λ (y : List ℕ). take n after ++ y) (sym e0) ∙ t.whole in
    let c : n ≡ m + length all = sym (length-take-le n after (omega arith)) ∙ ap length e ∙ length-append (take m before) all ∙ ap (λ (y : ℕ). y + length all) (length-take-le m before (omega arith)) in
    (record { count = c; front = e; long = l }, omega arith)

-- ---- one word after the other
pub put_chain : (a : List ℕ) (v : ℕ) (b0 b1 b2 : List ℕ) (n r s : ℕ) (k l : List ℕ) → Put b0 b1 n r (chosen a v k) → Put b1 b2 r s (chosen a v l) → Put b0 b2 n s (chosen a v (k ++ l))
put_chain a v b0 b1 b2 n r s k l p q =
    let e = chosen_append a v k l in
    record {
      count = q.count ∙ ap (λ (y : ℕ). y + length (chosen a v l)) p.count ∙ omega (arith, length-append (chosen a v k) (chosen a v l), ap length e);
      front = q.front ∙ ap (λ (y : List ℕ). y ++ chosen a v l) p.front ∙ append_assoc (take n b0) (chosen a v k) (chosen a v l) ∙ ap (λ (y : List ℕ). take n b0 ++ y) (sym e);
      long = q.long;
    }

-- ---- the hashes
module _ (lo : List ℕ) (B : ℕ) (a : List ℕ) (v c bound : ℕ) (sums : Sums a lo B 32 bound) where
  record Same (ks : List (List ℕ)) (l : List ℕ) : Type 0 where
    many : length l ≡ length ks
    each : (i : ℕ) → i < length l → get_or l i 0 ≡ hash_of (get_or ks i []) B

  same_head : (b : Bool) (x : ℕ) (ks : List (List ℕ)) (l : List ℕ) → x < 32 → Same ks l → Same (cond b (key_of_code lo x ∷ ks) ks) (cond b (get_or a x 0 ∷ l) l)
  same_head true x ks l h s = record { many = ap suc s.many; each = go }
    where
      go : (i : ℕ) → i < suc (length l) → get_or (get_or a x 0 ∷ l) i 0 ≡ hash_of (get_or (key_of_code lo x ∷ ks) i []) B
      go zero p = sums.each x h
      go (suc i) p = s.each i (omega arith)
  same_head false x ks l h s = s

  same_all : (l : List ℕ) (m : ℕ) → T (rising c m l) → Same (keys_of_codes lo v l) (chosen a v l)
  unfolding keys_of_codes chosen
  same_all [] m t = record { many = refl; each = λ i h. absurd (omega arith) }
  same_all (x ∷ l) m t =
      let s = step c m x l t in
      same_head (has v x) x (keys_of_codes lo v l) (chosen a v l) s.small (same_all l (suc (rank c x)) s.rest)

  pub hashed : (before after : List ℕ) (n : ℕ) (l : List ℕ) → T (rising c 0 l) → Put before after 0 n (chosen a v l) → Hashed after n (keys_of_codes lo v l) B
  hashed before after n l t p =
      let s = same_all l 0 t in
      record {
        count = p.count ∙ omega (arith, s.many);
        each = λ i h. sym (get_or-take n after i 0 h) ∙ ap (λ (y : List ℕ). get_or y i 0) p.front ∙ s.each i (omega (arith, p.count));
        long = p.long;
      }

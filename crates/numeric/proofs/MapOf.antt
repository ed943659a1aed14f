-- What `map` of an array returns where its closure computes a function: the function's map of the list. Assumes nothing.
use Prim.Native.Nat.{ℕ, zero, suc, ◌+◌, ◌<◌}
use mathlib.Core.Path.{◌≡◌, sym, ap, ◌∙◌}
use mathlib.Core.List.{List, map}
use native.Mathlib.Omega.{arith}
use lib.ListN.{length, get_or}
use denote.Param.Members.{Mut, Called}
use Rattle.std.specs.Array.{MapsFrom, IsMapOf}
use Rattle.std.proofs.lemmas.List.{same_lists, get_or-map, length-map}

module _ {F A B : Type 0} (g : Mut F (A × Unit {0}) B) (v : A → B) where
  -- Each call answers the function and leaves the closure as it was.
  abbrev pub Computes : F → Type 0
  Computes f = (x : A) (r : B) (q : F) → Called g f (x, tt) r q → (q ≡ f) × (r ≡ v x)

  module _ (xs : List A) (ys : List B) where
    maps_at : (f : F) (i n : ℕ) → Computes f → MapsFrom g f xs ys i n → (k j : ℕ) (d : A) (e : B) → j ≡ k + i → k < n → get_or ys j e ≡ v (get_or xs j d)
    maps_at f i zero acts m k j d e s h = absurd (omega arith)
    maps_at f i (suc n) acts m zero j d e s h =
        let t : j ≡ i = omega arith in
        rw t (m.4.1 e ∙ (acts m.1 m.2 m.0 m.5).1 ∙ ap v (sym (m.3.1 d)))
    maps_at f i (suc n) acts m (suc k) j d e s h = maps_at f (i + 1) n acts (rw (acts m.1 m.2 m.0 m.5).0 at m.6) k j d e (omega arith) (omega arith)

    -- The default d is of no matter.
    pub map_is : (f : F) (n : ℕ) (d : A) → IsMapOf g f xs ys n → length xs ≡ n → Computes f → ys ≡ map v xs
    map_is f n d m long acts =
        same_lists ys (map v xs) (omega (arith, m.long, length-map xs v))
        (λ k e h. maps_at f 0 n acts m.each k k d e (omega arith) (omega (arith, m.long)) ∙ sym (get_or-map v xs k d e (omega (arith, m.long))))

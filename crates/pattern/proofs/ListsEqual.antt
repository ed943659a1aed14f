-- Lists of three to six elements are equal where their elements are. Assumes nothing.
use Rattle.std.proofs.Common.{◌≡◌, List, [], ◌∷◌, length, get_or, refl, ap, arith}

pub same_three : {A : Type 0} {a b c a' b' c' : A} → a ≡ a' → b ≡ b' → c ≡ c' → ◌≡◌ {A = List A} (a ∷ b ∷ c ∷ []) (a' ∷ b' ∷ c' ∷ [])
same_three p q r = cc

pub same_four : {A : Type 0} {a b c d a' b' c' d' : A} → a ≡ a' → b ≡ b' → c ≡ c' → d ≡ d' → ◌≡◌ {A = List A} (a ∷ b ∷ c ∷ d ∷ []) (a' ∷ b' ∷ c' ∷ d' ∷ [])
same_four p q r s = cc

pub same_six : {A : Type 0} {a b c d e f a' b' c' d' e' f' : A} → a ≡ a' → b ≡ b' → c ≡ c' → d ≡ d' → e ≡ e' → f ≡ f' → ◌≡◌ {A = List A} (a ∷ b ∷ c ∷ d ∷ e ∷ f ∷ []) (a' ∷ b' ∷ c' ∷ d' ∷ e' ∷ f' ∷ [])
same_six p q r s t u = cc

-- A list of four elements, one by one.
pub four_elements : {A : Type 0} (z : A) (l : List A) → length l ≡ 4 → l ≡ get_or l 0 z ∷ get_or l 1 z ∷ get_or l 2 z ∷ get_or l 3 z ∷ []
four_elements z [] h = absurd (omega arith)
four_elements z (a ∷ []) h = absurd (omega arith)
four_elements z (a ∷ b ∷ []) h = absurd (omega arith)
four_elements z (a ∷ b ∷ c ∷ []) h = absurd (omega arith)
four_elements z (a ∷ b ∷ c ∷ d ∷ []) h = refl
four_elements z (a ∷ b ∷ c ∷ d ∷ e ∷ l) h = absurd (omega arith)

-- And a list of five.
pub five_elements : {A : Type 0} (z : A) (l : List A) → length l ≡ 5 → l ≡ get_or l 0 z ∷ get_or l 1 z ∷ get_or l 2 z ∷ get_or l 3 z ∷ get_or l 4 z ∷ []
five_elements z [] h = absurd (omega arith)
five_elements z (x ∷ l) h = ap (λ m. x ∷ m) (four_elements z l (omega arith))

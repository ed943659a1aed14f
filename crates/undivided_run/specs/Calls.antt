-- Document 01, "Calls on it". Assumes nothing.
use Rattle.std.specs.Prelude.{ℕ, zero, suc, ◌+◌, List, [], ◌∷◌, cond, drop}
use Rattle.std.specs.Prelude.{Option, None, Some}
use Rattle.undivided_run.specs.Undivided.{Status, Read, Run, starts, cases}

-- What a call answers: a candidate, allowance used, ended with a status, or refused with a number.
pub data Answer (C : Type 0) : Type 0 where
  candidate : C → Answer C
  used : Answer C
  over : Status → Answer C
  refused : ℕ → Answer C

-- What a machine is fed: a call's allowance or, where the questions refuse the call, the refusal's number.
pub data Fed : Type 0 where
  allowed : ℕ → Fed
  refusal : ℕ → Fed

-- The state of the machine: "n, the reads taken, 0 for a fresh state", and the final status once the machine has ended.
pub record Machine : Type 0 where
  pub taken : ℕ
  pub final : Option Status

-- The machine before any call.
unfoldable pub fresh : Machine
fresh = record { taken = 0; final = None }

-- The final status when these reads are left: s when the list is empty, none while a read is left.
unfoldable pub final_of : Status → List Read → Option Status
final_of s [] = Some s
final_of s (r ∷ rs) = None

-- How many combinations are tried in these reads.
unfoldable pub tried : List Read → ℕ
tried [] = 0
tried (r ∷ rs) = cond (starts r) (suc (tried rs)) (tried rs)

module _ {C : Type 0} (gives : Read → Option C) where
  -- The candidates that these reads give, in order.
  unfoldable pub candidates : List Read → List C
  candidates [] = []
  candidates (r ∷ rs) = cases (gives r) (candidates rs) λ x. x ∷ candidates rs

  -- What a call with this allowance answers where these reads are left and s is the status after them, and how many reads it takes.
  unfoldable pub serve : Status → List Read → ℕ → Answer C × ℕ
  serve s [] a = (over s, 0)
  serve s (r ∷ rs) zero = (used, 0)
  serve s (r ∷ rs) (suc a) =
      cases (gives r) ((serve s rs a).0, suc (serve s rs a).1) λ x. (candidate x, 1)

  -- One call on the run: a refused one answers its number and leaves the machine as it was; any other takes the run's reads after the n-th,
  -- stops and answers as `serve` says, and n grows by what it took.
  unfoldable pub machine : Run → Machine → Fed → Answer C × Machine
  machine run m (refusal k) = (refused k, m)
  machine run m (allowed a) =
      let t = serve run.status (drop m.taken run.reads) a in
      let n = m.taken + t.1 in
      (t.0, record { taken = n; final = final_of run.status (drop n run.reads) })

-- The answers of a list of calls, each given the state that the call before it left, and the state after the last one. f is one call.
unfoldable pub calls : {S X A : Type 0} → (S → X → A × S) → S → List X → List A × S
calls f s [] = ([], s)
calls f s (x ∷ xs) =
    let t = f s x in
    let u = calls f t.1 xs in
    (t.0 ∷ u.0, u.1)

-- The candidates among the answers, in order.
unfoldable pub found : {C : Type 0} → List (Answer C) → List C
found [] = []
found (candidate x ∷ rest) = x ∷ found rest
found (used ∷ rest) = found rest
found (over s ∷ rest) = found rest
found (refused k ∷ rest) = found rest

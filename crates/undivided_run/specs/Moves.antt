-- How a position in the search moves on to the reads after it. Definitions only.
use Rattle.std.specs.Prelude.{ℕ, suc, cond}
use Rattle.combinations.specs.declared.Combination.{Combination}
use Rattle.undivided_run.specs.Undivided.{Timeout, Read, Cap, reached}
use Rattle.undivided_run.specs.declared.state.Next.{Next}
use Rattle.undivided_run.specs.declared.state.Next.TheVariants.{Goes as goes, Ends as ends}

-- The first read of key k of combination q of pass i.
abbrev pub first_of_key : ℕ → Combination → ℕ → Read
first_of_key i q k = record { pass = i; four = q; key = k; probe = 0 }

-- The first read of combination q of pass i.
abbrev pub first_of : ℕ → Combination → Read
first_of i q = first_of_key i q 0

-- The next probe of the same key.
abbrev pub probed : Read → Read
probed r = record { pass = r.pass; four = r.four; key = r.key; probe = suc r.probe }

-- The first probe of the next key of the same combination.
abbrev pub keyed : Read → Read
keyed r = first_of_key r.pass r.four (suc r.key)

-- Probe c of key k of the same combination.
abbrev pub at_key : Read → ℕ → ℕ → Read
at_key r k c = record { pass = r.pass; four = r.four; key = k; probe = c }

-- The first read of combination q of pass i; or the end of the run with Timeout, where the combinations tried before it reach the cap.
unfoldable pub to_combination : Cap → ℕ → ℕ → Combination → Next
to_combination cap tried i q = cond (reached cap tried) (ends Timeout) (goes (first_of i q))

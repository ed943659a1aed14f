use Prim.Native.Nat.{◌-◌}
use mathlib.Core.Path.{◌≡◌}
use Rattle.search_report.specs.Calls.{lent, searched_from}
use Rattle.search_report.proofs.data.Data.report_calls.Given as goal

abbrev pub invariant-loop-round : goal.invariant-loop-round
invariant-loop-round g l = searched_from (lent l.self) 100000 (18446744073709551615 - l.round) l.at ≡ searched_from (lent l.self) 100000 18446744073709551615 l.initial.at

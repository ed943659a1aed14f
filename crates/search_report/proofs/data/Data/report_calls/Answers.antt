use Prim.Native.Nat.{◌+◌, ◌-◌}
use mathlib.Core.Path.{◌≡◌, sym, ap, ◌∙◌}
use native.Mathlib.Omega.{arith}
use Rattle.search_report.specs.Calls.{lent, searched_from}
use Rattle.search_report.proofs.ReportedCalls.{one_goes_on, one_ends, none_left}
use Rattle.search_report.proofs.data.Data.report_calls.Goals as goal
use Rattle.search_report.proofs.data.Data.report_calls.Goals.{else-loop-round-test, then-loop-round-test+then-not-goes}

pub loop-round-preserved : goal.loop-round-preserved
loop-round-preserved g c =
    let s = c.call-s in
    let e : 18446744073709551615 - (c.loop-round.round + 1) ≡ 18446744073709551615 - c.loop-round.round - 1 = omega arith in
    ap (λ n. searched_from (lent c.args.self.now) 100000 n s.result.state) e
    ∙ one_goes_on _ 100000 (18446744073709551615 - c.loop-round.round) c.loop-round.at s.result s.ensures (omega arith) (sym c.report_answer-goes.ensures ∙ c.if-not-goes.false)
    ∙ c.loop-round.invariant

pub returns : goal.returns
unfolding searched_from
returns g c =
    elim c.loop-round-test.branch [
      | else-loop-round-test w ↦
          w.at-is ∙ none_left _ 100000 (18446744073709551615 - c.loop-round.round) c.loop-round.at (omega arith) ∙ c.loop-round.invariant
      | then-loop-round-test+then-not-goes w ↦
          let s = w.call-s in
          w.at-is
          ∙ one_ends _ 100000 (18446744073709551615 - c.loop-round.round) c.loop-round.at s.result s.ensures (omega arith) (sym w.report_answer-goes.ensures ∙ w.if-not-goes.true)
          ∙ c.loop-round.invariant
    ]

use mathlib.Core.Path.{sym, ◌∙◌}
use Rattle.search_report.proofs.ReportedCalls.{refused_whole}
use Rattle.search_report.proofs.data.Data.report_search.Goals as goal

pub returns-then-not-report_frame : goal.returns-then-not-report_frame
returns-then-not-report_frame g c = sym (refused_whole _ 100000 18446744073709551615 c.args.state (sym c.report_frame.ensures ∙ c.if-not-report_frame.true))

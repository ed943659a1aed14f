use mathlib.Core.Path.{sym, ◌∙◌}
use Rattle.search_report.proofs.ReportedCalls.{refused_any}
use Rattle.search_report.proofs.data.Data.report_call.Goals as goal

pub returns-then-not-report_frame : goal.returns-then-not-report_frame
returns-then-not-report_frame g c = sym (refused_any _ c.args.state c.args.allowance (sym c.report_frame.ensures ∙ c.if-not-report_frame.true)).1

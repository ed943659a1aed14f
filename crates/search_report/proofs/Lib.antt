pub mod ReportedCalls

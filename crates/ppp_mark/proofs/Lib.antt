pub mod LawLemmas
pub mod ReportLemmas
pub mod ScriptLemmas
pub mod LinesLemmas

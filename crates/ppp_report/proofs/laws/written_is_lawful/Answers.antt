use Rattle.ppp_report.proofs.LawfulLemmas.{lawful, report_is}
use Rattle.ppp_report.proofs.laws.written_is_lawful.Goals as goal

pub returns-clause-lines : goal.returns-clause-lines
returns-clause-lines c = λ sections are. report_is 0 0 sections are

pub returns-clause-lawful : goal.returns-clause-lawful
returns-clause-lawful c = λ sections are law. lawful sections are law

use Rattle.ppp_hdlc.proofs.SpanLaws.{span_one, span_some, span_octet}
use Rattle.ppp_hdlc.proofs.laws.a_piece_has_one_span.Goals as goal

pub returns-clause-one : goal.returns-clause-one
returns-clause-one c = span_one

pub returns-clause-some : goal.returns-clause-some
returns-clause-some c = span_some

pub returns-clause-octet : goal.returns-clause-octet
returns-clause-octet c = span_octet

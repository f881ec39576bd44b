-- What a frame is looked at as, as the code names it, and the state behind octets that the deframer took.
use Rattle.ppp_hdlc.specs.Deframing.{Deframing}
use Rattle.ppp_link_rules.specs.declared.counts.FrameCounts.{FrameCounts}
use Rattle.ppp_link_rules.specs.LinkState.{LinkState}
use Rattle.ppp_link_rules.specs.Phase.{Kind as KindOf, OfLcp, OfAuth, OfOtherAuth, OfTable, Unknown, Treatment, ToLcp, ToAuth, ToTable, ToReject, Discarded}
use Rattle.ppp_link_hearing.specs.declared.way.Kind.{Kind}
use Rattle.ppp_link_hearing.specs.declared.way.Kind.TheVariants as kind
use Rattle.ppp_link_hearing.specs.declared.way.Way.{Way}
use Rattle.ppp_link_hearing.specs.declared.way.Way.TheVariants as way

abbrev pub kind_by : Kind → KindOf
kind_by kind.Lcp = OfLcp
kind_by kind.Auth = OfAuth
kind_by kind.OtherAuth = OfOtherAuth
kind_by kind.Table = OfTable
kind_by kind.Unknown = Unknown

abbrev pub treatment_of : Way → Treatment
treatment_of way.Lcp = ToLcp
treatment_of way.Auth = ToAuth
treatment_of way.Table = ToTable
treatment_of way.Rejected = ToReject
treatment_of way.Discarded = Discarded

abbrev pub with_deframed : Deframing → FrameCounts → LinkState → LinkState
with_deframed deframer counts s = record s { deframer = deframer; counts = counts }

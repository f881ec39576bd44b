-- What a link shows of itself.
use Rattle.ppp_link_rules.specs.declared.view.LinkView.{LinkView}
use Rattle.ppp_link_rules.specs.LinkState.{LinkState, control, lcp_state}

abbrev pub view_of : LinkState → LinkView
view_of s = record {
  session = (control s).session;
  taken = s.taken;
  lcp_state = lcp_state s;
  stay = (control s).stay;
  member = (control s).unit;
  live = (control s).live;
}

use Rattle.std.proofs.Common.{◌∙◌}
use Rattle.ppp_options.proofs.link.link_of.Goals as goal

pub returns : goal.returns
returns c = λ i. record {
  line = c.line.ensures i;
  script = c.requires i;
  mru = c.number.ensures.value i;
  asyncmap = c.asyncmap.ensures i;
  default_asyncmap = c.has.ensures i;
  nomagic = c.has-2.ensures i;
  nopcomp = c.has-3.ensures i;
  noaccomp = c.has-4.ensures i;
  multilink = c.switched.ensures i;
  mrru = c.number-2.ensures.value i;
  endpoint = (c.copied_disc.ensures ∙ c.endpoint.ensures) i;
  auth = c.switched-2.ensures i;
  require_pap = c.has-5.ensures i;
  require_chap = c.has-6.ensures i;
  refuse_pap = c.has-7.ensures i;
  refuse_chap = c.has-8.ensures i;
  name = c.name.ensures i;
  user = c.user.ensures i;
  remotename = (c.copied_name.ensures ∙ c.text.ensures) i;
  password = (c.copied_name-2.ensures ∙ c.text-2.ensures) i;
  local = c.local.ensures i;
  remote = c.remote.ensures i;
  ipcp_accept_local = c.has-9.ensures i;
  ipcp_accept_remote = c.has-10.ensures i;
  ipparam = c.text_or_empty.ensures i;
  unit = c.unit.ensures i;
  lcp_echo_interval = c.number-3.ensures.value i;
  lcp_echo_failure = c.number-4.ensures.value i;
  lcp_restart = c.number-5.ensures.value i;
  lcp_max_configure = c.number-6.ensures.value i;
  lcp_max_terminate = c.number-7.ensures.value i;
  lcp_max_failure = c.number-8.ensures.value i;
  ipcp_restart = c.number-9.ensures.value i;
  ipcp_max_configure = c.number-10.ensures.value i;
  ipcp_max_terminate = c.number-11.ensures.value i;
  ipcp_max_failure = c.number-12.ensures.value i;
  persist = c.switched-3.ensures i;
  demand = c.has-11.ensures i;
  holdoff = c.number-13.ensures.value i;
  maxfail = c.number-14.ensures.value i;
  idle = c.number-15.ensures.value i;
  maxconnect = c.number-16.ensures.value i;
}

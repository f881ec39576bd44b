-- Short names for worked lives of a link.
use Rattle.std.specs.Prelude.{ℕ, true, false, if◌then◌else◌, None, Some, List, [], ◌∷◌, codes, reverse}
use Rattle.ppp_base.specs.declared.hook_target.HookTarget.TheVariants.{Link}
use Rattle.ppp_outside.specs.declared.spawner.ScriptEnd.TheVariants.{Exit}
use Rattle.ppp_chat.specs.Script.{Directs, Pair}
use Rattle.ppp_chat.specs.declared.directive.Directive.TheVariants.{Abort}
use Rattle.ppp_outside.specs.declared.line_words.LineWords.TheVariants.{Socket}
use Rattle.ppp_secrets.specs.declared.secrets.SecretsPair.{SecretsPair}
use Rattle.ppp_fsm.specs.declared.fsm.Limits.{Limits}
use Rattle.ppp_option_words.specs.LinkValues.{LinkValues}
use Rattle.ppp_mark.specs.declared.mark.Mark.{Mark}
use Rattle.ppp_link_rules.specs.Errands.{gives_dial, gives_job, gives_reading, gives_writing, with_dial_out, with_job_out, with_reading_out, with_writing_out}
use Rattle.ppp_hdlc.specs.Encoding.{encoding}
use Rattle.ppp_link_rules.specs.declared.errand.ReadEnd.TheVariants.{Left}
use Rattle.ppp_link_rules.specs.declared.errand.SentEnd.TheVariants.{All}
use Rattle.ppp_link_rules.specs.LinkEvent.{Event, Begin, Dialled, Bytes, Flushed, HookOver, LineOver}
use Rattle.ppp_link_rules.specs.LinkPart.{after_if, is_present}
use Rattle.ppp_link_rules.specs.LinkState.{LinkState, control}
use Rattle.ppp_link_rules.specs.Sending.{plain_settings}
use Rattle.ppp_link_rules.specs.NewLink.{new_link}
use Rattle.ppp_link_rules.specs.Wishes.{lcp_wish}

-- the options of `socket h:1`
abbrev pub usual : LinkValues
usual = record {
  line = Socket (codes "h:1");
  script = None;
  mru = 1500;
  asyncmap = 0;
  default_asyncmap = false;
  nomagic = false;
  nopcomp = false;
  noaccomp = false;
  multilink = false;
  mrru = 1500;
  endpoint = None;
  auth = false;
  require_pap = false;
  require_chap = false;
  refuse_pap = false;
  refuse_chap = false;
  name = codes "localhost";
  user = codes "localhost";
  remotename = None;
  password = None;
  local = 0 ∷ 0 ∷ 0 ∷ 0 ∷ [];
  remote = None;
  ipcp_accept_local = false;
  ipcp_accept_remote = false;
  ipparam = [];
  unit = None;
  lcp_echo_interval = 0;
  lcp_echo_failure = 0;
  lcp_restart = 3;
  lcp_max_configure = 10;
  lcp_max_terminate = 3;
  lcp_max_failure = 10;
  ipcp_restart = 3;
  ipcp_max_configure = 10;
  ipcp_max_terminate = 3;
  ipcp_max_failure = 10;
  persist = false;
  demand = false;
  holdoff = 30;
  maxfail = 10;
  idle = 0;
  maxconnect = 0;
}

abbrev pub no_secrets : SecretsPair
no_secrets = record { pap = []; chap = [] }

-- link 1, seed 1
abbrev pub link_of : Limits → LinkValues → LinkState
link_of limits config = new_link 1 config (lcp_wish limits config) no_secrets 1 65536

-- What waits is taken out behind each step, as a world of links does it; a writing is taken where that is asked.
abbrev pub dial_taken : LinkState → LinkState
dial_taken s = if gives_dial s then with_dial_out s else s

abbrev pub reading_taken : LinkState → LinkState
reading_taken s = if gives_reading s then with_reading_out s else s

abbrev pub writing_taken : LinkState → LinkState
writing_taken s = if gives_writing s then with_writing_out s else s

abbrev pub job_taken : LinkState → LinkState
job_taken s = if gives_job s then with_job_out s else s

abbrev pub all_taken : LinkState → LinkState
all_taken s = job_taken (reading_taken (dial_taken s))

abbrev pub step : Event → LinkState → LinkState
step event s = all_taken (after_if (is_present event s) event s)

abbrev pub run : List Event → LinkState → LinkState
run [] s = s
run (event ∷ events) s = run events (step event s)

-- its marks, the oldest first
abbrev pub marks : LinkState → List Mark
marks s = reverse s.log.past

-- with `nomagic`
abbrev pub nomagic : LinkValues
nomagic = record usual { nomagic = true }

-- A chat that aborts with the first octet.
abbrev pub aborts_at_once : LinkValues
aborts_at_once = record usual {
  persist = true;
  maxfail = 2;
  script = Some (record { items = Directs (Abort (codes "B")) ∷ Pair (record { text = codes "OK"; instead = [] }) [] ∷ []; timeout_s = 45 });
}

-- octets come on the line; a frame does, with the settings before anything is agreed on
abbrev pub comes : List ℕ → LinkState → LinkState
comes octets s = step (Bytes s.id (control s).session s.taken octets) s

abbrev pub rx : ℕ → List ℕ → LinkState → LinkState
rx protocol information s = comes (encoding plain_settings protocol information) s

-- The line comes. The peer asks for nothing, and acknowledges our request.
abbrev pub dialled : LinkState → LinkState
dialled s = run (Begin ∷ Dialled 1 1 0 true ∷ []) s

abbrev pub our_options : List ℕ
our_options = 2 ∷ 6 ∷ 0 ∷ 0 ∷ 0 ∷ 0 ∷ 7 ∷ 2 ∷ 8 ∷ 2 ∷ []

abbrev pub opened : LinkState → LinkState
opened s = rx 0xc021 (2 ∷ 1 ∷ 0 ∷ 14 ∷ our_options) (rx 0xc021 (1 ∷ 1 ∷ 0 ∷ 4 ∷ []) (dialled s))

-- what waits for the line is written
abbrev pub written : LinkState → LinkState
written s = step (Flushed s.id (control s).session All) (writing_taken s)

-- A session whose chat aborts with its first octet.
abbrev pub fails : ℕ → LinkState → LinkState
fails session s = step (LineOver 1 session Left) (comes (codes "B") (step (Dialled 1 session 0 true) s))

-- The peer must prove itself by PAP, and may do so under any name with any password.
abbrev pub asking : LinkValues
asking = record nomagic { auth = true; require_pap = true }

abbrev pub any_secrets : SecretsPair
any_secrets = record { pap = record { number = 1; client = codes "*"; server = codes "*"; secret = []; addresses = [] } ∷ []; chap = [] }

abbrev pub asking_link : Limits → LinkState
asking_link limits = new_link 1 asking (lcp_wish limits asking) any_secrets 1 65536

abbrev pub asking_options : List ℕ
asking_options = 2 ∷ 6 ∷ 0 ∷ 0 ∷ 0 ∷ 0 ∷ 3 ∷ 4 ∷ 0xc0 ∷ 0x23 ∷ 7 ∷ 2 ∷ 8 ∷ 2 ∷ []

-- Both ends agree, by our request with this identifier, and the peer proves itself as `a`.
abbrev pub proved : ℕ → LinkState → LinkState
proved id s =
    rx 0xc023 (1 ∷ 1 ∷ 0 ∷ 7 ∷ 1 ∷ 97 ∷ 0 ∷ []) (rx 0xc021 (2 ∷ id ∷ 0 ∷ 18 ∷ asking_options) (rx 0xc021 (1 ∷ 1 ∷ 0 ∷ 4 ∷ []) s))

abbrev pub script_ends : ℕ → LinkState → LinkState
script_ends job s = step (HookOver (Link 1) job 0 (Exit 0)) s

-- Authentication closes and opens again while auth-up of the first opening runs.
abbrev pub reopened : Limits → LinkState
reopened limits = proved 2 (proved 1 (dialled (asking_link limits)))

-- A link that hasn't begun stands for that of the rules.
use Rattle.std.proofs.Common.{◌≡◌, ℕ, Bool, true, false, Option, None, Some, [], refl, ap, subst, arith}
use Rattle.std.specs.Prelude.{is_some}
use Rattle.ppp_base.specs.declared.hook_target.HookTarget.TheVariants.{Link}
use Rattle.ppp_base.specs.declared.posts.UpPost.{UpPost}
use Rattle.ppp_base.specs.RingAfter.{Ring}
use Rattle.ppp_chat.specs.Script.{ChatScript}
use Rattle.ppp_hdlc.specs.Deframing.{Deframing, fresh}
use Rattle.ppp_hooks.specs.HookFacts.{no_facts}
use Rattle.ppp_lcp.specs.declared.wish.LcpWish.{LcpWish}
use Rattle.ppp_mark.specs.Log.{no_marks}
use Rattle.ppp_option_words.specs.LinkValues.{LinkValues}
use Rattle.ppp_outside.specs.declared.line_words.LineWords.{LineWords}
use Rattle.ppp_secrets.specs.declared.secrets.SecretsPair.{SecretsPair}
use Rattle.ppp_link_parts.specs.Records.{DialStands, RecordsNow}
use Rattle.ppp_link_parts.specs.Talk.{Listens, TalkNow}
use Rattle.ppp_link_rules.specs.declared.errand.Errand.TheVariants.{Absent}
use Rattle.ppp_link_rules.specs.FrameCounts.{no_counts}
use Rattle.ppp_link_rules.specs.LinkState.{Nobody}
use Rattle.ppp_link_rules.specs.NewLink.{new_link}
use Rattle.ppp_link_rules.specs.Wishes.{IsWish, dial_policy}
use Rattle.ppp_link_core.specs.declared.link_core.LinkCore.{LinkCore}
use Rattle.ppp_link_core.specs.Standing.{Lives, Sits, StandsFor}

pub new_stands : {S : Type 0} {id seed limit : ℕ} {config : LinkValues} {secrets : SecretsPair} {spawner : S} {r : RecordsNow S} {t : TalkNow} {script : Option ChatScript} {d : Deframing} {out : Ring ℕ} {up : Ring UpPost} {wish : LcpWish}
    → r.id ≡ id
    → r.scripts ≡ record { machine = record { target = Link id; facts = no_facts; spawner = Some spawner }; log = no_marks limit }
    → r.dial.policy ≡ dial_policy config
    → ((line : LineWords) → DialStands line r)
    → Listens script t Nobody → script ≡ config.script
    → d ≡ fresh → out ≡ record { waiting = []; dropped = 0 } → up ≡ record { waiting = []; dropped = 0 }
    → IsWish config wish
    → StandsFor (record {
      id = id;
      config = config;
      secrets = secrets;
      time = 0;
      words = seed;
      records = r;
      dial = Absent;
      failed_dials = 0;
      reading = Absent;
      writing = Absent;
      line_ended = false;
      taken = 0;
      talk = t;
      deframer = d;
      counts = no_counts;
      lcp = None;
      auth = None;
      out = out;
      up = up;
    }) (new_link id config wish secrets seed limit)
new_stands {config = config} {t = t} i s p dials l e f g h asks = record {
  is = rw (s, f, g, h) refl;
  id = i;
  moment = omega arith;
  asks = asks;
  listens = subst (λ x. Listens x t Nobody) e l;
  negotiates = tt;
  proves = tt;
  dials = dials config.line;
  policy = p;
  fits = λ was. absurd (let z : false ≡ true = was in cc);
  passes = λ was. absurd (let z : false ≡ true = was in cc);
}

pub new_sits : {S : Type 0} {c : LinkCore S} {was : Bool} → c.auth ≡ None → Sits was c
new_sits e = record { none = λ _. ap is_some e }

pub new_lives : {S : Type 0} {c : LinkCore S} {id seed limit : ℕ} {config : LinkValues} {secrets : SecretsPair} {wish : LcpWish}
    → IsWish config wish → ((w : LcpWish) → IsWish config w → StandsFor c (new_link id config w secrets seed limit)) → Lives c
new_lives {id = id} {seed = seed} {limit = limit} {config = config} {secrets = secrets} {wish = wish} e h = record { state = new_link id config wish secrets seed limit; stands = h wish e }

-- What a link hears and sends leaves its errands as they were, and what its marks tell of its session.
use Rattle.std.proofs.Common.{refl, ◌∙◌, ◌≡◌, ℕ, true, false, Option, None, Some, List, [], ◌∷◌, ◌++◌}
use Rattle.ppp_base.specs.declared.hook_target.HookTarget.TheVariants.{Link}
use Rattle.ppp_dial.specs.LookingBack.{last_in, nothing_yet}
use Rattle.ppp_hooks.specs.HookMark.{HookMark, Opened, Closed, Started, Ended}
use Rattle.ppp_hooks.specs.HookRule.{due_after}
use Rattle.ppp_mark.specs.declared.mark.Mark.{Mark}
use Rattle.ppp_mark.specs.declared.kind.TheConstants.{ATTEMPT}
use Rattle.ppp_mark.specs.Log.{LogState}
use Rattle.ppp_mark.specs.ScriptLog.{closed_mark, log_closed_at, next_opening, opened_mark}
use Rattle.ppp_mark.specs.Scripts.{due_marks, marks_at, said_in}
use Rattle.ppp_outside.specs.declared.line_words.LineWords.{LineWords}
use Rattle.ppp_link_rules.specs.Dialling.{dialled_in}
use Rattle.ppp_link_rules.specs.LinkState.{LinkState}
use Rattle.ppp_link_rules.specs.Marks.{count_in, doing_in}
use Rattle.ppp_link_rules.proofs.EachRule.{Kept}

-- The marks tell the same of the session: what the link does, how many attempts there were, and what its dial answered last.
pub record SameMarks (old new : List Mark) : Type 0 where
  pub doing : doing_in new ≡ doing_in old
  pub session : count_in 0 ATTEMPT new ≡ count_in 0 ATTEMPT old
  pub last : (line : LineWords) (limit : ℕ) → last_in nothing_yet (dialled_in line limit new) ≡ last_in nothing_yet (dialled_in line limit old)

pub same_marks : {past : List Mark} → SameMarks past past
same_marks = record { doing = refl; session = refl; last = λ line limit. refl }

pub and : {a b c : List Mark} → SameMarks a b → SameMarks b c → SameMarks a c
and x y = record { doing = y.doing ∙ x.doing; session = y.session ∙ x.session; last = λ line limit. y.last line limit ∙ x.last line limit }

-- A rule leaves the errands and what is told of the session as they were.
pub record Same (old new : LinkState) : Type 0 where
  pub dial : new.dial ≡ old.dial
  pub failed : new.failed_dials ≡ old.failed_dials
  pub reading : new.reading ≡ old.reading
  pub writing : new.writing ≡ old.writing
  pub config : new.config ≡ old.config
  pub limit : new.log.limit ≡ old.log.limit
  pub marks : SameMarks old.log.past new.log.past

pub same : (s : LinkState) → Same s s
same s = record { dial = refl; failed = refl; reading = refl; writing = refl; config = refl; limit = refl; marks = same_marks }

pub then : {a b c : LinkState} → Same a b → Same b c → Same a c
then ab bc = record {
  dial = bc.dial ∙ ab.dial;
  failed = bc.failed ∙ ab.failed;
  reading = bc.reading ∙ ab.reading;
  writing = bc.writing ∙ ab.writing;
  config = bc.config ∙ ab.config;
  limit = bc.limit ∙ ab.limit;
  marks = and ab.marks bc.marks;
}

-- MARKS OF SCRIPTS

pub script-marks : (time : ℕ) (hooks : List HookMark) (past : List Mark) → SameMarks past (marks_at time hooks ++ past)
script-marks time [] past = same_marks
script-marks time (Opened n ∷ hooks) past = script-marks time hooks past
script-marks time (Closed n ∷ hooks) past = script-marks time hooks past
script-marks time (Started true n ∷ hooks) past = and (script-marks time hooks past) (record { doing = refl; session = refl; last = λ line limit. refl })
script-marks time (Started false n ∷ hooks) past = and (script-marks time hooks past) (record { doing = refl; session = refl; last = λ line limit. refl })
script-marks time (Ended answer job ∷ hooks) past = script-marks time hooks past

pub due-marks : (time : ℕ) (past : List Mark) → SameMarks past (due_marks time past ++ past)
due-marks time past = script-marks time (due_after (said_in past)) past

pub closed-marks : (id time : ℕ) (o : Option ℕ) (log : LogState) → SameMarks log.past (log_closed_at (Link id) time o log).past
closed-marks id time None log = same_marks
closed-marks id time (Some n) log = and {b = closed_mark (Link id) time n ∷ log.past} (record { doing = refl; session = refl; last = λ line limit. refl }) (due-marks time (closed_mark (Link id) time n ∷ log.past))

pub closed-limit : (id time : ℕ) (o : Option ℕ) (log : LogState) → (log_closed_at (Link id) time o log).limit ≡ log.limit
closed-limit id time None log = refl
closed-limit id time (Some n) log = refl

-- WHAT A LINK HEARS AND SENDS

pub kept : Kept Same
kept = record {
  same = same;
  then = then;
  out = λ s ring. record { dial = refl; failed = refl; reading = refl; writing = refl; config = refl; limit = refl; marks = same_marks };
  up = λ s ring. record { dial = refl; failed = refl; reading = refl; writing = refl; config = refl; limit = refl; marks = same_marks };
  deframer = λ s now. record { dial = refl; failed = refl; reading = refl; writing = refl; config = refl; limit = refl; marks = same_marks };
  counts = λ s now. record { dial = refl; failed = refl; reading = refl; writing = refl; config = refl; limit = refl; marks = same_marks };
  listener = λ s who. record { dial = refl; failed = refl; reading = refl; writing = refl; config = refl; limit = refl; marks = same_marks };
  lcp = λ s part. record { dial = refl; failed = refl; reading = refl; writing = refl; config = refl; limit = refl; marks = same_marks };
  auth = λ s part. record { dial = refl; failed = refl; reading = refl; writing = refl; config = refl; limit = refl; marks = same_marks };
  words = λ s now. record { dial = refl; failed = refl; reading = refl; writing = refl; config = refl; limit = refl; marks = same_marks };
  cause = λ c s. record { dial = refl; failed = refl; reading = refl; writing = refl; config = refl; limit = refl; marks = record { doing = refl; session = refl; last = λ line limit. refl } };
  opened = λ s. record { dial = refl; failed = refl; reading = refl; writing = refl; config = refl; limit = refl; marks = record { doing = refl; session = refl; last = λ line limit. refl } };
  closed = λ s. record { dial = refl; failed = refl; reading = refl; writing = refl; config = refl; limit = refl; marks = record { doing = refl; session = refl; last = λ line limit. refl } };
  asked = λ s. record { dial = refl; failed = refl; reading = refl; writing = refl; config = refl; limit = refl; marks = record { doing = refl; session = refl; last = λ line limit. refl } };
  left = λ stay s. record { dial = refl; failed = refl; reading = refl; writing = refl; config = refl; limit = refl; marks = record { doing = refl; session = refl; last = λ line limit. refl } };
  member = λ unit stay s. record { dial = refl; failed = refl; reading = refl; writing = refl; config = refl; limit = refl; marks = record { doing = refl; session = refl; last = λ line limit. refl } };
  live = λ unit stay s. record { dial = refl; failed = refl; reading = refl; writing = refl; config = refl; limit = refl; marks = record { doing = refl; session = refl; last = λ line limit. refl } };
  auth_closed = λ s. record { dial = refl; failed = refl; reading = refl; writing = refl; config = refl; limit = closed-limit s.id s.time _ s.log; marks = closed-marks s.id s.time _ s.log };
  auth_opened = λ peer s. record {
    dial = refl;
    failed = refl;
    reading = refl;
    writing = refl;
    config = refl;
    limit = refl;
    marks = and {b = opened_mark (Link s.id) s.time (next_opening s.log) ∷ s.log.past} (record { doing = refl; session = refl; last = λ line limit. refl })
        (due-marks s.time (opened_mark (Link s.id) s.time (next_opening s.log) ∷ s.log.past));
  };
}

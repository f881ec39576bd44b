-- Events with which an object comes back: the link is whole with it.
use Rattle.std.proofs.Common.{refl, ap, sym, subst, ◌∙◌, ◌≡◌, ℕ, ◌+◌, Bool, true, false, not, ◌&&◌, Option, None, Some, is_some, is_none}
use Rattle.std.specs.Prelude.{◌==◌, IfSome}
use Rattle.std.proofs.lemmas.Bool.{and_parts, eqb-true, true≢false}
use Rattle.ppp_hooks.specs.HookState.{WasHandedIn}
use Rattle.ppp_outside.specs.Dialer.{DialerState}
use Rattle.ppp_outside.specs.Line.{IsNewLine, LineState}
use Rattle.ppp_outside.specs.Sink.{IsNewSink, SinkState}
use Rattle.ppp_link_core.specs.declared.link_core.LinkCore.{LinkCore}
use Rattle.ppp_link_core.specs.Standing.{StandsFor}
use Rattle.ppp_link_events.specs.Going.{Goes, IsGoing, Takes as Took}
use Rattle.ppp_link_rules.specs.declared.errand.Errand.TheVariants.{Absent, Waiting, Out}
use Rattle.ppp_link_rules.specs.declared.errand.ReadEnd.{ReadEnd}
use Rattle.ppp_link_rules.specs.declared.errand.SentEnd.{SentEnd}
use Rattle.ppp_link_rules.specs.Dialling.{dial_so_far}
use Rattle.ppp_link_rules.specs.Errands.{is_dial_out, is_session}
use Rattle.ppp_link_rules.specs.LinkEvent.{Event, Dialled, LineOver, Flushed}
use Rattle.ppp_link_rules.specs.LinkPart.{after}
use Rattle.ppp_link_rules.specs.LinkState.{LinkState, control, is_busy, is_lasting, is_out, is_waiting}
use Rattle.ppp_link_rules.specs.Sessions.{dial_come, line_come, line_come_if, with_dial_back, with_failure, with_line}
use Rattle.ppp_link_rules.proofs.EachRule.{talk-begun}
use Rattle.ppp_link.specs.declared.body.LinkBody.{LinkBody}
use Rattle.ppp_link.specs.Between.{IsInStep, Moves, MovesTo}
use Rattle.ppp_link.specs.ErrandValues.{DialDoneState, ReadOverState, SentState, failed_with}
use Rattle.ppp_link.specs.Link.{IsWhole, halves_kept, with_core}
use Rattle.ppp_link.specs.Steps.{Takes, given_with, input_with, output_with, with_dial_in, with_reading_in, with_writing_in}
use Rattle.ppp_link.proofs.DialFacts.{at-the-end, behind, failed-moves, lasting-begun, read_moves, same-moves, written_moves}
use Rattle.ppp_link.proofs.SameLemmas.{kept}
use Rattle.ppp_link.proofs.KeepFacts.{Fits, IsThere, Tried, counts_to, dial_is, dials_is, failed_is, in_step, reading_is, whole_by, writing_is}

-- A DIAL THAT COMES BACK WITH A LINE

-- the state with the line's halves in
abbrev pub line_here : LinkState → LinkState
line_here s = record s { dial = Absent; reading = Waiting; writing = Waiting }

pub line-with : (s : LinkState) → is_busy s ≡ true → Moves (line_here s) (with_line (with_dial_back s))
line-with s b i = record {
  step = record {
    said = lasting-begun (control s).doing (dial_so_far s).last i.said (and_parts (is_lasting s) (is_none (control s).cause) b).0;
    dials = λ e. absurd (true≢false e);
  };
  out = refl;
  made = refl;
  failed = refl;
  reading = λ e. refl;
  writing = λ e. refl;
}

pub line-come : (s : LinkState) → is_busy s ≡ true → Moves (line_here s) (line_come (with_dial_back s))
unfolding line_come
line-come s b = behind {b = with_line (with_dial_back s)} (line-with s b) (same-moves (talk-begun kept s.config.script (with_line (with_dial_back s))))

pub line-come-if : (b : Bool) (s : LinkState) → is_busy s ≡ b → Moves (line_here s) (line_come_if b (with_dial_back s))
line-come-if true s e = line-come s e
line-come-if false s e = λ i. record {
  step = record { said = i.said; dials = i.dials };
  out = refl;
  made = refl;
  failed = refl;
  reading = λ w. refl;
  writing = λ w. refl;
}

pub came-moves : (link session failed : ℕ) (s : LinkState) → Moves (line_here s) (after (Dialled link session failed true) s)
unfolding after
came-moves link session failed s = behind {b = dial_come true s} (line-come-if (is_busy s) s refl) (at-the-end _)

-- The dial that comes back is of the present session, behind so many that failed.
pub session_out : (link session failed : ℕ) (s : LinkState) → is_dial_out link session failed s ≡ true → session ≡ (control s).session
session_out link session failed s e =
    let p = and_parts (is_out s.dial) (is_session link session s && failed == s.failed_dials) e in
    let q = and_parts (is_session link session s) (failed == s.failed_dials) p.1 in
    eqb-true session (control s).session (and_parts (link == s.id) (session == (control s).session) q.0).1

pub failed_out : (link session failed : ℕ) (s : LinkState) → is_dial_out link session failed s ≡ true → failed ≡ s.failed_dials
failed_out link session failed s e =
    let p = and_parts (is_out s.dial) (is_session link session s && failed == s.failed_dials) e in
    eqb-true failed s.failed_dials (and_parts (is_session link session s) (failed == s.failed_dials) p.1).1

absent_step : (s : LinkState) → IsInStep s → IsInStep (line_here s)
absent_step s i = record { said = i.said; dials = λ e. absurd (true≢false e) }

failed_step : (s : LinkState) → IsInStep s → IsInStep (with_failure s)
failed_step s i = record { said = i.said; dials = λ e. absurd (true≢false e) }

pub fits_failed : {D I O S : Type 0} {f : D → DialerState} {g : I → LineState} {s : LinkState} {l : LinkBody D I O S} (d : D)
    → IsWhole f g l → StandsFor l.core s → Tried f d (control s).session (s.failed_dials + 1) → Fits f g (with_failure s) (record l { dialer = Some d })
fits_failed d w k counts = record {
  dialer = refl;
  input = λ e. w.input ∙ (ap is_waiting (reading_is k) ∙ e);
  output = λ e. w.output ∙ (ap is_waiting (writing_is k) ∙ e);
  counts = counts;
  given = w.given;
}

pub fits_line : {D I O S : Type 0} {f : D → DialerState} {g : I → LineState} (s : LinkState) (l : LinkBody D I O S) (d : D) (i : I) (o : O)
    → Tried f d (control s).session s.failed_dials → (g i).taken ≡ 0 → Fits f g (line_here s) (record l { dialer = Some d; input = Some i; output = Some o; given = 0 })
fits_line s l d i o counts e = record {
  dialer = refl;
  input = λ w. refl;
  output = λ w. refl;
  counts = counts;
  given = sym e;
}

-- with the dialer and the line that came, if one came
abbrev pub dial_in : {D I O S : Type 0} → D → Option (I × O) → LinkBody D I O S → LinkBody D I O S
dial_in d came l = record l { dialer = Some d; input = input_with came l.input; output = output_with came l.output; given = given_with came l.given }

pub back_whole : {D I O S : Type 0} {f : D → DialerState} {g : I → LineState} (h : O → SinkState) {l : LinkBody D I O S} {c : LinkCore S} (link session failed : ℕ) (d : D) (came : Option (I × O))
    → IfSome came (λ line. IsNewLine (g line.0) × IsNewSink (h line.1)) → Tried f d session (failed_with failed came)
    → IsThere (Dialled link session failed (is_some came)) l.core → Took (Dialled link session failed (is_some came)) l.core c → Goes c → IsWhole f g l
    → IsWhole f g (halves_kept (with_core c (dial_in d came l)))
back_whole {f = f} h {l = l} link session failed d None new counts there took goes w =
    let s : LinkState = w.goes.state in
    let k : IsGoing l.core s = w.goes.going in
    let e : is_dial_out link session failed s ≡ true = there s k in
    whole_by
    (fits_failed d w k.stands (subst (λ (n : ℕ). Tried f d n (s.failed_dials + 1)) (session_out link session failed s e) (subst (λ (n : ℕ). Tried f d session (n + 1)) (failed_out link session failed s e) counts)))
    (failed-moves link session failed s (failed_step s (in_step s k.holds))) (took.leaves s k e).stands goes
back_whole {f = f} h {l = l} link session failed d (Some line) new counts there took goes w =
    let s : LinkState = w.goes.state in
    let k : IsGoing l.core s = w.goes.going in
    let e : is_dial_out link session failed s ≡ true = there s k in
    whole_by
    (fits_line s l d line.0 line.1 (subst (λ (n : ℕ). Tried f d n s.failed_dials) (session_out link session failed s e) (subst (λ (n : ℕ). Tried f d session n) (failed_out link session failed s e) counts)) new.0.taken)
    (came-moves link session failed s (absent_step s (in_step s k.holds))) (took.leaves s k e).stands goes

-- A READING AND A WRITING THAT COME BACK

pub over_whole : {D I O S : Type 0} {f : D → DialerState} {g : I → LineState} {l : LinkBody D I O S} {c : LinkCore S} (over : ReadOverState I)
    → over.taken ≡ (g over.input).taken → IsThere (LineOver over.link over.session over.end) l.core → Took (LineOver over.link over.session over.end) l.core c → Goes c → IsWhole f g l
    → IsWhole f g (halves_kept (with_core c (with_reading_in over l)))
over_whole {f = f} {g = g} {l = l} over e there took goes w =
    let s : LinkState = w.goes.state in
    let k : IsGoing l.core s = w.goes.going in
    let i : IsInStep s = in_step s k.holds in
    let fits : Fits f g (record s { reading = Waiting }) (with_reading_in over l) = record {
      dialer = w.dialer ∙ ap not (ap is_out (dial_is k.stands));
      input = λ x. refl;
      output = λ x. w.output ∙ (ap is_waiting (writing_is k.stands) ∙ x);
      counts = counts_to (Tried f) l.dialer (dials_is k.stands) (failed_is k.stands) w.counts;
      given = e;
    } in
    whole_by fits (read_moves over.link over.session over.end s (record { said = i.said; dials = i.dials })) (took.leaves s k (there s k)).stands goes

pub sent_whole : {D I O S : Type 0} {f : D → DialerState} {g : I → LineState} {l : LinkBody D I O S} {c : LinkCore S} (sent : SentState O)
    → IsThere (Flushed sent.link sent.session sent.end) l.core → Took (Flushed sent.link sent.session sent.end) l.core c → Goes c → IsWhole f g l
    → IsWhole f g (halves_kept (with_core c (with_writing_in sent l)))
sent_whole {f = f} {g = g} {l = l} sent there took goes w =
    let s : LinkState = w.goes.state in
    let k : IsGoing l.core s = w.goes.going in
    let i : IsInStep s = in_step s k.holds in
    let fits : Fits f g (record s { writing = Waiting }) (with_writing_in sent l) = record {
      dialer = w.dialer ∙ ap not (ap is_out (dial_is k.stands));
      input = λ x. w.input ∙ (ap is_waiting (reading_is k.stands) ∙ x);
      output = λ x. refl;
      counts = counts_to (Tried f) l.dialer (dials_is k.stands) (failed_is k.stands) w.counts;
      given = w.given;
    } in
    whole_by fits (written_moves sent.link sent.session sent.end s (record { said = i.said; dials = i.dials })) (took.leaves s k (there s k)).stands goes

-- Each of these was taken.
pub come_takes : {D I O S : Type 0} {l m : LinkBody D I O S} {c : LinkCore S} (event : Event) → IsThere event l.core → Took event l.core c → Takes event m l (halves_kept (with_core c m))
come_takes event there took = record { leaves = λ s k. took.leaves s k (there s k); holds = refl }

-- BEHIND THE CODE'S OWN STEPS: what came back has these values inside.

objects_at : {D I O S : Type 0} (l : LinkBody D I O S) (c : LinkCore S) {v : Option I} {w : Option O} {n : ℕ} (d : D) (came : Option (I × O)) → v ≡ input_with came l.input → w ≡ output_with came l.output → n ≡ given_with came l.given
    → (record l { core = c; dialer = Some d; input = v; output = w; given = n }) ≡ with_core c (dial_in d came l)
objects_at l c {v = v} {w = w} {n = n} d came e f h =
    ap (λ x. record l { core = c; dialer = Some d; input = x; output = w; given = n }) e
    ∙ (ap (λ x. record l { core = c; dialer = Some d; input = input_with came l.input; output = x; given = n }) f
    ∙ ap (λ x. record l { core = c; dialer = Some d; input = input_with came l.input; output = output_with came l.output; given = x }) h)

took_at : {S : Type 0} {a b : LinkCore S} (link session failed : ℕ) (told came : Bool) → told ≡ came → ((link session failed : ℕ) → Took (Dialled link session failed told) a b) → Took (Dialled link session failed came) a b
took_at {a = a} {b = b} link session failed told came e took = subst (λ (x : Bool). Took (Dialled link session failed x) a b) e (took link session failed)

abbrev pub event_back : {D I O : Type 0} → DialDoneState D I O → Event
event_back done = Dialled done.link done.session done.failed (is_some done.came)

dial_takes : {D I O S : Type 0} (l n : LinkBody D I O S) (c : LinkCore S) {v : Option I} {w : Option O} {m : ℕ} (told : Bool) (done : DialDoneState D I O)
    → n ≡ halves_kept (record l { core = c; dialer = Some done.dialer; input = v; output = w; given = m })
    → v ≡ input_with done.came l.input → w ≡ output_with done.came l.output → m ≡ given_with done.came l.given → told ≡ is_some done.came
    → IsThere (event_back done) l.core → ((link session failed : ℕ) → Took (Dialled link session failed told) l.core c)
    → Takes (event_back done) (with_dial_in done l) l n
dial_takes l n c told done is e f h t there took =
    subst (λ x. Takes (event_back done) (with_dial_in done l) l x)
    (sym (is ∙ ap halves_kept (objects_at l c done.dialer done.came e f h)))
    (come_takes (event_back done) there (took_at done.link done.session done.failed told (is_some done.came) t took))

pub dial_takes_by : {D I O S : Type 0} {l n : LinkBody D I O S} {c : LinkCore S} {v : Option I} {w : Option O} {m : ℕ} {told : Bool} (inside done : DialDoneState D I O) → inside ≡ done
    → n ≡ halves_kept (record l { core = c; dialer = Some inside.dialer; input = v; output = w; given = m })
    → v ≡ input_with inside.came l.input → w ≡ output_with inside.came l.output → m ≡ given_with inside.came l.given → told ≡ is_some inside.came
    → IsThere (event_back done) l.core → ((link session failed : ℕ) → Took (Dialled link session failed told) l.core c)
    → Takes (event_back done) (with_dial_in done l) l n
dial_takes_by {D = D} {I = I} {O = O} {l = l} {n = n} {c = c} {told = told} inside done view is e f h t there took =
    subst (λ (d : DialDoneState D I O). IsThere (event_back d) l.core → Takes (event_back d) (with_dial_in d l) l n) view (λ y. dial_takes l n c told inside is e f h t y took) there

dial_whole : {D I O S : Type 0} {f : D → DialerState} {g : I → LineState} (h : O → SinkState) (l n : LinkBody D I O S) (c : LinkCore S) {v : Option I} {w : Option O} {m : ℕ} (told : Bool) (done : DialDoneState D I O)
    → IfSome done.came (λ line. IsNewLine (g line.0) × IsNewSink (h line.1)) → Tried f done.dialer done.session (failed_with done.failed done.came)
    → n ≡ halves_kept (record l { core = c; dialer = Some done.dialer; input = v; output = w; given = m })
    → v ≡ input_with done.came l.input → w ≡ output_with done.came l.output → m ≡ given_with done.came l.given → told ≡ is_some done.came
    → IsThere (event_back done) l.core → ((link session failed : ℕ) → Took (Dialled link session failed told) l.core c)
    → Goes c → IsWhole f g l → IsWhole f g n
dial_whole {f = f} {g = g} h l n c told done new counts is e i o t there took goes w =
    subst (λ x. IsWhole f g x) (sym (is ∙ ap halves_kept (objects_at l c done.dialer done.came e i o)))
    (back_whole h done.link done.session done.failed done.dialer done.came new counts there (took_at done.link done.session done.failed told (is_some done.came) t took) goes w)

pub dial_whole_by : {D I O S : Type 0} {f : D → DialerState} {g : I → LineState} (h : O → SinkState) {l n : LinkBody D I O S} {c : LinkCore S} {v : Option I} {w : Option O} {m : ℕ} {told : Bool} (inside done : DialDoneState D I O) → inside ≡ done
    → IfSome inside.came (λ line. IsNewLine (g line.0) × IsNewSink (h line.1)) → Tried f inside.dialer inside.session (failed_with inside.failed inside.came)
    → n ≡ halves_kept (record l { core = c; dialer = Some inside.dialer; input = v; output = w; given = m })
    → v ≡ input_with inside.came l.input → w ≡ output_with inside.came l.output → m ≡ given_with inside.came l.given → told ≡ is_some inside.came
    → IsThere (event_back done) l.core → ((link session failed : ℕ) → Took (Dialled link session failed told) l.core c)
    → Goes c → IsWhole f g l → IsWhole f g n
dial_whole_by {D = D} {I = I} {O = O} h {l = l} {n = n} {c = c} {told = told} inside done view new counts is e i o t there took goes w =
    dial_whole h l n c told inside new counts is e i o t (subst (λ (d : DialDoneState D I O). IsThere (event_back d) l.core) (sym view) there) took goes w

pub over_takes : {D I O S : Type 0} {l n : LinkBody D I O S} {c : LinkCore S} (inside over : ReadOverState I) → inside ≡ over → n ≡ halves_kept (with_core c (with_reading_in inside l))
    → IsThere (LineOver over.link over.session over.end) l.core → ((link session : ℕ) → Took (LineOver link session inside.end) l.core c)
    → Takes (LineOver over.link over.session over.end) (with_reading_in over l) l n
over_takes {I = I} {l = l} {n = n} inside over view is there took =
    subst (λ (o : ReadOverState I). IsThere (LineOver o.link o.session o.end) l.core → Takes (LineOver o.link o.session o.end) (with_reading_in o l) l n) view
    (λ y. subst (λ x. Takes (LineOver inside.link inside.session inside.end) (with_reading_in inside l) l x) (sym is) (come_takes (LineOver inside.link inside.session inside.end) y (took inside.link inside.session))) there

pub over_keeps : {D I O S : Type 0} {f : D → DialerState} {g : I → LineState} {l n : LinkBody D I O S} {c : LinkCore S} (inside over : ReadOverState I) → inside ≡ over → n ≡ halves_kept (with_core c (with_reading_in inside l))
    → inside.taken ≡ (g inside.input).taken → IsThere (LineOver over.link over.session over.end) l.core → ((link session : ℕ) → Took (LineOver link session inside.end) l.core c)
    → Goes c → IsWhole f g l → IsWhole f g n
over_keeps {I = I} {f = f} {g = g} {l = l} inside over view is e there took goes w = subst (λ x. IsWhole f g x) (sym is)
    (over_whole inside e (subst (λ (o : ReadOverState I). IsThere (LineOver o.link o.session o.end) l.core) (sym view) there) (took inside.link inside.session) goes w)

pub sent_takes : {D I O S : Type 0} {l n : LinkBody D I O S} {c : LinkCore S} (inside sent : SentState O) → inside ≡ sent → n ≡ halves_kept (with_core c (with_writing_in inside l))
    → IsThere (Flushed sent.link sent.session sent.end) l.core → ((link session : ℕ) → Took (Flushed link session inside.end) l.core c)
    → Takes (Flushed sent.link sent.session sent.end) (with_writing_in sent l) l n
sent_takes {O = O} {l = l} {n = n} inside sent view is there took =
    subst (λ (o : SentState O). IsThere (Flushed o.link o.session o.end) l.core → Takes (Flushed o.link o.session o.end) (with_writing_in o l) l n) view
    (λ y. subst (λ x. Takes (Flushed inside.link inside.session inside.end) (with_writing_in inside l) l x) (sym is) (come_takes (Flushed inside.link inside.session inside.end) y (took inside.link inside.session))) there

pub sent_keeps : {D I O S : Type 0} {f : D → DialerState} {g : I → LineState} {l n : LinkBody D I O S} {c : LinkCore S} (inside sent : SentState O) → inside ≡ sent → n ≡ halves_kept (with_core c (with_writing_in inside l))
    → IsThere (Flushed sent.link sent.session sent.end) l.core → ((link session : ℕ) → Took (Flushed link session inside.end) l.core c)
    → Goes c → IsWhole f g l → IsWhole f g n
sent_keeps {O = O} {f = f} {g = g} {l = l} inside sent view is there took goes w = subst (λ x. IsWhole f g x) (sym is)
    (sent_whole inside (subst (λ (o : SentState O). IsThere (Flushed o.link o.session o.end) l.core) (sym view) there) (took inside.link inside.session) goes w)

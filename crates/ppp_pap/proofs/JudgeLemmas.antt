-- A judge's outcome is what the first request says.
use Rattle.std.proofs.Common.{◌≡◌, ℕ, Bool, true, false, ◌⊎◌, inl, inr, List, [], ◌∷◌, ◌++◌, Option, None, Some, refl, sym, ap, ◌∙◌, subst}
use Rattle.std.specs.Prelude.{codes, ◌==◌, is_some, if◌then◌else◌}
use Rattle.std.proofs.lemmas.Slice.Eq.{bytes_eq-Decides}
use Rattle.std.proofs.lemmas.Bool.Decides.{Decides-eqb}
use Rattle.ppp_packet.specs.declared.packet.Packet.{Packet}
use Rattle.ppp_packet.specs.declared.auth_out.AuthOutcome.{AuthOutcome}
use Rattle.ppp_packet.specs.declared.auth_out.AuthOutcome.TheVariants.{Waiting, Passed, Refused, Unanswered}
use Rattle.ppp_secrets.specs.SecretLine.{SecretLine}
use Rattle.ppp_secrets.specs.Lookup.{line_for}
use Rattle.ppp_proving.specs.Calls.{Against, AuthCall, begins, hears, ticks, Answered, is_waiting}
use Rattle.ppp_proving.specs.Which.{NoneOf}
use Rattle.ppp_proving.proofs.Judging.{Judges, waiting_none, none_waiting, stays, first_says, said_first}
use Rattle.ppp_pap.specs.Packets.{request_body, request_of}
use Rattle.ppp_pap.specs.Passes.{Passes, lets_in, passing, passing_line}
use Rattle.ppp_pap.specs.Judge.{AreLawful, judged, judged_by, outcome_in, request_in, said_by, verdict_packet}
use Rattle.ppp_pap.specs.Requests.{Asks, FirstAsks, IsRequest}
use Rattle.ppp_pap.proofs.PacketLemmas.{body_is_read, read_is_body}

let_in_right : (secret password : List ℕ) → lets_in secret password ≡ true → (secret ≡ []) ⊎ (secret ≡ password)
let_in_right [] password t = inl refl
let_in_right (octet ∷ octets) password t = inr ((bytes_eq-Decides (octet ∷ octets) password).0 t)

right_let_in : (secret password : List ℕ) → (secret ≡ []) ⊎ (secret ≡ password) → lets_in secret password ≡ true
right_let_in [] password right = refl
right_let_in (octet ∷ octets) password (inl e) = absurd cc
right_let_in (octet ∷ octets) password (inr e) = (bytes_eq-Decides (octet ∷ octets) password).1 e

passing_found : (a : Against) (name password : List ℕ) (number : ℕ) (found : Option SecretLine) → line_for a.lines name a.server ≡ found
    → passing found password ≡ Some number → Passes a name password number
passing_found a name password number None f e = absurd cc
passing_found a name password number (Some line) f e = go (lets_in line.secret password) refl e
  where
    go : (test : Bool) → lets_in line.secret password ≡ test → (if test then Some line.number else None) ≡ Some number → Passes a name password number
    go false t e = absurd cc
    go true t e = record { line = line; found = f; right = let_in_right line.secret password t; numbered = cc }

pub told_passes : (a : Against) (name password : List ℕ) (number : ℕ) → passing_line a name password ≡ Some number → Passes a name password number
told_passes a name password number e = passing_found a name password number (line_for a.lines name a.server) refl e

pub passes_told : (a : Against) (name password : List ℕ) (number : ℕ) → Passes a name password number → passing_line a name password ≡ Some number
passes_told a name password number p =
    ap (λ found. passing found password) p.found
    ∙ ap (λ test. if test then Some p.line.number else None) (right_let_in p.line.secret password p.right)
    ∙ ap Some p.numbered

none_passes : (a : Against) (name password : List ℕ) → passing_line a name password ≡ None → (number : ℕ) → Passes a name password number → ⊥
none_passes a name password e number p = let told = passes_told a name password number p in absurd (cc (e, told))

passes_none : (a : Against) (name password : List ℕ) → ((number : ℕ) → Passes a name password number → ⊥) → passing_line a name password ≡ None
passes_none a name password never = go (passing_line a name password) refl
  where
    go : (found : Option ℕ) → passing_line a name password ≡ found → passing_line a name password ≡ None
    go None e = e
    go (Some number) e = absurd (never number (told_passes a name password number e))

-- what a call that hears a request says, and what every other call says
request_says : (call : AuthCall) (a : Against) (name password : List ℕ) → Asks call a name password → said_by call ≡ judged_by name (passing_line a name password)
request_says call a name password asks = ap said_by asks.heard ∙ ap (judged a) (body_is_read name password)

pub record Requested (call : AuthCall) : Type 0 where
  pub against : Against
  pub name : List ℕ
  pub password : List ℕ
  pub asks : Asks call against name password

-- a packet that is read as a request is one
pub read_requested : (p : Packet) (a : Against) (request : List ℕ × List ℕ) → request_in p ≡ Some request → Requested (hears p a)
read_requested p a request e = go (p.code == 1) refl e
  where
    go : (test : Bool) → (p.code == 1) ≡ test → (if test then request_of p.body else None) ≡ Some request → Requested (hears p a)
    go false t e = absurd cc
    go true t f =
        let codes_are : p.code ≡ 1 = (Decides-eqb p.code 1).0 t in
        let body_is : p.body ≡ request_body request.0 request.1 = read_is_body p.body request.0 request.1 f in
        let packet_is : p ≡ record { code = 1; id = p.id; body = request_body request.0 request.1 } =
        ap (λ code. record { code = code; id = p.id; body = p.body }) codes_are ∙ ap (λ body. record { code = 1; id = p.id; body = body }) body_is in
        record { against = a; name = request.0; password = request.1; asks = record { id = p.id; heard = ap (λ q. hears q a) packet_is } }

requested : (call : AuthCall) → ((said_by call ≡ Waiting) × (Requested call → ⊥)) ⊎ Requested call
requested begins = inl (refl, λ r. absurd (cc (r.asks.heard)))
requested ticks = inl (refl, λ r. absurd (cc (r.asks.heard)))
requested (hears p a) = go (p.code == 1) refl (request_of p.body) refl
  where
    no_code : (p.code == 1) ≡ false → Requested (hears p a) → ⊥
    no_code t r =
        let packets : p ≡ record { code = 1; id = r.asks.id; body = request_body r.name r.password } = cc (r.asks.heard) in
        let one : (p.code == 1) ≡ true = (Decides-eqb p.code 1).1 (ap (λ (q : Packet). q.code) packets) in
        absurd (cc (t, one))

    no_body : request_of p.body ≡ None → Requested (hears p a) → ⊥
    no_body f r =
        let packets : p ≡ record { code = 1; id = r.asks.id; body = request_body r.name r.password } = cc (r.asks.heard) in
        let read : request_of p.body ≡ Some (r.name, r.password) = ap (λ (q : Packet). request_of q.body) packets ∙ body_is_read r.name r.password in
        absurd (cc (f, read))

    go : (test : Bool) → (p.code == 1) ≡ test → (found : Option (List ℕ × List ℕ)) → request_of p.body ≡ found →
        ((said_by (hears p a) ≡ Waiting) × (Requested (hears p a) → ⊥)) ⊎ Requested (hears p a)
    go false t found f = inl (ap (λ b. judged a (if b then request_of p.body else None)) t, no_code t)
    go true t None f = inl (ap (λ b. judged a (if b then request_of p.body else None)) t ∙ ap (judged a) f, no_body f)
    go true t (Some request) f = inr (read_requested p a request (ap (λ b. if b then request_of p.body else None) t ∙ f))

judged_known : (name : List ℕ) (found : Option ℕ) → judged_by name found ≡ Waiting → ⊥
judged_known name None e = absurd cc
judged_known name (Some number) e = absurd cc

pub judges : Judges outcome_in (λ past h. said_by h.call) IsRequest
judges = record {
  none = refl;
  more = λ h past. refl;
  quiet = λ h past not. quiet h past not (requested h.call);
  loud = λ h past e is. judged_known is.name _ (sym (request_says h.call is.against is.name is.password is.asks) ∙ e);
  decided = λ h past e. decided h past e (requested h.call);
}
  where
    quiet : (h : Answered) (past : List Answered) → (IsRequest h past → ⊥) → ((said_by h.call ≡ Waiting) × (Requested h.call → ⊥)) ⊎ Requested h.call → said_by h.call ≡ Waiting
    quiet h past not (inl n) = n.0
    quiet h past not (inr r) = absurd (not (record { against = r.against; name = r.name; password = r.password; asks = r.asks }))

    decided : (h : Answered) (past : List Answered) → is_waiting (said_by h.call) ≡ false → ((said_by h.call ≡ Waiting) × (Requested h.call → ⊥)) ⊎ Requested h.call → IsRequest h past
    decided h past e (inl n) = absurd (cc (ap is_waiting n.0, e))
    decided h past e (inr r) = record { against = r.against; name = r.name; password = r.password; asks = r.asks }

pub waits_none : (past : List Answered) → outcome_in past ≡ Waiting → NoneOf IsRequest past
waits_none past e = waiting_none judges past e

pub none_waits : (past : List Answered) → NoneOf IsRequest past → outcome_in past ≡ Waiting
none_waits past n = none_waiting judges past n

pub outcome_stays : (later past : List Answered) → is_waiting (outcome_in past) ≡ false → outcome_in (later ++ past) ≡ outcome_in past
outcome_stays later past e = stays judges later past e

-- what a verdict says of the request
passed_by : (name asked : List ℕ) (number : ℕ) (found : Option ℕ) → judged_by asked found ≡ Passed name number → (asked ≡ name) × (found ≡ Some number)
passed_by name asked number None e = absurd cc
passed_by name asked number (Some told) e = (cc, ap Some cc)

refused_by : (name asked : List ℕ) (found : Option ℕ) → judged_by asked found ≡ Refused name → (asked ≡ name) × (found ≡ None)
refused_by name asked None e = (cc, refl)
refused_by name asked (Some told) e = absurd cc

unanswered_by : (asked : List ℕ) (times : ℕ) (found : Option ℕ) → judged_by asked found ≡ Unanswered times → ⊥
unanswered_by asked times None e = absurd cc
unanswered_by asked times (Some told) e = absurd cc

record Decided (past : List Answered) (outcome : AuthOutcome) : Type 0 where
  against : Against
  name : List ℕ
  password : List ℕ
  first : FirstAsks past against name password
  judged_so : judged_by name (passing_line against name password) ≡ outcome

decided_by : (past : List Answered) (outcome : AuthOutcome) → is_waiting outcome ≡ false → outcome_in past ≡ outcome → Decided past outcome
decided_by past outcome known e =
    let r = first_says judges past (ap is_waiting e ∙ known) in
    let is : IsRequest r.0 r.1 = r.2.does in record {
      against = is.against;
      name = is.name;
      password = is.password;
      first = record { call = r.0; earlier = r.1; first = r.2; asks = is.asks };
      judged_so = sym (request_says r.0.call is.against is.name is.password is.asks) ∙ sym r.3 ∙ e;
    }

first_decides : (past : List Answered) (a : Against) (name password : List ℕ) → FirstAsks past a name password → outcome_in past ≡ judged_by name (passing_line a name password)
first_decides past a name password f = said_first judges past f.call f.earlier f.first ∙ request_says f.call.call a name password f.asks

pub passed_first : (past : List Answered) (name : List ℕ) (number : ℕ) → outcome_in past ≡ Passed name number
    → (a : Against) × (password : List ℕ) × FirstAsks past a name password × Passes a name password number
passed_first past name number e =
    let d = decided_by past (Passed name number) refl e in
    let both = passed_by name d.name number _ d.judged_so in (
      d.against,
      d.password,
      subst (λ (n : List ℕ). FirstAsks past d.against n d.password) both.0 d.first,
      subst (λ (n : List ℕ). Passes d.against n d.password number) both.0 (told_passes d.against d.name d.password number both.1),
    )

pub first_passed : (past : List Answered) (name : List ℕ) (number : ℕ) (a : Against) (password : List ℕ) → FirstAsks past a name password
    → Passes a name password number → outcome_in past ≡ Passed name number
first_passed past name number a password f p =
    first_decides past a name password f ∙ ap (judged_by name) (passes_told a name password number p)

pub refused_first : (past : List Answered) (name : List ℕ) → outcome_in past ≡ Refused name
    → (a : Against) × (password : List ℕ) × FirstAsks past a name password × ((number : ℕ) → Passes a name password number → ⊥)
refused_first past name e =
    let d = decided_by past (Refused name) refl e in
    let both = refused_by name d.name _ d.judged_so in (
      d.against,
      d.password,
      subst (λ (n : List ℕ). FirstAsks past d.against n d.password) both.0 d.first,
      subst (λ (n : List ℕ). (number : ℕ) → Passes d.against n d.password number → ⊥) both.0 (none_passes d.against d.name d.password both.1),
    )

pub first_refused : (past : List Answered) (name : List ℕ) (a : Against) (password : List ℕ) → FirstAsks past a name password
    → ((number : ℕ) → Passes a name password number → ⊥) → outcome_in past ≡ Refused name
first_refused past name a password f never =
    first_decides past a name password f ∙ ap (judged_by name) (passes_none a name password never)

pub never_unanswered : (past : List Answered) (times : ℕ) → outcome_in past ≡ Unanswered times → ⊥
never_unanswered past times e =
    let d = decided_by past (Unanswered times) refl e in unanswered_by d.name times _ d.judged_so

-- a run of one call, in which a request is heard
abbrev pub one_request : Against → List ℕ → List ℕ → AuthOutcome → List Answered
one_request a name password outcome =
    record { now = 0; call = hears (record { code = 1; id = 7; body = request_body name password }) a; packet = verdict_packet outcome 7; outcome = outcome } ∷ []

one_request_says : (a : Against) (name password : List ℕ) (outcome : AuthOutcome) → outcome_in (one_request a name password outcome) ≡ judged_by name (passing_line a name password)
one_request_says a name password outcome = ap (judged a) (body_is_read name password)

one_request_runs : (a : Against) (name password : List ℕ) (outcome : AuthOutcome) → judged_by name (passing_line a name password) ≡ outcome
    → AreLawful (one_request a name password outcome) × (outcome_in (one_request a name password outcome) ≡ outcome)
one_request_runs a name password outcome e =
    let is : outcome_in (one_request a name password outcome) ≡ outcome = one_request_says a name password outcome ∙ e in
    let read = body_is_read name password in (
      (
        record {
          outcome = sym is;
          packet = ap (λ o. verdict_packet o 7) (sym is) ∙ sym (ap (λ found. if is_some found then verdict_packet (outcome_in (one_request a name password outcome)) 7 else None) read);
        },
        tt,
      ),
      is,
    )

pub passing_run : (a : Against) (name password : List ℕ) (number : ℕ) → Passes a name password number
    → (past : List Answered) × AreLawful past × (outcome_in past ≡ Passed name number)
passing_run a name password number p =
    let r = one_request_runs a name password (Passed name number) (ap (judged_by name) (passes_told a name password number p)) in
    (one_request a name password (Passed name number), r.0, r.1)

pub refusing_run : (a : Against) (name password : List ℕ) → ((number : ℕ) → Passes a name password number → ⊥)
    → (past : List Answered) × AreLawful past × (outcome_in past ≡ Refused name)
refusing_run a name password never =
    let r = one_request_runs a name password (Refused name) (ap (judged_by name) (passes_none a name password never)) in
    (one_request a name password (Refused name), r.0, r.1)

pub no_line_no_pass : (a : Against) (name password : List ℕ) → line_for a.lines name a.server ≡ None → (number : ℕ) → Passes a name password number → ⊥
no_line_no_pass a name password e number p = let f = p.found in absurd (cc (e, f))

row_line : SecretLine
row_line = record { number = 2; client = codes "bob"; server = codes "srv"; secret = codes "two"; addresses = [] }

row_against : Against
row_against = record { lines = row_line ∷ []; server = codes "srv" }

pub one_passes : (a : Against) × (name : List ℕ) × (password : List ℕ) × Passes a name password 2
unfolding row_line row_against line_for
one_passes = (row_against, codes "bob", codes "two", record { line = row_line; found = refl; right = inr refl; numbered = refl })

pub one_fails : (a : Against) × (name : List ℕ) × (password : List ℕ) × ((number : ℕ) → Passes a name password number → ⊥)
unfolding row_line row_against line_for
one_fails = (row_against, codes "eve", codes "two", no_line_no_pass row_against (codes "eve") (codes "two") refl)

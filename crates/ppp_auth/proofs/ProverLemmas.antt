-- A prover by PAP begins.
use Rattle.std.proofs.Common.{◌≡◌, ℕ, false, ◌&&◌, ◌||◌, cond, List, [], ◌∷◌, Option, Some, None, is_some, refl, ap, ap₂, sym, subst, ◌∙◌}
use Rattle.std.specs.Option.{option_and_then}
use Rattle.ppp_packet.specs.declared.packet.Packet.{Packet}
use Rattle.ppp_packet.specs.declared.agreed.Method.TheVariants.{Pap}
use Rattle.ppp_packet.specs.declared.auth_out.AuthOut.{AuthOut}
use Rattle.ppp_packet.specs.declared.auth_out.AuthOutcome.{AuthOutcome}
use Rattle.ppp_secrets.specs.declared.secrets.SecretsPair.{SecretsPair}
use Rattle.ppp_proving.specs.Calls.{AuthCall, Answered, answered}
use Rattle.ppp_pap.specs.Peer.{PeerState, StandsFor, IsLawful}
use Rattle.ppp_auth.specs.declared.proving.ProverPart.TheVariants as part
use Rattle.ppp_auth.specs.Setting.{Setting, PhaseAt, reaching, first_pair, begun_at, is_late, pair_by, earlier}
use Rattle.ppp_auth.specs.Proved.{secret_in, pap_secret, pap_answers, pap_onto, pap_in, pap_packet, packet_by, prover_waits, prover_lost, prover_sends, ProverStands, ProverAnswers}

abbrev entry : ℕ → AuthCall → Option Packet → AuthOutcome → Answered
entry now call packet outcome = record { now = now; call = call; packet = packet; outcome = outcome }

-- nothing was seen before the beginning
none_seen : (s : Setting) (past : List PhaseAt) → first_pair past ≡ None → pap_in s past ≡ []
none_seen s [] none = refl
none_seen s (c ∷ past) none =
    let known : pap_secret s (c ∷ past) ≡ None = ap (λ p. option_and_then (λ (pair : SecretsPair). secret_in s.config.password s pair) p) none in
    ap (λ x. pap_onto s x c.now (reaching Pap [] (begun_at past) c.call) (pap_in s past)) known

law_for : (s : Setting) (name password : List ℕ) (h : Answered) (past : List Answered) → name ≡ s.config.user → IsLawful name password h past → IsLawful s.config.user password h past
law_for s name password h past n law = subst (λ x. IsLawful x password h past) n law

pub pap_begins : (s : Setting) (c : PhaseAt) (past : List PhaseAt) (pair : SecretsPair) (peer : PeerState) (call : AuthCall) (out : AuthOut) → reaching Pap [] (begun_at past) c.call ≡ Some call → is_late c.call (begun_at past) c.now ≡ false → pair_by c.call ≡ Some pair
    → ProverStands s part.Unbegun past → secret_in s.config.password s pair ≡ Some peer.password → peer.name ≡ s.config.user → StandsFor peer (answered c.now call out ∷ [])
    → ProverAnswers s (part.Pap peer) c past out.packet
pap_begins s c past pair peer call out reach early by (proves, kept, none) known n st =
    let first : first_pair (c ∷ past) ≡ Some pair = ap₂ earlier none by in
    let secret : pap_secret s (c ∷ past) ≡ Some peer.password = ap (λ p. option_and_then (λ (q : SecretsPair). secret_in s.config.password s q) p) first ∙ known in
    let law = law_for s peer.name peer.password (answered c.now call out) [] n st.lawful.0 in
    let same : answered c.now call out ≡ pap_answers s peer.password [] c.now call = ap₂ (λ p o. entry c.now call p o) law.packet law.outcome in
    let list : answered c.now call out ∷ [] ≡ pap_in s (c ∷ past) =
    ap (λ h. h ∷ []) same
    ∙ ap (λ l. pap_answers s peer.password l c.now call ∷ l) (sym (none_seen s past none))
    ∙ ap₂ (λ x r. pap_onto s x c.now r (pap_in s past)) (sym secret) (sym reach) in
    let still : prover_lost (Some Pap) s (c ∷ past) ≡ false =
    ap₂ (λ a b. a || (b && prover_waits Pap s past)) kept early in
    record {
      stands = (proves, still, ap (λ p. is_some p) first, secret, n, subst (λ l. StandsFor peer l) list st);
      sends = law.packet
          ∙ ap (λ l. pap_packet s (Some peer.password) c.now (Some call) l) (sym (none_seen s past none))
          ∙ ap₂ (λ x r. pap_packet s x c.now r (pap_in s past)) (sym secret) (sym reach)
          ∙ sym (ap (λ b. cond b None (packet_by Pap s c past)) still)
          ∙ sym (ap (λ m. prover_sends m s c past) proves);
    }

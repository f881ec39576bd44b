-- What is thought of each option of a peer's Configure-Request (RFC 1661, section 6, and RFC 1990, section 5.1).
use Rattle.std.specs.Prelude.{ℕ, ◌+◌, ◌*◌, ◌==◌, nat_le, not, ◌&&◌, ◌||◌, Bool, if◌then◌else◌, List, [], ◌∷◌, length, slice_index}
use Rattle.std.specs.Int.{from_be_bytes, to_be_bytes, w32}
use Rattle.ppp_base.specs.declared.mrru.TheConstants.{LEAST_MRRU, LEAST_MRU}
use Rattle.ppp_packet.specs.OptionsOf.{Item}
use Rattle.ppp_control.specs.Answers.{Judgement, acks, names, rejects}
use Rattle.ppp_lcp.specs.declared.wish.LcpWish.{LcpWish}

-- the numbers that two and four octets are
abbrev pub number2 : List ℕ → ℕ
number2 body = slice_index body 0 * 256 + slice_index body 1

abbrev pub number4 : List ℕ → ℕ
number4 body = from_be_bytes w32 (slice_index body 0 ∷ slice_index body 1 ∷ slice_index body 2 ∷ slice_index body 3 ∷ [])

-- the data by which CHAP with MD5, and PAP, are asked for
abbrev pub is_chap : List ℕ → Bool
is_chap body = length body == 3 && slice_index body 0 == 0xc2 && slice_index body 1 == 0x23 && slice_index body 2 == 0x05

abbrev pub is_pap : List ℕ → Bool
is_pap body = length body == 2 && slice_index body 0 == 0xc0 && slice_index body 1 == 0x23

abbrev pub chap_body : List ℕ
chap_body = 0xc2 ∷ 0x23 ∷ 0x05 ∷ []

abbrev pub pap_body : List ℕ
pap_body = 0xc0 ∷ 0x23 ∷ []

-- acknowledged where this holds, and else rejected
abbrev pub acked_if : Bool → Judgement
acked_if test = if test then acks else rejects

abbrev pub mru_judged : List ℕ → Judgement
mru_judged body = if length body == 2 then (if nat_le LEAST_MRU (number2 body) then acks else names (0 ∷ 128 ∷ [])) else rejects

abbrev pub authentication_judged : LcpWish → List ℕ → Judgement
authentication_judged wish body =
    if nat_le 2 (length body) && not (wish.refuse_pap && wish.refuse_chap)
    then (if (is_chap body && not wish.refuse_chap) || (is_pap body && not wish.refuse_pap) then acks else names (if wish.refuse_chap then pap_body else chap_body))
    else rejects

-- `word` is the four octets of the number that a Nak carries
abbrev pub magic_judged : LcpWish → ℕ → List ℕ → List ℕ → Judgement
magic_judged wish ours word body =
    if length body == 4 && wish.magic
    then (if number4 body == 0 || number4 body == ours then names word else acks)
    else rejects

abbrev pub mrru_judged : Bool → List ℕ → Judgement
mrru_judged multilink body = if length body == 2 && multilink then (if nat_le LEAST_MRRU (number2 body) then acks else names (0x05 ∷ 0xdc ∷ [])) else rejects

-- The table: MRU 1, ACCM 2, Authentication-Protocol 3, Magic-Number 5, PFC 7, ACFC 8, MRRU 17 and Endpoint
-- Discriminator 19. All others are rejected.
abbrev pub octets_judged : LcpWish → Bool → ℕ → List ℕ → Item → Judgement
octets_judged wish multilink ours word i =
    if i.kind == 1 then mru_judged i.body
    else if i.kind == 2 then acked_if (length i.body == 4)
    else if i.kind == 3 then authentication_judged wish i.body
    else if i.kind == 5 then magic_judged wish ours word i.body
    else if i.kind == 7 then acked_if (length i.body == 0 && wish.pfc)
    else if i.kind == 8 then acked_if (length i.body == 0 && wish.acfc)
    else if i.kind == 17 then mrru_judged multilink i.body
    else if i.kind == 19 then acked_if (nat_le 1 (length i.body) && nat_le (length i.body) 21 && multilink)
    else rejects

-- `multilink` holds where we ask for it and it hasn't been rejected; `ours` is our magic number, 0 where we have none
abbrev pub judged_where : LcpWish → Bool → ℕ → ℕ → Item → Judgement
judged_where wish multilink ours word i = octets_judged wish multilink ours (to_be_bytes w32 word) i

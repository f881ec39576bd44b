-- The worked rows, of the definitions alone: no code has a part in them.
use Rattle.std.proofs.Common.{◌≡◌, ℕ, zero, suc, ◌+◌, ◌<◌, true, false, List, [], Some, None, ◌∷◌, take, drop, refl, arith, lit≤}
use Rattle.ppp_hdlc.specs.declared.fault.FrameFault.TheVariants.{Aborted, Short, BadFcs}
use Rattle.ppp_hdlc.specs.declared.heard.Heard.TheVariants.{Nothing, Frame, Dropped}
use Rattle.ppp_hdlc.specs.Residue.{bits, number, plus, zeros, divisor, bring_down, remainder, with_first_complemented, Residue, word_of, fcs_of}
use Rattle.ppp_hdlc.specs.Frames.{Frames, unescaped, ends_escaping, answer, stamped, told, content}
use Rattle.ppp_hdlc.specs.Deframing.{Deframing, fresh, fed, heard_at}
use Rattle.ppp_hdlc.specs.Spans.{IsSpan, fed_all, heard_in}
use Rattle.ppp_hdlc.specs.Encoding.{encoding, enclosed, flagged, escaped, with_fcs, fcs_octets, body}

digits : fcs_of (0x31 ∷ 0x32 ∷ 0x33 ∷ 0x34 ∷ 0x35 ∷ 0x36 ∷ 0x37 ∷ 0x38 ∷ 0x39 ∷ []) ≡ 0x906e
unfolding Residue bits number plus zeros divisor bring_down remainder with_first_complemented
digits = refl

all_escaped : encoding (record { map = 0xffff_ffff; pfc = false; acfc = false }) 0x21 (0x7e ∷ [])
    ≡ 0x7e ∷ 0xff ∷ 0x7d ∷ 0x23 ∷ 0x7d ∷ 0x20 ∷ 0x21 ∷ 0x7d ∷ 0x5e ∷ 0xf2 ∷ 0xbf ∷ 0x7e ∷ []
unfolding enclosed flagged escaped with_fcs fcs_octets body Residue bits number plus zeros divisor bring_down remainder with_first_complemented
all_escaped = refl

frame : List ℕ
frame = 0x7e ∷ 0xff ∷ 0x03 ∷ 0x00 ∷ 0x21 ∷ 0x7d ∷ 0x5e ∷ 0xf2 ∷ 0xbf ∷ 0x7e ∷ []

none_escaped : encoding (record { map = 0; pfc = false; acfc = false }) 0x21 (0x7e ∷ []) ≡ frame
unfolding frame enclosed flagged escaped with_fcs fcs_octets body Residue bits number plus zeros divisor bring_down remainder with_first_complemented
none_escaped = refl

heard : Frames (stamped 0 frame) ≡ Nothing ∷ Frame 0x21 (0x7e ∷ []) ∷ []
unfolding frame Frames answer unescaped ends_escaping Residue bits number plus zeros divisor bring_down remainder with_first_complemented
heard = refl

heard_wrongly : Frames (stamped 0xffff_ffff frame) ≡ Nothing ∷ Dropped BadFcs ∷ []
unfolding frame Frames answer unescaped ends_escaping Residue bits number plus zeros divisor bring_down remainder with_first_complemented
heard_wrongly = refl

broken : List ℕ
broken = 0x7e ∷ 0x7e ∷ 0x7d ∷ 0x7e ∷ 0x41 ∷ 0x42 ∷ 0x43 ∷ 0x7e ∷ []

broken_heard : Frames (stamped 0 broken) ≡ Nothing ∷ Nothing ∷ Dropped Aborted ∷ Dropped Short ∷ []
unfolding broken Frames answer unescaped ends_escaping Residue bits number plus zeros divisor bring_down remainder with_first_complemented
broken_heard = refl

broken_told : told (stamped 0 broken) ≡ Dropped Aborted ∷ Dropped Short ∷ []
unfolding told broken Frames answer unescaped ends_escaping Residue bits number plus zeros divisor bring_down remainder with_first_complemented
broken_told = refl

-- What a part's octets are, two of check sum behind them: with and without address and control, a protocol of one octet and of two; an even
-- octet behind an even one is no protocol, and neither is ff.
whole_header : content (0xff ∷ 0x03 ∷ 0x00 ∷ 0x21 ∷ 0x45 ∷ 0 ∷ 0 ∷ []) ≡ Some (0x0021, 0x45 ∷ [])
whole_header = refl

short_protocol : content (0xff ∷ 0x03 ∷ 0x21 ∷ 0x45 ∷ 0 ∷ 0 ∷ []) ≡ Some (0x0021, 0x45 ∷ [])
short_protocol = refl

no_address : content (0xc0 ∷ 0x21 ∷ 0x45 ∷ 0 ∷ 0 ∷ []) ≡ Some (0xc021, 0x45 ∷ [])
no_address = refl

protocol_alone : content (0x21 ∷ 0 ∷ 0 ∷ []) ≡ Some (0x0021, [])
protocol_alone = refl

two_even : content (0xff ∷ 0x03 ∷ 0xc0 ∷ 0x22 ∷ 0 ∷ 0 ∷ []) ≡ None
two_even = refl

no_protocol : content (0xff ∷ 0x03 ∷ 0 ∷ 0 ∷ []) ≡ None
no_protocol = refl

ff_first : content (0xff ∷ 0x21 ∷ 0 ∷ 0 ∷ []) ≡ None
ff_first = refl

ff_behind_address : content (0xff ∷ 0x03 ∷ 0xff ∷ 0x03 ∷ 0x21 ∷ 0 ∷ 0 ∷ []) ≡ None
ff_behind_address = refl

-- The same by spans: each octet's answer, of a deframer at the beginning whose map is 0.
begun : Deframing
begun = record fresh { map = 0 }

-- the first four octets are one span, which ends with the escape before its flag
first_span : IsSpan broken begun 4 (Dropped Aborted)
unfolding broken begun fed_all fed heard_at Residue bits number plus zeros divisor bring_down remainder with_first_complemented
first_span = record {
  within = lit≤ tt;
  before = before;
  last = last;
  none = λ zero. absurd (omega (arith, zero));
  all = λ nothing. absurd (cc);
}
  where
    before : (index : ℕ) → index + 1 < 4 → heard_in broken begun index ≡ Nothing
    before zero below = refl
    before (suc zero) below = refl
    before (suc (suc zero)) below = refl
    before (suc (suc (suc index))) below = absurd (omega arith)

    last : (index : ℕ) → index + 1 ≡ 4 → heard_in broken begun index ≡ Dropped Aborted
    last index is_last = let third : index ≡ 3 = omega arith in rw third refl

-- the others are one too
others_are_short : heard_in broken begun 7 ≡ Dropped Short
unfolding broken begun fed_all fed heard_at Residue bits number plus zeros divisor bring_down remainder with_first_complemented
others_are_short = refl

-- a frame in two spans: the first leaves an escape, and the second ends with the frame
frame_waits : (fed_all (take 6 frame) begun).is_escaping ≡ true
unfolding frame begun fed_all fed
frame_waits = refl

frame_ends : heard_in (drop 6 frame) (fed_all (take 6 frame) begun) 3 ≡ Frame 0x21 (0x7e ∷ [])
unfolding frame begun fed_all fed heard_at Residue bits number plus zeros divisor bring_down remainder with_first_complemented
frame_ends = refl

-- the words of the octets 1 and 255 in the table of RFC 1662, C.2
one_word : word_of (1 ∷ []) ≡ 0x1189
unfolding word_of bits number plus zeros divisor bring_down remainder
one_word = refl

last_word : word_of (255 ∷ []) ≡ 0x0f78
unfolding word_of bits number plus zeros divisor bring_down remainder
last_word = refl

-- Octets as digits, one after another.
use Rattle.std.proofs.Common.{◌≡◌, ◌∙◌, ap, sym, append_assoc, length-append, arith, ℕ, ◌+◌, ◌<◌, ◌≤◌, ◌/◌, ◌%◌, List, [], ◌∷◌, ◌++◌, drop, get_or, length}
use Rattle.std.proofs.lemmas.List.{drop_more}
use Rattle.ppp_base.specs.Hex.{lower_digit}
use Rattle.ppp_base.specs.declared.send_settings.SendSettings.{SendSettings}
use Rattle.ppp_hdlc.specs.Encoding.{body, enclosed, encoding, escaped, flagged, settings_for, with_fcs}
use Rattle.ppp_trace.specs.MadeTrace.{hex_text}

pub hex_more : (line octets whole : List ℕ) (i : ℕ) → i < length octets → line ++ hex_text (drop i octets) ≡ whole
    → (line ++ (lower_digit (get_or octets i 0 / 16) ∷ lower_digit (get_or octets i 0 % 16) ∷ [])) ++ hex_text (drop (i + 1) octets) ≡ whole
hex_more line octets whole i below so_far =
    let digits : List ℕ = lower_digit (get_or octets i 0 / 16) ∷ lower_digit (get_or octets i 0 % 16) ∷ [] in
    append_assoc line digits (hex_text (drop (i + 1) octets)) ∙ ap (λ left. line ++ hex_text left) (sym (drop_more octets i 0 below)) ∙ so_far

long : (xs : List ℕ) (x y : ℕ) → 2 ≤ length (x ∷ (xs ++ y ∷ []))
long xs x y = omega (arith, length-append xs (y ∷ []))

-- A frame has its two flags.
pub encoding_long : (settings : SendSettings) (protocol : ℕ) (information : List ℕ) → 2 ≤ length (encoding settings protocol information)
unfolding enclosed flagged
encoding_long settings protocol information =
    let used = settings_for settings protocol information in
    long (escaped used.map (with_fcs (body used protocol information))) 0x7e 0x7e

-- When the octets between two flags are a frame.
use Rattle.std.specs.Prelude.{◌≡◌, ℕ, ◌≤◌, false, List, length, Some}
use Rattle.ppp_base.specs.declared.octets.TheConstants.{MOST_FRAME}
use Rattle.ppp_hdlc.specs.Frames.{unescaped, ends_escaping, content}
use Rattle.ppp_hdlc.specs.Residue.{Residue, good_residue}

-- These octets, still escaped, are a frame with this protocol and information.
pub record IsRight (part : List ℕ) (protocol : ℕ) (information : List ℕ) : Type 0 where
  pub is_whole : ends_escaping part ≡ false
  pub is_long : 4 ≤ length (unescaped part)
  pub is_short : length (unescaped part) ≤ MOST_FRAME
  pub fcs_is_right : Residue (unescaped part) ≡ good_residue
  pub content_is : content (unescaped part) ≡ Some (protocol, information)

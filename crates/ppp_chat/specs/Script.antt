-- What a script is (chat(8), "Chat script"): directives, and pairs of an expect and a send.
use Rattle.std.specs.Prelude.{ℕ, List, [], ◌∷◌}
pub use Rattle.ppp_chat.specs.declared.directive.Directive.{Directive}

-- a part of a send: octets, or a delay of so many milliseconds
pub data SendPart : Type 0 where
  Octets : List ℕ → SendPart
  Delay : ℕ → SendPart

-- what is sent where an expect is late, and the string that is expected then
pub record Instead : Type 0 where
  pub send : List SendPart
  pub text : List ℕ

-- an expect, as a-s-b: the string a, and what follows a timeout, s and b
pub record Expected : Type 0 where
  pub text : List ℕ
  pub instead : List Instead

-- A directive, or a pair. Where a script's last send is missing, nothing is sent.
pub data Item : Type 0 where
  Directs : Directive → Item
  Pair : Expected → List SendPart → Item

-- a script, and the seconds after which an expect is late where no directive says others
pub record ChatScript : Type 0 where
  pub items : List Item
  pub timeout_s : ℕ

-- the directives among items
abbrev pub directives_of : List Item → List Directive
directives_of [] = []
directives_of (Directs directive ∷ items) = directive ∷ directives_of items
directives_of (Pair expected send ∷ items) = directives_of items

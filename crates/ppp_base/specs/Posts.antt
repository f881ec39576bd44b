-- The numbers of refusals and of ends, as marks have them.
use Rattle.std.specs.Prelude.{ℕ}
use Rattle.ppp_base.specs.declared.posts.Refusal.{Refusal}
use Rattle.ppp_base.specs.declared.posts.Refusal.TheVariants.{Unlike, UnitTaken, NoRoom}
use Rattle.ppp_base.specs.declared.posts.CloseCause.{CloseCause}
use Rattle.ppp_base.specs.declared.posts.CloseCause.TheVariants.{Idle, ConnectTime, IpcpFailed, EndedByPeer, TooManyChanges}

abbrev pub refusal_number : Refusal → ℕ
refusal_number Unlike = 1
refusal_number UnitTaken = 2
refusal_number NoRoom = 3

abbrev pub cause_number : CloseCause → ℕ
cause_number Idle = 12
cause_number ConnectTime = 13
cause_number IpcpFailed = 14
cause_number EndedByPeer = 15
cause_number TooManyChanges = 16

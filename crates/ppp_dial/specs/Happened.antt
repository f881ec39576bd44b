-- What happened to a dial: a list of its calls, each with its answer, the newest first.
use Rattle.std.specs.Prelude.{ℕ}
use Rattle.ppp_dial.specs.declared.call.CallKind.{CallKind}
use Rattle.ppp_dial.specs.declared.now.DialNow.{DialNow}

-- A call, with its moment in milliseconds and the room that the link's log had left. Those of a Stop say nothing.
pub record DialCall : Type 0 where
  pub kind : CallKind
  pub at : ℕ
  pub room : ℕ

-- The marks of a link's log are such a list too. `attempt`, `hold`, `wait` and `finished` are answers, each at its mark's moment: behind `over` to
-- SessionOver, with the end that this mark and the cause before it tell; in a hold behind a hang-up signal to Hup, and without one to Tick; behind
-- a signal to stop, unless a session is under way, to Stop; in a wait to Wake; and the first of all to Start. A signal to stop while a session is under
-- way is a Stop answered Nothing, also where the session has a cause already. No other call that was answered Nothing has a mark, nor needs one: the
-- law holds without it.
pub record Happened : Type 0 where
  pub call : DialCall
  pub answer : DialNow

abbrev pub asked : CallKind → ℕ → ℕ → DialCall
asked kind at room = record { kind = kind; at = at; room = room }

-- a call with its answer
abbrev pub happened : CallKind → ℕ → ℕ → DialNow → Happened
happened kind at room answer = record { call = asked kind at room; answer = answer }

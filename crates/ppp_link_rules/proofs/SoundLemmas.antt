-- What is true of links with no marks of scripts.
use Rattle.std.proofs.Common.{refl, ap, ◌≡◌, ◌≢◌, Bool, true, false, List, [], ◌∷◌, ◌++◌, inl}
use Rattle.std.proofs.lemmas.Bool.{false≢true}
use Rattle.ppp_hooks.specs.HookLaw.{HookLaw}
use Rattle.ppp_hooks.specs.HookMark.{HookMark}
use Rattle.ppp_hooks.specs.Settled.{Settled}
use Rattle.ppp_link_rules.specs.Marks.{Doing, New, Dials, HasLine, IsOver, Waits, is_new}

pub none_behind : (before : List HookMark) (mark : HookMark) (after : List HookMark) → [] ≡ before ++ mark ∷ after → ⊥
none_behind [] mark after e = cc e
none_behind (b ∷ before) mark after e = cc e

pub no_marks_law : HookLaw 0 []
no_marks_law = record { alternate = tt; places = λ before after mark e. absurd (none_behind before mark after e) }

pub no_marks_settled : Settled [] false
no_marks_settled = record { while_open = λ is. absurd (false≢true is); while_closed = λ is none. inl refl }

abbrev pub is_just_over : Doing → Bool
is_just_over IsOver = true
is_just_over _ = false

pub new_not_over : New ≢ IsOver
new_not_over e = false≢true (ap is_just_over e)

pub line_not_over : HasLine ≢ IsOver
line_not_over e = false≢true (ap is_just_over e)

pub dials_not_new : Dials ≢ New
dials_not_new e = false≢true (ap is_new e)

abbrev pub is_waits : Doing → Bool
is_waits Waits = true
is_waits _ = false

pub new_not_waits : New ≢ Waits
new_not_waits e = false≢true (ap is_waits e)

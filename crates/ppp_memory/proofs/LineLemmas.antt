-- What one read of a line in memory does to what it tells.
use Rattle.std.proofs.Common.{◌≡◌, ℕ, ◌≤◌, List, [], ◌∷◌, ◌++◌, length, take, drop, Option, Some, None, Bool, true, false, ◌||◌, if◌then◌else◌, ◌∙◌, ap, sym, subst, refl, rules, arith}
use Rattle.std.proofs.lemmas.List.{take-append-drop, length-append, length-drop, length-take-le, take_at}
use Rattle.ppp_outside.specs.Contents.{GrowsBy, GrowsWhereTold}
use Rattle.ppp_outside.specs.Counts.{raised}
use Rattle.ppp_outside.specs.Line.{ReadsLine}
use Rattle.ppp_outside.specs.declared.line_in.LineAnswer.{LineAnswer}
use Rattle.ppp_outside.specs.declared.line_in.LineAnswer.TheVariants as one
use Rattle.ppp_outside.specs.declared.line_in.LineGot.{LineGot}
use Rattle.ppp_outside.specs.declared.line_in.LineGot.TheVariants as got
use Rattle.ppp_memory.specs.Line.{CanAnswer, LineInMemory, after_read, buffer_with, is_full, state_of}

-- the answers that are told
abbrev pub told : Bool → List LineAnswer → Option (List LineAnswer)
told overrun answers = if overrun then None else Some answers

true_is_not_false : true ≡ false → ⊥
true_is_not_false same = cc

-- the answers that are told after one more, where there was room
grows : (overrun full : Bool) (answers : List LineAnswer) (answer : LineAnswer) → full ≡ false → GrowsBy (answer ∷ []) (told overrun answers) (told (overrun || full) (if full then answers else answers ++ answer ∷ []))
grows false false answers answer room = refl
grows true false answers answer room = refl
grows false true answers answer room = absurd (true_is_not_false room)
grows true true answers answer room = absurd (true_is_not_false room)

-- and where there may have been none
grows_where_told : (overrun full : Bool) (answers : List LineAnswer) (answer : LineAnswer) → GrowsWhereTold (answer ∷ []) (told overrun answers) (told (overrun || full) (if full then answers else answers ++ answer ∷ []))
grows_where_told false false answers answer = refl
grows_where_told true false answers answer = tt
grows_where_told false true answers answer = tt
grows_where_told true true answers answer = tt

pub reads_line : (s : LineInMemory) (answer : LineGot) (buf : List ℕ) → CanAnswer s answer (length buf) → ReadsLine (state_of s) (state_of (after_read s answer)) answer (buffer_with answer s.left buf)
reads_line s (got.Got n) buf can =
    let within : n ≤ length s.left = can.2 in
    let size : length (take n s.left) ≡ n = length-take-le n s.left within in
    let front : take n (take n s.left ++ drop n buf) ≡ take n s.left = take_at (take n s.left) (drop n buf) n size in
    record {
      fits = (can.0, omega (arith, can.1, size, length-append (take n s.left) (drop n buf), length-drop n buf));
      left = rw front (sym (take-append-drop n s.left));
      ends_empty = tt;
      taken = ap (λ k. raised s.taken k) (sym (ap length front ∙ size));
      faults = refl;
      quiets = refl;
      ends = refl;
      answers =
          subst
          (λ (octets : List ℕ). GrowsBy (one.Got octets ∷ []) (told s.overrun s.answers) (told (s.overrun || is_full s) (if is_full s then s.answers else s.answers ++ one.Got (take n s.left) ∷ [])))
          (sym front)
          (grows s.overrun (is_full s) s.answers (one.Got (take n s.left)) can.3);
    }
reads_line s got.Quiet buf can = record {
  fits = tt;
  left = refl;
  ends_empty = tt;
  taken = search rules;
  faults = refl;
  quiets = refl;
  ends = refl;
  answers = grows s.overrun (is_full s) s.answers one.Quiet can;
}
reads_line s got.End buf can = record {
  fits = tt;
  left = refl;
  ends_empty = can.0;
  taken = search rules;
  faults = refl;
  quiets = refl;
  ends = refl;
  answers = grows s.overrun (is_full s) s.answers one.End can.1;
}
reads_line s got.Failed buf can = record {
  fits = tt;
  left = refl;
  ends_empty = tt;
  taken = search rules;
  faults = search rules;
  quiets = refl;
  ends = refl;
  answers = grows_where_told s.overrun (is_full s) s.answers one.Failed;
}

-- Texts that are put one after another.
use Rattle.std.proofs.Common.{◌≡◌, ℕ, ◌+◌, ◌≤◌, List, [], ◌++◌, length, Bool, true, false, ◌∙◌, ap, sym, arith, append_assoc, append-nil}
use Rattle.std.specs.Bool.{OnFalse, OnTrue}
use Rattle.std.proofs.KnownBytes.{Appends-trans}
use Rattle.std.proofs.Math.Seq.{take-append-add}
use Rattle.std.proofs.lemmas.List.{length-append, take-append-le}
use Rattle.ppp_outside.specs.Sink.{SinkState}
use Rattle.ppp_outside.specs.Writing.{Breaks, Writes, HowPut, Pending, Puts, fresh}

-- one text after another
pub writes_then : (old mid new : SinkState) (xs ys : List ℕ) → Writes old mid xs → Writes mid new ys → Writes old new (xs ++ ys)
writes_then old mid new xs ys p q = record { whole = Appends-trans _ _ _ _ _ p.whole q.whole; sound = q.sound ∙ p.sound }

-- A front of the first text is a front of both.
pub breaks_first : (old new : SinkState) (xs ys : List ℕ) → Breaks old new xs → Breaks old new (xs ++ ys)
breaks_first old new xs ys broken =
    let within : broken.count ≤ length xs = broken.within in
    record {
      count = broken.count;
      within = omega (arith, length-append xs ys);
      front = rw (take-append-le broken.count xs ys within) broken.front;
      fault = broken.fault;
    }

-- The first text, and a front of the second, are a front of both.
pub breaks_second : (old mid new : SinkState) (xs ys : List ℕ) → Writes old mid xs → Breaks mid new ys → Breaks old new (xs ++ ys)
breaks_second old mid new xs ys wrote broken = record {
  count = length xs + broken.count;
  within = omega (arith, broken.within, length-append xs ys);
  front = rw take-append-add (Appends-trans _ _ _ _ _ wrote.whole broken.front);
  fault = rw (← wrote.sound) broken.fault;
}

how_then : (a b c : Bool) (u v w : List ℕ) (old mid new : SinkState) (xs ys : List ℕ) → HowPut a b u v old mid xs → HowPut b c v w mid new ys → HowPut a c u w old new (xs ++ ys)
how_then true true true u v w old mid new xs ys p q = (
  p.0 ++ q.0,
  writes_then old mid new p.0 q.0 p.1 q.1,
  append_assoc p.0 q.0 w ∙ ap (λ t. p.0 ++ t) q.2 ∙ sym (append_assoc p.0 v ys) ∙ ap (λ t. t ++ ys) p.2 ∙ append_assoc u xs ys,
)
how_then true true false u v w old mid new xs ys p q =
    let is : p.0 ++ (v ++ ys) ≡ u ++ (xs ++ ys) = sym (append_assoc p.0 v ys) ∙ ap (λ t. t ++ ys) p.2 ∙ append_assoc u xs ys in
    rw is at (breaks_second old mid new p.0 (v ++ ys) p.1 q)
how_then true false true u v w old mid new xs ys p q = absurd q
how_then true false false u v w old mid new xs ys p q = rw q (rw append_assoc at (breaks_first old mid (u ++ xs) ys p))
how_then false true c u v w old mid new xs ys p q = absurd p
how_then false false true u v w old mid new xs ys p q = absurd q
how_then false false false u v w old mid new xs ys p q = q ∙ p

-- one text, and then another
pub puts_then : {before between after : Pending} {old mid new : SinkState} {xs ys : List ℕ} → Puts before between old mid xs → Puts between after mid new ys → Puts before after old new (xs ++ ys)
puts_then {before} {between} {after} {old} {mid} {new} {xs} {ys} p q =
    record { how = how_then before.sound between.sound after.sound before.waiting between.waiting after.waiting old mid new xs ys p.how q.how }

-- Where nothing waited before and nothing waits now, the text was written whole or broke off.
pub whole_put : (old new : SinkState) (text : List ℕ) → Puts fresh (record { waiting = []; sound = true }) old new text → Writes old new text
whole_put old new text put = rw (sym (append-nil put.how.0) ∙ put.how.2) at put.how.1

pub part_put : (old new : SinkState) (text : List ℕ) → Puts fresh (record { waiting = []; sound = false }) old new text → Breaks old new text
part_put old new text put = put.how

pub all_put : (result : Bool) (old new : SinkState) (text : List ℕ) → Puts fresh (record { waiting = []; sound = result }) old new text → OnTrue result (Writes old new text) × OnFalse result (Breaks old new text)
all_put true old new text put = (whole_put old new text put, tt)
all_put false old new text put = (tt, part_put old new text put)

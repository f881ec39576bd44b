use Rattle.std.proofs.Common.{◌≡◌, ◌-◌, ◌≤◌, length, take, drop, sym, ◌∙◌, arith}
use Rattle.std.proofs.Math.Seq.{take-add, take-length}
use Rattle.std.proofs.lemmas.List.{length-drop}
use Rattle.std.proofs.KnownBytes.{Appends-trans}
use Rattle.ppp_outside.proofs.TakenLemmas.{after_failed, after_took, at_end}
use Rattle.ppp_link.proofs.writing.write_out.Goals as goal

pub writing-preserved : goal.writing-preserved
writing-preserved g c =
    let octets = c.args.octets.now in
    let at = c.writing.at in
    let rest : length octets - at ≡ length (drop at octets) = sym (length-drop at octets) in
    let fits : c.in-Took.count ≤ length (drop at octets) = rw (rest, take-length) at c.in-Took.ensures.fits.0 in
    record {
      within = omega (arith, length-drop at octets);
      untouched = λ none. absurd (omega (arith, fits, c.in-Took.ensures.fits.1, none));
      as_told = after_took (g.O.Sink.coming c.writing.output) (g.O.Sink.coming c.args.output.now) at (length octets) c.in-Took.count (take (length octets - at) (drop at octets)) c.writing.invariant.untouched c.writing.invariant.as_told (omega arith) (omega (arith, length-drop at octets, rest)) c.in-Took.ensures.as_told;
      front = record {
        whole = rw take-add (Appends-trans _ _ _ _ _ c.writing.invariant.front.whole (rw (rest, take-length) at c.in-Took.ensures.written));
        sound = c.in-Took.ensures.faults ∙ c.writing.invariant.front.sound;
      };
    }

pub returns-in-Failed-clause-as_told : goal.returns-in-Failed-clause-as_told
returns-in-Failed-clause-as_told g c =
    let octets = c.args.octets.now in
    let at = c.writing.at in
    after_failed (g.O.Sink.coming c.writing.output) (g.O.Sink.coming c.args.output.now) at octets (take (length octets - at) (drop at octets)) c.writing.invariant.untouched c.writing.invariant.as_told (omega arith) c.in-Failed.ensures.as_told

pub returns-clause-as_told : goal.returns-clause-as_told
returns-clause-as_told g c = at_end (g.O.Sink.coming c.args.output.now) c.writing.at c.args.octets.now c.writing.invariant.as_told (omega arith)

-- What an answer does to what a real line tells.
use Rattle.std.proofs.Common.{ℕ, List, sym, ap, refl, rules}
use Rattle.std.proofs.lemmas.List.{length-take-le}
use Rattle.ppp_outside.specs.Counts.{raised}
use Rattle.ppp_outside.specs.Line.{FitsBuffer, ReadsLine}
use Rattle.ppp_outside.specs.declared.line_in.LineGot.{LineGot}
use Rattle.ppp_outside.specs.declared.line_in.LineGot.TheVariants as got
use Rattle.ppp_real.specs.Line.{after_answer, state_of}
use Rattle.ppp_real.specs.declared.line_counts.LineCounts.{LineCounts}

pub reads_line : (c : LineCounts) (answer : LineGot) (buf : List ℕ) → FitsBuffer answer buf → ReadsLine (state_of c) (state_of (after_answer c answer)) answer buf
reads_line c (got.Got n) buf fits = record {
  fits = fits;
  left = tt;
  ends_empty = tt;
  taken = ap (λ k. raised c.taken k) (sym (length-take-le n buf fits.1));
  faults = refl;
  quiets = refl;
  ends = refl;
  answers = refl;
}
reads_line c got.Quiet buf fits = record {
  fits = tt;
  left = tt;
  ends_empty = tt;
  taken = search rules;
  faults = refl;
  quiets = refl;
  ends = refl;
  answers = refl;
}
reads_line c got.End buf fits = record {
  fits = tt;
  left = tt;
  ends_empty = tt;
  taken = search rules;
  faults = refl;
  quiets = refl;
  ends = refl;
  answers = refl;
}
reads_line c got.Failed buf fits = record {
  fits = tt;
  left = tt;
  ends_empty = tt;
  taken = search rules;
  faults = search rules;
  quiets = refl;
  ends = refl;
  answers = tt;
}

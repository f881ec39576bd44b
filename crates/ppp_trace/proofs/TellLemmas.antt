-- What the readers of a full trace's parts tell.
use Rattle.std.proofs.Common.{◌≡◌, ◌≢◌, ℕ, ◌+◌, ◌<◌, ◌≤◌, ◌^◌, min, drop, List, [], ◌∷◌, length, Option, None, Some, Result, Ok, Err, refl, ap, sym, subst, ◌∙◌, arith, inl, inr, length-append, codes}
use Rattle.ppp_mark.specs.Lines.{lines_of}
use Rattle.ppp_secrets.specs.Reading.{secrets_of}
use Rattle.ppp_option_words.specs.ConfigValues.{ConfigValues}
use Rattle.ppp_secrets.specs.SecretLine.{SecretLine}
use Rattle.ppp_trace.specs.FirstFault.{NotBehind, rank}
use Rattle.ppp_trace.specs.FullFault.{AreNoOptions, AreNoSecrets, InChap, InOptions, InPap, HasFullFault, InSection, IsAt, IsErr, IsFirst, IsWrongStep, full_line, links_in, options_in}
use Rattle.ppp_trace.specs.FullTrace.{FirstLong, IsLong, Line, text_of}
use Rattle.ppp_trace.specs.Parts.{IsWhole, Tells, TellsLong, TellsOptions, TellsSecrets}
use Rattle.ppp_trace.specs.Sections.{StartsWith, TellsStart, There}
use Rattle.ppp_trace.specs.declared.TheConstants.{MOST_OCTETS}
use Rattle.ppp_trace.specs.declared.fault.BadTrace.{BadTrace}
use Rattle.ppp_trace.specs.declared.fault.FaultKind.{FaultKind}
use Rattle.ppp_trace.specs.declared.fault.FaultKind.TheVariants as kind
use Rattle.ppp_trace.specs.declared.fault.TraceFault.{TraceFault}
use Rattle.ppp_trace.specs.declared.fault.TraceFault.TheVariants as fault
use Rattle.ppp_trace.specs.declared.sections.Section.{Section}
use Rattle.ppp_trace.proofs.FaultLemmas.{Later, behind_first, later_in, long_first, start_first, wrong_first}
use Rattle.ppp_trace.proofs.SectionLemmas.{long_within}

-- ---- one section

pub start_tells : (name : Line) (k : FaultKind) (Wrong : List Line → Type 0) (Next : List Line → ℕ → List Line → BadTrace → Type 0) → Later Next → 4 ≤ rank k
    → (n : ℕ) (lines : List Line) (told : TraceFault) → TellsStart name n lines told → Tells (InSection name k Wrong Next n lines) told
start_tells name k Wrong Next later high n lines (fault.Bad bad) start = start_first name k Wrong Next later high n lines bad start
start_tells name k Wrong Next later high n lines (fault.NoMemory memory) start = tt

-- The section's own line isn't too long.
short_line : (line : Line) (own : List Line) (long : Option ℕ) → FirstLong (line ∷ own) long → long ≢ Some 0 → IsLong (line ∷ own) 0 → ⊥
short_line line own None first other is = first 0 is
short_line line own (Some place) first other is = other (ap Some (zero_is place (first.1 0 is)))
  where
    zero_is : (p : ℕ) → p ≤ 0 → p ≡ 0
    zero_is p low = omega (arith, low)

lines_size : (name : Line) (lines : List Line) (line : Line) (own others : List Line) → There name lines line own others → length lines ≡ 1 + (length own + length others)
lines_size name lines line own others t = omega (arith, ap length t.text, length-append own others)

pub wrong_tells : (name : Line) (k : FaultKind) (Wrong : List Line → Type 0) (Next : List Line → ℕ → List Line → BadTrace → Type 0) → Later Next
    → (n : ℕ) (lines : List Line) (s : Section) (bad : BadTrace) → (w : StartsWith name lines s) → n + length lines ≤ MOST_OCTETS → Wrong w.own → IsAt bad k (n + 1)
    → IsFirst (InSection name k Wrong Next n lines) bad
wrong_tells name k Wrong Next later n lines s bad w small wrong at =
    wrong_first name k Wrong Next later n lines w.line w.own (lines_of s.rest.now) bad w.there wrong at (short_line w.line w.own s.long w.long w.short)

pub long_tells : (name : Line) (k : FaultKind) (Wrong : List Line → Type 0) (Next : List Line → ℕ → List Line → BadTrace → Type 0) → Later Next
    → (n : ℕ) (lines : List Line) (s : Section) (long : Option ℕ) (told : TraceFault) → (w : StartsWith name lines s) → s.long ≡ long → n + length lines ≤ MOST_OCTETS → ((Wrong w.own) → ⊥)
    → TellsLong n long told → Tells (InSection name k Wrong Next n lines) told
long_tells name k Wrong Next later n lines s None told w is small right tells = absurd tells
long_tells name k Wrong Next later n lines s (Some place) told w is small right tells =
    let first : FirstLong (w.line ∷ w.own) (Some place) = subst (FirstLong (w.line ∷ w.own)) is w.long in
    let low = long_within (w.line ∷ w.own) place first.0 in
    let size = lines_size name lines w.line w.own (lines_of s.rest.now) w.there in
    subst (Tells (InSection name k Wrong Next n lines)) (sym (tells (omega (arith, low, size, small))))
    (long_first name k Wrong Next later n lines w.line w.own (lines_of s.rest.now) place (record { line = n + 1 + place; kind = kind.Long }) w.there (inl right) first (refl, refl))

pub behind_tells : (name : Line) (k : FaultKind) (Wrong : List Line → Type 0) (Next : List Line → ℕ → List Line → BadTrace → Type 0)
    → (n at : ℕ) (lines : List Line) (s : Section) (told : TraceFault) → (w : StartsWith name lines s) → s.long ≡ None → ((Wrong w.own) → ⊥) → at ≡ n + 1 + length w.own
    → Tells (Next w.own at (lines_of s.rest.now)) told → Tells (InSection name k Wrong Next n lines) told
behind_tells name k Wrong Next n at lines s (fault.Bad bad) w is right here tells =
    behind_first name k Wrong Next n lines w.line w.own (lines_of s.rest.now) bad w.there right (subst (FirstLong (w.line ∷ w.own)) is w.long)
    (subst (λ a. IsFirst (Next w.own a (lines_of s.rest.now)) bad) here tells)
behind_tells name k Wrong Next n at lines s (fault.NoMemory memory) w is right here tells = tt

-- where the lines behind a section begin
pub behind_at : (name : Line) (n at : ℕ) (lines : List Line) (s : Section) → (w : StartsWith name lines s) → n + length lines ≤ MOST_OCTETS
    → (n + 1 + s.count ≤ 18446744073709551615 → at ≡ n + 1 + s.count) → (at ≡ n + 1 + length w.own) × (at + length (lines_of s.rest.now) ≤ MOST_OCTETS)
behind_at name n at lines s w small is =
    let size = lines_size name lines w.line w.own (lines_of s.rest.now) w.there in
    let here = is (omega (arith, w.counted, size, small)) in
    (omega (arith, here, w.counted), omega (arith, here, w.counted, size, small))

-- ---- nothing is told of an earlier line

pub step_later : (links n : ℕ) (lines : List Line) (bad : BadTrace) → IsWrongStep links n lines bad → n < bad.line
step_later links n lines bad (inl s) = omega (arith, s.4.1)
step_later links n lines bad (inr m) = omega (arith, m.4.1)

pub chap_later : (links n : ℕ) (lines : List Line) (bad : BadTrace) → InChap links n lines bad → n < bad.line
chap_later links = later_in (codes "chap") kind.Secrets AreNoSecrets (λ chap. IsWrongStep links) (λ own. step_later links)

pub pap_later : (links n : ℕ) (lines : List Line) (bad : BadTrace) → InPap links n lines bad → n < bad.line
pap_later links = later_in (codes "pap") kind.Secrets AreNoSecrets (λ pap. InChap links) (λ own. chap_later links)

-- ---- secrets and options

pub right_value : {X E : Type 0} → (read : Result X E) (x : X) → read ≡ Ok x → IsErr read → ⊥
right_value (Ok y) x is err = err
right_value (Err e) x is err = clash is
  where
    clash : Err e ≡ Ok x → ⊥
    clash f = cc

pub right_secrets : (own : List Line) (text : List ℕ) (x : List SecretLine) → text ≡ text_of own → secrets_of text ≡ Ok x → AreNoSecrets own → ⊥
right_secrets own text x is read = right_value (secrets_of (text_of own)) x (ap secrets_of (sym is) ∙ read)

pub right_options : (own : List Line) (text : List ℕ) (c : ConfigValues) → text ≡ text_of own → options_in text ≡ Ok c → AreNoOptions own → ⊥
right_options own text c is read = right_value (options_in (text_of own)) c (ap options_in (sym is) ∙ read)

pub secrets_tell : (name : Line) (Next : List Line → ℕ → List Line → BadTrace → Type 0) → Later Next
    → (n at : ℕ) (lines : List Line) (s : Section) (text : List ℕ) (told : TraceFault) → StartsWith name lines s → n + length lines ≤ MOST_OCTETS → text ≡ s.text.items
    → at ≡ min (n + 1) 18446744073709551615 → TellsSecrets at text told → Tells (InSection name kind.Secrets AreNoSecrets Next n lines) told
secrets_tell name Next later n at lines s text (fault.NoMemory memory) w small is at_is tells = tt
secrets_tell name Next later n at lines s text (fault.Bad bad) w small is at_is tells =
    let here : at ≡ n + 1 = omega (arith, at_is, small) in
    let there = tells.1 (omega (arith, here, small)) in
    wrong_tells name kind.Secrets AreNoSecrets Next later n lines s bad w small (subst (λ t. IsErr (secrets_of t)) (is ∙ w.copied) tells.0) (there.0, there.1 ∙ here)

pub options_tell : (name : Line) (Next : List Line → ℕ → List Line → BadTrace → Type 0) → Later Next
    → (n at : ℕ) (lines : List Line) (s : Section) (text : List ℕ) (told : TraceFault) → StartsWith name lines s → n + length lines ≤ MOST_OCTETS → text ≡ s.text.items
    → at ≡ min (n + 1) 18446744073709551615 → TellsOptions at text told → Tells (InSection name kind.Options AreNoOptions Next n lines) told
options_tell name Next later n at lines s text (fault.NoMemory memory) w small is at_is tells = tt
options_tell name Next later n at lines s text (fault.Bad bad) w small is at_is tells =
    let here : at ≡ n + 1 = omega (arith, at_is, small) in
    let there = tells.1 (omega (arith, here, small)) in
    wrong_tells name kind.Options AreNoOptions Next later n lines s bad w small (subst (λ t. IsErr (options_in t)) (is ∙ w.copied) tells.0) (there.0, there.1 ∙ here)

-- ---- the whole

pub whole_section : (name : Line) (lines : List Line) (s : Section) → (w : StartsWith name lines s) → s.long ≡ None → IsWhole name lines w.own (lines_of s.rest.now)
whole_section name lines s w is = record { line = w.line; there = w.there; short = subst (FirstLong (w.line ∷ w.own)) is w.long }

pub options_later : (own : List Line) (n : ℕ) (lines : List Line) (bad : BadTrace) → InPap (links_in (options_in (text_of own))) n lines bad → n < bad.line
options_later own = pap_later (links_in (options_in (text_of own)))

pub links_are : (own : List Line) (text : List ℕ) (c : ConfigValues) → text ≡ text_of own → options_in text ≡ Ok c → links_in (options_in (text_of own)) ≡ length c.links
links_are own text c is read = ap links_in (ap options_in (sym is) ∙ read)

-- The fault behind the first line is the first one of the octets.
pub full_tells : (octets : List ℕ) (seed : ℕ) (others : List Line) (told : TraceFault) → length octets ≤ MOST_OCTETS → seed < 2 ^ 64 → lines_of octets ≡ full_line seed ∷ others
    → Tells (InOptions 1 others) told → Tells (HasFullFault octets) told
full_tells octets seed others (fault.NoMemory memory) few small header tells = tt
full_tells octets seed others (fault.Bad bad) few small header tells = record {
  is_fault = inr (inr (inr (seed, others, small, header, tells.is_fault)));
  first = go;
}
  where
    none : full_line seed ∷ others ≡ [] → ⊥
    none e = cc

    go : (other : BadTrace) → HasFullFault octets other → NotBehind bad other
    go other (inl size) = absurd (omega (arith, few, size.0))
    go other (inr (inl empty)) = absurd (none (sym header ∙ ap lines_of empty.0))
    go other (inr (inr (inl head))) = absurd (head.0 seed others small header)
    go other (inr (inr (inr o))) = tells.first other (subst (λ ls. InOptions 1 ls other) (ap (drop 1) (sym o.3 ∙ header)) o.4)

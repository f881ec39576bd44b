-- The marks of a log, read one by one.
use Rattle.std.proofs.Common.{◌≡◌, ◌+◌, ◌≤◌, ◌<◌, ◌⊎◌, ℕ, Bool, true, false, List, [], ◌∷◌, ◌++◌, length, map, refl, sym, ap, ◌∙◌, inl, inr, arith}
use Rattle.std.specs.Prelude.{◌==◌, ◌&&◌, ◌||◌, if◌then◌else◌}
use Rattle.std.proofs.lemmas.Bool.Decides.{nat_tests}
use Rattle.ppp_hooks.specs.HookMark.{HookMark, Opened, Closed, Started, Ended}
use Rattle.ppp_hooks.proofs.OneMore.{none_yet, settled_is}
use Rattle.ppp_hooks.specs.HookPlace.{is_among, openings_in}
use Rattle.ppp_mark.specs.declared.mark.Mark.{Mark}
use Rattle.ppp_mark.specs.declared.report.LogName.{LogName}
use Rattle.ppp_mark.specs.Lines.{lines_of}
use Rattle.ppp_mark.specs.Scripts.{LogLaw, MayStandMark, answer_of, is_closed_kind, is_open_kind, said_in}
use Rattle.ppp_mark.specs.declared.kind.TheConstants.{AUTH_CLOSED, ENDED, IP_CLOSED, START}
use Rattle.ppp_mark.proofs.LawLemmas.{one_more_mark}
use Rattle.ppp_report.specs.Reads.{BeginsOther, HowEnd, behind_marks, opens_in}
use Rattle.ppp_report.specs.Report.{AreFit, mark_word}
use Rattle.ppp_report.specs.Tells.{Ends, Tells}
use Rattle.ppp_report.specs.declared.section.MarksEnd.{MarksEnd}
use Rattle.ppp_report.specs.declared.section.MarksEnd.TheVariants as end
use Rattle.ppp_report.proofs.ScriptLemmas.{said_closed}
use Rattle.ppp_report.specs.declared.scripts.Scripts.{Scripts}

-- the marks that are left of some
pub record Left (of : LogName) (opening : ℕ) (marks : List Mark) (others : List (List ℕ)) (rest : List ℕ) (left : ℕ) : Type 0 where
  pub now : List Mark
  pub fit : AreFit of now
  pub lines : lines_of rest ≡ map mark_word now ++ others
  pub counted : left ≡ length now
  pub same : opens_in opening marks ≡ opens_in opening now

-- Marks were read that keep the law, and since the last closing these.
pub record SoFar (of : LogName) (text rest since : List ℕ) (count recent : ℕ) (scripts : Scripts) : Type 0 where
  pub past : List Mark
  pub fit : AreFit of past
  pub lines : lines_of text ≡ behind_marks past (lines_of rest)
  pub counted : count ≡ length past
  pub law : LogLaw 0 past
  pub tells : Tells scripts (said_in past)
  pub within : count + length rest ≤ length text
  pub marks : List Mark
  pub marks_fit : AreFit of marks
  pub marks_lines : lines_of since ≡ map mark_word marks ++ lines_of rest
  pub marks_counted : recent ≡ length marks
  pub fewer : recent ≤ count
  pub openings : (n : ℕ) → is_among n (openings_in (said_in past)) ≡ opens_in n marks

pub snoc_lines : (xs : List Mark) (m : Mark) (others : List (List ℕ)) → map mark_word (xs ++ m ∷ []) ++ others ≡ map mark_word xs ++ mark_word m ∷ others
snoc_lines [] m others = refl
snoc_lines (x ∷ xs) m others = ap (λ ls. mark_word x ∷ ls) (snoc_lines xs m others)

pub snoc_fit : (of : LogName) (xs : List Mark) (m : Mark) → AreFit of xs → AreFit of (m ∷ []) → AreFit of (xs ++ m ∷ [])
snoc_fit of [] m a b = b
snoc_fit of (x ∷ xs) m a b = (a.0, a.1, snoc_fit of xs m a.2 b)

pub snoc_length : (xs : List Mark) (m : Mark) → length (xs ++ m ∷ []) ≡ length xs + 1
snoc_length [] m = refl
snoc_length (x ∷ xs) m = omega (arith, snoc_length xs m)

or-swap : (a b c : Bool) → (a || (b || c)) ≡ (b || (a || c))
or-swap true true c = refl
or-swap true false c = refl
or-swap false b c = refl

pub snoc_opens : (n : ℕ) (xs : List Mark) (m : Mark) → opens_in n (xs ++ m ∷ []) ≡ ((is_open_kind m.kind && m.z == n) || opens_in n xs)
snoc_opens n [] m = refl
snoc_opens n (x ∷ xs) m =
    ap (λ b. (is_open_kind x.kind && x.z == n) || b) (snoc_opens n xs m) ∙ or-swap (is_open_kind x.kind && x.z == n) (is_open_kind m.kind && m.z == n) (opens_in n xs)

-- ---- the first of the marks that are left

pub record First (of : LogName) (now : List Mark) (others : List (List ℕ)) (rest : List ℕ) (left : ℕ) : Type 0 where
  pub mark : Mark
  pub more : List Mark
  pub is : now ≡ mark ∷ more
  pub fit : AreFit of (mark ∷ [])
  pub more_fit : AreFit of more
  pub lines : lines_of rest ≡ mark_word mark ∷ map mark_word more ++ others
  pub counted : left ≡ length more + 1

pub first_of : (of : LogName) (now : List Mark) (others : List (List ℕ)) (rest : List ℕ) (left : ℕ) → AreFit of now
    → lines_of rest ≡ map mark_word now ++ others → left ≡ length now → 0 < left → First of now others rest left
first_of of [] others rest left fit lines counted some = absurd (omega (arith, counted, some))
first_of of (m ∷ ms) others rest left fit lines counted some =
    record { mark = m; more = ms; is = refl; fit = (fit.0, fit.1, tt); more_fit = fit.2; lines = lines; counted = omega (arith, counted) }

or-true : (a b : Bool) → (a || false) ≡ true → (a || b) ≡ true
or-true true b e = refl
or-true false b e = absurd (cc e)

or-rest : (a b : Bool) → (a || false) ≡ false → (a || b) ≡ b
or-rest true b e = absurd (cc e)
or-rest false b e = refl

pub opens_first : (n : ℕ) (m : Mark) (ms : List Mark) → opens_in n (m ∷ []) ≡ true → opens_in n (m ∷ ms) ≡ true
opens_first n m ms e = or-true (is_open_kind m.kind && m.z == n) (opens_in n ms) e

pub opens_rest : (n : ℕ) (m : Mark) (ms : List Mark) → opens_in n (m ∷ []) ≡ false → opens_in n (m ∷ ms) ≡ opens_in n ms
opens_rest n m ms e = or-rest (is_open_kind m.kind && m.z == n) (opens_in n ms) e

-- ---- one mark more

pub nothing_yet : LogLaw 0 []
nothing_yet = record { directions = tt; law = none_yet 0 }

either : (a b : Bool) → (a || b) ≡ true → (a ≡ true) ⊎ (b ≡ true)
either true b e = inl refl
either false b e = inr e

same_kind : (j k : ℕ) → (j == k) ≡ true → j ≡ k
same_kind j k e = grind (arith, nat_tests, e)

closed_kinds : (k : ℕ) → is_closed_kind k ≡ true → (k ≡ AUTH_CLOSED) ⊎ (k ≡ IP_CLOSED)
closed_kinds k e = elim (either (k == AUTH_CLOSED) (k == IP_CLOSED) e) [ inl a ↦ inl (same_kind k AUTH_CLOSED a) | inr b ↦ inr (same_kind k IP_CLOSED b) ]

opened_by : (o c s e : Bool) (m : Mark) (hooks : List HookMark) (n : ℕ) → c ≡ false
    → is_among n (openings_in (if o then Opened m.z ∷ hooks else if c then Closed m.z ∷ hooks else if s then Started (m.x == 1) m.z ∷ hooks
    else if e then Ended (answer_of m.x m.y) m.z ∷ hooks else hooks))
    ≡ ((o && m.z == n) || is_among n (openings_in hooks))
opened_by true c s e m hooks n h = refl
opened_by false true s e m hooks n h = absurd (cc h)
opened_by false false true e m hooks n h = refl
opened_by false false false true m hooks n h = refl
opened_by false false false false m hooks n h = refl

bool_cases : (b : Bool) → (b ≡ true) ⊎ (b ≡ false)
bool_cases true = inl refl
bool_cases false = inr refl

pub more : (of : LogName) (text rest since others begin : List ℕ) (count recent number : ℕ) (scripts next : Scripts) (m : Mark)
    → (s : SoFar of text rest since count recent scripts) → AreFit of (m ∷ []) → lines_of rest ≡ mark_word m ∷ lines_of others
    → length others < length rest → MayStandMark 0 (said_in s.past) m → Tells next (said_in (m ∷ s.past))
    → (is_closed_kind m.kind ≡ true → (begin ≡ others) × (number ≡ 0)) → (is_closed_kind m.kind ≡ false → (begin ≡ since) × (number ≡ recent + 1))
    → SoFar of text others begin (count + 1) number next
more of text rest since others begin count recent number scripts next m s fit lines shorter may tells closed other =
    let law : LogLaw 0 (m ∷ s.past) = (one_more_mark 0 s.past m).1 (s.law, may) in
    let fits : AreFit of (m ∷ s.past) = (fit.0, fit.1, s.fit) in
    let all : lines_of text ≡ behind_marks (m ∷ s.past) (lines_of others) = s.lines ∙ ap (λ ls. behind_marks s.past ls) lines in
    elim (bool_cases (is_closed_kind m.kind)) [
      | inl c ↦
          let now = closed c in
          record {
            past = m ∷ s.past;
            fit = fits;
            lines = all;
            counted = omega (arith, s.counted);
            law = law;
            tells = tells;
            within = omega (arith, s.within, shorter);
            marks = [];
            marks_fit = tt;
            marks_lines = ap lines_of now.0;
            marks_counted = now.1;
            fewer = omega (arith, now.1);
            openings = λ n. ap (λ h. is_among n (openings_in h)) (said_closed m (said_in s.past) (closed_kinds m.kind c));
          }
      | inr c ↦
          let now = other c in
          record {
            past = m ∷ s.past;
            fit = fits;
            lines = all;
            counted = omega (arith, s.counted);
            law = law;
            tells = tells;
            within = omega (arith, s.within, shorter);
            marks = s.marks ++ m ∷ [];
            marks_fit = snoc_fit of s.marks m s.marks_fit fit;
            marks_lines = ap lines_of now.0 ∙ s.marks_lines ∙ ap (λ ls. map mark_word s.marks ++ ls) lines ∙ sym (snoc_lines s.marks m (lines_of others));
            marks_counted = omega (arith, now.1, s.marks_counted, snoc_length s.marks m);
            fewer = omega (arith, now.1, s.fewer);
            openings = λ n. opened_by (is_open_kind m.kind) (is_closed_kind m.kind) (m.kind == START) (m.kind == ENDED) m (said_in s.past) n c
                ∙ ap (λ b. (is_open_kind m.kind && m.z == n) || b) (s.openings n) ∙ sym (snoc_opens n s.marks m);
          }
    ]

pub how_end : (e : MarksEnd) (of : LogName) (past : List Mark) (rest : List ℕ) → Ends e (said_in past) → LogLaw 0 past → BeginsOther of rest → HowEnd e of past rest
how_end end.Broken of past rest ends law other = absurd ends
how_end end.Unsettled of past rest ends law other = (law, other, λ settled. ends ((settled_is (said_in past)).0 settled))
how_end end.Settled of past rest ends law other = (law, other, (settled_is (said_in past)).1 ends)

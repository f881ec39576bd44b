-- The line of a mark: how it is spelled, and that no other mark has it.
use Rattle.std.proofs.Common.{◌≡◌, ◌<◌, ◌^◌, ℕ, Bool, true, false, List, [], ◌∷◌, ◌++◌, length, get_or, refl, sym, ap, ◌∙◌, arith, inl, inr, append_assoc, append-nil, length-append, decimal}
use Rattle.std.specs.List.{list_all}
use Rattle.std.proofs.lemmas.Bool.Decides.{eqb_tells}
use Rattle.std.proofs.lemmas.Fmt.{decimal_injective, decimal_nonempty}
use Rattle.ppp_base.specs.Numbers.{is_digit}
use Rattle.ppp_mark.specs.declared.mark.Mark.{Mark}
use Rattle.ppp_mark.specs.declared.report.LogName.{LogName}
use Rattle.ppp_mark.specs.Lines.{lines_of, onto_first}
use Rattle.ppp_mark.specs.Table.{is_kind, name_of}
use Rattle.ppp_mark.proofs.LinesLemmas.{free_append, is_free, is_word, line_alone, line_then, no_lines, number_line, number_word, split_one, word_is_clean}
use Rattle.ppp_report.specs.Report.{AreFit, Fits, mark_word, target_of}
use Rattle.ppp_report.specs.Text.{After}
use Rattle.ppp_report.proofs.KindLemmas.{first-true, name_no_newline, name_no_space, name_one, stands_is_kind}
use Rattle.ppp_report.proofs.NumberLemmas.{all_digits}

-- a mark's line and what follows it, from the front
abbrev pub spell : Mark → List ℕ → List ℕ
spell m after = decimal m.time ++ 32 ∷ (name_of m.kind ++ 32 ∷ (decimal m.x ++ 32 ∷ (decimal m.y ++ 32 ∷ (decimal m.z ++ after))))

pub spelled : (m : Mark) (after : List ℕ) → mark_word m ++ after ≡ spell m after
spelled m after =
    let t = decimal m.time in
    let n = name_of m.kind in
    let x = decimal m.x in
    let y = decimal m.y in
    let z = decimal m.z in
    append_assoc t (32 ∷ (n ++ 32 ∷ (x ++ 32 ∷ (y ++ 32 ∷ z)))) after
    ∙ ap (λ xs. t ++ 32 ∷ xs) (append_assoc n (32 ∷ (x ++ 32 ∷ (y ++ 32 ∷ z))) after
    ∙ ap (λ xs. n ++ 32 ∷ xs) (append_assoc x (32 ∷ (y ++ 32 ∷ z)) after
    ∙ ap (λ xs. x ++ 32 ∷ xs) (append_assoc y (32 ∷ z) after)))

-- ---- lines

word_of_free : (xs : List ℕ) → is_free 10 xs ≡ true → 0 < length xs → is_word xs ≡ true
word_of_free [] free some = absurd (omega (arith, some))
word_of_free (x ∷ xs) free some = free

clean : (m : Mark) → Fits m → is_kind m.kind ≡ true → is_free 10 (mark_word m) ≡ true
clean m fits kind =
    free_append 10 (decimal m.time) _ (number_line m.time fits.3)
    (free_append 10 (name_of m.kind) _ (name_no_newline m.kind kind)
    (free_append 10 (decimal m.x) _ (number_line m.x (omega (arith, fits.0)))
    (free_append 10 (decimal m.y) _ (number_line m.y (omega (arith, fits.1))) (number_line m.z (omega (arith, fits.2))))))

pub mark_is_word : (m : Mark) → Fits m → is_kind m.kind ≡ true → is_word (mark_word m) ≡ true
mark_is_word m fits kind =
    word_of_free (mark_word m) (clean m fits kind)
    (omega (arith, decimal_nonempty m.time fits.3, length-append (decimal m.time) (32 ∷ (name_of m.kind ++ 32 ∷ (decimal m.x ++ 32 ∷ (decimal m.y ++ 32 ∷ decimal m.z))))))

-- a line that has ended
pub line_ended : (line after rest : List ℕ) → is_word line ≡ true → After after rest → lines_of (line ++ after) ≡ line ∷ lines_of rest
line_ended line after rest word (inl end) = rw (end.0, end.1, append-nil) (line_alone line word)
line_ended line after rest word (inr more) = rw more (line_then line rest (word_is_clean line word))

pub record FirstLine (text line : List ℕ) (others : List (List ℕ)) : Type 0 where
  pub after : List ℕ
  pub rest : List ℕ
  pub is : text ≡ line ++ after
  pub over : After after rest
  pub lines : lines_of rest ≡ others

onto_parts : (b : ℕ) (bs : List ℕ) (lines : List (List ℕ)) (line : List ℕ) (others : List (List ℕ)) → lines_of bs ≡ lines → onto_first b lines ≡ line ∷ others
    → ((l : List ℕ) (ls : List (List ℕ)) → lines_of bs ≡ l ∷ ls → FirstLine bs l ls) → FirstLine (b ∷ bs) line others
onto_parts b bs [] line others is e more =
    let head : b ∷ [] ≡ line = cc e in
    record { after = []; rest = []; is = ap (λ xs. b ∷ xs) (no_lines bs is) ∙ head ∙ sym (append-nil line); over = inl (refl, refl); lines = cc e }
onto_parts b bs (l ∷ ls) line others is e more =
    let f = more l ls is in
    let head : b ∷ l ≡ line = cc e in
    let tail : ls ≡ others = cc e in
    record { after = f.after; rest = f.rest; is = ap (λ xs. b ∷ xs) f.is ∙ ap (λ xs. xs ++ f.after) head; over = f.over; lines = f.lines ∙ tail }

-- a text's first line, what ends it and what follows
pub line_front : (text line : List ℕ) (others : List (List ℕ)) → lines_of text ≡ line ∷ others → FirstLine text line others
line_front [] line others e = absurd (cc e)
line_front (b ∷ bs) line others e = elim (eqb_tells b 10) [
  | inl p ↦
      let lines : [] ∷ lines_of bs ≡ line ∷ others = rw p.0 at e in
      let head : [] ≡ line = cc lines in
      record { after = 10 ∷ bs; rest = bs; is = ap (λ x. x ∷ bs) p.1 ∙ ap (λ l. l ++ 10 ∷ bs) head; over = inr refl; lines = cc lines }
  | inr p ↦ onto_parts b bs (lines_of bs) line others refl (rw p.0 at e) (λ l ls is. line_front bs l ls is)
]

-- ---- no two marks have the same line

number_apart : (a b : ℕ) (us vs : List ℕ) → a < 2 ^ 64 → b < 2 ^ 64 → decimal a ++ 32 ∷ us ≡ decimal b ++ 32 ∷ vs → (a ≡ b) × (us ≡ vs)
number_apart a b us vs fa fb e =
    let parts = split_one 32 (decimal a) (decimal b) us vs (number_word a fa) (number_word b fb) e in
    (decimal_injective a b fa fb parts.0, parts.1)

pub same_mark : (m n : Mark) → m.kind ≡ n.kind → m.x ≡ n.x → m.y ≡ n.y → m.z ≡ n.z → m.time ≡ n.time → m ≡ n
same_mark m n k x y z t =
    ap (λ v. record m { kind = v }) k
    ∙ ap (λ v. record m { kind = n.kind; x = v }) x
    ∙ ap (λ v. record m { kind = n.kind; x = n.x; y = v }) y
    ∙ ap (λ v. record m { kind = n.kind; x = n.x; y = n.y; z = v }) z
    ∙ ap (λ v. record m { kind = n.kind; x = n.x; y = n.y; z = n.z; time = v }) t

pub mark_one : (m n : Mark) → Fits m → Fits n → is_kind m.kind ≡ true → is_kind n.kind ≡ true → mark_word m ≡ mark_word n → m ≡ n
mark_one m n fm fn km kn e =
    let t = number_apart m.time n.time _ _ fm.3 fn.3 e in
    let k = split_one 32 (name_of m.kind) (name_of n.kind) _ _ (name_no_space m.kind km) (name_no_space n.kind kn) t.1 in
    let x = number_apart m.x n.x _ _ (omega (arith, fm.0)) (omega (arith, fn.0)) k.1 in
    let y = number_apart m.y n.y _ _ (omega (arith, fm.1)) (omega (arith, fn.1)) x.1 in
    let z = decimal_injective m.z n.z (omega (arith, fm.2)) (omega (arith, fn.2)) y.1 in
    same_mark m n (name_one m.kind n.kind km kn k.0) x.0 y.0 z t.0

-- The same of marks of one object.
pub fit_one : (name : LogName) (m n : Mark) → AreFit name (m ∷ []) → AreFit name (n ∷ []) → mark_word m ≡ mark_word n → m ≡ n
fit_one name m n fm fn e = mark_one m n fm.0 fn.0 (stands_is_kind (target_of name) m.kind fm.1) (stands_is_kind (target_of name) n.kind fn.1) e

-- ---- a mark's line begins with a digit

first_digit : (xs ys : List ℕ) → list_all is_digit xs ≡ true → 0 < length xs → is_digit (get_or (xs ++ ys) 0 0) ≡ true
first_digit [] ys all some = absurd (omega (arith, some))
first_digit (x ∷ xs) ys all some = first-true (is_digit x) (list_all is_digit xs) all

pub begins_with_digit : (m : Mark) → Fits m → is_digit (get_or (mark_word m) 0 0) ≡ true
begins_with_digit m fits = first_digit (decimal m.time) _ (all_digits m.time fits.3) (decimal_nonempty m.time fits.3)

-- no line that begins with another octet is a mark's
pub no_mark : (m : Mark) (line : List ℕ) → Fits m → is_digit (get_or line 0 0) ≡ false → line ≡ mark_word m → ⊥
no_mark m line fits other e = clash (is_digit (get_or line 0 0)) (ap (λ l. is_digit (get_or l 0 0)) e ∙ begins_with_digit m fits) other
  where
    clash : (b : Bool) → b ≡ true → b ≡ false → ⊥
    clash true p q = absurd (cc q)
    clash false p q = absurd (cc p)

-- What options ask for, from what they tell.
use Rattle.std.proofs.Common.{◌≡◌, ℕ, ◌+◌, zero, suc, Bool, true, false, List, [], ◌∷◌, ◌++◌, length, drop, Option, None, Some, Result, Ok, Err, refl, sym, ap, ◌∙◌, subst, arith, append_assoc, append-nil, length-append, add-one}
use Rattle.std.specs.Prelude.{codes, option_map, unwrap_or}
use Rattle.std.specs.List.{flat_map}
use Rattle.ppp_chat.specs.Words.{script_of}
use Rattle.ppp_chat_words.specs.Said.{Said, Quietly, After, From, Dials, counted, is_dials, is_from, last_seconds, said_spelled, value_place}
use Rattle.ppp_chat_words.specs.Split.{FrontWords}
use Rattle.ppp_chat_words.specs.Told.{told}
use Rattle.ppp_chat_words.specs.declared.options.ChatWords.{ChatWords}
use Rattle.chat.specs.Asked.{Task, file_plan, plan_of, planned, script_plan, task_of, task_said, word_at}
use Rattle.chat.specs.Options.{dialled, named}
use Rattle.chat.specs.declared.ending.Refusal.{Refusal}
use Rattle.chat.specs.declared.ending.Refusal.TheVariants.{OtherWords}
use Rattle.chat.specs.declared.plan.Plan.{Plan}

second-at : (pre rest : List (List ℕ)) (first value : List ℕ) → word_at (pre ++ first ∷ value ∷ rest) (suc (length pre)) ≡ value
second-at [] rest first value = refl
second-at (word ∷ pre) rest first value = second-at pre rest first value

second : (pre rest : List (List ℕ)) (first value : List ℕ) → word_at (pre ++ first ∷ value ∷ rest) (length pre + 1) ≡ value
second pre rest first value = rw add-one (second-at pre rest first value)

-- the value of an option stands at its place among the words
record At (test : Said → Bool) (options : List Said) (pre rest : List (List ℕ)) (value : List ℕ) : Type 0 where
  place : ℕ
  there : value_place test (length pre) options ≡ Some place
  word : word_at (pre ++ (flat_map said_spelled options ++ rest)) place ≡ value

behind : (test : Said → Bool) (said : Said) (options : List Said) (pre rest : List (List ℕ)) (value : List ℕ) → test said ≡ false
    → At test options (pre ++ said_spelled said) rest value → At test (said ∷ options) pre rest value
behind test said options pre rest value other at = record {
  place = at.place;
  there = rw other (subst (λ (n : ℕ). value_place test n options ≡ Some at.place) (length-append pre (said_spelled said)) at.there);
  word = subst (λ (l : List (List ℕ)). word_at l at.place ≡ value)
      (append_assoc pre (said_spelled said) (flat_map said_spelled options ++ rest) ∙ ap (λ (l : List (List ℕ)). pre ++ l) (sym (append_assoc (said_spelled said) (flat_map said_spelled options) rest))) at.word;
}

dialled_at : (options : List Said) (pre rest : List (List ℕ)) (line : List ℕ) → dialled options ≡ Some line → At is_dials options pre rest line
dialled_at [] pre rest line e = absurd (cc (e))
dialled_at (Dials text ∷ options) pre rest line e =
    let is : text ≡ line = cc (e) in
    record { place = length pre + 1; there = refl; word = second pre (flat_map said_spelled options ++ rest) (codes "-L") text ∙ is }
dialled_at (Quietly word ∷ options) pre rest line e = behind is_dials (Quietly word) options pre rest line refl (dialled_at options (pre ++ said_spelled (Quietly word)) rest line e)
dialled_at (After value ∷ options) pre rest line e = behind is_dials (After value) options pre rest line refl (dialled_at options (pre ++ said_spelled (After value)) rest line e)
dialled_at (From name ∷ options) pre rest line e = behind is_dials (From name) options pre rest line refl (dialled_at options (pre ++ said_spelled (From name)) rest line e)

named_at : (options : List Said) (pre rest : List (List ℕ)) (file : List ℕ) → named options ≡ Some file → At is_from options pre rest file
named_at [] pre rest file e = absurd (cc (e))
named_at (From text ∷ options) pre rest file e =
    let is : text ≡ file = cc (e) in
    record { place = length pre + 1; there = refl; word = second pre (flat_map said_spelled options ++ rest) (codes "-f") text ∙ is }
named_at (Quietly word ∷ options) pre rest file e = behind is_from (Quietly word) options pre rest file refl (named_at options (pre ++ said_spelled (Quietly word)) rest file e)
named_at (After value ∷ options) pre rest file e = behind is_from (After value) options pre rest file refl (named_at options (pre ++ said_spelled (After value)) rest file e)
named_at (Dials line ∷ options) pre rest file e = behind is_from (Dials line) options pre rest file refl (named_at options (pre ++ said_spelled (Dials line)) rest file e)

behind-all : (xs ys : List (List ℕ)) → drop (length xs) (xs ++ ys) ≡ ys
behind-all [] ys = refl
behind-all (x ∷ xs) ys = behind-all xs ys

-- a script behind the options
pub asks_script : (files : List ℕ → Option FrontWords) (options : List Said) (script : List (List ℕ)) (line : List ℕ) → dialled options ≡ Some line
    → told true (flat_map said_spelled options ++ script) ≡ record {
      timeout_s = unwrap_or (last_seconds options) 45;
      file = None;
      line = value_place is_dials 0 options;
      script = length (flat_map said_spelled options);
      wrong = None;
    }
    → planned files (flat_map said_spelled options ++ script) ≡ script_plan line (unwrap_or (last_seconds options) 45) (script_of script)
asks_script files options script line e tells =
    let at = dialled_at options [] script line e in
    let words = flat_map said_spelled options ++ script in
    let is : task_of words ≡ task_said words (told true words) None (Some at.place) =
    ap (λ (t : ChatWords). task_said words (told true words) t.wrong t.line) tells ∙ ap (λ (o : Option ℕ). task_said words (told true words) None o) at.there in
    ap (λ (t : Option Task). plan_of files t) is
    ∙ ap (λ (t : ChatWords). plan_of files (task_said words t None (Some at.place))) tells
    ∙ ap (λ (l : List (List ℕ)). script_plan (word_at words at.place) (unwrap_or (last_seconds options) 45) (script_of l)) (behind-all (flat_map said_spelled options) script)
    ∙ ap (λ (l : List ℕ). script_plan l (unwrap_or (last_seconds options) 45) (script_of script)) at.word

-- a script in a file
pub asks_file : (files : List ℕ → Option FrontWords) (options : List Said) (line file : List ℕ) → dialled options ≡ Some line → named options ≡ Some file
    → told true (flat_map said_spelled options) ≡ record {
      timeout_s = unwrap_or (last_seconds options) 45;
      file = value_place is_from 0 options;
      line = value_place is_dials 0 options;
      script = length (flat_map said_spelled options);
      wrong = None;
    }
    → planned files (flat_map said_spelled options) ≡ file_plan line (unwrap_or (last_seconds options) 45) (files file)
asks_file files options line file e f tells =
    let words = flat_map said_spelled options in
    let at = dialled_at options [] [] line e in
    let from = named_at options [] [] file f in
    let same : words ++ [] ≡ words = append-nil words in
    let text : word_at words at.place ≡ line = rw same at at.word in
    let name : word_at words from.place ≡ file = rw same at from.word in
    let is : task_of words ≡ task_said words (told true words) None (Some at.place) =
    ap (λ (t : ChatWords). task_said words (told true words) t.wrong t.line) tells ∙ ap (λ (o : Option ℕ). task_said words (told true words) None o) at.there in
    ap (λ (t : Option Task). plan_of files t) is
    ∙ ap (λ (t : ChatWords). plan_of files (task_said words t None (Some at.place))) tells
    ∙ ap (λ (o : Option ℕ). plan_of files (Some (record { line = word_at words at.place; timeout_s = unwrap_or (last_seconds options) 45; file = option_map (word_at words) o; words = drop (length words) words }))) from.there
    ∙ ap (λ (l : List ℕ). file_plan (word_at words at.place) (unwrap_or (last_seconds options) 45) (files l)) name
    ∙ ap (λ (l : List ℕ). file_plan l (unwrap_or (last_seconds options) 45) (files file)) text

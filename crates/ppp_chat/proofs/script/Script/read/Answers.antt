use Rattle.std.proofs.Common.{◌≡◌, ◌-◌, ℕ, [], Ok, Err, refl, map, length, take, drop, Some, None, rules, arith, length-take, length-drop}
use Rattle.std.specs.Global.{Vec}
use Rattle.ppp_chat.specs.Reading.{Gives, NamesWord}
use Rattle.ppp_chat.specs.Words.{in_twos, script_of}
use Rattle.ppp_chat.proofs.WordsRead.{with_steps, left-two, left-one, left-none, words-count, two-read, last-read, all-read, all-flat, gives-fault, names-word}
use Rattle.ppp_chat.proofs.script.Script.read.Goals as goal
use Rattle.ppp_chat.proofs.script.Script.read.Goals.{in-Some+in_ok-read_last, in_default-first}

pub reading-preserved : goal.reading-preserved
reading-preserved c =
    let left = left-two c.reading.left.now c.first-item.result c.second-item.result c.in-len2-up.len_at_least c.first-item.is c.second-item.is in
    record {
      goes =
          two-read (map (λ (word : Vec ℕ). word.items) c.args.words.now) c.reading.steps c.read_two.new.steps c.reading.number c.first-item.result.items c.second-item.result.items
          (map (λ (word : Vec ℕ). word.items) (take (length c.reading.left.now - 2) (drop 2 c.reading.left.now)))
          (rw left at c.reading.invariant.goes) (rw (c.as_slice.ensures.value, c.as_slice-in-len2-up.ensures.value) at c.in_ok-read_two.ensures);
      numbered = omega (arith, c.reading.invariant.numbered, c.in-len2-up.len_at_least, length-drop 2 c.reading.left.now, length-take (length c.reading.left.now - 2) (drop 2 c.reading.left.now));
    }

-- the fault of two words is that of all
two-fault : (c : goal.After-drop-steps-inside) → Gives (Err c.in_err-read_two.field-0.0) (script_of (map (λ (word : Vec ℕ). word.items) c.args.words.now)) c.args.timeout_s
two-fault c =
    let left = left-two c.reading.left.now c.first-item.result c.second-item.result c.in-len2-up.len_at_least c.first-item.is c.second-item.is in
    gives-fault (map (λ (word : Vec ℕ). word.items) c.args.words.now) c.reading.steps c.read_two.new.steps c.reading.number c.args.timeout_s
    c.first-item.result.items (Some c.second-item.result.items)
    (in_twos (map (λ (word : Vec ℕ). word.items) (take (length c.reading.left.now - 2) (drop 2 c.reading.left.now)))) c.in_err-read_two.field-0.0
    (rw left at c.reading.invariant.goes)
    (rw (c.as_slice.ensures.value, c.as_slice-in-len2-up.ensures.value) at c.in_err-read_two.ensures)

pub returns-in_err-read_two-clause-gives : goal.returns-in_err-read_two-clause-gives
returns-in_err-read_two-clause-gives c = let gives = two-fault c in search (rules, gives)

pub returns-in_err-read_two-clause-word : goal.returns-in_err-read_two-clause-word
returns-in_err-read_two-clause-word c =
    let named : NamesWord c.in_err-read_two.field-0.0 (length c.args.words.now) =
    names-word (map (λ (word : Vec ℕ). word.items) c.args.words.now) (length c.args.words.now) c.args.timeout_s c.in_err-read_two.field-0.0 (words-count c.args.words.now) (two-fault c) in
    search (rules, named)

-- the fault of a last word is that of all
last-fault : (c : goal.After-drop-steps-inside-in_err-read_last)
    → Gives (Err c.in_err-read_last.field-0.0) (script_of (map (λ (word : Vec ℕ). word.items) c.args.words.now)) c.args.timeout_s
last-fault c =
    let left = left-one c.reading.left.now c.in-Some.last.now c.in_default.len_below c.in-Some.ensures.value in
    gives-fault (map (λ (word : Vec ℕ). word.items) c.args.words.now) c.reading.steps c.read_last.new.steps c.reading.number c.args.timeout_s
    c.in-Some.last.now.items None [] c.in_err-read_last.field-0.0
    (rw left at c.reading.invariant.goes)
    (rw c.as_slice-in-Some.ensures.value at c.in_err-read_last.ensures)

pub returns-in_err-read_last-clause-gives : goal.returns-in_err-read_last-clause-gives
returns-in_err-read_last-clause-gives c = let gives = last-fault c in search (rules, gives)

pub returns-in_err-read_last-clause-word : goal.returns-in_err-read_last-clause-word
returns-in_err-read_last-clause-word c =
    let named : NamesWord c.in_err-read_last.field-0.0 (length c.args.words.now) =
    names-word (map (λ (word : Vec ℕ). word.items) c.args.words.now) (length c.args.words.now) c.args.timeout_s c.in_err-read_last.field-0.0 (words-count c.args.words.now) (last-fault c) in
    search (rules, named)

-- all words are read
whole : (c : goal.Joined-first) → with_steps [] (script_of (map (λ (word : Vec ℕ). word.items) c.args.words.now)) ≡ with_steps c.match-first.steps (Ok [])
whole c =
    elim c.match-first.branch [
      | in-Some+in_ok-read_last w ↦
          rw w.steps-is
          (last-read (map (λ (word : Vec ℕ). word.items) c.args.words.now) c.reading.steps w.read_last.new.steps c.reading.number w.in-Some.last.now.items
          (rw (left-one c.reading.left.now w.in-Some.last.now c.in_default.len_below w.in-Some.ensures.value) at c.reading.invariant.goes)
          (rw w.as_slice-in-Some.ensures.value at w.in_ok-read_last.ensures))
      | in_default-first w ↦ rw w.steps-is (rw (left-none c.reading.left.now w.in_default-first.ensures.value) at c.reading.invariant.goes)
    ]

pub invariant_of-result : goal.invariant_of-result
invariant_of-result c = all-flat (map (λ (word : Vec ℕ). word.items) c.args.words.now) c.match-first.steps (whole c)

pub returns-clause-gives : goal.returns-clause-gives
returns-clause-gives c = (all-read (map (λ (word : Vec ℕ). word.items) c.args.words.now) c.match-first.steps (whole c), refl)

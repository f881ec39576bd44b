use Rattle.std.proofs.Common.{sym, ap, ◌∙◌}
use Rattle.ppp_chat_words.specs.declared.options.ChatWords.{ChatWords}
use Rattle.ppp_chat_words.specs.Split.{octets_in}
use Rattle.chat.proofs.AskedLemmas.{line_fits, no_line, script_behind, script_in_file, wrong_word}
use Rattle.chat.proofs.asking.plan_of.Goals as goal

pub returns-then-is_some : goal.returns-then-is_some
returns-then-is_some g c =
    wrong_word (g.F.Files.state c.args.files.now) (octets_in c.args.words.now) c.chat_words-said.result c.chat_words-said.ensures (sym c.is_some.ensures ∙ c.if-is_some.true)

pub returns-in_default : goal.returns-in_default
returns-in_default g c = no_line (g.F.Files.state c.args.files.now) (octets_in c.args.words.now) c.chat_words-said.result c.chat_words-said.ensures c.in_default.is

pub script_plan-requires : goal.script_plan-requires
script_plan-requires g c =
    rw c.word_at-line.ensures (line_fits (octets_in c.args.words.now) c.in-Some.line (ap (λ (t : ChatWords). t.line) (sym c.chat_words-said.ensures) ∙ c.in-Some.is))

pub file_plan-requires : goal.file_plan-requires
file_plan-requires g c =
    rw c.word_at-line.ensures (line_fits (octets_in c.args.words.now) c.in-Some.line (ap (λ (t : ChatWords). t.line) (sym c.chat_words-said.ensures) ∙ c.in-Some.is))

pub returns-in-None : goal.returns-in-None
returns-in-None g c =
    script_behind (g.F.Files.state c.args.files.now) (octets_in c.args.words.now) c.chat_words-said.result c.in-Some.line c.script_plan.result c.chat_words-said.ensures
    (sym c.is_some.ensures ∙ c.if-is_some.false) c.in-Some.is c.in-None.is (rw (c.word_at-line.ensures, c.words_from.ensures) at c.script_plan.ensures.gives) c.script_plan.ensures.sound

pub returns-in-Some-file : goal.returns-in-Some-file
returns-in-Some-file g c =
    script_in_file (g.F.Files.state c.args.files.now) (g.F.Files.state c.file_plan.new.files) (octets_in c.args.words.now) c.chat_words-said.result c.in-Some.line c.in-Some-file.name c.file_plan.result
    c.chat_words-said.ensures (sym c.is_some.ensures ∙ c.if-is_some.false) c.in-Some.is c.in-Some-file.is (rw (c.word_at-line.ensures, c.word_at.ensures) at c.file_plan.ensures)

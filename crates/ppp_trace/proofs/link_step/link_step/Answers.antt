use Rattle.std.proofs.Common.{subst, sym, ◌∙◌}
use Rattle.ppp_trace.specs.FullSteps.{SpellsStep}
use Rattle.ppp_trace.proofs.FullLemmas.{by_octets, word_spells}
use Rattle.ppp_trace.proofs.link_step.link_step.Goals as goal

pub returns-in-Some : goal.returns-in-Some
returns-in-Some c = λ links line few of.
    subst (λ s. SpellsStep links s line) (sym c.of.ensures)
    (word_spells links c.args.link line c.args.text.now c.in-Some.word of (sym c.link_word.ensures ∙ c.in-Some.is))

pub returns : goal.returns
returns c = λ links line few of.
    by_octets links c.args.link line c.args.text.now c.octets_step.result few of (sym c.link_word.ensures ∙ c.in_default.is) c.in_default-milliseconds.ensures
    c.in_default-signal.ensures c.in_default-hook.ensures (c.octets_step.ensures links line of)

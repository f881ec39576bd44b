use Rattle.std.proofs.Common.{◌∙◌, Ok, sym}
use Rattle.ppp_options.proofs.ReadLemmas.{links_are_few, number_alone, text_alone}
use Rattle.ppp_option_words.specs.declared.number.Number.TheVariants as number
use Rattle.ppp_option_words.specs.declared.text.Text.TheVariants as text
use Rattle.ppp_options.proofs.read.config_of.Goals as goal

pub new-requires : goal.new-requires
new-requires c = links_are_few c.args.items.now c.in_ok-links.links.items c.in_ok-links.ensures c.requires

pub returns : goal.returns
returns c =
    rw c.in_ok-links.ensures
    (λ i. Ok (record {
      links = sym c.new.ensures i;
      control = text_alone c.args.items.now text.Control c.copied_name.result (c.copied_name.ensures ∙ c.text.ensures) i;
      packets = text_alone c.args.items.now text.Packets c.copied_name-2.result (c.copied_name-2.ensures ∙ c.text-2.ensures) i;
      pap_file = text_alone c.args.items.now text.PapSecrets c.copied_name-3.result (c.copied_name-3.ensures ∙ c.text-3.ensures) i;
      chap_file = text_alone c.args.items.now text.ChapSecrets c.copied_name-4.result (c.copied_name-4.ensures ∙ c.text-4.ensures) i;
      hooks = sym c.hooks_of.ensures i;
      loglimit = number_alone c.args.items.now number.Loglimit c.number.result c.number.ensures.value i;
    }))

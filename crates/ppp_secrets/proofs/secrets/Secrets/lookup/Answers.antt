use Rattle.std.proofs.Common.{◌≡◌, Option, ◌∙◌, ap, subst}
use Rattle.std.specs.Option.{option_copied, option_map}
use Rattle.ppp_secrets.specs.SecretLine.{SecretLine, IsRising}
use Rattle.ppp_secrets.specs.Steps.{searched}
use Rattle.ppp_secrets.specs.Lookup.{line_for}
use Rattle.ppp_secrets.proofs.LookupLemmas.{searched_is_line_for, is_answered, same_line}
use Rattle.ppp_secrets.proofs.secrets.Secrets.lookup.Goals as goal

pub returns : goal.returns
returns c =
    let rise : IsRising c.args.self.now = subst IsRising c.self.view_is c.self.invariant in
    let found : option_copied c.search.result ≡ searched c.args.client.now c.args.server.now c.args.self.now =
    c.search.ensures ∙ ap (λ lines. searched c.args.client.now c.args.server.now lines) (c.as_slice.ensures.value ∙ c.self.view_is) in
    let number : c.number_of.result ≡ option_map (λ (line : SecretLine). line.number) (line_for c.args.self.now c.args.client.now c.args.server.now) =
    c.number_of.ensures ∙ ap (λ (line : Option SecretLine). option_map (λ (line : SecretLine). line.number) line) (found ∙ searched_is_line_for c.args.client.now c.args.server.now c.args.self.now) in
    record {
      lookup = is_answered c.args.self.now c.args.client.now c.args.server.now c.number_of.result rise number;
      number = number;
      line = same_line c.args.self.now c.args.client.now c.args.server.now c.number_of.result rise number;
    }

use Rattle.std.specs.Prelude.{Ok}
use Rattle.ppp_secrets.specs.Reading.{Holds, secrets_of}
use Rattle.ppp_secrets.proofs.HoldsLemmas.{text_holds, is_held, gives_some, gives_that}
use Rattle.ppp_secrets.proofs.secrets.Secrets.read.Goals as goal

pub returns : goal.returns
returns c = record {
  holds = gives_some (λ secrets. secrets) (Holds c.args.text.now) c.held.result (secrets_of c.args.text.now) c.held.ensures (text_holds c.args.text.now);
  lines = λ lines h. gives_that (λ secrets. secrets) c.args.text.now c.held.result (secrets_of c.args.text.now) (Ok lines) c.held.ensures (is_held c.args.text.now (Ok lines) h);
  exact = c.held.ensures;
}

use Rattle.ppp_secrets.proofs.LookupLemmas.{lookup_holds, one_lookup, found_is_for, is_for_is_found}
use Rattle.ppp_secrets.proofs.laws.two_names_have_one_line.Goals as goal

pub returns : goal.returns
returns c = record {
  some = lookup_holds;
  only = one_lookup;
  line = λ lines client server line rise. (found_is_for lines client server line rise, is_for_is_found lines client server line rise);
}

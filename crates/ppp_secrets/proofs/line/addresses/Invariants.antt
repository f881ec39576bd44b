use Rattle.std.proofs.Common.{◌≡◌, take, false}
use Rattle.std.specs.List.{filter_map, list_any}
use Rattle.ppp_secrets.specs.AddressWords.{address_word_of}
use Rattle.ppp_secrets.specs.LineFaults.{is_no_address}
use Rattle.ppp_secrets.proofs.line.addresses.Given as goal

-- Each word so far is an address word, and these are kept.
abbrev pub invariant-loop-word : goal.invariant-loop-word
invariant-loop-word l = record {
  each : list_any is_no_address (take l.word-index l.words) ≡ false;
  kept : l.addresses.items ≡ filter_map (λ word. address_word_of word.octets) (take l.word-index l.words);
}

-- Whether two words are the same one.
use Rattle.std.specs.Prelude.{Bool}
use denote.Enum.Bare.{sameb}
use Rattle.ppp_option_words.specs.declared.flag.Flag.{Flag}
use Rattle.ppp_option_words.specs.declared.number.Number.{Number}
use Rattle.ppp_option_words.specs.declared.text.Text.{Text}
use Rattle.ppp_option_words.specs.contracts.flag.Flag.{the_type as flag_type}
use Rattle.ppp_option_words.specs.contracts.number.Number.{the_type as number_type}
use Rattle.ppp_option_words.specs.contracts.text.Text.{the_type as text_type}

abbrev pub same_flag : Flag → Flag → Bool
same_flag a b = sameb flag_type a b

abbrev pub same_number : Number → Number → Bool
same_number a b = sameb number_type a b

abbrev pub same_text : Text → Text → Bool
same_text a b = sameb text_type a b

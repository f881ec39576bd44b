-- What we ask for, as a function of the wish, the generator's first state and what changed it in the session, the newest first
-- (RFC 1661, sections 5.3, 5.4 and 6; RFC 1662, section 7.1; RFC 1990, section 5.1).
use Rattle.std.specs.Prelude.{ℕ, ◌==◌, max, nat_le, not, ◌&&◌, ◌||◌, bit_or, Bool, false, if◌then◌else◌, Option, Some, None, List, [], ◌∷◌, ◌++◌, length}
use Rattle.std.specs.Int.{to_be_bytes, w16, w32}
use Rattle.ppp_base.specs.declared.mrru.TheConstants.{DEFAULT_MRU, LEAST_MRRU, LEAST_MRU}
use Rattle.ppp_packet.specs.OptionsOf.{Item}
use Rattle.ppp_base.specs.RandomWords.{next_word, next_state}
use Rattle.ppp_base.specs.Disc.{Discriminator}
use Rattle.ppp_control.specs.Changes.{Change, by_nak, by_reject, by_our_nak, is_left_out, named_in, asked_if}
use Rattle.ppp_lcp.specs.declared.wish.LcpWish.{LcpWish}
use Rattle.ppp_packet.specs.declared.agreed.Method.{Method}
use Rattle.ppp_packet.specs.declared.agreed.Method.TheVariants.{Pap, Chap}
use Rattle.ppp_lcp.specs.Table.{number2, number4, is_chap, is_pap, chap_body, pap_body}

-- The next word of the generator, or 1 where it is 0, and the generator after it.
unfoldable pub word_of : ℕ → ℕ
word_of state = max (next_word state) 1

unfoldable pub skipped : ℕ → ℕ
skipped state = next_state state

abbrev pub first_method : LcpWish → Option Method
first_method wish = if wish.want_chap then Some Chap else if wish.want_pap then Some Pap else None

-- whether a magic number is among the items
abbrev pub names_magic : List Item → Bool
names_magic [] = false
names_magic (i ∷ items) = (i.kind == 5 && length i.body == 4) || names_magic items

-- Our MRU is the last that was named from 128 to the wish's, or else the wish's; likewise our MRRU, from 1500 on.
abbrev pub fits_mru : LcpWish → List ℕ → Bool
fits_mru wish body = length body == 2 && nat_le LEAST_MRU (number2 body) && nat_le (number2 body) wish.mru

abbrev pub our_mru : LcpWish → List Item → ℕ
our_mru wish [] = wish.mru
our_mru wish (i ∷ named) = if i.kind == 1 && fits_mru wish i.body then number2 i.body else our_mru wish named

abbrev pub fits_mrru : LcpWish → List ℕ → Bool
fits_mrru wish body = length body == 2 && nat_le LEAST_MRRU (number2 body) && nat_le (number2 body) wish.mrru

abbrev pub our_mrru : LcpWish → List Item → ℕ
our_mrru wish [] = wish.mrru
our_mrru wish (i ∷ named) = if i.kind == 17 && fits_mrru wish i.body then number2 i.body else our_mrru wish named

-- Our map has each bit of the wish's and of those that were named.
abbrev pub our_map : LcpWish → List Item → ℕ
our_map wish [] = wish.map
our_map wish (i ∷ named) = if i.kind == 2 && length i.body == 4 then bit_or (our_map wish named) (number4 i.body) else our_map wish named

-- The peer is asked for the last method that was named and is allowed, or else for the first one allowed.
abbrev pub allowed_method : LcpWish → List ℕ → Option Method → Option Method
allowed_method wish body other = if is_chap body && wish.want_chap then Some Chap else if is_pap body && wish.want_pap then Some Pap else other

abbrev pub our_method : LcpWish → List Item → Option Method
our_method wish [] = first_method wish
our_method wish (i ∷ named) = if i.kind == 3 then allowed_method wish i.body (our_method wish named) else our_method wish named

-- Each change that takes a word of the generator: a Nak that names a magic number, where we ask for one; and a Nak of ours that does.
abbrev pub takes_word : LcpWish → Change → List Change → Bool
takes_word wish (by_nak items) changes = names_magic items && wish.magic && not (is_left_out 5 changes)
takes_word wish (by_reject items) changes = false
takes_word wish (by_our_nak items) changes = names_magic items

-- The generator's state behind the words that were taken; the first is our own number, where we ask for one.
abbrev pub generator_in : LcpWish → ℕ → List Change → ℕ
generator_in wish words [] = if wish.magic then skipped words else words
generator_in wish words (change ∷ changes) = if takes_word wish change changes then skipped (generator_in wish words changes) else generator_in wish words changes

-- Our number is the first word, and from each Nak that names one on the word after those that were taken before.
abbrev pub our_number : LcpWish → ℕ → List Change → ℕ
our_number wish words [] = word_of words
our_number wish words (by_nak items ∷ changes) = if takes_word wish (by_nak items) changes then word_of (generator_in wish words changes) else our_number wish words changes
our_number wish words (by_reject items ∷ changes) = our_number wish words changes
our_number wish words (by_our_nak items ∷ changes) = our_number wish words changes

-- 0 where we ask for none
abbrev pub our_magic : LcpWish → ℕ → List Change → ℕ
our_magic wish words changes = if is_left_out 5 changes then 0 else if wish.magic then our_number wish words changes else 0

abbrev pub method_item : Bool → Option Method → List Item
method_item test None = []
method_item test (Some Pap) = asked_if test 3 pap_body
method_item test (Some Chap) = asked_if test 3 chap_body

-- what we name ourselves by, with multilink alone
abbrev pub disc_item : Bool → Option Discriminator → List Item
disc_item test None = []
disc_item test (Some d) = asked_if test 19 (d.class ∷ d.address)

-- The options of our next request, in rising type.
unfoldable pub Asked : LcpWish → ℕ → List Change → List Item
Asked wish words changes =
    asked_if (not (our_mru wish (named_in changes) == DEFAULT_MRU) && not (is_left_out 1 changes)) 1 (to_be_bytes w16 (our_mru wish (named_in changes)))
    ++ asked_if (not wish.default_map && not (is_left_out 2 changes)) 2 (to_be_bytes w32 (our_map wish (named_in changes)))
    ++ method_item (not (is_left_out 3 changes)) (our_method wish (named_in changes))
    ++ asked_if (wish.magic && not (is_left_out 5 changes)) 5 (to_be_bytes w32 (our_magic wish words changes))
    ++ asked_if (wish.pfc && not (is_left_out 7 changes)) 7 []
    ++ asked_if (wish.acfc && not (is_left_out 8 changes)) 8 []
    ++ asked_if (wish.multilink && not (is_left_out 17 changes)) 17 (to_be_bytes w16 (our_mrru wish (named_in changes)))
    ++ disc_item (wish.multilink && not (is_left_out 17 changes) && not (is_left_out 19 changes)) wish.disc

-- What the code keeps of what we ask for, what it asks, and what it does at a Nak and at a Reject of our last request.
use Rattle.std.specs.Prelude.{ℕ, ◌==◌, ◌&&◌, ◌||◌, not, bit_or, Bool, if◌then◌else◌, List, [], ◌∷◌, ◌++◌, length}
use Rattle.std.specs.Int.{to_be_bytes, w16, w32}
use Rattle.ppp_base.specs.declared.mrru.TheConstants.{DEFAULT_MRU}
use Rattle.ppp_packet.specs.OptionsOf.{Item}
use Rattle.ppp_control.specs.Changes.{Change, is_left_out, named_in, asked_if, names_kind}
use Rattle.ppp_lcp.specs.declared.wish.LcpWish.{LcpWish}
use Rattle.ppp_lcp.specs.declared.ours.Ours.{Ours}
use Rattle.ppp_lcp.specs.declared.ours.LeftOut.{LeftOut}
use Rattle.ppp_lcp.specs.Table.{number2, number4}
use Rattle.ppp_lcp.specs.Ours.{word_of, skipped, fits_mru, fits_mrru, allowed_method, names_magic, our_mru, our_map, our_method, our_mrru, our_magic, generator_in, method_item, disc_item}

abbrev pub left_out_of : List Change → LeftOut
left_out_of changes = record {
  mru = is_left_out 1 changes;
  map = is_left_out 2 changes;
  method = is_left_out 3 changes;
  magic = is_left_out 5 changes;
  pfc = is_left_out 7 changes;
  acfc = is_left_out 8 changes;
  mrru = is_left_out 17 changes;
  disc = is_left_out 19 changes;
}

-- What we ask for, as a function of the wish, the generator's first state and the changes.
abbrev pub ours_of : LcpWish → ℕ → List Change → Ours
ours_of wish words changes = record {
  mru = our_mru wish (named_in changes);
  map = our_map wish (named_in changes);
  method = our_method wish (named_in changes);
  magic = our_magic wish words changes;
  mrru = our_mrru wish (named_in changes);
  generator = generator_in wish words changes;
  left_out = left_out_of changes;
}

-- Our magic number is the next word.
abbrev pub drawn : Ours → Ours
drawn o = record o { magic = word_of o.generator; generator = skipped o.generator }

abbrev pub asks_method : Ours → List Item
asks_method o = method_item (not o.left_out.method) o.method

abbrev pub asks_disc : LcpWish → Ours → List Item
asks_disc wish o = disc_item (wish.multilink && not o.left_out.mrru && not o.left_out.disc) wish.disc

-- The options of our request, in rising type.
unfoldable pub asks : LcpWish → Ours → List Item
asks wish o =
    asked_if (not (o.mru == DEFAULT_MRU) && not o.left_out.mru) 1 (to_be_bytes w16 o.mru)
    ++ asked_if (not wish.default_map && not o.left_out.map) 2 (to_be_bytes w32 o.map)
    ++ asks_method o
    ++ asked_if (wish.magic && not o.left_out.magic) 5 (to_be_bytes w32 o.magic)
    ++ asked_if (wish.pfc && not o.left_out.pfc) 7 []
    ++ asked_if (wish.acfc && not o.left_out.acfc) 8 []
    ++ asked_if (wish.multilink && not o.left_out.mrru) 17 (to_be_bytes w16 o.mrru)
    ++ asks_disc wish o

abbrev pub nak_item : LcpWish → Ours → Item → Ours
nak_item wish o i = record o {
  mru = if i.kind == 1 && fits_mru wish i.body then number2 i.body else o.mru;
  map = if i.kind == 2 && length i.body == 4 then bit_or o.map (number4 i.body) else o.map;
  method = if i.kind == 3 then allowed_method wish i.body o.method else o.method;
  mrru = if i.kind == 17 && fits_mrru wish i.body then number2 i.body else o.mrru;
}

abbrev pub nak_items : LcpWish → Ours → List Item → Ours
nak_items wish o [] = o
nak_items wish o (i ∷ items) = nak_items wish (nak_item wish o i) items

abbrev pub redrawn : Bool → Ours → Ours
redrawn test o = record o { magic = if test then word_of o.generator else o.magic; generator = if test then skipped o.generator else o.generator }

unfoldable pub after_nak : LcpWish → Ours → List Item → Ours
after_nak wish o items = redrawn (names_magic items && wish.magic && not o.left_out.magic) (nak_items wish o items)

abbrev pub after_reject : Ours → List Item → Ours
after_reject o items = record o {
  magic = if names_kind 5 items then 0 else o.magic;
  left_out = record {
    mru = names_kind 1 items || o.left_out.mru;
    map = names_kind 2 items || o.left_out.map;
    method = names_kind 3 items || o.left_out.method;
    magic = names_kind 5 items || o.left_out.magic;
    pfc = names_kind 7 items || o.left_out.pfc;
    acfc = names_kind 8 items || o.left_out.acfc;
    mrru = names_kind 17 items || o.left_out.mrru;
    disc = names_kind 19 items || o.left_out.disc;
  };
}

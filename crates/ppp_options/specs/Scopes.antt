-- Which words count for which link (pppd(8), "Options"; more than one link is this program's own).
use Rattle.std.specs.Prelude.{List, [], ◌∷◌, ◌++◌, map, Bool, true, false, codes, Option, None, Some, Result, Ok}
use Rattle.std.specs.List.{list_any, slice_split}
use Rattle.ppp_options.specs.LinkOf.{link_of}
use Rattle.ppp_option_words.specs.LinkValues.{LinkValues}
use Rattle.ppp_option_words.specs.Picks.{is_link, is_pty, is_socket}
use Rattle.ppp_option_words.specs.Results.{ok_map, ok_then, unless_fault}
use Rattle.ppp_option_words.specs.declared.fault.OptionsFault.{OptionsFault}
use Rattle.ppp_option_words.specs.declared.fault.OptionsFault.TheVariants.{Clash, Missing}
use Rattle.ppp_option_words.specs.declared.item.Item.{Item}

-- those of every link before those of each
abbrev pub shared_with : List Item → List (List Item) → List (List Item)
shared_with shared owns = map (λ (own : List Item). shared ++ own) owns

-- the sections behind a first one
abbrev pub parts_behind : Option (List Item) → List (List Item)
parts_behind None = []
parts_behind (Some items) = slice_split is_link items

-- The words before the first `link` count for every link, and those behind a `link` for this one. Without `link` there is one link.
abbrev pub scopes_at : List (List Item) → List (List Item)
scopes_at [] = []
scopes_at (only ∷ []) = only ∷ []
scopes_at (shared ∷ own ∷ more) = shared_with shared (own ∷ more)

abbrev pub scopes_of : List Item → List (List Item)
scopes_of items = scopes_at (slice_split is_link items)

-- A link has `socket` or `pty`, and not both.
abbrev pub line_fault : Bool → Bool → Option OptionsFault
line_fault false false = Some (Missing (codes "socket"))
line_fault true true = Some (Clash (codes "socket") (codes "pty"))
line_fault true false = None
line_fault false true = None

abbrev pub link_fault : List Item → Option OptionsFault
link_fault scope = line_fault (list_any is_socket scope) (list_any is_pty scope)

abbrev pub link_read : List Item → Result LinkValues OptionsFault
link_read scope = unless_fault (link_fault scope) (link_of scope)

-- the links in order, or the fault of the least that has one
abbrev pub links_read : List (List Item) → Result (List LinkValues) OptionsFault
links_read [] = Ok []
links_read (scope ∷ scopes) =
    ok_then (link_read scope) (λ (link : LinkValues). ok_map (λ (links : List LinkValues). link ∷ links) (links_read scopes))

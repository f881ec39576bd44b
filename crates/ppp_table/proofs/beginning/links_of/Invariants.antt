use Rattle.std.proofs.Common.{◌≡◌, ◌≤◌, take, length, vec_capacity, vec_len}
use Rattle.ppp_table.proofs.beginning.links_of.Given as goal

abbrev pub invariant-copying : goal.invariant-copying
invariant-copying l = record {
  room : length l.all ≤ vec_capacity l.links;
  count : vec_len l.links ≡ l.link-index;
  items : l.links.items ≡ take l.link-index l.all;
  all : l.all ≡ l.config.links;
}

-- What the links sheet says of its lines. Assumes nothing.
use Rattle.std.specs.Prelude.{ℕ, Bool, cond, ◌&&◌, List, length, Some, None, ◌==◌, nat_le, slice_index}
use Rattle.faults.specs.declared.refusal.Refusal.TheVariants.{ListedTwice}
use Rattle.faults.specs.declared.layer.Layer.TheVariants.{Links}
use Rattle.std.specs.List.{list_any}
use Rattle.sheet.specs.Rules.{Rules}
use Rattle.tow_sheets.specs.declared.links.Link.{Link}

-- the six numbers of a line are within their ranges: the link's number at most 65,535, the trips' numbers 1 to 65,535, lower at most upper, upper at most 20,160, the cost at most 1,000,000,000
abbrev pub in_range : ℕ → ℕ → ℕ → ℕ → ℕ → ℕ → Bool
in_range number tail head lower upper cost =
    nat_le number 65535 && (nat_le 1 tail && (nat_le tail 65535 && (nat_le 1 head && (nat_le head 65535 && (nat_le lower upper && (nat_le upper 20160 && nat_le cost 1000000000))))))

-- the numbers of a link are within their ranges
abbrev pub link_in_range : Link → Bool
link_in_range l = in_range l.number l.tail l.head l.lower l.upper l.cost

-- the link of a line with six numbers
abbrev pub link_of : List ℕ → Link
link_of ns = record { number = slice_index ns 0; tail = slice_index ns 1; head = slice_index ns 2; lower = slice_index ns 3; upper = slice_index ns 4; cost = slice_index ns 5 }

-- what is read past the end of a list of links
abbrev pub no_link : Link
no_link = record { number = 0; tail = 0; head = 0; lower = 0; upper = 0; cost = 0 }

-- two links of the same tail and head
abbrev pub same_pair : Link → Link → Bool
same_pair a b = a.tail == b.tail && a.head == b.head

-- a line has six fields, its numbers are within their ranges, and no pair of trips is listed twice; at most 2,000 links
abbrev pub link_rules : Rules Link
link_rules = record {
  layer = Links;
  takes = λ n. (n == 6);
  made = λ line ns. cond (length ns == 6 && in_range (slice_index ns 0) (slice_index ns 1) (slice_index ns 2) (slice_index ns 3) (slice_index ns 4) (slice_index ns 5)) (Some (link_of ns)) None;
  clash = λ rs r. cond (list_any (λ k. same_pair k r) rs) (Some ListedTwice) None;
  most = 2000;
  least = 0;
}

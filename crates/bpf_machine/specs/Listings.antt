-- What CPUs list: the keys of each map, as the last of their jobs ends.
use Rattle.std.specs.Prelude.{ℕ, Bool, true, false, List, [], Option, Some, None, length, map, slice_index_or}
use Rattle.std.specs.List.{range_with_len}
use Rattle.std.specs.FinMap.{keys}
use Rattle.bpf_shared.specs.Store.{Plain}

-- of one CPU: it never lists; it is to list; these are the keys that it has listed, by map
pub data Listing : Type 0 where
  Never : Listing
  Due : Listing
  Made : List (List (List ℕ)) → Listing

-- before the first turn, where lists are asked for or not
abbrev pub first_lists : Bool → ℕ → Listing
first_lists false c = Never
first_lists true c = Due

-- the keys of each map, in the order of their bytes
abbrev pub keys_by_map : Plain → List (List (List ℕ))
keys_by_map s = map (λ m. keys (s.maps m)) (range_with_len 0 (length s.shape.maps))

-- what a CPU lists now, where it lists at all
abbrev pub listed_now : Plain → Listing → Listing
listed_now s Never = Never
listed_now s Due = Made (keys_by_map s)
listed_now s (Made all) = Made (keys_by_map s)

-- by CPU, as a machine shows it: it says of the first CPUs, where lists are asked for
abbrev pub listing_at : Option (List Listing) → ℕ → Listing
listing_at None c = Never
listing_at (Some all) c = slice_index_or all c Due

-- the keys that it has listed
abbrev pub made_keys : Listing → List (List (List ℕ))
made_keys Never = []
made_keys Due = []
made_keys (Made all) = all

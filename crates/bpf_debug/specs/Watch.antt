-- What `watch` watches, and which of its bytes a `go` compares (our own choice).
use Rattle.std.specs.Prelude.{◌≡◌, ℕ, zero, suc, ◌+◌, ◌-◌, nat_le, nat_lt, if◌then◌else◌, List, [], ◌∷◌, ◌++◌, Option, Some, None, Result}
use Rattle.std.specs.Prelude.{Ok, Err, Vec, length, drop, map, option_map, option_and_then, slice_get, string_bytes, take}
use Rattle.std.specs.Fmt.{decimal}
use Rattle.std.specs.declared.alloc.Global.{Global}
use Rattle.hex.specs.Hex.{decode_of, encode_lower}
use Rattle.hex.specs.declared.error.FromHexError.{FromHexError}
use Rattle.bpf_shared.specs.declared.shapes.ArrayShape.{ArrayShape}
use Rattle.bpf_shared.specs.Access.{bytes_in}
use Rattle.bpf_shared.specs.Shape.{Shape, copies}
use Rattle.bpf_shared.specs.Store.{Plain}
use Rattle.bpf_shared.specs.Sound.{IsSoundStore}
use Rattle.bpf_plain.specs.PlainStore.{Contents, StandsFor}
use Rattle.bpf_plain.specs.Shows.{fixed_of, value_of}
use Rattle.bpf_names.specs.Names.{Variable}
use Rattle.bpf_debug.specs.declared.watch.Watch.{Watch}
use Rattle.bpf_debug.specs.declared.watch.Watch.TheVariants as watch
use Rattle.bpf_debug.specs.declared.watch.Choice.{Choice}
use Rattle.bpf_debug.specs.Command.{mark_in}

pub data Watched : Type 0 where
  -- the value of a key of a map, by the map's number
  OfKey : ℕ → List ℕ → Watched
  -- of an array, by its number, the values of an index: as many as CPUs that have their own
  OfIndex : ℕ → ℕ → ℕ → Watched
  -- of an array's first value the bytes from one on, this many
  OfBytes : ℕ → ℕ → ℕ → Watched

abbrev pub watched : Watch → Watched
watched (watch.Key map key) = OfKey map key.items
watched (watch.Index array index copies) = OfIndex array index copies
watched (watch.Bytes array at count) = OfBytes array at count

-- values that are kept
abbrev pub kept_values : List (Option (Vec ℕ Global)) → List (Option (List ℕ))
kept_values values = map (option_map (λ bytes. bytes.items)) values

-- ---- its bytes

-- those from one on, this many, where there are as many
abbrev pub bytes_from : ℕ → ℕ → Option (List ℕ) → Option (List ℕ)
bytes_from at n None = None
bytes_from at n (Some bytes) =
    if nat_le (at + n) (length bytes) then Some (take n (drop at bytes)) else None

-- of the k-th CPU
abbrev pub watched_value : Watched → Plain → ℕ → Option (List ℕ)
watched_value (OfKey m key) s k = value_of s m key
watched_value (OfIndex a i n) s k = fixed_of s a k i
watched_value (OfBytes a at n) s k = bytes_from at n (fixed_of s a 0 0)

-- how many values there are
abbrev pub copies_of : Watched → ℕ
copies_of (OfKey m key) = 1
copies_of (OfIndex a i n) = n
copies_of (OfBytes a at n) = 1

-- of the first n CPUs
abbrev pub values_of : Watched → Plain → ℕ → List (Option (List ℕ))
values_of w s zero = []
values_of w s (suc n) = values_of w s n ++ (watched_value w s n ∷ [])

-- all that is watched, if anything is
abbrev pub watched_values : Option Watched → Plain → List (Option (List ℕ))
watched_values None s = []
watched_values (Some w) s = values_of w s (copies_of w)

-- the same of each plain store that a machine's stands for
abbrev pub ShowsWatched : Contents → Option Watched → List (Option (List ℕ)) → Type 0
ShowsWatched p watch values =
    (s : Plain) → IsSoundStore s → StandsFor p s → watched_values watch s ≡ values

-- in none of them it is this
abbrev pub ShowsOther : Contents → Option Watched → List (Option (List ℕ)) → Type 0
ShowsOther p watch values =
    (s : Plain) → IsSoundStore s → StandsFor p s → watched_values watch s ≡ values → ⊥

-- ---- what a command says

-- what is watched, and the key or index as the answer has it
abbrev pub Chosen : Type 0
Chosen = Watched × List ℕ

abbrev pub chosen : Choice → Chosen
chosen c = (watched c.watch, string_bytes c.key)

-- the key, where the digits are bytes in hex
abbrev pub key_chosen : ℕ → Result (List ℕ) FromHexError → Option Chosen
key_chosen m (Ok key) = Some (OfKey m key, encode_lower key)
key_chosen m (Err e) = None

-- the index, where the array has it
abbrev pub place_chosen : ℕ → ℕ → ArrayShape → ℕ → Option Chosen
place_chosen cpus a g i =
    if nat_lt i g.max then Some (OfIndex a i (copies cpus g), decimal i) else None

abbrev pub index_chosen : ℕ → ℕ → Option ArrayShape → Option ℕ → Option Chosen
index_chosen cpus a None index = None
index_chosen cpus a (Some g) index = option_and_then (place_chosen cpus a g) index

-- of the maps, and the arrays after them, the one of this number: the key of a map or the index of an
-- array that the word says
abbrev pub chosen_in : Shape → ℕ → List ℕ → Option Chosen
chosen_in h m word =
    if nat_lt m (length h.maps) then key_chosen m (decode_of word)
    else index_chosen h.cpus (m - length h.maps) (slice_get h.arrays (m - length h.maps))
    (mark_in word)

-- a variable's bytes
abbrev pub variable_watched : Variable → Watched
variable_watched v = OfBytes v.array v.at (bytes_in v.size)

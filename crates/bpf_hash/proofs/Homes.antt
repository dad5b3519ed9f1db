-- Where a key belongs is one of a map's homes.
use Rattle.std.proofs.Common.{ℕ, ◌*◌, ◌/◌, ◌^◌, ◌<◌, ◌≤◌, List, [], ◌∷◌, arith}
use Rattle.std.specs.Prelude.{◌==◌, Bool, true, false, ◌||◌, fold, length}
use Rattle.bpf_hash.specs.Private.Home.{hash_round, spread_bytes, spread_key, hash_of, home_of}
use Rattle.bpf_hash.specs.Private.Rows.{Rows, IsTable}
use Rattle.bpf_hash.specs.Private.Index.{IsHome}

rounds_fit : (hash : ℕ) (key : List ℕ) → hash < 2 ^ 64 → fold hash_round hash key < 2 ^ 64
rounds_fit hash [] h = h
rounds_fit hash (byte ∷ bytes) h = rounds_fit (hash_round hash byte) bytes (omega arith)

bytes_fit : (is_number : Bool) (key : List ℕ) → spread_bytes is_number key < 2 ^ 64
bytes_fit true key = omega arith
bytes_fit false key = rounds_fit 0 key (omega arith)

hash_fits : (key : List ℕ) → hash_of key < 2 ^ 32
unfolding hash_of
hash_fits key =
    let all : spread_key key < 2 ^ 64 = bytes_fit (length key == 4 || length key == 8) key in
    omega arith

part_of : (hash homes : ℕ) → hash < 2 ^ 32 → 1 ≤ homes → hash * homes / 2 ^ 32 < homes
part_of hash homes h some = grind arith

pub home_inside : (t : Rows) → IsTable t → (key : List ℕ) (b : ℕ) → IsHome t key b → b < t.shape.max
home_inside t is key b home =
    let fits : home_of t.shape.max key < t.shape.max = part_of (hash_of key) t.shape.max (hash_fits key) is.shape.max.0 in
    omega arith

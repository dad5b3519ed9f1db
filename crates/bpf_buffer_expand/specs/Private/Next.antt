-- What moves lead to from some bytes.
use Rattle.std.specs.Prelude.{◌≡◌, ◌<◌, ◌⊎◌, ℕ, Bool, All, List, Some, slice_get}
use Rattle.bpf_expand.specs.State.{Host}
use Rattle.bpf_buffer_expand.specs.declared.expander.Next.{Next}
use Rattle.bpf_buffer_expand.specs.declared.expander.Next.TheVariants.{Refused, Idle, State}
use Rattle.bpf_buffer_expand.specs.declared.successor.Successor.{Successor}
use Rattle.bpf_buffer_expand.specs.State.{move_at, move_of, place_at, place_of, HasNoneIn, HasSomeIn, HasSuccessor, IsNoState, IsSuccessor}

abbrev pub IsNext : Host → List ℕ → ℕ → (is_flush : Bool) → Next → Type 0
IsNext h bytes c is_flush Refused = IsNoState h bytes
IsNext h bytes c is_flush Idle = HasNoneIn h bytes (move_at c is_flush)
IsNext h bytes c is_flush (State s) = (s.cpu ≡ c) × (s.is_flush ≡ is_flush)
    × HasSomeIn h bytes (move_at c is_flush)
    × IsSuccessor h bytes (move_at c is_flush) c s.ahead s.bytes.items

-- what the moves below a place lead to
pub record AreBelow (h : Host) (bytes : List ℕ) (found : List Successor) (n : ℕ) : Type 0 where
  pub each : All (λ s. IsSuccessor h bytes (move_of s) s.cpu s.ahead s.bytes.items) found
  pub work : All (λ s. HasSomeIn h bytes (move_of s)) found
  pub below : (i : ℕ) (s : Successor) → slice_get found i ≡ Some s → place_of s < n
  pub rising : (i j : ℕ) (s later : Successor) → i < j → slice_get found i ≡ Some s
      → slice_get found j ≡ Some later → place_of s < place_of later
  pub all : (c : ℕ) (is_flush : Bool) → place_at c is_flush < n
      → HasNoneIn h bytes (move_at c is_flush) ⊎ HasSuccessor h bytes found (move_at c is_flush)

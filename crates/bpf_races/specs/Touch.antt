-- What events touch of values.
use Rattle.std.specs.Prelude.{◌≡◌, ℕ, ◌+◌, ◌<◌, ◌≤◌, Bool, true, false, ◌||◌, ◌&&◌, List, Option, Some, None, slice_get}
use Rattle.bpf_shared.specs.declared.events.Event.{Event}
use Rattle.bpf_shared.specs.declared.events.Event.TheVariants.{Load, Store, Atomic}
use Rattle.bpf_shared.specs.declared.events.Size.{Size}
use Rattle.bpf_shared.specs.Access.{bytes_in}
use Rattle.bpf_races.specs.declared.access.Access.{Access}

-- the bytes of a size from an address on
abbrev pub access_at : ℕ → Size → Bool → Bool → Access
access_at at size writes atomic =
    record { at = at; past = at + bytes_in size; writes = writes; atomic = atomic }

-- what an event touches of a value
abbrev pub access_of : Event → Option Access
access_of (Load a size found) = Some (access_at a size false false)
access_of (Store a size word) = Some (access_at a size true false)
access_of (Atomic a size op operand expected found) = Some (access_at a size true true)
access_of _ = None

-- the byte at this address is one of the access's
abbrev pub Hits : Access → ℕ → Type 0
Hits a b = (a.at ≤ b) × (b < a.past)

-- both touch the byte, one of them writes, and not both are atomic
pub record AreAtOdds (first second : Access) (b : ℕ) : Type 0 where
  pub hits : Hits first b
  pub hits_too : Hits second b
  pub one_writes : first.writes || second.writes ≡ true
  pub not_both : first.atomic && second.atomic ≡ false

-- one of the list
abbrev pub IsAmong : {A : Type 0} → List A → A → Type 0
IsAmong xs x = (i : ℕ) × (slice_get xs i ≡ Some x)

-- some of the first and some of the second are at odds
abbrev pub Clash : List Access → List Access → ℕ → Type 0
Clash firsts seconds b =
    (first : Access) × (second : Access) × IsAmong firsts first × IsAmong seconds second
    × AreAtOdds first second b

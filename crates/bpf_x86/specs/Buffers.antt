-- Store buffers: the memory model of x86 (x86-TSO) over a plain store. A CPU's plain stores to values
-- wait in order, and each reaches memory later, by a flush.
use Rattle.std.specs.Prelude.{◌≡◌, ℕ, List, [], ◌∷◌, ◌++◌, map}
use Rattle.bpf_shared.specs.declared.events.Event.{Event}
use Rattle.bpf_shared.specs.declared.events.Event.TheVariants.{Lookup, Update, Load, Store}
use Rattle.bpf_shared.specs.declared.events.MapAnswer.TheVariants.{Invalid}
use Rattle.bpf_shared.specs.Store.{Plain, put}
use Rattle.bpf_shared.specs.Choice.{PlainlyAllowed}
use Rattle.bpf_shared.specs.History.{PlainlyLegal, entry}

-- memory, and by CPU the stores that wait in its buffer, the oldest first
pub record Buffered : Type 0 where
  pub memory : Plain
  pub buffers : ℕ → List Event

-- what a CPU sees: memory after its own stores, so a load is forwarded what its own buffer has
abbrev pub Sees : Buffered → ℕ → Plain → Type 0
Sees b c s = PlainlyLegal b.memory (map (entry c) (b.buffers c)) s

-- A FLUSH: the oldest store in the CPU's buffer reaches memory
abbrev pub Flushes : Buffered → ℕ → Buffered → Type 0
Flushes b c t =
    (oldest : Event) × (rest : List Event) × (s : Plain) × (b.buffers c ≡ oldest ∷ rest)
    × PlainlyAllowed b.memory c oldest s
    × (t ≡ record { memory = s; buffers = put b.buffers c rest })

-- all of them do, the oldest first
abbrev pub Drains : Buffered → ℕ → Buffered → Type 0
Drains b c t =
    (s : Plain) × Sees b c s × (t ≡ record { memory = s; buffers = put b.buffers c [] })

-- a call of memory, whatever waits
abbrev pub AsksMemory : Buffered → ℕ → Event → Buffered → Type 0
AsksMemory b c e t = (s : Plain) × PlainlyAllowed b.memory c e s × (t ≡ record b { memory = s })

-- A CALL. A load finds what the CPU sees. A store waits after the older ones. A lookup, and an
-- update that is refused for its flags, ask memory. All else drains the CPU's buffer first.
abbrev pub Calls : Buffered → ℕ → Event → Buffered → Type 0
Calls b c (Load a size found) t =
    (s : Plain) × Sees b c s × PlainlyAllowed s c (Load a size found) s × (t ≡ b)
Calls b c (Store a size x) t =
    (s : Plain) × (new : Plain) × Sees b c s × PlainlyAllowed s c (Store a size x) new
    × (t ≡ record b { buffers = put b.buffers c (b.buffers c ++ Store a size x ∷ []) })
Calls b c (Lookup m key found) t = AsksMemory b c (Lookup m key found) t
Calls b c (Update m key bytes flags Invalid) t =
    AsksMemory b c (Update m key bytes flags Invalid) t
Calls b c e t = (d : Buffered) × Drains b c d × AsksMemory d c e t

-- calls in order
abbrev pub CallsAll : Buffered → ℕ → List Event → Buffered → Type 0
CallsAll b c [] t = t ≡ b
CallsAll b c (e ∷ es) t = (m : Buffered) × Calls b c e m × CallsAll m c es t

-- What contracts see of a port, and of the store that is left when all are back.
use Rattle.std.specs.Prelude.{◌≡◌, ℕ, ◌+◌, ◌%◌, ◌^◌, ◌<◌, Bool, true, List, [], Option, None, All, length, slice_index_or}
use mathlib.Core.Option.{some}
use lib.ListN.{get_elem?}
use Rattle.atomic_table.specs.Seated.{TableId}
use Rattle.bpf_shared.specs.declared.events.Event.{Event}
use Rattle.bpf_shared.specs.declared.events.Entry.{Entry}
use Rattle.bpf_shared.specs.declared.events.Span.{Span}
use Rattle.bpf_shared.specs.History.{IsLegal, events_of}
use Rattle.bpf_shared.specs.Own.{held_by, in_run}
use Rattle.hop_layout.specs.declared.about.About.{About}
use Rattle.hop_words.specs.declared.known.Known.{Known}
use Rattle.hop_words.specs.Inside.{Shown}
use Rattle.hop_words.specs.Kinds.{run_count, TakesEffect}
use Rattle.hop_words.specs.Seats.{HasSeenBeginning}
use Rattle.hop_arena.specs.declared.arena.Arena.{Arena}
use Rattle.hop_arena.specs.Claiming.{IsArena}
use Rattle.hop_epoch.specs.declared.batches.Batches.{Batches}
use Rattle.hop_epoch.specs.Batch.{Tracks}

-- a port's table, what its CPU knows, by map where it looks for free elements and what it took out,
-- and the segment to whose overflow list the last update's new key went
pub record Port : Type 0 where
  pub table : TableId
  pub known : Known
  pub arenas : List Arena
  pub batches : List Batches
  pub spilled : Option ℕ

abbrev pub own_events : Port → List Event
own_events p = events_of p.known.cpu p.known.seen

-- whether the port's CPU is in a run
abbrev pub runs : Port → Bool
runs p = in_run (own_events p)

-- the spans of the values that the port's run looked up
abbrev pub port_holds : Port → Span → Bool
port_holds p = held_by (own_events p)

abbrev pub no_arena : Arena
no_arena = record { map = 0; elements = 0; start = 0; low = 0; high = 0 }

abbrev pub no_batches : Batches
no_batches = record { map = 0; young = None; aged = None; noted = []; returned = None }

abbrev pub arena_at : List Arena → ℕ → Arena
arena_at xs m = slice_index_or xs m no_arena

abbrev pub batches_at : List Batches → ℕ → Batches
batches_at xs m = slice_index_or xs m no_batches

-- of each of the first n maps where to look for free elements
pub record AreArenas (a : About) (n : ℕ) (xs : List Arena) : Type 0 where
  pub size : length xs ≡ n
  pub map : (m : ℕ) → m < n → (arena_at xs m).map ≡ m
  pub each : (m : ℕ) → m < n → IsArena a m (arena_at xs m).elements (arena_at xs m).start

-- of each of the first n maps the two batches, as the CPU knows them
pub record AreBatches (a : About) (l : Known) (n : ℕ) (xs : List Batches) : Type 0 where
  pub size : length xs ≡ n
  pub map : (m : ℕ) → m < n → (batches_at xs m).map ≡ m
  pub each : (m : ℕ) → m < n → Tracks a l m (batches_at xs m).young (batches_at xs m).aged
      (batches_at xs m).noted

-- the port is one of this table's. In a run its counter can count once more
pub record IsPortOf (t : Shown) (p : Port) : Type 0 where
  pub table : p.table ≡ t.id
  pub cpu : p.known.cpu < t.about.shape.cpus
  pub even : t.about.count % 2 ≡ 0
  pub room : runs p ≡ true → run_count t.about p.known + 1 < 2 ^ 64
  -- what the CPU has seen is a legal history
  pub legal : IsLegal t.about.shape p.known.seen
  pub limbo : length p.known.limbo ≡ length t.about.shape.maps
  pub arenas : AreArenas t.about (length t.about.shape.maps) p.arenas
  pub batches : AreBatches t.about p.known (length t.about.shape.maps) p.batches

-- the port's CPU does this: of what it has seen it is the last, after all that it had seen and
-- after events of others
pub record PortDoes (a : About) (p : Port) (e : Event) (q : Port) : Type 0 where
  pub table : q.table ≡ p.table
  pub cpu : q.known.cpu ≡ p.known.cpu
  pub seen : TakesEffect a p.known e q.known.seen

abbrev pub known_of : Port → Known
known_of p = p.known

-- these are ports of this table, and each of its CPUs has one
pub record IsAllOf (t : Shown) (ports : List Port) : Type 0 where
  pub table : All (λ p. p.table ≡ t.id) ports
  pub each : (c : ℕ) → c < t.about.shape.cpus
      → (k : ℕ) × (p : Port) × (get_elem? ports k ≡ some p) × (p.known.cpu ≡ c)

-- what the port has seen is its CPU's part of this history: a beginning with all its own events
abbrev pub IsPartOf : List Entry → Port → Type 0
IsPartOf history p = HasSeenBeginning p.known history

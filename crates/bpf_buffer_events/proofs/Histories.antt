-- The history of a run with store buffers, and what follows from its definition.
use Rattle.std.proofs.Common.{◌≡◌, ◌∙◌, ℕ, zero, suc, Bool, List, [], ◌∷◌, ◌++◌, inl, refl, sym, ap}
use Rattle.std.specs.Prelude.{map, nat_lt, string_bytes}
use Rattle.bpf_shared.specs.Shape.{Shape}
use Rattle.bpf_names.specs.Names.{Names}
use Rattle.bpf_plain.specs.Alike.{IsSameShape}
use Rattle.bpf_plain.specs.PlainStore.{Contents, has_cpu}
use Rattle.bpf_machine.specs.Machine.{MachineState, Shows}
use Rattle.bpf_machine.specs.Schedule.{World, unrolled}
use Rattle.bpf_x86.specs.Machine.{X86, Move, TurnOf, FlushOf, drained}
use Rattle.bpf_buffering.specs.Search.{ShowsX86, move_of}
use Rattle.bpf_flushes.specs.Moves.{Makes, MakesAll, MakesRounds, round_below}
use Rattle.bpf_jobs.specs.Printed.{Tells}
use Rattle.bpf_buffer_events.specs.Happenings.{Item, MakesWith, MakesAllWith, MakesRoundsWith}
use Rattle.bpf_buffer_events.specs.Printed.{item_lines, IsHistoryWithBuffers, HistoriesAreOfReportsWithBuffers}
use Rattle.bpf_buffer_events.specs.Private.Told.{ArePrinted, By, LastRounds}
use Rattle.bpf_buffer_events.specs.Private.Watched.{HasShape}
use Rattle.bpf_buffer_events.specs.declared.telling.Scene.{Scene}
use Rattle.bpf_buffer_events.proofs.Items.{lines_both}

-- a store of the machine's shape
pub same_shape : (h : Shape) (m : MachineState) (w : World) (p : Contents) → Shows m w → w.store.shape ≡ h → HasShape h p → IsSameShape m.store p
same_shape h m w p shows shape made =
    let cpus : (c : ℕ) → has_cpu m.store c ≡ nat_lt c h.cpus = λ c. ap (λ (n : ℕ). nat_lt c n) (sym shows.store.maps.cpus ∙ ap (λ (s : Shape). s.cpus) shape) in
    (λ c. made.0 c ∙ sym (cpus c), made.1 ∙ (sym shape ∙ shows.store.shape))

pub history_told : (w : World) (old mid new : Scene) (names : Names) (runs : List (ℕ × ℕ)) (maps : Bool) (told text : List ℕ) (stopped : Bool)
    → ShowsX86 old.machine (drained w) → string_bytes old.text ≡ [] → ArePrinted (By (map move_of (unrolled runs))) names.maps old mid
    → ArePrinted LastRounds names.maps mid new
    → ((z : X86) → ShowsX86 new.machine z → Tells z.world.store z.world.jobs names maps told stopped)
    → text ≡ string_bytes new.text ++ told → IsHistoryWithBuffers w runs names maps text stopped
history_told w old mid new names runs maps told text stopped shows fresh before after tells is =
    let a = before (drained w) shows in
    let b = after a.0 a.3 in
    let all : string_bytes new.text ≡ [] ++ item_lines names.maps (a.1 ++ b.1) =
    lines_both names.maps a.1 b.1 [] (string_bytes mid.text) (string_bytes new.text)
    (a.4 ∙ ap (λ (x : List ℕ). x ++ item_lines names.maps a.1) fresh) b.4 in (
      b.0,
      a.1 ++ b.1,
      told,
      (a.0, a.1, b.2.0, b.1, a.2, b.2.1, refl),
      tells b.0 b.3,
      is ∙ ap (λ (x : List ℕ). x ++ told) all,
    )

-- ---- a history is of a run
makes_of : (x z : X86) (move : Move) (log : List Item) → MakesWith x move log z → Makes x move z
makes_of x z (TurnOf c) log made = inl (made.0, made.1)
makes_of x z (FlushOf c) log made = made.0

makes_all_of : (moves : List Move) (x z : X86) (log : List Item) → MakesAllWith x moves log z → MakesAll x moves z
makes_all_of [] x z log made = made.0
makes_all_of (move ∷ moves) x z log made = (made.0, makes_of x made.0 move made.1 made.3, makes_all_of moves made.0 z made.2 made.4)

rounds_of : (n : ℕ) (x z : X86) (log : List Item) → MakesRoundsWith n x log z → MakesRounds n x z
rounds_of zero x z log made = (made.0, made.1)
rounds_of (suc n) x z log (works, (y, first, rest, round, rounds, is)) =
    (works, (y, makes_all_of (round_below x.world.store.shape.cpus) x y first round, rounds_of n y z rest rounds))

pub histories_are_of_reports : HistoriesAreOfReportsWithBuffers
histories_are_of_reports w runs names maps text stopped (z, log, told, (y, first, n, rest, made, rounds, all), tells, is) = (
  item_lines names.maps log,
  told,
  (z, (y, makes_all_of (map move_of (unrolled runs)) (drained w) y first made, (n, rounds_of n y z rest rounds)), tells),
  is,
)

-- The lines of a program near a pc, one after the other.
use Rattle.std.proofs.Common.{◌≡◌, ℕ, suc, ◌+◌, List, ◌++◌, Some, sym, ap, subst, ◌∙◌, arith}
use Rattle.std.specs.Prelude.{slice_get}
use Rattle.bpf_loader.specs.Loaded.{Loaded}
use Rattle.bpf_loader.specs.Places.{IsStart}
use Rattle.bpf_cpu.specs.declared.cpu.Cpu.{Cpu}
use Rattle.bpf_cpu.specs.Task.{Task, InHand}
use Rattle.bpf_machine.specs.Hands.{IsAt}
use Rattle.bpf_machine.specs.Machine.{MachineState}
use Rattle.bpf_machine.specs.Parts.{CanStand}
use Rattle.bpf_debug.specs.Nearby.{IsLineAt, TellsLines}

pub line_more : (program : Loaded) (here first n : ℕ) (old line new : List ℕ) → TellsLines program here first n old → IsLineAt program here
    (first + n) line → new ≡ old ++ line → TellsLines program here first (n + 1) new
line_more program here first n old line new before is put =
    let all : TellsLines program here first (suc n) new = (old, line, before, is, put) in
    let next : suc n ≡ n + 1 = omega arith in
    subst (λ (k : ℕ). TellsLines program here first k new) next all

-- the CPU's pc is that of an instruction of the job's program
pub starts_here : (m : MachineState) (c j : ℕ) (task other : Task) (state : Cpu) (left : ℕ) (program : Loaded) → CanStand m → IsAt m.jobs c
    j task (InHand state left)
    → slice_get m.jobs j ≡ Some other → slice_get m.programs other.program ≡ Some program → IsStart program.instructions state.pc
starts_here m c j task other state left program stands at listed loaded =
    let fits = stands.hand c j task state left at in
    let tasks : Some task ≡ Some other = sym at.listed ∙ listed in
    let same : task ≡ other = cc in
    let programs : Some fits.program ≡ Some program = sym fits.loaded ∙ ap (λ (t : Task). slice_get m.programs t.program) same ∙ loaded in
    let equal : fits.program ≡ program = cc in
    subst (λ (p : Loaded). IsStart p.instructions state.pc) equal fits.ready.here

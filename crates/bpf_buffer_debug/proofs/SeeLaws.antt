-- What is printed of a CPU that has a job in hand, or none.
use Rattle.std.proofs.Common.{◌≡◌, ◌∙◌, ℕ, List, length, Option, Some, inl, inr, refl, sym, ap, subst}
use Rattle.std.specs.Prelude.{map, slice_get, slice_index_or, string_bytes}
use Rattle.bpf_names.specs.Names.{Names}
use Rattle.std.proofs.lemmas.Option.{slice_get_read}
use Rattle.bpf_plain.specs.PlainStore.{Contents}
use Rattle.bpf_loader.specs.Loaded.{Loaded}
use Rattle.bpf_loader.specs.Places.{IsStart}
use Rattle.bpf_cpu.specs.declared.cpu.Cpu.{Cpu}
use Rattle.bpf_cpu.specs.Task.{Task, InHand}
use Rattle.bpf_machine.specs.Hands.{IsAt, IsFree}
use Rattle.bpf_machine.specs.Machine.{MachineState}
use Rattle.bpf_buffering.specs.Buffering.{IsSeenBy, Stands}
use Rattle.bpf_buffering.specs.Search.{BufferedState}
use Rattle.bpf_debug.specs.Answer.{IsOff, IsWhere}
use Rattle.bpf_debug.specs.Held.{IsHeldText, ShowsHeld}
use Rattle.bpf_debug.specs.Read.{IsMemoryText, TellsBytes}
use Rattle.bpf_debug.specs.declared.show.Shown.{Shown}
use Rattle.bpf_debug.specs.Private.Naming.{ShowsLines}
use Rattle.bpf_buffer_debug.specs.Seeing.{TellsSeenHeld, TellsSeenLines, TellsSeenMemory}

pub off : (jobs : List Task) (c : ℕ) (text : List ℕ) → IsFree jobs c → IsWhere jobs c text → IsOff jobs c text
off jobs c text free is = elim is [
  | inl hand ↦ absurd (free hand.0 hand.1 hand.2 hand.3 hand.4)
  | inr none ↦ none
]

-- ---- what the CPU sees
pub seen_bytes : (m : BufferedState) (c j : ℕ) (state : Cpu) (seen : Contents) (at : Option ℕ) (n : ℕ) (last : List ℕ) → IsSeenBy m c seen
    → ((task : Task) × (left : ℕ) × IsAt m.machine.jobs c j task (InHand state left)) → TellsBytes seen state at n last
    → TellsSeenMemory m c at n last
seen_bytes m c j state seen at n last sees hand tells x shows =
    let s = sees x shows in
    let J : List Task → Type 0 = λ jobs. IsMemoryText s.0 jobs c at n last in
    (s.0, s.1, subst J (sym shows.world.jobs) (inl (j, hand.0, state, hand.1, hand.2, tells s.0 s.2 s.3)))

pub no_bytes : (m : BufferedState) (c : ℕ) (seen : Contents) (at : Option ℕ) (n : ℕ) (last : List ℕ) → IsSeenBy m c seen
    → IsOff m.machine.jobs c last → TellsSeenMemory m c at n last
no_bytes m c seen at n last sees is x shows =
    let s = sees x shows in
    let J : List Task → Type 0 = λ jobs. IsMemoryText s.0 jobs c at n last in
    (s.0, s.1, subst J (sym shows.world.jobs) (inr is))

pub seen_held : (names : List (List ℕ)) (m : BufferedState) (c j : ℕ) (state : Cpu) (seen : Contents) (last : List ℕ) → IsSeenBy m c seen
    → ((task : Task) × (left : ℕ) × IsAt m.machine.jobs c j task (InHand state left))
    → ShowsHeld names seen state (length state.held) last → TellsSeenHeld names m c last
seen_held names m c j state seen last sees hand tells x shows =
    let s = sees x shows in
    let J : List Task → Type 0 = λ jobs. IsHeldText names s.0 jobs c last in
    (s.0, s.1, subst J (sym shows.world.jobs) (inl (j, hand.0, state, hand.1, hand.2, tells s.0 s.2 s.3)))

pub no_held : (names : List (List ℕ)) (m : BufferedState) (c : ℕ) (seen : Contents) (last : List ℕ) → IsSeenBy m c seen
    → IsOff m.machine.jobs c last → TellsSeenHeld names m c last
no_held names m c seen last sees is x shows =
    let s = sees x shows in
    let J : List Task → Type 0 = λ jobs. IsHeldText names s.0 jobs c last in
    (s.0, s.1, subst J (sym shows.world.jobs) (inr is))

pub seen_lines : (names : Names) (m : BufferedState) (c j : ℕ) (state : Cpu) (seen : Contents) (shown : Shown) → IsSeenBy m c seen
    → ((task : Task) × (left : ℕ) × IsAt m.machine.jobs c j task (InHand state left)) → shown.registers ≡ state.registers
    → ShowsLines names seen state.held 0 state.registers (map string_bytes shown.lines.items) → TellsSeenLines names m c shown
seen_lines names m c j state seen shown sees hand same tells x shows =
    let s = sees x shows in
    let J : List Task → Type 0 = λ jobs. IsAt jobs c j hand.0 (InHand state hand.1) in
    (s.0, j, hand.0, state, hand.1, s.1, subst J (sym shows.world.jobs) hand.2, same, tells s.0 s.2 s.3)

-- ---- the program of the job
pub program_here : (m : MachineState) (c j : ℕ) (task other : Task) (state : Cpu) (left : ℕ) (programs : List Loaded) (program : Loaded) → Stands m
    → IsAt m.jobs c j task (InHand state left) → slice_get m.jobs j ≡ Some other → programs ≡ m.programs
    → program ≡ slice_index_or programs other.program program
    → (slice_get m.programs task.program ≡ Some program) × (slice_get m.programs other.program ≡ Some program)
program_here m c j task other state left programs program stands at listed are read =
    let tasks : Some task ≡ Some other = sym at.listed ∙ listed in
    let same : task ≡ other = cc in
    let here : program ≡ slice_index_or m.programs other.program program = subst
    (λ (ps : List Loaded). program ≡ slice_index_or ps other.program program) are read in
    let got : slice_get m.programs other.program ≡ Some program = slice_get_read m.programs (length m.programs) other.program program refl
    (stands.loaded j other listed) here in
    (ap (λ (t : Task). slice_get m.programs t.program) same ∙ got, got)

-- ---- the CPU's pc is that of an instruction of the job's program
pub starts_here : (m : MachineState) (c j : ℕ) (task other : Task) (state : Cpu) (left : ℕ) (program : Loaded) → Stands m
    → IsAt m.jobs c j task (InHand state left) → slice_get m.jobs j ≡ Some other → slice_get m.programs other.program ≡ Some program
    → IsStart program.instructions state.pc
starts_here m c j task other state left program stands at listed loaded =
    let fits = stands.hand c j task state left at in
    let tasks : Some task ≡ Some other = sym at.listed ∙ listed in
    let same : task ≡ other = cc in
    let programs : Some fits.program ≡ Some program = sym fits.loaded ∙ ap (λ (t : Task). slice_get m.programs t.program) same ∙ loaded in
    let equal : fits.program ≡ program = cc in
    subst (λ (p : Loaded). IsStart p.instructions state.pc) equal fits.ready.here

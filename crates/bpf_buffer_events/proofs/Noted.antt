-- What is noted of a turn of the x86 machine before it is made happens in it.
use Rattle.std.proofs.Common.{◌≡◌, ◌<◌, ◌∙◌, ℕ, zero, suc, Bool, true, false, List, [], ◌∷◌, ◌++◌, Some, None, ◌⊎◌, inl, inr, refl}
use Rattle.std.proofs.Common.{sym, ap, subst, length, get_or}
use Rattle.std.specs.Prelude.{slice_get}
use Rattle.std.proofs.lemmas.Option.{slice_get_within, slice_get_read}
use Rattle.bpf_shared.specs.Shape.{Shape}
use Rattle.bpf_shared.specs.declared.events.Span.{Span}
use Rattle.bpf_shared.specs.declared.events.Event.{Event}
use Rattle.bpf_shared.specs.declared.events.Event.TheVariants.{Begin}
use Rattle.bpf_shared.specs.Store.{Plain}
use Rattle.bpf_plain.specs.PlainStore.{has_cpu, is_running, held_spans}
use Rattle.bpf_helpers.specs.Held.{AreHeld}
use Rattle.bpf_loader.specs.Loaded.{Loaded}
use Rattle.bpf_cpu.specs.declared.cpu.Cpu.{Cpu}
use Rattle.bpf_cpu.specs.State.{start}
use Rattle.bpf_cpu.specs.Step.{IsReady, Step}
use Rattle.bpf_cpu.specs.Task.{Stage, Task, Waiting, InHand}
use Rattle.bpf_machine.specs.declared.machine.Turn.{Turn}
use Rattle.bpf_machine.specs.Hands.{IsAt, IsFree, NoneWaits, NoneWaitsBelow}
use Rattle.bpf_machine.specs.Happenings.{happening, end_events, HasEvents}
use Rattle.bpf_machine.specs.Machine.{MachineState}
use Rattle.bpf_machine.specs.Work.{HasInHand, IsNext}
use Rattle.bpf_x86.specs.Buffers.{Sees}
use Rattle.bpf_x86.specs.Machine.{X86, buffered, with_buffered}
use Rattle.bpf_x86.specs.Forwarding.{AreStores}
use Rattle.bpf_buffering.specs.Buffering.{IsSeenBy, Stands}
use Rattle.bpf_buffering.specs.Search.{BufferedState, buffer_at}
use Rattle.bpf_events.specs.Watched.{Recording, FitsStage, NotesStage, NotesStep, NotesBegin}
use Rattle.bpf_buffer_events.specs.Happenings.{HasCalls, items}
use Rattle.bpf_buffer_events.specs.Private.Watched.{IsWatched, noted}
use Rattle.bpf_buffer_events.proofs.Seen.{call_seen, calls_seen, stores_change_bytes}

-- ---- the job that a CPU goes on with fits what it sees
pub stage_fits : (m : BufferedState) (c j : ℕ) (task : Task) (program : Loaded) (x : Recording) → Stands m.machine
    → HasInHand m.machine.jobs c j ⊎ IsNext m.machine.jobs c j → slice_get m.machine.jobs j ≡ Some task
    → slice_get m.machine.programs task.program ≡ Some program → held_spans x.store ≡ held_spans m.machine.store
    → is_running x.store ≡ is_running m.machine.store → FitsStage program c task.stage x
stage_fits m c j task program x stands work listed loaded held running = elim work [
  | inl (t, state, left, at) ↦
      let both : Some t ≡ Some task = sym at.listed ∙ listed in
      let same : t ≡ task = cc in
      let fits = stands.hand c j t state left at in
      let programs : Some fits.program ≡ Some program = sym fits.loaded ∙ (ap (λ (u : Task). slice_get m.machine.programs u.program) same ∙ loaded) in
      let one : fits.program ≡ program = cc in
      let stage : task.stage ≡ InHand state left = ap (λ (u : Task). u.stage) (sym same) ∙ at.at in
      let fit : FitsStage program c (InHand state left) x = (
        fits.number,
        subst (λ (p : Loaded). IsReady p state) one fits.ready,
        subst (λ (spans : ℕ → Span → Bool). AreHeld (spans c) state.held) (sym held) fits.held,
        ap (λ (f : ℕ → Bool). f c) running ∙ fits.runs,
      ) in
      subst (λ (s : Stage). FitsStage program c s x) (sym stage) fit
  | inr (free, (t, input, at), lowest) ↦
      let both : Some t ≡ Some task = sym at.listed ∙ listed in
      let same : t ≡ task = cc in
      let stage : task.stage ≡ Waiting input = ap (λ (u : Task). u.stage) (sym same) ∙ at.at in
      let fit : FitsStage program c (Waiting input) x = ap (λ (f : ℕ → Bool). f c) running ∙ stands.idle c free in
      subst (λ (s : Stage). FitsStage program c s x) (sym stage) fit
]

-- a CPU without work
pub idle_watched : (m : BufferedState) (c : ℕ) (events : List Event) → IsFree m.machine.jobs c × NoneWaits m.machine.jobs c
    → IsWatched m c None events
idle_watched m c events idle x shows answer =
    let P : List Task → Type 0 = λ jobs. IsFree jobs c × NoneWaits jobs c in
    let none = subst P (sym shows.world.jobs) idle in
    inr (inr (none.0, none.1, refl))

-- ---- the events of a step over what the CPU sees are its calls
pub calls_of : (x : X86) (c number : ℕ) (program : Loaded) (s : Plain) (old : Cpu) (left : ℕ) (events : List Event)
    → slice_get x.world.programs number ≡ Some program → AreStores (x.buffers c) → Sees (buffered x) c s
    → HasEvents program c s old left events → HasCalls x c number old left events
calls_of x c number program s old zero events loaded stores sees none = none
calls_of x c number program s old (suc n) events loaded stores sees (answer, new, t, step, legal) =
    let only = stores_change_bytes c (x.buffers c) x.world.store s stores sees in
    let shape : s.shape ≡ x.world.store.shape = ap (λ (z : Plain). z.shape) only.same in
    let calls = calls_seen c events (buffered x) s t stores sees legal in
    (program, answer, new, calls.0, loaded, subst (λ (h : Shape). Step h program old events answer new) shape step, calls.1)

same_items : (c j pc at : ℕ) (waiting noted first events : List Event) (answer : Turn) → pc ≡ at → first ≡ [] → noted ≡ first ++ events
    → items c (happening c j pc) waiting (noted ++ end_events answer) ≡ items c (happening c j at) waiting (events ++ end_events answer)
same_items c j pc at waiting noted first events answer pcs fresh is =
    ap (λ (n : ℕ). items c (happening c j n) waiting (noted ++ end_events answer)) pcs
    ∙ ap (λ (es : List Event). items c (happening c j at) waiting (es ++ end_events answer)) (is ∙ ap (λ (es : List Event). es ++ events) fresh)

pub stage_watched : (m : BufferedState) (c j pc : ℕ) (task : Task) (program : Loaded) (x y : Recording)
    → HasInHand m.machine.jobs c j ⊎ IsNext m.machine.jobs c j → slice_get m.machine.jobs j ≡ Some task
    → slice_get m.machine.programs task.program ≡ Some program → AreStores (buffer_at m.buffers c) → IsSeenBy m c x.store → x.events ≡ []
    → y.lost ≡ false → FitsStage program c task.stage x → NotesStage program c task.stage task.budget x y pc
    → IsWatched m c (Some (j, pc)) y.events
stage_watched m c j pc task program x y (inl (t, state, left, at)) listed loaded stores seen fresh kept fits notes w shows answer =
    let both : Some t ≡ Some task = sym at.listed ∙ listed in
    let same : t ≡ task = cc in
    let here : IsAt m.machine.jobs c j task (InHand state left) = subst (λ (u : Task). IsAt m.machine.jobs c j u (InHand state left)) same at in
    let fit : FitsStage program c (InHand state left) x = subst (λ (s : Stage). FitsStage program c s x) here.at fits in
    let number : (pc ≡ state.pc) × NotesStep program state left x y = subst (λ (s : Stage). NotesStage program c s task.budget x y pc) here.at notes in
    let there = seen w shows in
    let s = there.0 in
    let r = (number.1 kept).1 s there.2 there.3 in
    let waits : AreStores (w.buffers c) = subst (λ (f : ℕ → List Event). AreStores (f c)) (sym shows.buffers) stores in
    let A : List Task → Type 0 = λ jobs. IsAt jobs c j task (InHand state left) in
    let P : List Loaded → Type 0 = λ ps. slice_get ps task.program ≡ Some program in
    let events : HasEvents program c s state left r.0 = subst (λ (n : ℕ). HasEvents program n s state left r.0) fit.0 r.1 in
    inl (
      j,
      task,
      state,
      left,
      r.0,
      subst A (sym shows.world.jobs) here,
      calls_of w c task.program program s state left r.0 (subst P (sym shows.world.programs) loaded) waits there.1 events,
      same_items c j pc state.pc (w.buffers c) y.events x.events r.0 answer number.0 fresh r.2,
    )
stage_watched m c j pc task program x y (inr (free, (t, input, at), lowest)) listed loaded stores seen fresh kept fits notes w shows answer =
    let both : Some t ≡ Some task = sym at.listed ∙ listed in
    let same : t ≡ task = cc in
    let here : IsAt m.machine.jobs c j task (Waiting input) = subst (λ (u : Task). IsAt m.machine.jobs c j u (Waiting input)) same at in
    let begun : (pc ≡ 0) × NotesBegin program c input task.budget x y =
    subst (λ (s : Stage). NotesStage program c s task.budget x y pc) here.at notes in
    let there = seen w shows in
    let s = there.0 in
    let r = (begun.1 kept).1 s there.2 there.3 in
    let waits : AreStores (w.buffers c) = subst (λ (f : ℕ → List Event). AreStores (f c)) (sym shows.buffers) stores in
    let b = call_seen (buffered w) c waits Begin s r.0 there.1 r.2 in
    let F : List Task → Type 0 = λ jobs. IsFree jobs c in
    let A : List Task → Type 0 = λ jobs. IsAt jobs c j task (Waiting input) in
    let B : List Task → Type 0 = λ jobs. NoneWaitsBelow jobs c j in
    let P : List Loaded → Type 0 = λ ps. slice_get ps task.program ≡ Some program in
    inr (inl (
      subst F (sym shows.world.jobs) free,
      (
        j,
        task,
        input,
        b.0,
        r.1,
        subst A (sym shows.world.jobs) here,
        subst B (sym shows.world.jobs) lowest,
        b.1,
        calls_of (with_buffered w b.0) c task.program program r.0 (start c input) task.budget r.1 (subst P (sym shows.world.programs) loaded) b.3 b.2 r.3,
        same_items c j pc 0 (w.buffers c) y.events x.events (Begin ∷ r.1) answer begun.0 fresh r.4,
      ),
    ))

-- ---- a job that is copied
-- its place in the list
pub job_within : (jobs : List Task) (c j : ℕ) → HasInHand jobs c j ⊎ IsNext jobs c j → j < length jobs
job_within jobs c j (inl (task, state, left, at)) = slice_get_within jobs j task at.listed
job_within jobs c j (inr (free, (task, input, at), lowest)) = slice_get_within jobs j task at.listed

-- its program by its number
pub program_read : (m : MachineState) (j : ℕ) (task : Task) (program : Loaded) (xs : List Loaded) → Stands m → slice_get m.jobs j ≡ Some task
    → xs ≡ m.programs → program ≡ get_or xs task.program program → slice_get m.programs task.program ≡ Some program
program_read m j task program xs stands listed same is =
    slice_get_read m.programs (length m.programs) task.program program refl (stands.loaded j task listed)
    (is ∙ ap (λ (ys : List Loaded). get_or ys task.program program) same)

-- its CPU
pub served_here : (m : MachineState) (c j : ℕ) → Stands m → HasInHand m.jobs c j ⊎ IsNext m.jobs c j → has_cpu m.store c ≡ true
served_here m c j stands (inl (task, state, left, at)) = ap (has_cpu m.store) (sym at.of) ∙ stands.served j task at.listed
served_here m c j stands (inr (free, (task, input, at), lowest)) = ap (has_cpu m.store) (sym at.of) ∙ stands.served j task at.listed

-- What a recorder notes of a turn that is to be made.
use Rattle.std.proofs.Common.{◌≡◌, ◌∙◌, ℕ, suc, Bool, true, false, List, [], ◌∷◌, ◌++◌, append_assoc, append-nil, length, get_or, ◌⊎◌, ◌<◌}
use Rattle.std.proofs.Common.{zero, arith, Some, None, map, inl, inr, refl, sym, ap, subst}
use Rattle.bpf_shared.specs.Shape.{Shape}
use Rattle.std.specs.Prelude.{slice_get}
use Rattle.std.proofs.lemmas.Option.{slice_get_read}
use Rattle.bpf_shared.specs.declared.events.Event.{Event}
use Rattle.bpf_shared.specs.declared.events.Event.TheVariants.{Begin}
use Rattle.bpf_shared.specs.History.{events_of}
use Rattle.bpf_shared.specs.Passage.{Calls}
use Rattle.bpf_shared.specs.Chain.{Chain}
use Rattle.bpf_shared.specs.Store.{put}
use Rattle.bpf_shared.proofs.Puts.{put-same}
use Rattle.bpf_shared.proofs.Chains.{events_of-append, events_of-own}
use Rattle.bpf_plain.specs.PlainStore.{Contents, Passes, StandsFor, has_cpu, is_running, held_spans, shape_of}
use Rattle.bpf_helpers.specs.Held.{AreHeld}
use Rattle.bpf_loader.specs.Loaded.{Loaded}
use Rattle.bpf_cpu.specs.declared.cpu.Cpu.{Cpu}
use Rattle.bpf_cpu.specs.declared.input.Input.{Input}
use Rattle.bpf_cpu.specs.declared.outcome.Progress.{Progress}
use Rattle.bpf_cpu.specs.declared.outcome.Progress.TheVariants.{On}
use Rattle.bpf_cpu.specs.State.{start}
use Rattle.bpf_cpu.specs.Step.{IsReady, Step}
use Rattle.bpf_cpu.specs.Task.{Stage, Task, Waiting, InHand, Ended}
use Rattle.bpf_machine.specs.declared.machine.Turn.{Turn}
use Rattle.bpf_machine.specs.Hands.{IsAt, IsFree, NoneWaits, NoneWaitsBelow}
use Rattle.bpf_machine.specs.Happenings.{happening, end_events, HasEvents}
use Rattle.bpf_machine.specs.Machine.{MachineState}
use Rattle.bpf_machine.specs.Parts.{CanStand}
use Rattle.bpf_machine.specs.Work.{HasInHand, IsNext}
use Rattle.bpf_machine.proofs.OwnEvents.{chain_leads, call_leads}
use Rattle.bpf_events.specs.Private.Recording.{Recording, PassesNoted}
use Rattle.bpf_events.specs.Private.Watching.{CanStepAt, FitsStage, IsQuietAt, IsWatched, NotesBegin, NotesStage, NotesStep, noted}

abbrev serves : Recording → ℕ → Bool
serves r = has_cpu r.store

-- ---- a step
pub none_noted : (program : Loaded) (old : Cpu) (left : ℕ) (x : Recording) → left ≡ 0 → NotesStep program old left x x
none_noted program old left x none = subst (λ (n : ℕ). NotesStep program old n x x) (sym none)
    (λ kept. (kept, λ s sound shows. ([], refl, sym (append-nil x.events))))

pub step_noted : (program : Loaded) (old new : Cpu) (left m : ℕ) (answer : Progress) (x y : Recording) → left ≡ suc m → old.number ≡ x.cpu
    → (events : List Event) × Chain PassesNoted serves old.number x y events × Step (shape_of x.store) program old events answer new
    → NotesStep program old left x y
step_noted program old new left m answer x y more own step =
    subst (λ (n : ℕ). NotesStep program old n x y) (sym more) (λ kept.
    let chain = step.1 in
    let note = chain.passage.2 kept in
    let plain : Chain Passes has_cpu old.number x.store y.store step.0 =
    record { log = chain.log; passage = chain.passage.0; own = chain.own; foreign = chain.foreign; serves_same = chain.serves_same }
    in
    let mine : events_of x.cpu chain.log ≡ step.0 = subst (λ (c : ℕ). events_of c chain.log ≡ step.0) own chain.own in (
      note.0,
      λ s sound shows.
          let r = chain_leads x.store y.store old.number step.0 plain s sound shows in
          let Q : Shape → Type 0 = λ h. Step h program old step.0 answer new in
          (step.0, (answer, new, r.0, subst Q (sym shows.shape) step.2, r.1), note.1 ∙ ap (λ (es : List Event). x.events ++ es) mine),
    ))

-- a step that no store sees
pub quiet_noted : (program : Loaded) (stage : Stage) (pc c budget : ℕ) (x y : Recording) → IsQuietAt program stage pc → x.lost ≡ false → y.events ≡ x.events
    → NotesStage program c stage budget x y pc
quiet_noted program (Waiting input) pc c budget x y quiet kept same = absurd quiet
quiet_noted program (Ended outcome) pc c budget x y quiet kept same = absurd quiet
quiet_noted program (InHand state left) pc c budget x y (at, more, (new, step)) kept same =
    (at, quiet left more)
  where
    quiet : (left : ℕ) → 0 < left → NotesStep program state left x y
    quiet zero more = absurd (omega arith)
    quiet (suc n) more = λ fine. (kept, λ s sound shows. ([], (On, new, s, step s.shape, refl), same ∙ sym (append-nil x.events)))

-- ---- the beginning of a run
pub begin_serves : (state : Cpu) (c : ℕ) (input : Input) (x m : Recording) → state ≡ start c input → serves m ≡ serves x → has_cpu x.store c
    ≡ true → has_cpu m.store state.number ≡ true
begin_serves state c input x m starts same served =
    ap (λ (s : Cpu). has_cpu m.store s.number) starts ∙ (ap (λ (f : ℕ → Bool). f c) same ∙ served)

pub begin_runs : (state : Cpu) (c : ℕ) (input : Input) (x m : Recording) → state ≡ start c input → is_running m.store ≡ put
    (is_running x.store) c true → is_running m.store state.number ≡ true
begin_runs state c input x m starts runs =
    ap (λ (s : Cpu). is_running m.store s.number) starts ∙ (ap (λ (f : ℕ → Bool). f c) runs ∙ put-same (is_running x.store) c c true refl)

pub begin_noted : (program : Loaded) (c : ℕ) (input : Input) (budget : ℕ) (old : Cpu) (x m y : Recording) → c ≡ x.cpu → has_cpu x.store c ≡ true
    → Calls (PassesNoted x m) (serves x) c Begin → serves m ≡ serves x → old ≡ start c input → NotesStep program old budget m y
    → NotesBegin program c input budget x y
begin_noted program c input budget old x m y own served call same starts step kept =
    let later = step kept in
    let note = call.passage.2 later.0 in
    let plain : Calls (Passes x.store m.store) (has_cpu x.store) c Begin =
    record { others = call.others; foreign = call.foreign; passage = call.passage.0 }
    in
    let log = call.others ++ record { cpu = c; event = Begin } ∷ [] in
    let here : events_of c log ≡ Begin ∷ [] =
    events_of-append c call.others (record { cpu = c; event = Begin } ∷ []) ∙
    (ap (λ (es : List Event). es ++ events_of c (record { cpu = c; event = Begin } ∷ [])) (call.foreign c served) ∙ events_of-own c Begin)
    in
    let mine : events_of x.cpu log ≡ Begin ∷ [] = subst (λ (n : ℕ). events_of n log ≡ Begin ∷ []) own here in (
      note.0,
      λ s sound shows.
          let r = call_leads x.store m.store c Begin served plain same s sound shows in
          let t = later.1 r.0 r.2 r.3 in
          let P : Cpu → Type 0 = λ state. HasEvents program state.number r.0 state budget t.0 in
          let all : y.events ≡ x.events ++ Begin ∷ t.0 =
          t.2 ∙ (ap (λ (es : List Event). es ++ t.0) (note.1 ∙ ap (λ (es : List Event). x.events ++ es) mine) ∙ append_assoc x.events (Begin ∷ []) t.0)
          in
          (r.0, t.0, r.1, subst P starts t.1, all),
    )

-- ---- a turn
-- the job that a CPU goes on with fits the store
pub stage_fits : (m : MachineState) (c j : ℕ) (task : Task) (program : Loaded) (x : Recording) → CanStand m → HasInHand m.jobs c j ⊎ IsNext m.jobs c j
    → slice_get m.jobs j ≡ Some task → slice_get m.programs task.program ≡ Some program → x.store ≡ m.store → FitsStage program c task.stage x
stage_fits m c j task program x stands work listed loaded store = elim work [
  | inl (t, state, left, at) ↦
      let both : Some t ≡ Some task = sym at.listed ∙ listed in
      let same : t ≡ task = cc in
      let fits = stands.hand c j t state left at in
      let programs : Some fits.program ≡ Some program = sym fits.loaded ∙ (ap (λ (u : Task). slice_get m.programs u.program) same ∙ loaded) in
      let one : fits.program ≡ program = cc in
      let stage : task.stage ≡ InHand state left = ap (λ (u : Task). u.stage) (sym same) ∙ at.at in
      let fit : FitsStage program c (InHand state left) x = (
        fits.number,
        subst (λ (p : Loaded). IsReady p state) one fits.ready,
        subst (λ (s : Contents). AreHeld (held_spans s c) state.held) (sym store) fits.held,
        subst (λ (s : Contents). is_running s c ≡ true) (sym store) fits.runs,
      ) in
      subst (λ (s : Stage). FitsStage program c s x) (sym stage) fit
  | inr (free, (t, input, at), lowest) ↦
      let both : Some t ≡ Some task = sym at.listed ∙ listed in
      let same : t ≡ task = cc in
      let stage : task.stage ≡ Waiting input = ap (λ (u : Task). u.stage) (sym same) ∙ at.at in
      let fit : FitsStage program c (Waiting input) x =
      subst (λ (s : Contents). is_running s c ≡ false) (sym store) (stands.idle c free) in
      subst (λ (s : Stage). FitsStage program c s x) (sym stage) fit
]

-- a CPU without work
pub idle_watched : (m : MachineState) (c : ℕ) (events : List Event) → IsFree m.jobs c × NoneWaits m.jobs c → IsWatched m c None events
idle_watched m c events idle w shows answer =
    let P : List Task → Type 0 = λ jobs. IsFree jobs c × NoneWaits jobs c in
    let none = subst P (sym shows.jobs) idle in
    inr (inr (none.0, none.1, refl))

-- the events that were noted, and the pc, are those of the turn
same_log : (c j pc at : ℕ) (noted first events : List Event) (answer : Turn) → pc ≡ at → first ≡ [] → noted ≡ first ++ events
    → map (happening c j pc) (noted ++ end_events answer) ≡ map (happening c j at) (events ++ end_events answer)
same_log c j pc at noted first events answer pcs fresh is =
    ap (λ (n : ℕ). map (happening c j n) (noted ++ end_events answer)) pcs
    ∙ ap (λ (es : List Event). map (happening c j at) (es ++ end_events answer)) (is ∙ ap (λ (es : List Event). es ++ events) fresh)

pub stage_watched : (m : MachineState) (c j pc : ℕ) (task : Task) (program : Loaded) (x y : Recording) → HasInHand m.jobs c j ⊎ IsNext m.jobs c j
    → slice_get m.jobs j ≡ Some task → slice_get m.programs task.program ≡ Some program → x.store ≡ m.store → x.events ≡ [] → y.lost ≡ false
    → FitsStage program c task.stage x → NotesStage program c task.stage task.budget x y pc → IsWatched m c (Some (j, pc)) y.events
stage_watched m c j pc task program x y (inl (t, state, left, at)) listed loaded store fresh kept fits notes w shows answer =
    let both : Some t ≡ Some task = sym at.listed ∙ listed in
    let same : t ≡ task = cc in
    let here : IsAt m.jobs c j task (InHand state left) = subst (λ (u : Task). IsAt m.jobs c j u (InHand state left)) same at in
    let fit : FitsStage program c (InHand state left) x = subst (λ (s : Stage). FitsStage program c s x) here.at fits in
    let number : (pc ≡ state.pc) × NotesStep program state left x y = subst (λ (s : Stage). NotesStage program c s task.budget x y pc) here.at notes in
    let r = (number.1 kept).1 w.store shows.sound (subst (λ (s : Contents). StandsFor s w.store) (sym store) shows.store) in
    let A : List Task → Type 0 = λ jobs. IsAt jobs c j task (InHand state left) in
    let P : List Loaded → Type 0 = λ ps. slice_get ps task.program ≡ Some program in
    let H : ℕ → Type 0 = λ n. HasEvents program n w.store state left r.0 in
    inl (
      j,
      task,
      state,
      left,
      subst A (sym shows.jobs) here,
      (
        program,
        r.0,
        subst P (sym shows.programs) loaded,
        subst H fit.0 r.1,
        same_log c j pc state.pc y.events x.events r.0 answer number.0 fresh r.2,
      ),
    )
stage_watched m c j pc task program x y (inr (free, (t, input, at), lowest)) listed loaded store fresh kept fits notes w shows answer =
    let both : Some t ≡ Some task = sym at.listed ∙ listed in
    let same : t ≡ task = cc in
    let here : IsAt m.jobs c j task (Waiting input) = subst (λ (u : Task). IsAt m.jobs c j u (Waiting input)) same at in
    let begun : (pc ≡ 0) × NotesBegin program c input task.budget x y = subst (λ (s : Stage). NotesStage program c s task.budget x y pc) here.at notes in
    let r = (begun.1 kept).1 w.store shows.sound (subst (λ (s : Contents). StandsFor s w.store) (sym store) shows.store) in
    let F : List Task → Type 0 = λ jobs. IsFree jobs c in
    let A : List Task → Type 0 = λ jobs. IsAt jobs c j task (Waiting input) in
    let B : List Task → Type 0 = λ jobs. NoneWaitsBelow jobs c j in
    let P : List Loaded → Type 0 = λ ps. slice_get ps task.program ≡ Some program in
    inr (inl (
      subst F (sym shows.jobs) free,
      (
        j,
        task,
        input,
        r.0,
        subst A (sym shows.jobs) here,
        subst B (sym shows.jobs) lowest,
        r.2,
        (program, r.1, subst P (sym shows.programs) loaded, r.3, same_log c j pc 0 y.events x.events (Begin ∷ r.1) answer begun.0 fresh r.4),
      ),
    ))

-- ---- the same of a job that is kept
-- the program by its number
pub program_read : (m : MachineState) (j : ℕ) (task : Task) (program : Loaded) (xs : List Loaded) (i : ℕ) → CanStand m → slice_get m.jobs j
    ≡ Some task → xs ≡ m.programs → i ≡ task.program
    → program ≡ get_or xs i program → slice_get m.programs task.program ≡ Some program
program_read m j task program xs i stands listed same number is =
    let at : program ≡ get_or m.programs task.program program =
    is ∙ (ap (λ (ys : List Loaded). get_or ys i program) same ∙ ap (λ (k : ℕ). get_or m.programs k program) number)
    in
    slice_get_read m.programs (length m.programs) task.program program refl (stands.loaded j task listed) at

pub kept_fits : (m : MachineState) (c j : ℕ) (task : Task) (program : Loaded) (x : Recording) (stage : Stage) → CanStand m → HasInHand
    m.jobs c j ⊎ IsNext m.jobs c j
    → slice_get m.jobs j ≡ Some task → slice_get m.programs task.program ≡ Some program → x.store ≡ m.store → stage ≡ task.stage → FitsStage program c stage x
kept_fits m c j task program x stage stands work listed loaded store is =
    subst (λ (s : Stage). FitsStage program c s x) (sym is) (stage_fits m c j task program x stands work listed loaded store)

pub kept_watched : (m : MachineState) (c j pc : ℕ) (task : Task) (program : Loaded) (x y : Recording) (stage : Stage) (budget : ℕ) →
    CanStand m → HasInHand m.jobs c j ⊎ IsNext m.jobs c j
    → slice_get m.jobs j ≡ Some task → slice_get m.programs task.program ≡ Some program → x.store ≡ m.store → x.events ≡ [] → y.lost ≡ false
    → stage ≡ task.stage → budget ≡ task.budget → NotesStage program c stage budget x y pc → IsWatched m c (Some (j, pc)) y.events
kept_watched m c j pc task program x y stage budget stands work listed loaded store fresh kept is all notes =
    let P : Stage → Type 0 = λ s. NotesStage program c s budget x y pc in
    let Q : ℕ → Type 0 = λ n. NotesStage program c task.stage n x y pc in
    stage_watched m c j pc task program x y work listed loaded store fresh kept
    (stage_fits m c j task program x stands work listed loaded store) (subst Q all (subst P is notes))

-- a job in hand can make a step
can_step : (program : Loaded) (c : ℕ) (x : Recording) (stage : Stage) → FitsStage program c stage x → CanStepAt program stage
can_step program c x (Waiting input) fits = tt
can_step program c x (InHand state left) fits = fits.1
can_step program c x (Ended outcome) fits = tt

-- the store's contents with no notes
abbrev pub unnoted : Contents → ℕ → Recording
unnoted s c = record { store = s; cpu = c; events = []; lost = false }

pub kept_steps : (m : MachineState) (c j : ℕ) (task : Task) (program : Loaded) (stage : Stage) → CanStand m → HasInHand m.jobs c j ⊎ IsNext m.jobs c j
    → slice_get m.jobs j ≡ Some task → slice_get m.programs task.program ≡ Some program → stage ≡ task.stage → CanStepAt program stage
kept_steps m c j task program stage stands work listed loaded is =
    can_step program c (unnoted m.store c) stage (kept_fits m c j task program (unnoted m.store c) stage stands work listed loaded refl is)

pub quiet_watched : (m : MachineState) (c j pc : ℕ) (task : Task) (program : Loaded) (y : Recording) (stage : Stage) → CanStand m →
    HasInHand m.jobs c j ⊎ IsNext m.jobs c j
    → slice_get m.jobs j ≡ Some task → slice_get m.programs task.program ≡ Some program → y.events ≡ [] → y.lost ≡ false → stage ≡ task.stage
    → IsQuietAt program stage pc → IsWatched m c (Some (j, pc)) y.events
quiet_watched m c j pc task program y stage stands work listed loaded none kept is quiet =
    let x = unnoted m.store c in
    kept_watched m c j pc task program x y stage task.budget stands work listed loaded refl refl kept is refl
    (quiet_noted program stage pc c task.budget x y quiet refl none)

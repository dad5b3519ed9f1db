-- A turn of the machine is one of the x86 machine.
use Rattle.std.proofs.Common.{◌≡◌, ℕ, zero, suc, List, [], ◌∷◌, Option, Some, None, ◌⊎◌, inl, inr, refl, sym, ap, subst, ◌∙◌}
use Rattle.std.specs.Prelude.{slice_get}
use Rattle.bpf_base.proofs.Lists.{slice_get-set_known, set_twice}
use Rattle.bpf_shared.specs.declared.events.Event.{Event}
use Rattle.bpf_shared.specs.declared.events.Event.TheVariants.{Begin, End}
use Rattle.bpf_shared.specs.Store.{Plain, put}
use Rattle.bpf_shared.specs.Choice.{PlainlyAllowed}
use Rattle.bpf_shared.proofs.Puts.{equal_or_not, put-same}
use Rattle.bpf_loader.specs.Loaded.{Loaded}
use Rattle.bpf_cpu.specs.declared.cpu.Cpu.{Cpu}
use Rattle.bpf_cpu.specs.declared.input.Input.{Input}
use Rattle.bpf_cpu.specs.declared.outcome.Outcome.{Outcome}
use Rattle.bpf_cpu.specs.State.{start}
use Rattle.bpf_cpu.specs.Task.{Stage, Task, Waiting, InHand, Ended}
use Rattle.bpf_machine.specs.declared.machine.Turn.{Turn}
use Rattle.bpf_machine.specs.declared.machine.Turn.TheVariants.{Idle}
use Rattle.bpf_machine.specs.Hands.{IsAt, IsFree, NoneWaitsBelow, NoneWaits, SomeWaits, with_stage}
use Rattle.bpf_machine.specs.Listings.{Listing, Never, listed_now, listing_at}
use Rattle.bpf_machine.specs.Schedule.{World, Lists}
use Rattle.bpf_machine.specs.Work.{HasInHand}
use Rattle.bpf_x86.specs.Buffers.{Buffered, Calls}
use Rattle.bpf_x86.specs.Machine.{X86, TurnOf, buffered, with_buffered, none_waits, Advances, GoesOn}
use Rattle.bpf_buffering.specs.Search.{BufferedState, MovesTo, buffer_at, alone}
use Rattle.bpf_x86.proofs.Calling.{put_twice, put_itself}
use Rattle.bpf_buffering.proofs.Local.{calls_are_local}
use Rattle.bpf_buffering.specs.Jobs.{IsLowest}
use Rattle.bpf_buffering.specs.Going.{GoesAlone}
use Rattle.bpf_buffering.specs.Buffering.{answer_of, Proceeds, Begins, TurnsTo}

-- ---- beside other CPUs' buffers
call_beside : (s t : Plain) (c : ℕ) (e : Event) (es fs : List Event) (others : ℕ → List Event) → others c ≡ es → Calls (alone s c es) c e (alone t c fs)
    → Calls (record { memory = s; buffers = others }) c e (record { memory = t; buffers = put others c fs })
call_beside s t c e es fs others is call =
    let r = calls_are_local s t c es (e ∷ []) fs others is (alone t c fs, call, refl) in
    subst (λ (b : Buffered). Calls (record { memory = s; buffers = others }) c e b) (sym r.2) r.1

advances_beside : (program : Loaded) (c : ℕ) (s t : Plain) (es fs : List Event) (others : ℕ → List Event) (old new : Cpu) (left rest : ℕ)
    (end : Option Outcome) → others c ≡ es
    → Advances program c (alone s c es) old left end (alone t c fs) new rest
    → Advances program c (record { memory = s; buffers = others }) old left end (record { memory = t; buffers = put others c fs }) new rest
advances_beside program c s t es fs others old new zero rest end is (ends, same, stays, last) = (ends, there, stays, last)
  where
    stores : t ≡ s
    stores = ap (λ (b : Buffered). b.memory) same

    waiting : fs ≡ es
    waiting = sym (put-same none_waits c c fs refl) ∙ ap (λ (b : Buffered). b.buffers c) same ∙ put-same none_waits c c es refl

    buffers : put others c fs ≡ others
    buffers = ap (λ (x : List Event). put others c x) waiting ∙ sym (put_itself others c es is)

    there : ◌≡◌ {A = Buffered} (record { memory = t; buffers = put others c fs }) (record { memory = s; buffers = others })
    there = ap (λ (m : Plain). record { memory = m; buffers = put others c fs }) stores ∙ ap
        (λ (f : ℕ → List Event). record { memory = s; buffers = f }) buffers
advances_beside program c s t es fs others old new (suc n) rest end is (events, progress, step, calls, ends, last) =
    (events, progress, step, calls_are_local s t c es events fs others is calls, ends, last)

-- ---- a machine that lists no keys
waits_here : (t : Task) (c : ℕ) → ((input : Input) × (t.cpu ≡ c) × (t.stage ≡ Waiting input)) ⊎ ((input : Input) → t.cpu ≡ c → t.stage ≡ Waiting input → ⊥)
waits_here t c = elim (equal_or_not t.cpu c) [
  | inl of ↦ from t.stage refl of
  | inr ne ↦ inr (λ input of at. ne of)
]
  where
    from : (s : Stage) → t.stage ≡ s → t.cpu ≡ c → ((input : Input) × (t.cpu ≡ c) × (t.stage ≡ Waiting input)) ⊎
        ((input : Input) → t.cpu ≡ c → t.stage ≡ Waiting input → ⊥)
    from (Waiting input) e of = inl (input, of, e)
    from (InHand state left) e of = inr (λ input q at. let no : InHand state left ≡ Waiting input = sym e ∙ at in cc)
    from (Ended end) e of = inr (λ input q at. let no : Ended end ≡ Waiting input = sym e ∙ at in cc)

some_or_none : (jobs : List Task) (c : ℕ) → SomeWaits jobs c ⊎ NoneWaits jobs c
some_or_none [] c = inr (λ j task input at. let no : None ≡ Some task = at.listed in cc)
some_or_none (t ∷ ts) c = elim (waits_here t c) [
  | inl here ↦ inl (0, t, here.0, record { listed = refl; of = here.1; at = here.2 })
  | inr not ↦ elim (some_or_none ts c) [
    | inl some ↦ inl (suc some.0, some.1, some.2, record { listed = some.3.listed; of = some.3.of; at = some.3.at })
    | inr none ↦ inr (later not none)
  ]
]
  where
    later : ((input : Input) → t.cpu ≡ c → t.stage ≡ Waiting input → ⊥) → NoneWaits ts c → NoneWaits (t ∷ ts) c
    later not none zero task input at =
        let two : Some t ≡ Some task = at.listed in
        let same : t ≡ task = cc in
        not input (ap (λ (x : Task). x.cpu) same ∙ at.of) (ap (λ (x : Task). x.stage) same ∙ at.at)
    later not none (suc j) task input at = none j task input (record { listed = at.listed; of = at.of; at = at.at })

lists_nothing : (w : World) (c : ℕ) → w.lists ≡ listing_at None → Lists w c w
lists_nothing w c none = elim (some_or_none w.jobs c) [
  | inl some ↦ inl (some, refl)
  | inr idle ↦
      let never : w.lists c ≡ Never = ap (λ (f : ℕ → Listing). f c) none in
      let stays : w.lists c ≡ listed_now w.store (w.lists c) = never ∙ ap (listed_now w.store) (sym never) in
      inr (idle, ap (λ (f : ℕ → Listing). record w { lists = f }) (put_itself w.lists c (listed_now w.store (w.lists c)) stays))
]

-- ---- a job goes on
abbrev pub moved : X86 → ℕ → ℕ → Task → Stage → Plain → List Event → X86
moved x c j task stage t fs = record { world = record x.world { store = t; jobs = with_stage x.world.jobs j task stage }; buffers = put x.buffers c fs }

same_hand : (state old : Cpu) (left n : ℕ) → InHand state left ≡ InHand old n → (old ≡ state) × (n ≡ left)
same_hand state old left n e = (cc, cc)

goes_on : (x : X86) (c j : ℕ) (task : Task) (state : Cpu) (left : ℕ) (program : Loaded) (end : Option Outcome) (t : Plain)
    (es fs : List Event) (stage : Stage) → slice_get x.world.programs task.program ≡ Some program → x.buffers c ≡ es
    → x.world.lists ≡ listing_at None → GoesAlone program c x.world.store es (InHand state left) end t fs stage
    → GoesOn x c j task state left (answer_of j end) (moved x c j task stage t fs)
goes_on x c j task state left program None t es fs stage loaded is none (old, n, new, rest, was, now, advances) =
    let same = same_hand state old left n was in
    let own : Advances program c (alone x.world.store c es) state left None (alone t c fs) new rest =
    subst (λ (k : ℕ). Advances program c (alone x.world.store c es) state k None (alone t c fs) new rest) same.1
    (subst (λ (s : Cpu). Advances program c (alone x.world.store c es) s n None (alone t c fs) new rest) same.0 advances) in
    let b : Buffered = record { memory = t; buffers = put x.buffers c fs } in (
      program,
      None,
      b,
      new,
      rest,
      loaded,
      advances_beside program c x.world.store t es fs x.buffers state new left rest None is own,
      ((refl, ap (λ (s : Stage). record x.world { store = t; jobs = with_stage x.world.jobs j task s }) now), refl),
    )
goes_on x c j task state left program (Some end) t es fs stage loaded is none (old, n, m, ms, new, rest, was, now, advances, call) =
    let same = same_hand state old left n was in
    let own : Advances program c (alone x.world.store c es) state left (Some end) (alone m c ms) new rest =
    subst (λ (k : ℕ). Advances program c (alone x.world.store c es) state k (Some end) (alone m c ms) new rest) same.1
    (subst (λ (s : Cpu). Advances program c (alone x.world.store c es) s n (Some end) (alone m c ms) new rest) same.0 advances) in
    let b : Buffered = record { memory = m; buffers = put x.buffers c ms } in
    let last = call_beside m t c End ms fs (put x.buffers c ms) (put-same x.buffers c c ms refl) call in
    let d : Buffered = last.0 in
    let store : last.2.0 ≡ t = sym (ap (λ (k : Buffered). k.memory) last.2.2) in
    let buffers : put x.buffers c fs ≡ d.buffers = sym (put_twice x.buffers c ms fs) ∙ ap (λ (k : Buffered). k.buffers) last.2.2 in
    let allowed : PlainlyAllowed d.memory c End t = subst (λ (k : Plain). PlainlyAllowed d.memory c End k) store last.2.1 in
    let ended : World = record x.world { store = t; jobs = with_stage x.world.jobs j task (Ended end) } in
    let lists : Lists ended c (record x.world { store = t; jobs = with_stage x.world.jobs j task stage }) =
    subst (λ (s : Stage). Lists ended c (record x.world { store = t; jobs = with_stage x.world.jobs j task s })) (sym now) (lists_nothing ended c none) in (
      program,
      Some end,
      b,
      new,
      rest,
      loaded,
      advances_beside program c x.world.store m es ms x.buffers state new left rest (Some end) is
          own,
      (d, last.1, (t, allowed, refl, lists), buffers),
    )

-- ---- turns
pub turn_in_hand : (old new : BufferedState) (c j : ℕ) (end : Option Outcome) → HasInHand old.machine.jobs c j → Proceeds old c j end new →
    TurnsTo old c (answer_of j end) new
turn_in_hand old new c j end has proceeds x shows =
    let task = has.0 in
    let p = proceeds task has.1 has.2 has.3 in
    let w = shows.world in
    let t = p.9 x.world.store w.sound w.store in
    let stage = p.1 in
    let at : IsAt x.world.jobs c j task (InHand has.1 has.2) = subst (λ (ts : List Task). IsAt ts c j task (InHand has.1 has.2)) (sym w.jobs) has.3 in
    let goes = goes_on x c j task has.1 has.2 p.0 end t.0 (buffer_at old.buffers c) p.2 stage
    (ap (λ (ps : List Loaded). slice_get ps task.program) w.programs ∙ p.3) (ap (λ (f : ℕ → List Event). f c) shows.buffers)
    (w.lists ∙ ap listing_at p.6) t.3 in (
      moved x c j task stage t.0 p.2,
      inl (j, task, has.1, has.2, at, goes),
      record {
        world = record {
          store = t.2;
          sound = t.1;
          programs = w.programs ∙ sym p.4;
          jobs = ap (λ (ts : List Task). with_stage ts j task stage) w.jobs ∙ sym p.5;
          lists = w.lists ∙ ap listing_at (p.6 ∙ sym p.7);
        };
        buffers = ap (λ (f : ℕ → List Event). put f c p.2) shows.buffers ∙ sym p.8;
      },
    )

pub turn_idle : (old : BufferedState) (c : ℕ) → IsFree old.machine.jobs c → NoneWaits old.machine.jobs c → TurnsTo old c Idle old
turn_idle old c free none x shows = (
  x,
  inr (inr (
    subst (λ (ts : List Task). IsFree ts c) (sym shows.world.jobs) free,
    subst (λ (ts : List Task). NoneWaits ts c)
        (sym shows.world.jobs) none,
    refl,
    refl,
  )),
  shows,
)

begun_at : (jobs : List Task) (c j : ℕ) (task : Task) (was now : Stage) → IsAt jobs c j task was → IsAt (with_stage jobs j task now) c j
    (record task { stage = now }) now
begun_at jobs c j task was now at = record { listed = slice_get-set_known jobs j (record task { stage = now }) task at.listed; of = at.of; at = refl }

pub begun_in_hand : (old new : BufferedState) (c j : ℕ) → Begins old c j new → HasInHand new.machine.jobs c j
begun_in_hand old new c j begins =
    let now : Stage = InHand (start c begins.1) begins.0.budget in (
      record begins.0 { stage = now },
      start c begins.1,
      begins.0.budget,
      subst
          (λ (ts : List Task). IsAt ts c j (record begins.0 { stage = now }) now) (sym begins.5)
          (begun_at old.machine.jobs c j begins.0 (Waiting begins.1) now begins.3),
    )

pub turn_begins : (old mid new : BufferedState) (c j : ℕ) (end : Option Outcome) → IsFree old.machine.jobs c → IsLowest old.machine.jobs c j
    → Begins old c j mid → Proceeds mid c j end new → TurnsTo old c (answer_of j end) new
unfolding begun_in_hand
turn_begins old mid new c j end free lowest begins proceeds x shows =
    let task = begins.0 in
    let input = begins.1 in
    let now : Stage = InHand (start c input) task.budget in
    let has = begun_in_hand old mid c j begins in
    let p = proceeds has.0 has.1 has.2 has.3 in
    let w = shows.world in
    let run = begins.8 x.world.store w.sound w.store in
    let t = p.9 run.0 run.1 run.2 in
    let stage = p.1 in
    let b : Buffered = record { memory = run.0; buffers = put x.buffers c begins.2 } in
    let y : X86 = with_buffered x b in
    let begun : Calls (buffered x) c Begin b = call_beside x.world.store run.0 c Begin (buffer_at old.buffers c) begins.2 x.buffers
    (ap (λ (f : ℕ → List Event). f c) shows.buffers) run.3 in
    let buffers : y.buffers ≡ buffer_at mid.buffers = ap (λ (f : ℕ → List Event). put f c begins.2) shows.buffers ∙ sym begins.7 in
    let programs : y.world.programs ≡ mid.machine.programs = w.programs ∙ sym begins.4 in
    let lists : y.world.lists ≡ listing_at None = w.lists ∙ ap listing_at (sym begins.6 ∙ p.6) in
    let goes = goes_on y c j task (start c input) task.budget p.0 end t.0 (buffer_at mid.buffers c) p.2 stage
    (ap (λ (ps : List Loaded). slice_get ps task.program) programs ∙ p.3) (ap (λ (f : ℕ → List Event). f c) buffers) lists t.3 in
    let at : IsAt x.world.jobs c j task (Waiting input) = subst (λ (ts : List Task). IsAt ts c j task (Waiting input)) (sym w.jobs) begins.3 in
    let over : with_stage x.world.jobs j task stage ≡ new.machine.jobs =
    ap (λ (ts : List Task). with_stage ts j task stage) w.jobs
    ∙ sym (p.5 ∙ ap (λ (ts : List Task). with_stage ts j (record task { stage = now }) stage) begins.5 ∙ set_twice old.machine.jobs j
    (record task { stage = now }) (record task { stage = stage })) in (
      moved y c j task stage t.0 p.2,
      inr (inl (
        subst (λ (ts : List Task). IsFree ts c) (sym w.jobs) free,
        (j, task, input, b, at, subst (λ (ts : List Task). NoneWaitsBelow ts c j) (sym w.jobs) lowest.1, begun, goes),
      )),
      record {
        world = record {
          store = t.2;
          sound = t.1;
          programs = programs ∙ sym p.4;
          jobs = over;
          lists = lists ∙ ap listing_at (sym p.7);
        };
        buffers = ap (λ (f : ℕ → List Event). put f c p.2) buffers ∙ sym p.8;
      },
    )

-- a turn is a move
pub turn_is_move : (old new : BufferedState) (c : ℕ) (answer : Turn) → TurnsTo old c answer new → MovesTo old (TurnOf c) new
turn_is_move old new c answer turns x shows = let r = turns x shows in (r.0, (answer, r.1), r.2)

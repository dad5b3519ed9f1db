-- Turns and flushes of machines whose CPUs have store buffers: which change nothing, and how far turns
-- lead.
use Rattle.std.proofs.Common.{◌≡◌, ◌∙◌, ℕ, zero, suc, ◌-◌, ◌<◌, ◌≤◌, Bool, true, false, List, [], ◌∷◌, Option, Some, None, replicate}
use Rattle.std.proofs.Common.{inl, inr, refl, sym, ap, subst, arith}
use Rattle.std.specs.Prelude.{slice_get, if◌then◌else◌}
use Rattle.std.proofs.lemmas.Bool.{lt-ltb, le-ltb}
use Rattle.bpf_shared.specs.declared.events.Event.{Event}
use Rattle.bpf_loader.specs.Loaded.{Loaded}
use Rattle.bpf_cpu.specs.declared.cpu.Cpu.{Cpu}
use Rattle.bpf_cpu.specs.declared.outcome.Outcome.{Outcome}
use Rattle.bpf_cpu.specs.declared.outcome.Outcome.TheVariants.{OutOfBudget}
use Rattle.bpf_cpu.specs.State.{start}
use Rattle.bpf_cpu.specs.Task.{Stage, Task, InHand, Ended}
use Rattle.bpf_machine.specs.declared.machine.Turn.{Turn}
use Rattle.bpf_machine.specs.declared.machine.Turn.TheVariants as turn
use Rattle.bpf_machine.specs.Hands.{IsFree, NoneWaits, with_stage}
use Rattle.bpf_machine.specs.Questions.{turns_before_end, turns_left}
use Rattle.bpf_machine.proofs.FallLaws.{summed}
use Rattle.bpf_machine.proofs.ListLaws.{lists_jobs}
use Rattle.bpf_x86.specs.Buffers.{Buffered}
use Rattle.bpf_x86.specs.Machine.{X86, TurnOf, FlushOf, with_buffered, Advances, Settled, GoesOn, TakesTurn}
use Rattle.bpf_buffering.specs.Search.{BufferedState, ShowsX86, MovesTo, buffer_at, move_of}
use Rattle.bpf_buffering.specs.Buffering.{TurnsTo}
use Rattle.bpf_flushes.specs.Moves.{IdlesAt, MakesAll, MakesTo}
use Rattle.bpf_flushes.proofs.Joining.{moved}

-- ---- turns without work
settled_worked : (x : X86) (c j : ℕ) (task : Task) (new : Cpu) (left : ℕ) (end : Option Outcome) (answer : Turn) (z : X86) → Settled x c j
    task new left end answer z → answer ≡ turn.Idle → ⊥
settled_worked x c j task new left None answer z settled idle = let no : turn.Ran ≡ turn.Idle = sym settled.0.0 ∙ idle in cc
settled_worked x c j task new left (Some end) answer z settled idle = let no : turn.Ended j end ≡ turn.Idle = sym settled.2.2 ∙ idle in cc

idle_turn : (x : X86) (c : ℕ) (answer : Turn) (z : X86) → TakesTurn x c answer z → answer ≡ turn.Idle → IsFree x.world.jobs c × NoneWaits
    x.world.jobs c × (z ≡ x)
idle_turn x c answer z (inl a) idle = absurd (settled_worked _ c a.0 a.1 a.5.3 a.5.4 a.5.1 answer z a.5.7 idle)
idle_turn x c answer z (inr (inl (free, a))) idle = absurd (settled_worked _ c a.0 a.1 a.7.3 a.7.4 a.7.1 answer z a.7.7 idle)
idle_turn x c answer z (inr (inr a)) idle = (a.0, a.1, a.3)

pub idles : (old new : BufferedState) (c : ℕ) (answer : Turn) → TurnsTo old c answer new → answer ≡ turn.Idle → IdlesAt old c new
idles old new c answer turns idle x shows =
    let t = turns x shows in
    let n = idle_turn x c answer t.0 t.1 idle in (
      subst (λ (jobs : List Task). IsFree jobs c) shows.world.jobs n.0,
      subst (λ (jobs : List Task). NoneWaits jobs c) shows.world.jobs n.1,
      subst (ShowsX86 new) n.2 t.2,
    )

-- so are all that follow
pub idled : (old new : BufferedState) (c : ℕ) → IdlesAt old c new → (n : ℕ) → MakesTo old (replicate n (TurnOf c)) new
idled old new c idle n x shows = (x, stays n, i.2)
  where
    i : IsFree old.machine.jobs c × NoneWaits old.machine.jobs c × ShowsX86 new x
    i = idle x shows

    free : IsFree x.world.jobs c
    free = subst (λ (jobs : List Task). IsFree jobs c) (sym shows.world.jobs) i.0

    none : NoneWaits x.world.jobs c
    none = subst (λ (jobs : List Task). NoneWaits jobs c) (sym shows.world.jobs) i.1

    stays : (n : ℕ) → MakesAll x (replicate n (TurnOf c)) x
    stays zero = refl
    stays (suc n) = (x, inl (turn.Idle, inr (inr (free, none, refl, refl))), stays n)

-- ---- turns with work
left_falls : (program : Loaded) (c : ℕ) (b : Buffered) (old : Cpu) (left : ℕ) (t : Buffered) (new : Cpu) (rest : ℕ) → Advances program c b
    old left None t new rest → rest < left
left_falls program c b old zero t new rest a = let no : None ≡ Some (OutOfBudget old.pc) = a.0 in cc
left_falls program c b old (suc n) t new rest a = let e : rest ≡ n = a.5 in omega arith

goes_falls : (x : X86) (c j : ℕ) (task : Task) (old : Cpu) (left : ℕ) (answer : Turn) (z : X86) → slice_get x.world.jobs j ≡ Some task →
    left < turns_before_end task.budget task.stage → GoesOn x c j task old left answer z
    → turns_left z.world.jobs < turns_left x.world.jobs
goes_falls x c j task old left answer z at more g = settle g.1 g.6 g.7
  where
    settle : (end : Option Outcome) → Advances g.0 c (record { memory = x.world.store; buffers = x.buffers }) old left end g.2 g.3 g.4 →
        Settled (with_buffered x g.2) c j task g.3 g.4 end answer z → turns_left z.world.jobs < turns_left x.world.jobs
    settle None a s =
        let stage : Stage = InHand g.3 g.4 in
        let jobs : z.world.jobs ≡ with_stage x.world.jobs j task stage = ap (λ w. w.jobs) s.0.1 in
        let less : g.4 < left = left_falls g.0 c _ old left g.2 g.3 g.4 a in
        let turns = summed (λ t. turns_before_end t.budget t.stage) x.world.jobs j task stage at in
        subst (λ (ts : List Task). turns_left ts < turns_left x.world.jobs) (sym jobs) (omega arith)
    settle (Some end) a s =
        let stage : Stage = Ended end in
        let jobs : z.world.jobs ≡ with_stage x.world.jobs j task stage = lists_jobs _ c z.world s.2.3 in
        let turns = summed (λ t. turns_before_end t.budget t.stage) x.world.jobs j task stage at in
        subst (λ (ts : List Task). turns_left ts < turns_left x.world.jobs) (sym jobs) (omega arith)

turn_falls : (x z : X86) (c : ℕ) (answer : Turn) → TakesTurn x c answer z → (answer ≡ turn.Idle → ⊥) → turns_left z.world.jobs < turns_left x.world.jobs
turn_falls x z c answer (inl a) works =
    goes_falls x c a.0 a.1 a.2 a.3 answer z a.4.listed (subst (λ (s : Stage). a.3 < turns_before_end a.1.budget s) (sym a.4.at) (omega arith)) a.5
turn_falls x z c answer (inr (inl (free, a))) works =
    goes_falls (with_buffered x a.3) c a.0 a.1 (start c a.2) a.1.budget answer z a.4.listed
    (subst (λ (s : Stage). a.1.budget < turns_before_end a.1.budget s) (sym a.4.at) (omega arith)) a.7
turn_falls x z c answer (inr (inr a)) works = absurd (works a.2)

pub turns_fall : (old new : BufferedState) (c : ℕ) (answer : Turn) → TurnsTo old c answer new → (answer ≡ turn.Idle → ⊥) → (x : X86) →
    ShowsX86 old x → turns_left new.machine.jobs < turns_left old.machine.jobs
turns_fall old new c answer turns works x shows =
    let t = turns x shows in
    subst (λ (ts : List Task). turns_left ts < turns_left old.machine.jobs) t.2.world.jobs
    (subst (λ (ts : List Task). turns_left t.0.world.jobs < turns_left ts) shows.world.jobs (turn_falls x t.0 c answer t.1 works))

-- ---- flushes
-- where nothing waits
pub passed_over : (old new : BufferedState) (c : ℕ) → new ≡ old → buffer_at old.buffers c ≡ [] → (n : ℕ) → MakesTo old (replicate n (FlushOf c)) new
passed_over old new c same none n x shows = (x, stays n, subst (λ (m : BufferedState). ShowsX86 m x) (sym same) shows)
  where
    empty : x.buffers c ≡ []
    empty = ap (λ (f : ℕ → List Event). f c) shows.buffers ∙ none

    stays : (n : ℕ) → MakesAll x (replicate n (FlushOf c)) x
    stays zero = refl
    stays (suc n) = (x, inr (empty, refl), stays n)

pub flush_made : (old new : BufferedState) (c : ℕ) (flushed : Bool) → (flushed ≡ true → MovesTo old (FlushOf c) new) →
    (flushed ≡ false → buffer_at old.buffers c ≡ []) → (flushed ≡ false → new ≡ old) → MakesTo old (FlushOf c ∷ []) new
flush_made old new c true moves none same = moved old new (FlushOf c) (moves refl)
flush_made old new c false moves none same = passed_over old new c (same refl) (none refl) 1

pub flush_jobs : (old new : BufferedState) (c : ℕ) (flushed : Bool) → (flushed ≡ true → MovesTo old (FlushOf c) new) →
    (flushed ≡ false → new ≡ old) → (x : X86) → ShowsX86 old x → new.machine.jobs ≡ old.machine.jobs
flush_jobs old new c true moves same x shows = let t = moves refl x shows in sym t.2.world.jobs ∙ ap (λ (y : X86). y.world.jobs) t.1.2 ∙ shows.world.jobs
flush_jobs old new c false moves same x shows = ap (λ (m : BufferedState). m.machine.jobs) (same refl)

-- ---- moves by their numbers
pub turn_numbered : (c : ℕ) → c < 128 → move_of c ≡ TurnOf c
turn_numbered c less = ap (λ (b : Bool). if b then TurnOf c else FlushOf (c - 128)) (lt-ltb c 128 less)

pub flush_numbered : (c : ℕ) → 128 ≤ c → move_of c ≡ FlushOf (c - 128)
flush_numbered c more = ap (λ (b : Bool). if b then TurnOf c else FlushOf (c - 128)) (le-ltb c 128 more)

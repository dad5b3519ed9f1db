-- Moves of a machine whose jobs in hand have more steps left.
use Rattle.std.proofs.Common.{◌≡◌, ◌≢◌, ◌∙◌, ◌+◌, ℕ, zero, suc, List, [], ◌∷◌, Option, Some, None, inl, inr, refl, sym, ap, subst, arith}
use Rattle.std.specs.Prelude.{slice_get, slice_set}
use Rattle.bpf_base.proofs.Lists.{slice_get-set_known, slice_get-set_other}
use Rattle.bpf_loader.specs.Loaded.{Loaded}
use Rattle.bpf_cpu.specs.declared.cpu.Cpu.{Cpu}
use Rattle.bpf_cpu.specs.declared.input.Input.{Input}
use Rattle.bpf_cpu.specs.declared.outcome.Progress.{Progress}
use Rattle.bpf_cpu.specs.declared.outcome.Progress.TheVariants.{On, Done}
use Rattle.bpf_cpu.specs.declared.outcome.Outcome.{Outcome}
use Rattle.bpf_cpu.specs.declared.outcome.Outcome.TheVariants.{OutOfBudget}
use Rattle.bpf_cpu.specs.State.{start}
use Rattle.bpf_cpu.specs.Task.{Stage, Task, Waiting, InHand, Ended}
use Rattle.bpf_machine.specs.declared.machine.Turn.{Turn}
use Rattle.bpf_machine.specs.Hands.{IsAt, IsFree, NoneWaits, NoneWaitsBelow, SomeWaits, with_stage}
use Rattle.bpf_machine.specs.Headways.{with_jobs}
use Rattle.bpf_machine.specs.Patient.{NoneRanOut, IsRicher, AsRich}
use Rattle.bpf_machine.specs.Schedule.{World, outcome_after}
use Rattle.bpf_machine.proofs.ListLaws.{with_end, lists_jobs, lists_along}
use Rattle.bpf_machine.proofs.PatientLaws.{hand_back, rich_at, rich_back, richer_hand, wait_now}
use Rattle.bpf_x86.specs.Buffers.{Buffered}
use Rattle.bpf_x86.specs.Machine.{X86, Move, TurnOf, FlushOf, Moves, RunsMoves, with_buffered, buffered, Advances, Settled, GoesOn, TakesTurn}
use Rattle.bpf_buffering.specs.Alike.{with_x86_jobs}

-- ---- more steps left
pub suc_more : (n k : ℕ) → suc (n + k) ≡ suc n + k
suc_more n k = omega arith

module _ (program : Loaded) (c : ℕ) (k : ℕ) where
  on_more : (answer : Progress) (n : ℕ) (new : Cpu) → None ≡ outcome_after answer n new → None ≡ outcome_after answer (n + k) new
  on_more (Done end) n new e = let no : None ≡ Some end = e in cc
  on_more On zero new e = let no : None ≡ Some (OutOfBudget new.pc) = e in cc
  on_more On (suc n) new e = subst (λ (i : ℕ). None ≡ outcome_after On i new) (suc_more n k) refl

  end_more : (answer : Progress) (n : ℕ) (new : Cpu) (end : Outcome) → ((pc : ℕ) → end ≡ OutOfBudget pc → ⊥) → Some end ≡ outcome_after
      answer n new → Some end ≡ outcome_after answer (n + k) new
  end_more (Done other) n new end not_out e = e
  end_more On zero new end not_out e =
      let both : Some end ≡ Some (OutOfBudget new.pc) = e in
      let same : end ≡ OutOfBudget new.pc = cc in
      absurd (not_out new.pc same)
  end_more On (suc n) new end not_out e = let no : Some end ≡ None = e in cc

  advance_more : (b t : Buffered) (old : Cpu) (left : ℕ) (new : Cpu) (rest : ℕ) → Advances program c b old left None t new rest → Advances
      program c b old (left + k) None t new (rest + k)
  advance_more b t old zero new rest a = let no : None ≡ Some (OutOfBudget old.pc) = a.0 in cc
  advance_more b t old (suc n) new rest a =
      subst (λ (i : ℕ). Advances program c b old i None t new (rest + k)) (suc_more n k)
      (a.0, a.1, a.2, a.3, on_more a.1 n new a.4, ap (λ (i : ℕ). i + k) a.5)

  advance_end : (b t : Buffered) (old : Cpu) (left : ℕ) (end : Outcome) (new : Cpu) (rest : ℕ) →
      ((pc : ℕ) → end ≡ OutOfBudget pc → ⊥) → Advances program c b old left (Some end) t new rest → Advances program c b old (left + k)
      (Some end) t new (rest + k)
  advance_end b t old zero end new rest not_out a =
      let both : Some end ≡ Some (OutOfBudget old.pc) = a.0 in
      let same : end ≡ OutOfBudget old.pc = cc in
      absurd (not_out old.pc same)
  advance_end b t old (suc n) end new rest not_out a =
      subst (λ (i : ℕ). Advances program c b old i (Some end) t new (rest + k)) (suc_more n k)
      (a.0, a.1, a.2, a.3, end_more a.1 n new end not_out a.4, ap (λ (i : ℕ). i + k) a.5)

-- ---- richer jobs
pub rich_set : (xs ys : List Task) (j : ℕ) (x y : Task) → AsRich xs ys → IsRicher x y → AsRich (slice_set xs j x) (slice_set ys j y)
rich_set [] [] j x y rich more = tt
rich_set [] (b ∷ ys) j x y rich more = absurd rich
rich_set (a ∷ xs) [] j x y rich more = absurd rich
rich_set (a ∷ xs) (b ∷ ys) zero x y rich more = (more, rich.1)
rich_set (a ∷ xs) (b ∷ ys) (suc j) x y rich more = (rich.0, rich_set xs ys j x y rich.1 more)

richer_wait : (old new : Task) (input : Input) → IsRicher old new → new.stage ≡ Waiting input → new ≡ old
richer_wait old new input (inl same) at = same
richer_wait old new input (inr a) at = let no : InHand a.0 (a.1 + a.2) ≡ Waiting input = ap (λ (t : Task). t.stage) (sym a.4) ∙ at in cc

module _ (olds news : List Task) (rich : AsRich olds news) (c : ℕ) where
  wait_back : (j : ℕ) (task : Task) (input : Input) → IsAt news c j task (Waiting input) → IsAt olds c j task (Waiting input)
  wait_back j task input at =
      let b = rich_back olds news j task rich at.listed in
      record { listed = b.1 ∙ ap Some (sym (richer_wait b.0 task input b.2 at.at)); of = at.of; at = at.at }

  free_rich : IsFree olds c → IsFree news c
  free_rich free j task state left at = let b = hand_back olds news rich c j task state left at in free j b.0 state b.1 b.2

  waits_rich : NoneWaits olds c → NoneWaits news c
  waits_rich none j task input at = none j task input (wait_back j task input at)

  below_rich : (j : ℕ) → NoneWaitsBelow olds c j → NoneWaitsBelow news c j
  below_rich j none k task input below at = none k task input below (wait_back k task input at)

-- in the j-th job the stage was set
set_there : (jobs : List Task) (j : ℕ) (task : Task) (end : Outcome) → slice_get jobs j ≡ Some task → slice_get
    (with_stage jobs j task (Ended end)) j ≡ Some (record task { stage = Ended end })
set_there jobs j task end at = slice_get-set_known jobs j (record task { stage = Ended end }) task at

-- ---- a turn
goes_rich : (x : X86) (jobs : List Task) (c j : ℕ) (task new : Task) (state : Cpu) (left more k : ℕ) (answer : Turn) (z : X86) → AsRich
    x.world.jobs jobs → slice_get x.world.jobs j ≡ Some task → more ≡ left + k
    → ((stage : Stage) → record new { stage = stage } ≡ record task { stage = stage }) → new.program ≡ task.program
    → GoesOn x c j task state left answer z → NoneRanOut z.world.jobs
    → (later : List Task) × GoesOn (with_x86_jobs x jobs) c j new state more answer (with_x86_jobs z later) × AsRich z.world.jobs later
goes_rich x jobs c j task new state left more k answer z rich at sum same program g none = settle g.1 g.6 g.7
  where
    loaded : slice_get x.world.programs new.program ≡ Some g.0
    loaded = ap (slice_get x.world.programs) program ∙ g.5

    settle : (end : Option Outcome) → Advances g.0 c (buffered x) state left end g.2 g.3 g.4
        → Settled (with_buffered x g.2) c j task g.3 g.4 end answer z
        → (later : List Task) × GoesOn (with_x86_jobs x jobs) c j new state more answer (with_x86_jobs z later) × AsRich z.world.jobs later
    settle None a s =
        let later = with_stage jobs j new (InHand g.3 (g.4 + k)) in
        let made = subst (λ (n : ℕ). Advances g.0 c (buffered x) state n None g.2 g.3 (g.4 + k)) (sym sum)
        (advance_more g.0 c k (buffered x) g.2 state left g.3 g.4 a) in
        let richer : IsRicher (record task { stage = InHand g.3 g.4 }) (record new { stage = InHand g.3 (g.4 + k) }) = inr
        (g.3, g.4, k, refl, same (InHand g.3 (g.4 + k))) in (
          later,
          (g.0, None, g.2, g.3, g.4 + k, loaded, made, ((s.0.0, ap (λ (v : World). with_jobs v later) s.0.1), s.1)),
          subst (λ (ts : List Task). AsRich ts later) (sym (ap (λ (v : World). v.jobs) s.0.1))
              (rich_set x.world.jobs jobs j (record task { stage = InHand g.3 g.4 }) (record new { stage = InHand g.3 (g.4 + k) }) rich richer),
        )
    settle (Some end) a s =
        let later = with_stage jobs j new (Ended end) in
        let w : World = (with_buffered (with_buffered x g.2) s.0).world in
        let m : World = with_end w j task end s.2.0 in
        let is : z.world.jobs ≡ m.jobs = lists_jobs m c z.world s.2.3 in
        let both : AsRich m.jobs later = rich_set x.world.jobs jobs j (record task { stage = Ended end }) (record new { stage = Ended end }) rich
        (inl (same (Ended end))) in
        let some : SomeWaits m.jobs c → SomeWaits later c = λ h. (h.0, h.1, h.2, wait_now m.jobs later both c h.0 h.1 h.2 h.3) in
        let not_out : (pc : ℕ) → end ≡ OutOfBudget pc → ⊥ = λ pc e. none j (record task { stage = Ended end }) pc
        (ap (λ (ts : List Task). slice_get ts j) is ∙ set_there x.world.jobs j task end at) (ap Ended e) in
        let made = subst (λ (n : ℕ). Advances g.0 c (buffered x) state n (Some end) g.2 g.3 (g.4 + k)) (sym sum)
        (advance_end g.0 c k (buffered x) g.2 state left end g.3 g.4 not_out a) in (
          later,
          (
            g.0,
            Some end,
            g.2,
            g.3,
            g.4 + k,
            loaded,
            made,
            (
              s.0,
              s.1,
              (s.2.0, s.2.1, s.2.2, lists_along m c z.world later some (waits_rich m.jobs later both c) s.2.3),
              s.3,
            ),
          ),
          subst (λ (ts : List Task). AsRich ts later) (sym is) both,
        )

rich_turn : (x : X86) (jobs : List Task) (c : ℕ) (answer : Turn) (z : X86) → AsRich x.world.jobs jobs → TakesTurn x c answer z → NoneRanOut
    z.world.jobs → (later : List Task) × TakesTurn (with_x86_jobs x jobs) c answer (with_x86_jobs z later) × AsRich z.world.jobs later
rich_turn x jobs c answer z rich (inl (j, task, state, left, at, g)) none =
    let b = rich_at x.world.jobs jobs j task rich at.listed in
    let h = richer_hand task b.0 state left b.2 at.at in
    let r = goes_rich x jobs c j task b.0 state left (left + h.0) h.0 answer z rich at.listed refl
    (λ stage. ap (λ (t : Task). record t { stage = stage }) h.1) (ap (λ (t : Task). t.program) h.1) g none in
    let there : IsAt jobs c j b.0 (InHand state (left + h.0)) = record
    { listed = b.1; of = ap (λ (t : Task). t.cpu) h.1 ∙ at.of; at = ap (λ (t : Task). t.stage) h.1 } in
    (r.0, inl (j, b.0, state, left + h.0, there, r.1), r.2)
rich_turn x jobs c answer z rich (inr (inl (free, (j, task, input, b, at, below, begun, goes)))) none =
    let there = wait_now x.world.jobs jobs rich c j task input at in
    let sum : task.budget ≡ task.budget + 0 = omega arith in
    let r = goes_rich (with_buffered x b) jobs c j task task (start c input) task.budget task.budget 0 answer z rich at.listed sum
    (λ stage. refl) refl goes none in (
      r.0,
      inr (inl (free_rich x.world.jobs jobs rich c free, (j, task, input, b, there, below_rich x.world.jobs jobs rich c j below, begun, r.1))),
      r.2,
    )
rich_turn x jobs c answer z rich (inr (inr (free, waits, idle, same))) none = (
  jobs,
  inr (inr (free_rich x.world.jobs jobs rich c free, waits_rich x.world.jobs jobs rich c waits, idle, ap (λ (v : X86). with_x86_jobs v jobs) same)),
  subst (λ (v : X86). AsRich v.world.jobs jobs) (sym same) rich,
)

-- ---- a move
pub rich_move : (x : X86) (jobs : List Task) (move : Move) (z : X86) → AsRich x.world.jobs jobs → Moves x move z → NoneRanOut z.world.jobs
    → (later : List Task) × Moves (with_x86_jobs x jobs) move (with_x86_jobs z later) × AsRich z.world.jobs later
rich_move x jobs (TurnOf c) z rich (answer, turn) none =
    let r = rich_turn x jobs c answer z rich turn none in
    (r.0, (answer, r.1), r.2)
rich_move x jobs (FlushOf c) z rich (b, flushes, is) none = (
  jobs,
  (b, flushes, ap (λ (v : X86). with_x86_jobs v jobs) is),
  subst (λ (v : X86). AsRich v.world.jobs jobs) (sym is) rich,
)

-- ---- what has ended stays so
goes_keeps : (x : X86) (c k j : ℕ) (task : Task) (state : Cpu) (left : ℕ) (answer : Turn) (z : X86) → GoesOn x c k task state left answer z → j ≢ k
    → slice_get z.world.jobs j ≡ slice_get x.world.jobs j
goes_keeps x c k j task state left answer z g ne = settle g.1 g.7
  where
    settle : (end : Option Outcome) → Settled (with_buffered x g.2) c k task g.3 g.4 end answer z → slice_get z.world.jobs j ≡ slice_get
        x.world.jobs j
    settle None s =
        ap (λ (v : World). slice_get v.jobs j) s.0.1 ∙ slice_get-set_other x.world.jobs k j (record task { stage = InHand g.3 g.4 }) ne
    settle (Some end) s =
        ap (λ (ts : List Task). slice_get ts j)
        (lists_jobs (with_end (with_buffered (with_buffered x g.2) s.0).world k task end s.2.0) c z.world s.2.3)
        ∙ slice_get-set_other x.world.jobs k j (record task { stage = Ended end }) ne

-- jobs in two stages are two
other_job : (jobs : List Task) (c j k : ℕ) (task was : Task) (end : Outcome) (stage : Stage) → slice_get jobs j ≡ Some task → task.stage ≡
    Ended end → IsAt jobs c k was stage → (stage ≡ Ended end → ⊥) → j ≢ k
other_job jobs c j k task was end stage at ended there differs e =
    let both : Some task ≡ Some was = sym at ∙ (ap (slice_get jobs) e ∙ there.listed) in
    let same : task ≡ was = cc in
    differs (sym there.at ∙ (ap (λ (t : Task). t.stage) (sym same) ∙ ended))

pub stays_ended : (x : X86) (move : Move) (z : X86) (j : ℕ) (task : Task) (end : Outcome) → Moves x move z → slice_get x.world.jobs j ≡ Some task →
    task.stage ≡ Ended end → slice_get z.world.jobs j ≡ Some task
stays_ended x (TurnOf c) z j task end (answer, inl (k, was, state, left, there, goes)) at ended =
    goes_keeps x c k j was state left answer z goes
    (other_job x.world.jobs c j k task was end (InHand state left) at ended there (λ e. let no : InHand state left ≡ Ended end = e in cc)) ∙ at
stays_ended x (TurnOf c) z j task end (answer, inr (inl (free, (k, was, input, b, there, below, begun, goes)))) at ended =
    goes_keeps (with_buffered x b) c k j was (start c input) was.budget answer z goes
    (other_job x.world.jobs c j k task was end (Waiting input) at ended there (λ e. let no : Waiting input ≡ Ended end = e in cc)) ∙ at
stays_ended x (TurnOf c) z j task end (answer, inr (inr (free, waits, idle, same))) at ended =
    ap (λ (v : X86). slice_get v.world.jobs j) same ∙ at
stays_ended x (FlushOf c) z j task end (b, flushes, is) at ended = ap (λ (v : X86). slice_get v.world.jobs j) is ∙ at

pub none_ran_before : (moves : List Move) (x z : X86) → RunsMoves x moves z → NoneRanOut z.world.jobs → NoneRanOut x.world.jobs
none_ran_before [] x z runs none = subst (λ (v : X86). NoneRanOut v.world.jobs) runs none
none_ran_before (move ∷ moves) x z (y, first, runs) none = λ j task pc at ended.
    none_ran_before moves y z runs none j task pc (stays_ended x move y j task (OutOfBudget pc) first at ended) ended

-- ---- moves
pub rich_moves : (moves : List Move) (x z : X86) (jobs : List Task) → AsRich x.world.jobs jobs → RunsMoves x moves z → NoneRanOut z.world.jobs
    → (later : List Task) × RunsMoves (with_x86_jobs x jobs) moves (with_x86_jobs z later) × AsRich z.world.jobs later
rich_moves [] x z jobs rich runs none =
    (jobs, ap (λ (v : X86). with_x86_jobs v jobs) runs, subst (λ (v : X86). AsRich v.world.jobs jobs) (sym runs) rich)
rich_moves (move ∷ moves) x z jobs rich (y, first, runs) none =
    let one = rich_move x jobs move y rich first (none_ran_before moves y z runs none) in
    let r = rich_moves moves y z one.0 one.2 runs none in
    (r.0, (with_x86_jobs y one.0, one.1, r.1), r.2)

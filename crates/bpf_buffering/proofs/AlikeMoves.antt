-- Machines with store buffers that are alike make the same moves.
use Rattle.std.proofs.Common.{◌≡◌, ◌∙◌, ℕ, zero, suc, List, [], ◌∷◌, Option, Some, None, inl, inr, refl, sym, ap, subst}
use Rattle.std.specs.Prelude.{slice_get}
use Rattle.bpf_loader.specs.Loaded.{Loaded}
use Rattle.bpf_mem.specs.Laws.{IsMemory}
use Rattle.bpf_cpu.specs.declared.cpu.Cpu.{Cpu}
use Rattle.bpf_cpu.specs.declared.outcome.Outcome.{Outcome}
use Rattle.bpf_cpu.specs.declared.outcome.Outcome.TheVariants.{OutOfBudget}
use Rattle.bpf_cpu.specs.State.{start}
use Rattle.bpf_cpu.specs.Task.{Stage, Task, InHand, Ended}
use Rattle.bpf_live.specs.Laws.{AlikeIsAnEquivalence, StepsAreAlike}
use Rattle.bpf_alike.specs.Worlds.{AllAlike, AreAlikeIn, AreLike, IsAlike}
use Rattle.bpf_alike.proofs.Like.{like_pc, like_same, like_steps}
use Rattle.bpf_alike.proofs.AlikeJobs.{alike_at, alike_cpu, alike_ended, alike_hand, alike_set, all_again, all_back, all_same, at_back, below_alike, free_alike}
use Rattle.bpf_alike.proofs.AlikeJobs.{end_alike as ended_alike, wait_now, waits_alike}
use Rattle.bpf_alike.proofs.AlikeTurns.{same_outcome}
use Rattle.bpf_machine.specs.declared.machine.Turn.{Turn}
use Rattle.bpf_machine.specs.Hands.{IsAt, SomeWaits, with_stage}
use Rattle.bpf_machine.specs.Headways.{with_jobs}
use Rattle.bpf_machine.specs.Patient.{NoneRanOut}
use Rattle.bpf_machine.specs.Rounds.{HaveEnded}
use Rattle.bpf_machine.specs.Schedule.{World}
use Rattle.bpf_machine.proofs.DeterminedTurns.{IsWorld}
use Rattle.bpf_machine.proofs.ListLaws.{with_end, lists_jobs, lists_along, lists_programs}
use Rattle.bpf_x86.specs.Buffers.{Buffered}
use Rattle.bpf_x86.specs.Machine.{X86, Move, TurnOf, FlushOf, Moves, RunsMoves, with_buffered, buffered, Advances, Settled, GoesOn, TakesTurn}
use Rattle.bpf_buffering.specs.Alike.{with_x86_jobs, ButForDeadX86}

-- ---- worlds
memory_in : (program : Loaded) (n : ℕ) (a b : Cpu) → AreAlikeIn program n a b → b.memory ≡ a.memory
memory_in program zero a b same = ap (λ (c : Cpu). c.memory) same
memory_in program (suc n) a b (table, mid, sound, alike, chain) = memory_in program n mid b chain ∙ ap (λ (c : Cpu). c.memory) alike.rest

-- the state of a job that is alike has the same memory
one_memory : (programs : List Loaded) (old new : Task) (state : Cpu) (left : ℕ) → IsAlike programs old new → old.stage ≡ InHand state left
    → (other : Cpu) × (new.stage ≡ InHand other left) × (other.memory ≡ state.memory)
one_memory programs old new state left (inl same) at = (state, ap (λ (t : Task). t.stage) same ∙ at, refl)
one_memory programs old new state left (inr (program, was, rest, other, loaded, there, is, alike)) at =
    let both : InHand was rest ≡ InHand state left = sym there ∙ at in
    let states : was ≡ state = cc in
    let lefts : rest ≡ left = cc in
    (other, ap (λ (t : Task). t.stage) is ∙ ap (InHand other) lefts, memory_in program alike.0 was other alike.1 ∙ ap (λ (c : Cpu). c.memory) states)

pub alike_world : AlikeIsAnEquivalence → (w : World) (jobs : List Task) → AllAlike w.programs w.jobs jobs → IsWorld w → IsWorld (with_jobs w jobs)
alike_world equal w jobs all world =
    let back = all_back equal w.programs w.jobs jobs all in
    record {
      store = world.store;
      memory = λ c j task state left at.
          (let b = alike_at equal w.programs jobs w.jobs j task back at.listed in
          let m = one_memory w.programs task b.0 state left b.2 at.at in
          subst IsMemory m.2 (world.memory c j b.0 m.0 left (record { listed = b.1; of = alike_cpu equal w.programs task b.0 b.2 ∙ at.of; at = m.1 })));
      one = λ c j k task other state now left rest first second.
          (let a = at_back equal w.programs w.jobs jobs all c j task state left first in
          let b = at_back equal w.programs w.jobs jobs all c k other now rest second in
          world.one c j k a.0 b.0 a.1 b.1 left rest a.2 b.2);
      short = λ c j task input at. world.short c j task input (wait_now equal w.programs jobs w.jobs back c j task input at);
    }

-- ---- a step of a job in hand
module _ (equal : AlikeIsAnEquivalence) (steps : StepsAreAlike) (programs : List Loaded) where
  advance_alike : (program : Loaded) (c : ℕ) (b : Buffered) (old other : Cpu) (left : ℕ) (end : Option Outcome) (t : Buffered) (new : Cpu)
      (rest : ℕ) → AreLike program old other → Advances program c b old left end t new rest
      → (next : Cpu) × Advances program c b other left end t next rest × AreLike program new next
  advance_alike program c b old other zero end t new rest alike a =
      let same = like_pc program old other alike in (
        other,
        (a.0 ∙ ap (λ (pc : ℕ). Some (OutOfBudget pc)) (sym same), a.1, refl, a.3),
        subst (λ (x : Cpu). AreLike program x other) (sym a.2) alike,
      )
  advance_alike program c b old other (suc n) end t new rest alike a =
      let r = like_steps program steps b.memory.shape old other new a.0 a.1 alike a.2 in (
        r.0,
        (a.0, a.1, r.1, a.3, a.4 ∙ sym (same_outcome a.1 n new r.0 (like_pc program new r.0 r.2)), a.5),
        r.2,
      )

  -- ---- a turn
  goes_alike : (x : X86) (jobs : List Task) (c j : ℕ) (task new : Task) (state other : Cpu) (left : ℕ) (answer : Turn) (z : X86)
      → x.world.programs ≡ programs → AllAlike programs x.world.jobs jobs
      → ((stage : Stage) → record new { stage = stage } ≡ record task { stage = stage }) → new.program ≡ task.program
      → ((program : Loaded) → slice_get programs task.program ≡ Some program → AreLike program state other)
      → GoesOn x c j task state left answer z
      → (later : List Task) × GoesOn (with_x86_jobs x jobs) c j new other left answer (with_x86_jobs z later)
      × AllAlike programs z.world.jobs later × (z.world.programs ≡ programs)
  goes_alike x jobs c j task new state other left answer z known all same program alike g = settle g.1 g.6 g.7
    where
      here : slice_get programs task.program ≡ Some g.0
      here = ap (λ (ps : List Loaded). slice_get ps task.program) (sym known) ∙ g.5

      loaded : slice_get x.world.programs new.program ≡ Some g.0
      loaded = ap (slice_get x.world.programs) program ∙ g.5

      settle : (end : Option Outcome) → Advances g.0 c (buffered x) state left end g.2 g.3 g.4
          → Settled (with_buffered x g.2) c j task g.3 g.4 end answer z
          → (later : List Task) × GoesOn (with_x86_jobs x jobs) c j new other left answer (with_x86_jobs z later)
          × AllAlike programs z.world.jobs later × (z.world.programs ≡ programs)
      settle None a s =
          let made = advance_alike g.0 c (buffered x) state other left None g.2 g.3 g.4 (alike g.0 here) a in
          let later = with_stage jobs j new (InHand made.0 g.4) in
          let one : IsAlike programs (record task { stage = InHand g.3 g.4 }) (record new { stage = InHand made.0 g.4 }) =
          inr (g.0, g.3, g.4, made.0, here, refl, same (InHand made.0 g.4), made.2) in (
            later,
            (g.0, None, g.2, made.0, g.4, loaded, made.1, ((s.0.0, ap (λ (v : World). with_jobs v later) s.0.1), s.1)),
            subst (λ (ts : List Task). AllAlike programs ts later) (sym (ap (λ (v : World). v.jobs) s.0.1))
                (alike_set equal programs x.world.jobs jobs j (record task { stage = InHand g.3 g.4 }) (record new { stage = InHand made.0 g.4 })
                all one),
            ap (λ (v : World). v.programs) s.0.1 ∙ known,
          )
      settle (Some end) a s =
          let made = advance_alike g.0 c (buffered x) state other left (Some end) g.2 g.3 g.4 (alike g.0 here) a in
          let later = with_stage jobs j new (Ended end) in
          let w : World = (with_buffered (with_buffered x g.2) s.0).world in
          let m : World = with_end w j task end s.2.0 in
          let is : z.world.jobs ≡ m.jobs = lists_jobs m c z.world s.2.3 in
          let both : AllAlike programs m.jobs later = alike_set equal programs x.world.jobs jobs j (record task { stage = Ended end })
          (record new { stage = Ended end }) all (inl (same (Ended end))) in
          let some : SomeWaits m.jobs c → SomeWaits later c = λ h. (h.0, h.1, h.2, wait_now equal programs m.jobs later both c h.0 h.1 h.2 h.3) in (
            later,
            (
              g.0,
              Some end,
              g.2,
              made.0,
              g.4,
              loaded,
              made.1,
              (
                s.0,
                s.1,
                (s.2.0, s.2.1, s.2.2, lists_along m c z.world later some (waits_alike equal programs m.jobs later both c) s.2.3),
                s.3,
              ),
            ),
            subst (λ (ts : List Task). AllAlike programs ts later) (sym is) both,
            lists_programs m c z.world s.2.3 ∙ known,
          )

  abbrev MadeAlike : X86 → List Task → Move → X86 → Type 0
  MadeAlike x jobs move z = (later : List Task) × Moves (with_x86_jobs x jobs) move (with_x86_jobs z later) × AllAlike programs z.world.jobs later
      × (z.world.programs ≡ programs)

  turn_alike : (x : X86) (jobs : List Task) (c : ℕ) (answer : Turn) (z : X86) → x.world.programs ≡ programs → AllAlike programs x.world.jobs jobs
      → TakesTurn x c answer z → MadeAlike x jobs (TurnOf c) z
  turn_alike x jobs c answer z known all (inl (j, task, state, left, at, g)) =
      let b = alike_at equal programs x.world.jobs jobs j task all at.listed in
      let h = alike_hand equal programs task b.0 state left b.2 at.at in
      let r = goes_alike x jobs c j task b.0 state h.0 left answer z known all (λ stage. ap (λ (t : Task). record t { stage = stage }) h.1)
      (ap (λ (t : Task). t.program) h.1) h.2 g in
      let there : IsAt jobs c j b.0 (InHand h.0 left) = record {
        listed = b.1;
        of = ap (λ (t : Task). t.cpu) h.1 ∙ at.of;
        at = ap (λ (t : Task). t.stage) h.1;
      } in
      (r.0, (answer, inl (j, b.0, h.0, left, there, r.1)), r.2, r.3)
  turn_alike x jobs c answer z known all (inr (inl (free, (j, task, input, b, at, below, begun, goes)))) =
      let there = wait_now equal programs x.world.jobs jobs all c j task input at in
      let r = goes_alike (with_buffered x b) jobs c j task task (start c input) (start c input) task.budget answer z known all (λ stage. refl) refl
      (λ program loaded. like_same program (start c input)) goes in (
        r.0,
        (
          answer,
          inr (inl (
            free_alike equal programs x.world.jobs jobs all c free,
            (j, task, input, b, there, below_alike equal programs x.world.jobs jobs all c j below, begun, r.1),
          )),
        ),
        r.2,
        r.3,
      )
  turn_alike x jobs c answer z known all (inr (inr (free, waits, idle, same))) = (
    jobs,
    (
      answer,
      inr (inr (
        free_alike equal programs x.world.jobs jobs all c free,
        waits_alike equal programs x.world.jobs jobs all c waits,
        idle,
        ap (λ (v : X86). with_x86_jobs v jobs) same,
      )),
    ),
    subst (λ (v : X86). AllAlike programs v.world.jobs jobs) (sym same) all,
    ap (λ (v : X86). v.world.programs) same ∙ known,
  )

  -- ---- a move
  pub move_alike : (x : X86) (jobs : List Task) (move : Move) (z : X86) → x.world.programs ≡ programs → AllAlike programs x.world.jobs jobs
      → Moves x move z → MadeAlike x jobs move z
  move_alike x jobs (TurnOf c) z known all (answer, turn) = turn_alike x jobs c answer z known all turn
  move_alike x jobs (FlushOf c) z known all (b, flushes, is) = (
    jobs,
    (b, flushes, ap (λ (v : X86). with_x86_jobs v jobs) is),
    subst (λ (v : X86). AllAlike programs v.world.jobs jobs) (sym is) all,
    ap (λ (v : X86). v.world.programs) is ∙ known,
  )

  -- ---- moves
  pub moves_alike : (moves : List Move) (x z : X86) (jobs : List Task) → x.world.programs ≡ programs → AllAlike programs x.world.jobs jobs
      → RunsMoves x moves z
      → (later : List Task) × RunsMoves (with_x86_jobs x jobs) moves (with_x86_jobs z later) × AllAlike programs z.world.jobs later
      × (z.world.programs ≡ programs)
  moves_alike [] x z jobs known all runs = (
    jobs,
    ap (λ (v : X86). with_x86_jobs v jobs) runs,
    subst (λ (v : X86). AllAlike programs v.world.jobs jobs) (sym runs) all,
    ap (λ (v : X86). v.world.programs) runs ∙ known,
  )
  moves_alike (move ∷ moves) x z jobs known all (y, first, runs) =
      let one = move_alike x jobs move y known all first in
      let r = moves_alike moves y z one.0 one.3 one.2 runs in
      (r.0, (with_x86_jobs y one.0, one.1, r.1), r.2, r.3)

-- moves that lead to a machine without work lead there from one that is alike
pub end_alike : AlikeIsAnEquivalence → StepsAreAlike → (moves : List Move) (x z : X86) (jobs : List Task)
    → AllAlike x.world.programs x.world.jobs jobs → RunsMoves x moves z → HaveEnded z.world.jobs → RunsMoves (with_x86_jobs x jobs) moves z
end_alike equal steps moves x z jobs all runs ended =
    let r = moves_alike equal steps x.world.programs moves x z jobs refl all runs in
    let same : r.0 ≡ z.world.jobs = alike_ended equal x.world.programs z.world.jobs r.0 r.2 ended in
    subst (λ (ts : List Task). RunsMoves (with_x86_jobs x jobs) moves (with_x86_jobs z ts)) same r.1

-- where none of the ones has run out of budget, none of the others has
pub none_alike : AlikeIsAnEquivalence → (programs : List Loaded) (olds news : List Task) → AllAlike programs olds news → NoneRanOut olds
    → NoneRanOut news
none_alike equal programs olds news all none j task pc at ended =
    let b = alike_at equal programs news olds j task (all_back equal programs olds news all) at in
    none j b.0 pc b.1 (ap (λ (t : Task). t.stage) (ended_alike equal programs task b.0 (OutOfBudget pc) b.2 ended) ∙ ended)

-- ---- what is true but for dead registers
pub dead_none : AlikeIsAnEquivalence → (P : X86 → Type 0) (x : X86) → P x → ButForDeadX86 P x
dead_none equal P x is = (x.world.jobs, all_same equal x.world.programs x.world.jobs, is)

pub dead_again : AlikeIsAnEquivalence → (P : X86 → Type 0) (x : X86) (jobs : List Task) → AllAlike x.world.programs x.world.jobs jobs
    → ButForDeadX86 P (with_x86_jobs x jobs) → ButForDeadX86 P x
dead_again equal P x jobs all (more, again, is) = (more, all_again equal x.world.programs x.world.jobs jobs more all again, is)

-- Where each CPU has its next turn in all that schedules lead to, it can make its step there.
use Rattle.std.proofs.Common.{◌≡◌, ◌+◌, ℕ, suc, true, false, List, Some, inl, inr, ap, subst, ◌∙◌, arith}
use Rattle.std.specs.Prelude.{map, slice_get}
use Rattle.bpf_shared.specs.Laws.{CallsHaveOneReply}
use Rattle.bpf_shared.specs.declared.events.Event.{Event}
use Rattle.bpf_shared.specs.Store.{Plain}
use Rattle.bpf_shared.specs.History.{PlainlyLegal, entry}
use Rattle.bpf_loader.specs.Loaded.{Loaded}
use Rattle.bpf_loader.specs.Laws.{OneInstructionBegins}
use Rattle.bpf_mem.specs.Laws.{WritesAreDetermined}
use Rattle.bpf_cpu.specs.declared.cpu.Cpu.{Cpu}
use Rattle.bpf_cpu.specs.declared.outcome.Progress.{Progress}
use Rattle.bpf_cpu.specs.Step.{Step}
use Rattle.bpf_cpu.specs.Task.{Task, InHand}
use Rattle.bpf_machine.specs.declared.machine.Turn.{Turn}
use Rattle.bpf_machine.specs.Hands.{IsAt}
use Rattle.bpf_machine.specs.Schedule.{World, GoesOn, RunsSchedule, TakesTurn}
use Rattle.bpf_machine.specs.Laws.{IsFresh}
use Rattle.bpf_machine.specs.Headways.{with_jobs}
use Rattle.bpf_machine.proofs.DeterminedTurns.{IsWorld, same_stage, fresh_world, runs_world}
use Rattle.bpf_machine.proofs.PatientLaws.{richer_hand, rich_at, rich_world}
use Rattle.bpf_x86.specs.Laws.{StepsAreThere, TurningRaceFreeIsSame, TurnsAreThere}
use Rattle.bpf_x86.proofs.Simulating.{race_free_is_same}

-- the step of a turn, on a job in hand with steps left
abbrev IsStep : World → ℕ → Task → Cpu → Type 0
IsStep w c task state = (program : Loaded) × (events : List Event) × (answer : Progress) × (new : Cpu) × (s : Plain) ×
    (slice_get w.programs task.program ≡ Some program)
    × Step w.store.shape program state events answer new × PlainlyLegal w.store (map (entry c) events) s

taken_step : (w : World) (c j : ℕ) (task : Task) (state : Cpu) (n : ℕ) (answer : Turn) (y : World) → IsWorld w → IsAt w.jobs c j task
    (InHand state (suc n)) → TakesTurn w c answer y → IsStep w c task state
taken_step w c j task state n answer y world at (inl a) =
    let one : a.0 ≡ j = world.one c a.0 j a.1 task a.2 state a.3 (suc n) a.4 at in
    let there : IsAt w.jobs c j a.1 (InHand a.2 a.3) = subst (λ (i : ℕ). IsAt w.jobs c i a.1 (InHand a.2 a.3)) one a.4 in
    let same = same_stage w.jobs c j a.1 task (InHand a.2 a.3) (InHand state (suc n)) there at in
    let stages : InHand a.2 a.3 ≡ InHand state (suc n) = same.1 in
    let states : a.2 ≡ state = cc in
    let lefts : a.3 ≡ suc n = cc in
    step_of
    (subst (λ (t : Task). GoesOn w c j t state (suc n) answer y) same.0
    (subst (λ (i : ℕ). GoesOn w c j a.1 state i answer y) lefts
    (subst (λ (s : Cpu). GoesOn w c j a.1 s a.3 answer y) states
    (subst (λ (i : ℕ). GoesOn w c i a.1 a.2 a.3 answer y) one a.5))))
  where
    step_of : GoesOn w c j task state (suc n) answer y → IsStep w c task state
    step_of g = (g.0, g.6.0, g.6.1, g.3, g.2, g.5, g.6.2, g.6.3)
taken_step w c j task state n answer y world at (inr (inl a)) = absurd (a.0 j task state (suc n) at)
taken_step w c j task state n answer y world at (inr (inr a)) = absurd (a.0 j task state (suc n) at)

module _ (law : WritesAreDetermined) (begins : OneInstructionBegins) (replies : CallsHaveOneReply) (w : World) (fresh : IsFresh w) where
  world_there : (z : World) (schedule : List ℕ) → RunsSchedule w schedule z → IsWorld z
  world_there z schedule runs = runs_world law begins replies schedule w z (fresh_world law begins replies w fresh) runs

  steps_are_there : TurnsAreThere false w → StepsAreThere false w
  steps_are_there turns schedule z runs counts c j task state left at =
      let r = turns schedule z runs c in
      taken_step z c j task state left r.0 r.1 (world_there z schedule runs) at r.2

  -- with more steps left
  steps_are_patient : TurnsAreThere true w → StepsAreThere true w
  steps_are_patient turns schedule z runs counts c j task state left at =
      let there = turns schedule z runs counts in
      let rich = there.1 in
      let more = rich_at z.jobs there.0 j task rich at.listed in
      let hand = richer_hand task more.0 state (suc left) more.2 at.at in
      let steps : suc left + hand.0 ≡ suc (left + hand.0) = omega arith in
      let stage : more.0.stage ≡ InHand state (suc (left + hand.0)) = ap (λ (t : Task). t.stage) hand.1 ∙ ap (InHand state) steps in
      let of : more.0.cpu ≡ c = ap (λ (t : Task). t.cpu) hand.1 ∙ at.of in
      let r = there.2 c in
      let made = taken_step (with_jobs z there.0) c j more.0 state (left + hand.0) r.0 r.1
      (rich_world z there.0 rich (world_there z schedule runs)) (record { listed = more.1; of = of; at = stage }) r.2 in
      let program : more.0.program ≡ task.program = ap (λ (t : Task). t.program) hand.1 in
      (made.0, made.1, made.2, made.3, made.4, subst (λ (i : ℕ). slice_get z.programs i ≡ Some made.0) program made.5, made.6, made.7)

pub turning_race_free_is_same : WritesAreDetermined → OneInstructionBegins → CallsHaveOneReply → TurningRaceFreeIsSame
turning_race_free_is_same law begins replies false w fits fresh turns free =
    race_free_is_same law begins replies false w fits fresh (steps_are_there law begins replies w fresh turns) free
turning_race_free_is_same law begins replies true w fits fresh turns free =
    race_free_is_same law begins replies true w fits fresh (steps_are_patient law begins replies w fresh turns) free

-- A list of machines that is closed but for budgets covers all that schedules lead to while no job
-- runs out of budget.
use Rattle.std.proofs.Common.{◌≡◌, ◌≢◌, ◌∙◌, ◌+◌, ℕ, zero, suc, List, [], ◌∷◌, Option, Some, None, inl, inr, refl, sym, ap, subst, arith}
use Rattle.std.specs.Prelude.{slice_get, slice_set}
use Rattle.bpf_base.proofs.Lists.{slice_get-set_known, slice_get-set_other}
use Rattle.bpf_shared.specs.Laws.{CallsHaveOneReply}
use Rattle.bpf_shared.specs.Store.{Plain}
use Rattle.bpf_loader.specs.Loaded.{Loaded}
use Rattle.bpf_loader.specs.Laws.{OneInstructionBegins}
use Rattle.bpf_mem.specs.Laws.{WritesAreDetermined}
use Rattle.bpf_cpu.specs.declared.cpu.Cpu.{Cpu}
use Rattle.bpf_cpu.specs.declared.input.Input.{Input}
use Rattle.bpf_cpu.specs.declared.outcome.Progress.{Progress}
use Rattle.bpf_cpu.specs.declared.outcome.Progress.TheVariants.{On, Done}
use Rattle.bpf_cpu.specs.declared.outcome.Outcome.{Outcome}
use Rattle.bpf_cpu.specs.declared.outcome.Outcome.TheVariants.{OutOfBudget}
use Rattle.bpf_machine.specs.declared.machine.Turn.{Turn}
use Rattle.bpf_machine.specs.declared.machine.ahead.Headway.{Headway}
use Rattle.bpf_cpu.specs.State.{start}
use Rattle.bpf_cpu.specs.Task.{Stage, Task, Waiting, InHand, Ended}
use Rattle.bpf_machine.specs.Hands.{IsAt, IsFree, NoneWaits, NoneWaitsBelow, SomeWaits, with_stage}
use Rattle.bpf_machine.specs.Schedule.{World, outcome_after, Advances, Settles, GoesOn, TakesTurn, RunsSchedule}
use Rattle.bpf_machine.specs.Rounds.{HaveEnded}
use Rattle.bpf_machine.specs.Work.{HasInHand}
use Rattle.bpf_machine.specs.Laws.{IsFresh}
use Rattle.bpf_machine.specs.Machine.{MachineState}
use Rattle.bpf_machine.specs.Headways.{TakesQuietTurns, turns_in, Precedes, BothPrecede, FitsHeadway, with_jobs, IsAheadOf}
use Rattle.bpf_machine.specs.declared.machine.ahead.Headway.TheVariants as headway
use Rattle.bpf_machine.specs.Cover.{IsShown, IsAhead}
use Rattle.bpf_machine.specs.Patient.{NoneRanOut, IsRicher, AsRich, IsShownRichly, IsClosedRichly, IsCoveredRichly, PatientSetsCover}
use Rattle.bpf_machine.proofs.ListLaws.{with_end, lists_jobs, lists_along}
use Rattle.bpf_machine.proofs.DeterminedTurns.{IsWorld, one_turn, fresh_world}
use Rattle.bpf_machine.proofs.CoverLaws.{IsCoveredBy, LeadsOn, turned, true_is_covered, ended_has}

-- ---- more steps left
suc_more : (n k : ℕ) → suc (n + k) ≡ suc n + k
suc_more n k = omega arith

module _ (program : Loaded) (c : ℕ) (k : ℕ) where
  on_more : (answer : Progress) (n : ℕ) (new : Cpu) → None ≡ outcome_after answer n new → None ≡ outcome_after answer (n + k) new
  on_more (Done end) n new e = let no : None ≡ Some end = e in cc
  on_more On zero new e = let no : None ≡ Some (OutOfBudget new.pc) = e in cc
  on_more On (suc n) new e = subst (λ (i : ℕ). None ≡ outcome_after On i new) (suc_more n k) refl

  end_more : (answer : Progress) (n : ℕ) (new : Cpu) (end : Outcome) → ((pc : ℕ) → end ≡ OutOfBudget pc → ⊥) → Some end ≡ outcome_after
      answer n new → Some end ≡ outcome_after answer (n + k) new
  end_more (Done other) n new end not_out e = e
  end_more On zero new end not_out e =
      let both : Some end ≡ Some (OutOfBudget new.pc) = e in
      let same : end ≡ OutOfBudget new.pc = cc in
      absurd (not_out new.pc same)
  end_more On (suc n) new end not_out e = let no : Some end ≡ None = e in cc

  advance_more : (s : Plain) (old : Cpu) (left : ℕ) (t : Plain) (new : Cpu) (rest : ℕ) → Advances program c s old left None t new rest →
      Advances program c s old (left + k) None t new (rest + k)
  advance_more s old zero t new rest a = let no : None ≡ Some (OutOfBudget old.pc) = a.0 in cc
  advance_more s old (suc n) t new rest a =
      subst (λ (i : ℕ). Advances program c s old i None t new (rest + k)) (suc_more n k)
      (a.0, a.1, a.2, a.3, on_more a.1 n new a.4, ap (λ (i : ℕ). i + k) a.5)

  advance_end : (s : Plain) (old : Cpu) (left : ℕ) (end : Outcome) (t : Plain) (new : Cpu) (rest : ℕ) →
      ((pc : ℕ) → end ≡ OutOfBudget pc → ⊥) → Advances program c s old left (Some end) t new rest → Advances program c s old (left + k)
      (Some end) t new (rest + k)
  advance_end s old zero end t new rest not_out a =
      let both : Some end ≡ Some (OutOfBudget old.pc) = a.0 in
      let same : end ≡ OutOfBudget old.pc = cc in
      absurd (not_out old.pc same)
  advance_end s old (suc n) end t new rest not_out a =
      subst (λ (i : ℕ). Advances program c s old i (Some end) t new (rest + k)) (suc_more n k)
      (a.0, a.1, a.2, a.3, end_more a.1 n new end not_out a.4, ap (λ (i : ℕ). i + k) a.5)

  quiet_more : (n : ℕ) (old : Cpu) (left : ℕ) (new : Cpu) (rest : ℕ) → TakesQuietTurns program c n old left new rest → TakesQuietTurns
      program c n old (left + k) new (rest + k)
  quiet_more zero old left new rest made = (made.0, ap (λ (i : ℕ). i + k) made.1)
  quiet_more (suc n) old left new rest made =
      (made.0, made.1 + k, λ s. advance_more s old left s made.0 made.1 (made.2 s), quiet_more n made.0 made.1 new rest made.3)

-- ---- richer jobs
same_is_richer : (task : Task) → IsRicher task task
same_is_richer task = inl refl

pub all_same : (jobs : List Task) → AsRich jobs jobs
all_same [] = tt
all_same (job ∷ jobs) = (inl refl, all_same jobs)

-- a job in hand
pub richer_hand : (old new : Task) (state : Cpu) (left : ℕ) → IsRicher old new → old.stage ≡ InHand state left → (k : ℕ) ×
    (new ≡ record old { stage = InHand state (left + k) })
richer_hand old new state left (inl same) at =
    let more : left ≡ left + 0 = omega arith in
    (0, same ∙ ap (λ (s : Stage). record old { stage = s }) (at ∙ ap (InHand state) more))
richer_hand old new state left (inr (other, rest, k, was, is)) at =
    let both : InHand other rest ≡ InHand state left = sym was ∙ at in
    let states : other ≡ state = cc in
    let lefts : rest ≡ left = cc in
    (k, is ∙ (ap (λ (x : Cpu). record old { stage = InHand x (rest + k) }) states ∙ ap (λ (n : ℕ). record old { stage = InHand state (n + k) }) lefts))

-- from the other side
richer_back : (old new : Task) (state : Cpu) (left : ℕ) → IsRicher old new → new.stage ≡ InHand state left → (rest : ℕ) × (old.stage ≡ InHand state rest)
richer_back old new state left (inl same) at = (left, ap (λ (t : Task). t.stage) (sym same) ∙ at)
richer_back old new state left (inr (other, rest, k, was, is)) at =
    let both : InHand other (rest + k) ≡ InHand state left = ap (λ (t : Task). t.stage) (sym is) ∙ at in
    let states : other ≡ state = cc in
    (rest, was ∙ ap (λ (x : Cpu). InHand x rest) states)

pub richer_cpu : (old new : Task) → IsRicher old new → new.cpu ≡ old.cpu
richer_cpu old new (inl same) = ap (λ (t : Task). t.cpu) same
richer_cpu old new (inr a) = ap (λ (t : Task). t.cpu) a.4

richer_wait : (old new : Task) (input : Input) → IsRicher old new → new.stage ≡ Waiting input → new ≡ old
richer_wait old new input (inl same) at = same
richer_wait old new input (inr a) at = let no : InHand a.0 (a.1 + a.2) ≡ Waiting input = ap (λ (t : Task). t.stage) (sym a.4) ∙ at in cc

wait_richer : (old new : Task) (input : Input) → IsRicher old new → old.stage ≡ Waiting input → new ≡ old
wait_richer old new input (inl same) at = same
wait_richer old new input (inr a) at = let no : InHand a.0 a.1 ≡ Waiting input = sym a.3 ∙ at in cc

pub end_richer : (old new : Task) (end : Outcome) → IsRicher old new → old.stage ≡ Ended end → new ≡ old
end_richer old new end (inl same) at = same
end_richer old new end (inr a) at = let no : InHand a.0 a.1 ≡ Ended end = sym a.3 ∙ at in cc

richer_again : (x y z : Task) → IsRicher x y → IsRicher y z → IsRicher x z
richer_again x y z (inl same) more = subst (λ (t : Task). IsRicher t z) same more
richer_again x y z (inr (state, left, k, was, is)) more =
    let there = richer_hand y z state (left + k) more (ap (λ (t : Task). t.stage) is) in
    let sum : left + k + there.0 ≡ left + (k + there.0) = omega arith in
    inr (
      state,
      left,
      k + there.0,
      was,
      there.1 ∙ (ap (λ (t : Task). record t { stage = InHand state (left + k + there.0) }) is ∙ ap
          (λ (n : ℕ). record x { stage = InHand state n }) sum),
    )

pub rich_again : (xs ys zs : List Task) → AsRich xs ys → AsRich ys zs → AsRich xs zs
rich_again [] [] [] a b = tt
rich_again [] [] (z ∷ zs) a b = absurd b
rich_again [] (y ∷ ys) zs a b = absurd a
rich_again (x ∷ xs) [] zs a b = absurd a
rich_again (x ∷ xs) (y ∷ ys) [] a b = absurd b
rich_again (x ∷ xs) (y ∷ ys) (z ∷ zs) a b = (richer_again x y z a.0 b.0, rich_again xs ys zs a.1 b.1)

pub rich_at : (xs ys : List Task) (j : ℕ) (x : Task) → AsRich xs ys → slice_get xs j ≡ Some x → (y : Task) × (slice_get ys j ≡ Some y) × IsRicher x y
rich_at [] ys j x rich at = let no : None ≡ Some x = at in cc
rich_at (a ∷ xs) [] j x rich at = absurd rich
rich_at (a ∷ xs) (b ∷ ys) zero x rich at = let same : a ≡ x = cc in (b, refl, subst (λ (t : Task). IsRicher t b) same rich.0)
rich_at (a ∷ xs) (b ∷ ys) (suc j) x rich at = rich_at xs ys j x rich.1 at

pub rich_back : (xs ys : List Task) (j : ℕ) (y : Task) → AsRich xs ys → slice_get ys j ≡ Some y → (x : Task) × (slice_get xs j ≡ Some x) × IsRicher x y
rich_back xs [] j y rich at = let no : None ≡ Some y = at in cc
rich_back [] (b ∷ ys) j y rich at = absurd rich
rich_back (a ∷ xs) (b ∷ ys) zero y rich at = let same : b ≡ y = cc in (a, refl, subst (λ (t : Task). IsRicher a t) same rich.0)
rich_back (a ∷ xs) (b ∷ ys) (suc j) y rich at = rich_back xs ys j y rich.1 at

rich_set : (xs ys : List Task) (j : ℕ) (x y : Task) → AsRich xs ys → IsRicher x y → AsRich (slice_set xs j x) (slice_set ys j y)
rich_set [] [] j x y rich more = tt
rich_set [] (b ∷ ys) j x y rich more = absurd rich
rich_set (a ∷ xs) [] j x y rich more = absurd rich
rich_set (a ∷ xs) (b ∷ ys) zero x y rich more = (more, rich.1)
rich_set (a ∷ xs) (b ∷ ys) (suc j) x y rich more = (rich.0, rich_set xs ys j x y rich.1 more)

pub rich_ended : (xs ys : List Task) → AsRich xs ys → HaveEnded xs → ys ≡ xs
rich_ended [] [] rich ended = refl
rich_ended [] (y ∷ ys) rich ended = absurd rich
rich_ended (x ∷ xs) [] rich ended = absurd rich
rich_ended (x ∷ xs) (y ∷ ys) rich ended =
    let end = ended 0 x refl in
    ap (λ (t : Task). t ∷ ys) (end_richer x y end.0 rich.0 end.1) ∙ ap (λ (ts : List Task). x ∷ ts)
    (rich_ended xs ys rich.1 (λ j task at. ended (suc j) task at))

-- ---- a world with richer jobs
module _ (olds news : List Task) (rich : AsRich olds news) where
  pub hand_back : (c j : ℕ) (task : Task) (state : Cpu) (left : ℕ) → IsAt news c j task (InHand state left) → (old : Task) × (rest : ℕ) ×
      IsAt olds c j old (InHand state rest)
  hand_back c j task state left at =
      let b = rich_back olds news j task rich at.listed in
      let h = richer_back b.0 task state left b.2 at.at in
      (b.0, h.0, record { listed = b.1; of = sym (richer_cpu b.0 task b.2) ∙ at.of; at = h.1 })

  wait_back : (c j : ℕ) (task : Task) (input : Input) → IsAt news c j task (Waiting input) → IsAt olds c j task (Waiting input)
  wait_back c j task input at =
      let b = rich_back olds news j task rich at.listed in
      record { listed = b.1 ∙ ap Some (sym (richer_wait b.0 task input b.2 at.at)); of = at.of; at = at.at }

  pub wait_now : (c j : ℕ) (task : Task) (input : Input) → IsAt olds c j task (Waiting input) → IsAt news c j task (Waiting input)
  wait_now c j task input at =
      let b = rich_at olds news j task rich at.listed in
      record { listed = b.1 ∙ ap Some (wait_richer task b.0 input b.2 at.at); of = at.of; at = at.at }

  free_rich : (c : ℕ) → IsFree olds c → IsFree news c
  free_rich c free j task state left at = let b = hand_back c j task state left at in free j b.0 state b.1 b.2

  waits_rich : (c : ℕ) → NoneWaits olds c → NoneWaits news c
  waits_rich c none j task input at = none j task input (wait_back c j task input at)

  below_rich : (c j : ℕ) → NoneWaitsBelow olds c j → NoneWaitsBelow news c j
  below_rich c j none k task input below at = none k task input below (wait_back c k task input at)

pub rich_world : (w : World) (jobs : List Task) → AsRich w.jobs jobs → IsWorld w → IsWorld (with_jobs w jobs)
rich_world w jobs rich world = record {
  store = world.store;
  memory = λ c j task state left at. (let b = hand_back w.jobs jobs rich c j task state left at in world.memory c j b.0 state b.1 b.2);
  one = λ c j k task other state now left rest at too.
      (let a = hand_back w.jobs jobs rich c j task state left at in
      let b = hand_back w.jobs jobs rich c k other now rest too in
      world.one c j k a.0 b.0 state now a.1 b.1 a.2 b.2);
  short = λ c j task input at. world.short c j task input (wait_back w.jobs jobs rich c j task input at);
}

-- ---- a turn with richer jobs
-- in the j-th job the stage was set
set_there : (jobs : List Task) (j : ℕ) (task : Task) (end : Outcome) → slice_get jobs j ≡ Some task → slice_get
    (with_stage jobs j task (Ended end)) j ≡ Some (record task { stage = Ended end })
set_there jobs j task end at = slice_get-set_known jobs j (record task { stage = Ended end }) task at

goes_rich : (w : World) (jobs : List Task) (c j : ℕ) (task new : Task) (state : Cpu) (left more k : ℕ) (answer : Turn) (z : World) → AsRich
    w.jobs jobs → slice_get w.jobs j ≡ Some task → more ≡ left + k
    → ((stage : Stage) → record new { stage = stage } ≡ record task { stage = stage }) → new.program ≡ task.program
    → GoesOn w c j task state left answer z → NoneRanOut z.jobs → (later : List Task) × GoesOn (with_jobs w jobs) c j new state more answer
    (with_jobs z later) × AsRich z.jobs later
goes_rich w jobs c j task new state left more k answer z rich at sum same program g none = settle g.1 g.6 g.7
  where
    loaded : slice_get w.programs new.program ≡ Some g.0
    loaded = ap (slice_get w.programs) program ∙ g.5

    settle : (end : Option Outcome) → Advances g.0 c w.store state left end g.2 g.3 g.4 → Settles (record w { store = g.2 }) c j task g.3 g.4 end answer z
        → (later : List Task) × GoesOn (with_jobs w jobs) c j new state more answer (with_jobs z later) × AsRich z.jobs later
    settle None a s =
        let later = with_stage jobs j new (InHand g.3 (g.4 + k)) in
        let made = subst (λ (n : ℕ). Advances g.0 c w.store state n None g.2 g.3 (g.4 + k)) (sym sum) (advance_more g.0 c k w.store state left g.2 g.3 g.4 a) in
        let richer : IsRicher (record task { stage = InHand g.3 g.4 }) (record new { stage = InHand g.3 (g.4 + k) }) = inr
        (g.3, g.4, k, refl, same (InHand g.3 (g.4 + k))) in (
          later,
          (g.0, None, g.2, g.3, g.4 + k, loaded, made, (s.0, ap (λ (x : World). with_jobs x later) s.1)),
          subst (λ (ts : List Task). AsRich ts later) (sym (ap (λ (x : World). x.jobs) s.1))
              (rich_set w.jobs jobs j (record task { stage = InHand g.3 g.4 }) (record new { stage = InHand g.3 (g.4 + k) }) rich richer),
        )
    settle (Some end) a s =
        let later = with_stage jobs j new (Ended end) in
        let m : World = with_end w j task end s.0 in
        let is : z.jobs ≡ m.jobs = lists_jobs m c z s.3 in
        let both : AsRich m.jobs later = rich_set w.jobs jobs j (record task { stage = Ended end }) (record new { stage = Ended end }) rich
        (inl (same (Ended end))) in
        let some : SomeWaits m.jobs c → SomeWaits later c = λ h. (h.0, h.1, h.2, wait_now m.jobs later both c h.0 h.1 h.2 h.3) in
        let not_out : (pc : ℕ) → end ≡ OutOfBudget pc → ⊥ = λ pc e. none j (record task { stage = Ended end }) pc
        (ap (λ (ts : List Task). slice_get ts j) is ∙ set_there w.jobs j task end at) (ap Ended e) in
        let made = subst (λ (n : ℕ). Advances g.0 c w.store state n (Some end) g.2 g.3 (g.4 + k)) (sym sum)
        (advance_end g.0 c k w.store state left end g.2 g.3 g.4 not_out a) in (
          later,
          (g.0, Some end, g.2, g.3, g.4 + k, loaded, made, (s.0, s.1, s.2, lists_along m c z later some (waits_rich m.jobs later both c) s.3)),
          subst (λ (ts : List Task). AsRich ts later) (sym is) both,
        )

pub rich_turn : (w : World) (jobs : List Task) (c : ℕ) (answer : Turn) (z : World) → AsRich w.jobs jobs → TakesTurn w c answer z → NoneRanOut z.jobs
    → (later : List Task) × TakesTurn (with_jobs w jobs) c answer (with_jobs z later) × AsRich z.jobs later
rich_turn w jobs c answer z rich (inl (j, task, state, left, at, g)) none =
    let b = rich_at w.jobs jobs j task rich at.listed in
    let h = richer_hand task b.0 state left b.2 at.at in
    let r = goes_rich w jobs c j task b.0 state left (left + h.0) h.0 answer z rich at.listed refl
    (λ stage. ap (λ (t : Task). record t { stage = stage }) h.1) (ap (λ (t : Task). t.program) h.1) g none in
    let there : IsAt jobs c j b.0 (InHand state (left + h.0)) = record
    { listed = b.1; of = ap (λ (t : Task). t.cpu) h.1 ∙ at.of; at = ap (λ (t : Task). t.stage) h.1 } in
    (r.0, inl (j, b.0, state, left + h.0, there, r.1), r.2)
rich_turn w jobs c answer z rich (inr (inl (free, a))) none =
    let at = a.4 in
    let there = wait_now w.jobs jobs rich c a.0 a.1 a.2 at in
    let sum : a.1.budget ≡ a.1.budget + 0 = omega arith in
    let r = goes_rich (record w { store = a.3 }) jobs c a.0 a.1 a.1 (start c a.2) a.1.budget a.1.budget 0 answer z rich at.listed sum
    (λ stage. refl) refl a.7 none in
    (r.0, inr (inl (free_rich w.jobs jobs rich c free, (a.0, a.1, a.2, a.3, there, below_rich w.jobs jobs rich c a.0 a.5, a.6, r.1))), r.2)
rich_turn w jobs c answer z rich (inr (inr (free, waits, idle, same))) none = (
  jobs,
  inr (inr (free_rich w.jobs jobs rich c free, waits_rich w.jobs jobs rich c waits, idle, ap (λ (x : World). with_jobs x jobs) same)),
  subst (λ (x : World). AsRich x.jobs jobs) (sym same) rich,
)

-- ---- what has ended stays so
goes_keeps : (w : World) (c k j : ℕ) (task : Task) (state : Cpu) (left : ℕ) (answer : Turn) (z : World) → GoesOn w c k task state left
    answer z → j ≢ k → slice_get z.jobs j ≡ slice_get w.jobs j
goes_keeps w c k j task state left answer z g ne = settle g.1 g.7
  where
    settle : (end : Option Outcome) → Settles (record w { store = g.2 }) c k task g.3 g.4 end answer z → slice_get z.jobs j ≡ slice_get w.jobs j
    settle None s = ap (λ (x : World). slice_get x.jobs j) s.1 ∙ slice_get-set_other w.jobs k j _ ne
    settle (Some end) s = ap (λ (ts : List Task). slice_get ts j) (lists_jobs (with_end w k task end s.0) c z s.3) ∙ slice_get-set_other w.jobs k j _ ne

-- jobs in two stages are two
other_job : (jobs : List Task) (c j k : ℕ) (task was : Task) (end : Outcome) (stage : Stage) → slice_get jobs j ≡ Some task → task.stage ≡
    Ended end → IsAt jobs c k was stage → (stage ≡ Ended end → ⊥) → j ≢ k
other_job jobs c j k task was end stage at ended there differs e =
    let both : Some task ≡ Some was = sym at ∙ (ap (slice_get jobs) e ∙ there.listed) in
    let same : task ≡ was = cc in
    differs (sym there.at ∙ (ap (λ (t : Task). t.stage) (sym same) ∙ ended))

pub stays_ended : (w : World) (c : ℕ) (answer : Turn) (z : World) (j : ℕ) (task : Task) (end : Outcome) → TakesTurn w c answer z → slice_get
    w.jobs j ≡ Some task → task.stage ≡ Ended end → slice_get z.jobs j ≡ Some task
stays_ended w c answer z j task end (inl a) at ended =
    goes_keeps w c a.0 j a.1 a.2 a.3 answer z a.5 (other_job w.jobs c j a.0 task a.1 end (InHand a.2 a.3) at ended a.4 (λ e. cc)) ∙ at
stays_ended w c answer z j task end (inr (inl (free, a))) at ended =
    goes_keeps (record w { store = a.3 }) c a.0 j a.1 (start c a.2) a.1.budget answer z a.7
    (other_job w.jobs c j a.0 task a.1 end (Waiting a.2) at ended a.4 (λ e. cc)) ∙ at
stays_ended w c answer z j task end (inr (inr a)) at ended = ap (λ (x : World). slice_get x.jobs j) a.3 ∙ at

pub none_ran_before : (cs : List ℕ) (w z : World) → RunsSchedule w cs z → NoneRanOut z.jobs → NoneRanOut w.jobs
none_ran_before [] w z runs none = subst (λ (x : World). NoneRanOut x.jobs) runs none
none_ran_before (c ∷ cs) w z runs none = λ j task pc at ended.
    none_ran_before cs runs.1 z runs.3 none j task pc (stays_ended w c runs.0 runs.1 j task (OutOfBudget pc) runs.2 at ended) ended

-- ---- richer ahead, richer after
module _ (programs : List Loaded) (turns : ℕ → ℕ) where
  behind_one : (old new rich : Task) → Precedes programs (turns old.cpu) old new → IsRicher new rich → (more : Task) × IsRicher old more ×
      Precedes programs (turns more.cpu) more rich
  behind_one old new rich (inl a) richer =
      let up : IsRicher old rich = subst (λ (t : Task). IsRicher t rich) a.0 richer in
      (rich, up, inl (refl, λ state left at. (let b = richer_back old rich state left up at in ap turns (richer_cpu old rich up) ∙ a.1 state b.0 b.1)))
  behind_one old new rich (inr (program, state, left, later, rest, loaded, was, is, made)) richer =
      let h = richer_hand new rich later rest richer (ap (λ (t : Task). t.stage) is) in
      let more : Task = record old { stage = InHand state (left + h.0) } in (
        more,
        inr (state, left, h.0, was, refl),
        inr (
          program,
          state,
          left + h.0,
          later,
          rest + h.0,
          loaded,
          refl,
          h.1 ∙ ap
              (λ (t : Task). record t { stage = InHand later (rest + h.0) }) is,
          quiet_more program old.cpu h.0 (turns old.cpu) state left later
              rest made,
        ),
      )

  behind_rich : (olds news richs : List Task) → ((j : ℕ) → BothPrecede programs turns (slice_get olds j) (slice_get news j)) → AsRich news richs
      → (mores : List Task) × AsRich olds mores × ((j : ℕ) → BothPrecede programs turns (slice_get mores j) (slice_get richs j))
  behind_rich [] [] [] each rich = ([], tt, each)
  behind_rich [] [] (r ∷ rs) each rich = absurd rich
  behind_rich [] (n ∷ ns) rs each rich = absurd (each 0)
  behind_rich (o ∷ os) [] rs each rich = absurd (each 0)
  behind_rich (o ∷ os) (n ∷ ns) [] each rich = absurd rich
  behind_rich (o ∷ os) (n ∷ ns) (r ∷ rs) each rich =
      let one = behind_one o n r (each 0) rich.0 in
      let rest = behind_rich os ns rs (λ j. each (suc j)) rich.1 in
      (one.0 ∷ rest.0, (one.1, rest.1), both one.0 rest.0 r rs one.2 rest.2)
    where
      both : (m : Task) (ms : List Task) (r : Task) (rs : List Task) → Precedes programs (turns m.cpu) m r →
          ((j : ℕ) → BothPrecede programs turns (slice_get ms j) (slice_get rs j)) → (j : ℕ) → BothPrecede programs turns
          (slice_get (m ∷ ms) j) (slice_get (r ∷ rs) j)
      both m ms r rs here there zero = here
      both m ms r rs here there (suc j) = there j

-- a CPU with a headway fits it still
module _ (olds news : List Task) (rich : AsRich olds news) where
  pub hand_rich : (c j : ℕ) → HasInHand olds c j → HasInHand news c j
  hand_rich c j (task, state, left, at) =
      let b = rich_at olds news j task rich at.listed in
      let h = richer_hand task b.0 state left b.2 at.at in
      (b.0, state, left + h.0, record { listed = b.1; of = richer_cpu task b.0 b.2 ∙ at.of; at = ap (λ (t : Task). t.stage) h.1 })

  fits_rich : (c n : ℕ) → FitsHeadway olds c (headway.Turns (suc n)) → FitsHeadway news c (headway.Turns (suc n))
  fits_rich c n fits = (
    fits.0,
    hand_rich c fits.0 fits.1,
    λ k (task, state, left, at). (let b = hand_back olds news rich c k task state left at in fits.2 k (b.0, state, b.1, b.2)),
  )

-- ---- what is true of a world with richer jobs
abbrev pub Richly : (World → Type 0) → World → Type 0
Richly P w = (jobs : List Task) × AsRich w.jobs jobs × P (with_jobs w jobs)

pub enriched_by : (y v : World) (headways : ℕ → Headway) (jobs : List Task) → AsRich v.jobs jobs → with_jobs v y.jobs ≡ y → IsAheadOf
    (IsAhead headways) headways y.jobs v
    → (more : List Task) × AsRich y.jobs more × (with_jobs (with_jobs v jobs) more ≡ with_jobs y more) × IsAheadOf (IsAhead headways)
    headways more (with_jobs v jobs)
enriched_by y v headways jobs rich same ahead =
    let turns : ℕ → ℕ = λ c. turns_in (headways c) in
    let b = behind_rich v.programs turns y.jobs v.jobs jobs ahead.each rich in (
      b.0,
      b.1,
      ap (λ (x : World). with_jobs x b.0) same,
      record {
        each = b.2;
        fits = λ c far. subst (λ (h : Headway). FitsHeadway jobs c h) (sym far.1)
            (fits_rich v.jobs jobs rich c far.0 (subst (λ (h : Headway). FitsHeadway v.jobs c h) far.1 (ahead.fits c far)));
      },
    )

pub enriched : (P : World → Type 0) (y : World) → IsCoveredBy (Richly P) y → (jobs : List Task) × AsRich y.jobs jobs × IsCoveredBy P (with_jobs y jobs)
enriched P y (v, headways, (jobs, rich, shown), same, ahead) =
    let e = enriched_by y v headways jobs rich same ahead in
    (e.0, e.1, (with_jobs v jobs, headways, shown, e.2, e.3))

-- ---- a turn, and a schedule
-- with richer jobs the world is covered
abbrev pub IsCoveredRichlyBy : (World → Type 0) → World → Type 0
IsCoveredRichlyBy P w = (jobs : List Task) × AsRich w.jobs jobs × IsCoveredBy P (with_jobs w jobs)

module _ (law : WritesAreDetermined) (begins : OneInstructionBegins) (replies : CallsHaveOneReply) (P : World → Type 0) (leads : LeadsOn P (Richly P)) where
  rich_covered : (w z : World) (c : ℕ) (answer : Turn) → IsWorld w → IsCoveredRichlyBy P w → TakesTurn w c answer z → NoneRanOut z.jobs → IsCoveredRichlyBy P z
  rich_covered w z c answer world (jobs, rich, covered) progress none =
      let t = rich_turn w jobs c answer z rich progress none in
      let there = turned law begins replies P (Richly P) (λ v shown. (v.jobs, all_same v.jobs, shown)) leads (with_jobs w jobs)
      (with_jobs z t.0) c answer (rich_world w jobs rich world) covered t.1 in
      let e = enriched P (with_jobs z t.0) there in
      (e.0, rich_again z.jobs t.0 e.0 t.2 e.1, e.2)

  pub rich_run : (cs : List ℕ) (w z : World) → IsWorld w → IsCoveredRichlyBy P w → RunsSchedule w cs z → NoneRanOut z.jobs → IsCoveredRichlyBy P z
  rich_run [] w z world covered runs none = subst (IsCoveredRichlyBy P) (sym runs) covered
  rich_run (c ∷ cs) w z world covered runs none =
      let next = (one_turn law begins replies w c runs.0 runs.0 runs.1 runs.1 world runs.2 runs.2).world in
      rich_run cs runs.1 z next (rich_covered w runs.1 c runs.0 world covered runs.2 (none_ran_before cs runs.1 z runs.3 none)) runs.3 none

  pub covered_richly : (w z : World) (schedule : List ℕ) → IsFresh w → P w → RunsSchedule w schedule z → NoneRanOut z.jobs → IsCoveredRichlyBy P z
  covered_richly w z schedule fresh shown runs none =
      rich_run schedule w z (fresh_world law begins replies w fresh) (w.jobs, all_same w.jobs, true_is_covered P w shown) runs none

pub ended_richly : (P : World → Type 0) (z : World) → IsCoveredRichlyBy P z → HaveEnded z.jobs → P z
ended_richly P z (jobs, rich, covered) ended =
    let same = rich_ended z.jobs jobs rich ended in
    ended_has P z (subst (λ (ts : List Task). IsCoveredBy P (with_jobs z ts)) same covered) ended

closed_richly : (kept : List MachineState) → IsClosedRichly kept → LeadsOn (IsShown kept) (IsShownRichly kept)
closed_richly kept closed v c (i, m, at, shows) = let r = closed i m c at in (r.1.0, r.1.1, r.0, r.1.2, r.1.3 v shows, r.1.4, r.2)

module _ (law : WritesAreDetermined) (begins : OneInstructionBegins) (replies : CallsHaveOneReply) (kept : List MachineState)
    (closed : IsClosedRichly kept) where
  pub patient_run : (cs : List ℕ) (w z : World) → IsWorld w → IsCoveredRichly kept w → RunsSchedule w cs z → NoneRanOut z.jobs → IsCoveredRichly kept z
  patient_run = rich_run law begins replies (IsShown kept) (closed_richly kept closed)

  pub patient_covered : (w z : World) (schedule : List ℕ) → IsFresh w → IsShown kept w → RunsSchedule w schedule z → NoneRanOut z.jobs → IsCoveredRichly kept z
  patient_covered = covered_richly law begins replies (IsShown kept) (closed_richly kept closed)

pub patient_sets_cover : WritesAreDetermined → OneInstructionBegins → CallsHaveOneReply → PatientSetsCover
patient_sets_cover law begins replies kept w z schedule closed fresh shown runs none =
    let covered = patient_covered law begins replies kept closed w z schedule fresh shown runs none in
    (covered, ended_richly (IsShown kept) z covered)

-- Rounds of a machine that is ahead of them.
use Rattle.std.proofs.Common.{◌≡◌, ◌≢◌, ◌∙◌, ◌+◌, ◌-◌, ◌<◌, ◌≤◌, ◌⊎◌, Bool, if◌then◌else◌, ℕ, zero, suc, List, [], ◌∷◌, replicate, Option}
use Rattle.std.proofs.Common.{Some, None, inl, inr, refl, sym, ap, subst, arith}
use Rattle.std.specs.Prelude.{nat_lt, slice_get}
use Rattle.std.proofs.lemmas.Bool.{cases_lt, le-ltb, lt-ltb}
use Rattle.bpf_shared.proofs.Puts.{equal_or_not}
use Rattle.bpf_plain.specs.PlainStore.{has_cpu}
use Rattle.bpf_shared.specs.Store.{Plain}
use Rattle.bpf_loader.specs.Loaded.{Loaded}
use Rattle.bpf_cpu.specs.declared.cpu.Cpu.{Cpu}
use Rattle.bpf_machine.specs.declared.machine.Turn.{Turn}
use Rattle.bpf_machine.specs.declared.machine.Turn.TheVariants as turn
use Rattle.bpf_machine.specs.declared.machine.ahead.Headway.{Headway}
use Rattle.bpf_machine.specs.declared.machine.ahead.Headway.TheVariants.{Idle, Turns}
use Rattle.bpf_cpu.specs.Task.{Stage, Task, Waiting, InHand}
use Rattle.bpf_machine.specs.Hands.{IsAt, IsFree, NoneWaits, with_stage}
use Rattle.bpf_machine.specs.Schedule.{World, TakesTurn, RunsSchedule}
use Rattle.bpf_machine.specs.Rounds.{below, RunsRound, RunsRounds}
use Rattle.bpf_machine.specs.Machine.{MachineState, Shows}
use Rattle.bpf_machine.specs.Questions.{turns_before_end, turns_left}
use Rattle.bpf_machine.specs.Work.{HasInHand}
use Rattle.bpf_machine.specs.Headways.{TakesQuietTurns, IsOnlyOne, RunsAhead, turns_in, BothPrecede, FitsHeadway, with_jobs, IsAheadOf}
use Rattle.bpf_machine.specs.Private.Headways.{headway_at, spent, HasSoMany, Everywhere}
use Rattle.bpf_machine.proofs.FallLaws.{summed, left_falls, turns_fall}
use Rattle.bpf_machine.proofs.RoundLaws.{SoMany, Turns as Makes, idle_turn, fell, cpus_shown, rounds_join}
use Rattle.bpf_machine.proofs.TurnLaws.{begun_at, runs_more}
use Rattle.bpf_machine.proofs.HeadwayLaws.{SameJobs, set_others, turn_others, fits_kept, behind, not_ahead, same_cpu, same_turns}
use Rattle.bpf_machine.proofs.HeadwayLaws.{turn_behind, idle_behind, turn_comes, goes_ahead}

-- ---- turns are made ahead
quiet_less : (s : Plain) (program : Loaded) (c n : ℕ) (old : Cpu) (left : ℕ) (new : Cpu) (rest : ℕ) → TakesQuietTurns program c n old left
    new rest → rest ≤ left
quiet_less s program c zero old left new rest made = omega (arith, made.1)
quiet_less s program c (suc n) old left new rest made =
    let first = left_falls program c s old left s made.0 made.1 (made.2 s) in
    let more = quiet_less s program c n made.0 made.1 new rest made.3 in
    omega arith

-- what is known of one CPU more
abbrev pub Also : (ℕ → Type 0) → ℕ → ℕ → Type 0
Also known c d = known d ⊎ (d ≡ c)

module _ (m m' : MachineState) (c : ℕ) (known : ℕ → Type 0) (f g : ℕ → Headway) (jobs : List Task) (w : World) (shows : Shows m w)
    (ahead : IsAheadOf known f jobs w) (none : turns_in (f c) ≡ 0) (others : (d : ℕ) → d ≢ c → f d ≡ g d) where
  -- the world where this CPU has made turns ahead
  abbrev RanTo : World → Type 0
  RanTo z = (with_jobs z jobs ≡ with_jobs w jobs) × IsAheadOf (Also known c) g jobs z × Shows m' z × (turns_left m'.jobs ≤ turns_left m.jobs)

  fits_all : (z : World) → ((d : ℕ) → d ≢ c → SameJobs w.jobs z.jobs d) → FitsHeadway z.jobs c (g c) → (d : ℕ) → Also known c d → FitsHeadway z.jobs d (g d)
  fits_all z same own d there = elim (equal_or_not d c) [
    | inl e ↦ subst (λ (k : ℕ). FitsHeadway z.jobs k (g k)) (sym e) own
    | inr ne ↦ elim there [
      | inl is ↦ subst (λ (h : Headway). FitsHeadway z.jobs d h) (others d ne) (fits_kept w.jobs z.jobs d (same d ne) (f d) (ahead.fits d is))
      | inr e ↦ absurd (ne e)
    ]
  ]

  stayed : m' ≡ m → turns_in (g c) ≡ 0 → FitsHeadway w.jobs c (g c) → RanTo w
  stayed same zero_there own = (
    refl,
    record {
      each = λ j. same_turns w.programs (λ d. turns_in (f d)) (λ d. turns_in (g d)) (λ d. elim (equal_or_not d c) [
        | inl e ↦ subst (λ (k : ℕ). turns_in (f k) ≡ turns_in (g k)) (sym e) (none ∙ sym zero_there)
        | inr ne ↦ ap turns_in (others d ne)
      ]) (slice_get jobs j) (slice_get w.jobs j) (ahead.each j);
      fits = fits_all w (λ d ne k other now. (λ at. at, λ at. at)) own;
    },
    subst (λ (x : MachineState). Shows x w) (sym same) shows,
    subst (λ (x : MachineState). turns_left x.jobs ≤ turns_left m.jobs) (sym same) (omega arith),
  )

  pub ran_ahead : (h : Headway) → g c ≡ h → RunsAhead m c h m' → (z : World) × RanTo z
  ran_ahead Idle e ran =
      let P : List Task → Type 0 = λ ts. IsFree ts c × NoneWaits ts c in
      let idle : P w.jobs = subst P (sym shows.jobs) (ran.1, ran.2) in
      (w, stayed ran.0 (ap turns_in e) (subst (λ (h : Headway). FitsHeadway w.jobs c h) (sym e) idle))
  ran_ahead (Turns n) e (inl ran) =
      let next = ran.2.1.1 in
      let P : List Task → Type 0 = λ ts. IsAt ts c ran.2.0 next.0 (Waiting next.1) in
      let at : P w.jobs = subst P (sym shows.jobs) next.2 in
      let own : FitsHeadway w.jobs c (Turns 0) = (λ free waits. waits ran.2.0 next.0 next.1 at) in
      (w, stayed ran.0 (ap turns_in e ∙ ran.1) (subst (λ (h : Headway). FitsHeadway w.jobs c h) (sym (e ∙ ap Turns ran.1)) own))
  ran_ahead (Turns n) e (inr (j, goes, one)) =
      let task = goes.0 in
      let state = goes.1 in
      let left = goes.2 in
      let program = goes.3 in
      let later = goes.4 in
      let rest = goes.5 in
      let now : Stage = InHand later rest in
      let news = with_stage w.jobs j task now in
      let at : IsAt w.jobs c j task (InHand state left) = subst (λ (ts : List Task). IsAt ts c j task (InHand state left)) (sym shows.jobs) goes.6 in
      let loaded : slice_get w.programs task.program ≡ Some program = ap (λ (ps : List Loaded). slice_get ps task.program) shows.programs ∙ goes.7 in
      let made : TakesQuietTurns program c (turns_in (g c)) state left later rest = subst
      (λ (i : ℕ). TakesQuietTurns program c i state left later rest) (sym (ap turns_in e)) goes.8 in
      let jobs_are : m'.jobs ≡ news = ap (λ (x : MachineState). x.jobs) goes.9 ∙ ap (λ (ts : List Task). with_stage ts j task now) (sym shows.jobs) in
      let single : IsOnlyOne news c j = subst (λ (ts : List Task). IsOnlyOne ts c j) jobs_are one in
      let has : HasInHand news c j = (record task { stage = now }, later, rest, begun_at w.jobs c j task (InHand state left) now at) in
      let less = quiet_less w.store program c n state left later rest goes.8 in
      let sum = summed (λ t. turns_before_end t.budget t.stage) m.jobs j task now goes.6.listed in
      let turns : turns_before_end task.budget task.stage ≡ left + 1 = ap (turns_before_end task.budget) goes.6.at in (
        record w { jobs = news },
        (
          refl,
          record {
            each = goes_ahead (λ d. turns_in (f d)) (λ d. turns_in (g d)) c w jobs ahead.each none (λ d ne. ap turns_in (others d ne)) j
                task state left program later rest at loaded made single;
            fits = fits_all (record w { jobs = news }) (λ d ne. set_others w.jobs c j task now at.listed at.of d ne)
                (subst (λ (h : Headway). FitsHeadway news c h) (sym e) (fits_one n news has single));
          },
          subst (λ (x : MachineState). Shows x (record w { jobs = news })) (sym goes.9)
              (record {
                store = shows.store;
                sound = shows.sound;
                programs = shows.programs;
                jobs = ap
                    (λ (ts : List Task). with_stage ts j task now) shows.jobs;
                lists = shows.lists;
              }),
          subst (λ (x : MachineState). turns_left x.jobs ≤ turns_left m.jobs) (sym goes.9) (omega (arith, sum, turns, less)),
        ),
      )
    where
      fits_one : (n : ℕ) (news : List Task) → HasInHand news c j → IsOnlyOne news c j → FitsHeadway news c (Turns n)
      fits_one zero news has single = λ free waits. free j has.0 has.1 has.2 has.3
      fits_one (suc n) news has single = (j, has, single)

-- ---- all CPUs, as far as those below a number
-- a job is as far as it is
pub both_same : (programs : List Loaded) (turns : ℕ → ℕ) → ((c : ℕ) → turns c ≡ 0) → (o : Option Task) → BothPrecede programs turns o o
both_same programs turns none None = tt
both_same programs turns none (Some task) = inl (refl, λ state left at. none task.cpu)

-- a CPU that no job has, in the rounds or ahead of them
no_job : (turns : ℕ → ℕ) (jobs : List Task) (w : World) (n : ℕ) →
    ((j : ℕ) → BothPrecede w.programs turns (slice_get jobs j) (slice_get w.jobs j)) →
    ((j : ℕ) (task : Task) → slice_get jobs j ≡ Some task → task.cpu < n)
    → (d : ℕ) → n ≤ d → (j : ℕ) (task : Task) (stage : Stage) → IsAt w.jobs d j task stage → ⊥
no_job turns jobs w n each inside d past j task stage at =
    let b = behind w.programs turns jobs w.jobs each j task at.listed in
    let less = inside j b.0 b.1 in
    let same = same_cpu w.programs turns (turns b.0.cpu) b.0 task b.2 in
    let of = at.of in
    absurd (omega arith)

pub record AllSoFar (first : MachineState) (c : ℕ) (headways : List Headway) (m : MachineState) : Type 0 where
  pub ahead : (w : World) → Shows first w → (z : World) × (with_jobs z w.jobs ≡ w) × IsAheadOf (λ d. d < c) (headway_at headways) w.jobs z ×
      Shows m z × (turns_left m.jobs ≤ turns_left first.jobs)
  pub above : (d : ℕ) → c ≤ d → headway_at headways d ≡ Idle

pub none_ahead : (first : MachineState) (headways : List Headway) → ((d : ℕ) → headway_at headways d ≡ Idle) → AllSoFar first 0 headways first
none_ahead first headways idle = record {
  ahead = λ w shows. (
    w,
    refl,
    record {
      each = λ j. both_same w.programs (λ d. turns_in (headway_at headways d)) (λ d. ap turns_in (idle d)) (slice_get w.jobs j);
      fits
          = λ d less. absurd (omega arith);
    },
    shows,
    omega arith,
  );
  above = λ d past. idle d;
}

-- each number but one is below or above it
below_or : (d c : ℕ) → d < c + 1 → (d < c) ⊎ (d ≡ c)
below_or d c less = elim (cases_lt d c) [ inl l ↦ inl l | inr past ↦ inr (omega arith) ]

pub one_more_ahead : (first m m' : MachineState) (c : ℕ) (old new : List Headway) (h : Headway) → AllSoFar first c old m → headway_at new c
    ≡ h → ((d : ℕ) → d ≢ c → headway_at old d ≡ headway_at new d) → RunsAhead m c h m' → AllSoFar first (c + 1) new m'
one_more_ahead first m m' c old new h far here others ran = record {
  ahead = λ w shows.
      let r = far.ahead w shows in
      let q = ran_ahead m m' c (λ d. d < c) (headway_at old) (headway_at new) w.jobs r.0 r.3 r.2 (ap turns_in (far.above c (omega arith))) others h here ran in
      let less = r.4 in
      let more = q.1.3 in
      (q.0, q.1.0 ∙ r.1, record { each = q.1.1.each; fits = λ d l. q.1.1.fits d (below_or d c l) }, q.1.2, omega arith);
  above = λ d past. let ne : d ≢ c = λ e. absurd (omega arith) in sym (others d ne) ∙ far.above d (omega arith);
}

pub all_ahead : (first m : MachineState) (n : ℕ) (headways : List Headway) →
    ((j : ℕ) (task : Task) → slice_get first.jobs j ≡ Some task → task.cpu < n) → AllSoFar first n headways m
    → (w : World) → Shows first w → (z : World) × (with_jobs z w.jobs ≡ w) × IsAheadOf Everywhere (headway_at headways) w.jobs z × Shows m z
all_ahead first m n headways inside far w shows =
    let r = far.ahead w shows in
    let inside_there : (j : ℕ) (task : Task) → slice_get w.jobs j ≡ Some task → task.cpu < n = λ j task at. inside j task
    (ap (λ (ts : List Task). slice_get ts j) (sym shows.jobs) ∙ at) in
    let nowhere = no_job (λ d. turns_in (headway_at headways d)) w.jobs r.0 n r.2.each inside_there in (
      r.0,
      r.1,
      record {
        each = r.2.each;
        fits = λ d known. elim (cases_lt d n) [
          | inl less ↦ r.2.fits d less
          | inr past ↦ subst (λ (h : Headway). FitsHeadway r.0.jobs d h) (sym (far.above d past)) (
            λ j task state left at. absurd (nowhere d past j task (InHand state left) at),
            λ j task input at. absurd (nowhere d past j task (Waiting input) at),
          )
        ];
      },
      r.3,
    )

pub all_less : (first m : MachineState) (n : ℕ) (headways : List Headway) → AllSoFar first n headways m → (w : World) → Shows first w →
    turns_left m.jobs ≤ turns_left first.jobs
all_less first m n headways far w shows = (far.ahead w shows).4

-- a CPU that is ahead by one turn less
pub still_fits : (jobs : List Task) (c n : ℕ) → FitsHeadway jobs c (Turns (suc n)) → FitsHeadway jobs c (Turns n)
still_fits jobs c zero fits = λ free waits. free fits.0 fits.1.0 fits.1.1 fits.1.2 fits.1.3
still_fits jobs c (suc n) fits = fits

-- ---- a round, as far as the CPUs below a number
pub record RoundSoFar (first : MachineState) (olds : List Headway) (c : ℕ) (headways : List Headway) (m : MachineState) : Type 0 where
  pub runs : (w : World) (jobs : List Task) → Shows first w → IsAheadOf Everywhere (headway_at olds) jobs w
      → (z : World) × (later : List Task) × RunsSchedule (with_jobs w jobs) (below c) (with_jobs z later) × IsAheadOf Everywhere
      (headway_at headways) later z × Shows m z
      × (turns_left m.jobs ≤ turns_left first.jobs) × ((d : ℕ) → d < c → headway_at olds d ≡ Turns 0 → turns_left m.jobs < turns_left first.jobs)
  pub rest : (d : ℕ) → c ≤ d → headway_at headways d ≡ headway_at olds d

pub round_begins : (first : MachineState) (olds : List Headway) → RoundSoFar first olds 0 olds first
round_begins first olds = record {
  runs = λ w jobs shows ahead. (w, jobs, refl, ahead, shows, omega arith, λ d less. absurd (omega arith));
  rest = λ d past. refl;
}

schedule_more : (w : World) (c : ℕ) (m : World) (answer : Turn) (z : World) → RunsSchedule w (below c) m → TakesTurn m c answer z →
    RunsSchedule w (below (c + 1)) z
schedule_more w c m answer z runs progress =
    let more : suc c ≡ c + 1 = omega arith in
    subst (λ (n : ℕ). RunsSchedule w (below n) z) more (runs_more w (below c) c m answer z runs progress)

module _ (first : MachineState) (olds : List Headway) (c : ℕ) (headways : List Headway) (m : MachineState) (far : RoundSoFar first olds c headways m) where
  -- the CPU's headway was no zero, so it need not have taken a turn
  no_zero : (old h : Headway) → headway_at headways c ≡ h → (h ≡ Turns 0 → ⊥) → (d : ℕ) → c ≤ d → d < c + 1 → headway_at olds d ≡ Turns 0 → ⊥
  no_zero old h is other d past less zero_there =
      let e : d ≡ c = omega arith in
      other (sym is ∙ (ap (headway_at headways) (sym e) ∙ (far.rest d past ∙ zero_there)))

  pub idle_next : headway_at headways c ≡ Idle → RoundSoFar first olds (c + 1) headways m
  idle_next is = record {
    runs = λ w jobs shows ahead.
        let r = far.runs w jobs shows ahead in
        let idle = subst (λ (h : Headway). FitsHeadway r.0.jobs c h) is (r.3.fits c tt) in
        let progress = idle_behind (λ d. turns_in (headway_at headways d)) c r.0 r.1 r.3.each idle.0 idle.1 in (
          r.0,
          r.1,
          schedule_more (with_jobs w jobs) c (with_jobs r.0 r.1) turn.Idle (with_jobs r.0 r.1) r.2 progress,
          r.3,
          r.4,
          r.5,
          λ d less zero_there. elim (cases_lt d c) [
            | inl l ↦ r.6 d l zero_there
            | inr past ↦ absurd (no_zero Idle Idle is (λ e. cc) d past less zero_there)
          ],
        );
    rest = λ d past. far.rest d (omega arith);
  }

  module _ (new : List Headway) (others : (d : ℕ) → d ≢ c → headway_at headways d ≡ headway_at new d) where
    rest_next : (d : ℕ) → c + 1 ≤ d → headway_at new d ≡ headway_at olds d
    rest_next d past = let ne : d ≢ c = λ e. absurd (omega arith) in sym (others d ne) ∙ far.rest d (omega arith)

    pub comes_next : (n : ℕ) → headway_at headways c ≡ Turns (suc n) → headway_at new c ≡ Turns n → RoundSoFar first olds (c + 1) new m
    comes_next n was is = record {
      runs = λ w jobs shows ahead.
          let r = far.runs w jobs shows ahead in
          let fits = subst (λ (h : Headway). FitsHeadway r.0.jobs c h) was (r.3.fits c tt) in
          let t = turn_comes (λ d. turns_in (headway_at headways d)) (λ d. turns_in (headway_at new d)) c n r.0 r.1 r.3.each
          (ap turns_in was) (ap turns_in is) (λ d ne. ap turns_in (others d ne)) fits.0 fits.1 fits.2 in (
            r.0,
            t.0,
            schedule_more (with_jobs w jobs) c (with_jobs r.0 r.1) turn.Ran (with_jobs r.0 t.0) r.2 t.1,
            record {
              each = t.2;
              fits = λ d known. elim (equal_or_not d c) [
                | inl e ↦ subst (λ (k : ℕ). FitsHeadway r.0.jobs k (headway_at new k)) (sym e)
                    (subst (λ (h : Headway). FitsHeadway r.0.jobs c h) (sym is) (still_fits r.0.jobs c n fits))
                | inr ne ↦ subst (λ (h : Headway). FitsHeadway r.0.jobs d h) (others d ne) (r.3.fits d tt)
              ];
            },
            r.4,
            r.5,
            λ d less zero_there. elim (cases_lt d c) [
              | inl l ↦ r.6 d l zero_there
              | inr past ↦ absurd (no_zero Idle (Turns (suc n)) was (λ e. cc) d past less zero_there)
            ],
          );
      rest = rest_next;
    }

    pub turn_next : (m' m'' : MachineState) (answer : Turn) (h : Headway) → headway_at headways c ≡ Turns 0 → headway_at new c ≡ h → Makes m
        c answer m' → RunsAhead m' c h m'' → RoundSoFar first olds (c + 1) new m''
    turn_next m' m'' answer h was is progress ran = record {
      runs = λ w jobs shows ahead.
          let r = far.runs w jobs shows ahead in
          let turns : ℕ → ℕ = λ d. turns_in (headway_at headways d) in
          let fits = subst (λ (h : Headway). FitsHeadway r.0.jobs c h) was (r.3.fits c tt) in
          let t = progress r.0 r.4 in
          let b = turn_behind turns c (ap turns_in was) r.0 r.1 answer t.0 r.3.each t.1 in
          let now : IsAheadOf (λ d. d ≢ c) (headway_at headways) b.0 t.0 = record {
            each = b.2;
            fits = λ d ne. fits_kept r.0.jobs t.0.jobs d (turn_others r.0 c d answer t.0 t.1 ne) (headway_at headways d) (r.3.fits d tt);
          } in
          let q = ran_ahead m' m'' c (λ d. d ≢ c) (headway_at headways) (headway_at new) b.0 t.0 t.2 now (ap turns_in was) others h is ran in
          let works : answer ≡ turn.Idle → ⊥ = λ idle. (let i = idle_turn r.0 c answer t.0 t.1 idle in fits i.0 i.1) in
          let fall : turns_left t.0.jobs < turns_left r.0.jobs = fell answer r.0.jobs t.0.jobs works (turns_fall r.0 t.0 c answer t.1).0 in
          let fall_shown : turns_left m'.jobs < turns_left m.jobs = subst (λ (ts : List Task). turns_left ts < turns_left m.jobs) t.2.jobs
          (subst (λ (ts : List Task). turns_left t.0.jobs < turns_left ts) r.4.jobs fall) in
          let before = r.5 in
          let after = q.1.3 in
          let less : turns_left m''.jobs < turns_left first.jobs = omega arith in (
            q.0,
            b.0,
            schedule_more (with_jobs w jobs) c (with_jobs r.0 r.1) answer (with_jobs q.0 b.0) r.2
                (subst (λ (x : World). TakesTurn (with_jobs r.0 r.1) c answer x) (sym q.1.0) b.1),
            record {
              each = q.1.1.each;
              fits = λ d known. elim (equal_or_not d c) [ inl e ↦ q.1.1.fits d (inr e) | inr ne ↦ q.1.1.fits d (inl ne) ];
            },
            q.1.2,
            omega arith,
            λ d l zero_there. less,
          );
      rest = rest_next;
    }

pub whole_ahead : (first : MachineState) (olds : List Headway) (n : ℕ) (headways : List Headway) (m : MachineState) →
    ((c : ℕ) → has_cpu first.store c ≡ nat_lt c n) → RoundSoFar first olds n headways m
    → (w : World) (jobs : List Task) → Shows first w → IsAheadOf Everywhere (headway_at olds) jobs w
    → (z : World) × (later : List Task) × RunsRound (with_jobs w jobs) (with_jobs z later) × IsAheadOf Everywhere (headway_at headways) later z × Shows m z
whole_ahead first olds n headways m same far w jobs shows ahead =
    let r = far.runs w jobs shows ahead in
    (r.0, r.1, subst (λ (k : ℕ). RunsSchedule (with_jobs w jobs) (below k) (with_jobs r.0 r.1)) (sym (cpus_shown first w n same shows)) r.2, r.3, r.4)

-- a CPU with a headway is one of the store's
pub zero_falls : (first : MachineState) (olds : List Headway) (n : ℕ) (headways : List Headway) (m : MachineState) →
    ((j : ℕ) (task : Task) → slice_get first.jobs j ≡ Some task → task.cpu < n) → RoundSoFar first olds n headways m
    → (w : World) (jobs : List Task) → Shows first w → IsAheadOf Everywhere (headway_at olds) jobs w → (c : ℕ) → headway_at olds c ≡ Turns 0
    → turns_left m.jobs < turns_left first.jobs
zero_falls first olds n headways m inside far w jobs shows ahead c zero_there = elim (cases_lt c n) [
  | inl less ↦ (far.runs w jobs shows ahead).6 c less zero_there
  | inr past ↦
      let fits = subst (λ (h : Headway). FitsHeadway w.jobs c h) zero_there (ahead.fits c tt) in
      absurd (fits (λ j task state left at. nowhere j task (InHand state left) past at) (λ j task input at. nowhere j task (Waiting input) past at))
]
  where
    nowhere : (j : ℕ) (task : Task) (stage : Stage) → n ≤ c → IsAt w.jobs c j task stage → ⊥
    nowhere j task stage past at =
        let less = inside j task (ap (λ (ts : List Task). slice_get ts j) (sym shows.jobs) ∙ at.listed) in
        let of = at.of in
        absurd (omega arith)

-- ---- rounds in which each CPU with work is ahead
-- one turn less, where there is one
abbrev pub OneLess : Headway → Headway → Type 0
OneLess old new = ((old ≡ Idle) × (new ≡ Idle)) ⊎ ((n : ℕ) × (old ≡ Turns (suc n)) × (new ≡ Turns n))

pub same_headways : (known : ℕ → Type 0) (f g : ℕ → Headway) (jobs : List Task) (w : World) → ((c : ℕ) → f c ≡ g c) → IsAheadOf known f jobs
    w → IsAheadOf known g jobs w
same_headways known f g jobs w same ahead = record {
  each = λ j. same_turns w.programs (λ c. turns_in (f c)) (λ c. turns_in (g c)) (λ c. ap turns_in (same c)) (slice_get jobs j)
      (slice_get w.jobs j) (ahead.each j);
  fits = λ c there. subst (λ (h : Headway). FitsHeadway w.jobs c h) (same c) (ahead.fits c there);
}

module _ (f g : ℕ → Headway) (w : World) (jobs : List Task) (ahead : IsAheadOf Everywhere f jobs w) (less : (c : ℕ) → OneLess (f c) (g c)) where
  -- after the turns of the CPUs below a number
  abbrev part : ℕ → ℕ → Headway
  part i d = if nat_lt d i then g d else f d

  part_below : (i d : ℕ) → d < i → g d ≡ part i d
  part_below i d l = ap (λ (b : Bool). if b then g d else f d) (sym (lt-ltb d i l))

  part_above : (i d : ℕ) → i ≤ d → f d ≡ part i d
  part_above i d l = ap (λ (b : Bool). if b then g d else f d) (sym (le-ltb d i l))

  part_other : (i d : ℕ) → d ≢ i → part i d ≡ part (i + 1) d
  part_other i d ne = elim (cases_lt d i) [
    | inl l ↦ sym (part_below i d l) ∙ part_below (i + 1) d (omega arith)
    | inr past ↦
        let beyond : i + 1 ≤ d = elim (cases_lt i d) [ inl l ↦ omega arith | inr here ↦ absurd (ne (omega arith)) ] in
        sym (part_above i d past) ∙ part_above (i + 1) d beyond
  ]

  abbrev PartMade : ℕ → Type 0
  PartMade i = (later : List Task) × RunsSchedule (with_jobs w jobs) (below i) (with_jobs w later) × IsAheadOf Everywhere (part i) later w

  part_made : (i : ℕ) → PartMade i
  part_made zero = (jobs, refl, same_headways Everywhere f (part 0) jobs w (λ c. part_above 0 c (omega arith)) ahead)
  part_made (suc i) = subst PartMade more (step (part_made i) (less i))
    where
      more : i + 1 ≡ suc i
      more = omega arith

      step : PartMade i → OneLess (f i) (g i) → PartMade (i + 1)
      step r (inl idle) =
          let is : part i i ≡ Idle = sym (part_above i i (omega arith)) ∙ idle.0 in
          let fits = subst (λ (h : Headway). FitsHeadway w.jobs i h) is (r.2.fits i tt) in
          let progress = idle_behind (λ d. turns_in (part i d)) i w r.0 r.2.each fits.0 fits.1 in
          let same : (c : ℕ) → part i c ≡ part (i + 1) c = λ c. elim (equal_or_not c i) [
            | inl e ↦ subst (λ (k : ℕ). part i k ≡ part (i + 1) k) (sym e) (is ∙ (sym idle.1 ∙ part_below (i + 1) i (omega arith)))
            | inr ne ↦ part_other i c ne
          ] in (
            r.0,
            schedule_more (with_jobs w jobs) i (with_jobs w r.0) turn.Idle (with_jobs w r.0) r.1 progress,
            same_headways Everywhere
                (part i) (part (i + 1)) r.0 w same r.2,
          )
      step r (inr (n, was, now)) =
          let is : part i i ≡ Turns (suc n) = sym (part_above i i (omega arith)) ∙ was in
          let then_is : part (i + 1) i ≡ Turns n = sym (part_below (i + 1) i (omega arith)) ∙ now in
          let fits = subst (λ (h : Headway). FitsHeadway w.jobs i h) is (r.2.fits i tt) in
          let t = turn_comes (λ d. turns_in (part i d)) (λ d. turns_in (part (i + 1) d)) i n w r.0 r.2.each (ap turns_in is)
          (ap turns_in then_is) (λ d ne. ap turns_in (part_other i d ne)) fits.0 fits.1 fits.2 in (
            t.0,
            schedule_more (with_jobs w jobs) i (with_jobs w r.0) turn.Ran (with_jobs w t.0) r.1 t.1,
            record {
              each = t.2;
              fits = λ d known. elim (equal_or_not d i) [
                | inl e ↦ subst (λ (k : ℕ). FitsHeadway w.jobs k (part (i + 1) k)) (sym e)
                    (subst (λ (h : Headway). FitsHeadway w.jobs i h) (sym then_is) (still_fits w.jobs i n fits))
                | inr ne ↦ subst (λ (h : Headway). FitsHeadway w.jobs d h) (part_other i d ne) (r.2.fits d tt)
              ];
            },
          )

  round_passed : ((d : ℕ) → w.store.shape.cpus ≤ d → f d ≡ g d) → (later : List Task) × RunsRound (with_jobs w jobs) (with_jobs w later) ×
      IsAheadOf Everywhere g later w
  round_passed above =
      let n = w.store.shape.cpus in
      let r = part_made n in
      let same : (c : ℕ) → part n c ≡ g c = λ c. elim (cases_lt c n) [
        | inl l ↦ sym (part_below n c l)
        | inr past ↦ sym (part_above n c past) ∙ above c past
      ] in
      (r.0, r.1, same_headways Everywhere (part n) g r.0 w same r.2)

one_spent : (m : ℕ) (h : Headway) → HasSoMany (suc m) h → OneLess (spent m h) (spent (suc m) h)
one_spent m Idle many = inl (refl, refl)
one_spent m (Turns n) many = inr (n - suc m, ap Turns (omega arith), refl)

fewer : (m : ℕ) (h : Headway) → HasSoMany (suc m) h → HasSoMany m h
fewer m Idle many = tt
fewer m (Turns n) many = omega arith

pub rounds_passed : (f : ℕ → Headway) (w : World) (jobs : List Task) (m : ℕ) → IsAheadOf Everywhere f jobs w → ((c : ℕ) → HasSoMany m (f c))
    → ((d : ℕ) → w.store.shape.cpus ≤ d → f d ≡ Idle)
    → (later : List Task) × RunsRounds m (with_jobs w jobs) (with_jobs w later) × IsAheadOf Everywhere (λ c. spent m (f c)) later w
rounds_passed f w jobs zero ahead many above = (jobs, refl, same_headways Everywhere f (λ c. spent 0 (f c)) jobs w (λ c. nothing (f c)) ahead)
  where
    nothing : (h : Headway) → h ≡ spent 0 h
    nothing Idle = refl
    nothing (Turns n) = ap Turns (omega arith)
rounds_passed f w jobs (suc m) ahead many above =
    let r = rounds_passed f w jobs m ahead (λ c. fewer m (f c) (many c)) above in
    let idle : (k : ℕ) (d : ℕ) → w.store.shape.cpus ≤ d → spent k (f d) ≡ Idle = λ k d past. ap (spent k) (above d past) in
    let t = round_passed (λ c. spent m (f c)) (λ c. spent (suc m) (f c)) w r.0 r.2 (λ c. one_spent m (f c) (many c))
    (λ d past. idle m d past ∙ sym (idle (suc m) d past)) in
    (t.0, (with_jobs w r.0, r.1, t.1), t.2)

-- ---- rounds so far
-- at first each CPU's place has no turns
pub idle_room : (n c : ℕ) → headway_at (replicate n Idle) c ≡ Idle
idle_room zero c = refl
idle_room (suc n) zero = refl
idle_room (suc n) (suc c) = idle_room n c

pub record RoundsSoFar (first : MachineState) (headways : List Headway) (m : MachineState) : Type 0 where
  pub runs : (w : World) → Shows first w → (z : World) × (jobs : List Task) × ((n : ℕ) × RunsRounds n w (with_jobs z jobs)) × IsAheadOf
      Everywhere (headway_at headways) jobs z × Shows m z
  pub falls : turns_left m.jobs ≤ turns_left first.jobs

pub no_round_yet : (first m : MachineState) (headways : List Headway) →
    ((w : World) → Shows first w → (z : World) × (with_jobs z w.jobs ≡ w) × IsAheadOf Everywhere (headway_at headways) w.jobs z × Shows m z)
    → turns_left m.jobs ≤ turns_left first.jobs → RoundsSoFar first headways m
no_round_yet first m headways all less = record {
  runs = λ w shows. (let r = all w shows in (r.0, w.jobs, (0, r.1), r.2, r.3));
  falls = less;
}

-- a CPU that the store hasn't has no work
above_idle : (m : MachineState) (n : ℕ) (headways : List Headway) → ((j : ℕ) (task : Task) → slice_get m.jobs j ≡ Some task → task.cpu < n)
    → (w : World) (jobs : List Task) → Shows m w
    → IsAheadOf Everywhere (headway_at headways) jobs w → (d : ℕ) → n ≤ d → headway_at headways d ≡ Idle
above_idle m n headways inside w jobs shows ahead d past = go (headway_at headways d) refl
  where
    nowhere : (j : ℕ) (task : Task) (stage : Stage) → IsAt w.jobs d j task stage → ⊥
    nowhere j task stage at =
        let less = inside j task (ap (λ (ts : List Task). slice_get ts j) (sym shows.jobs) ∙ at.listed) in
        let of = at.of in
        absurd (omega arith)

    go : (h : Headway) → headway_at headways d ≡ h → headway_at headways d ≡ Idle
    go Idle e = e
    go (Turns zero) e =
        let fits = subst (λ (h : Headway). FitsHeadway w.jobs d h) e (ahead.fits d tt) in
        absurd (fits (λ j task state left at. nowhere j task (InHand state left) at) (λ j task input at. nowhere j task (Waiting input) at))
    go (Turns (suc k)) e =
        let fits = subst (λ (h : Headway). FitsHeadway w.jobs d h) e (ahead.fits d tt) in
        absurd (nowhere fits.0 fits.1.0 (InHand fits.1.1 fits.1.2) fits.1.3)

-- lists with the same jobs
pub equal_lists : (xs ys : List Task) → ((j : ℕ) → slice_get xs j ≡ slice_get ys j) → xs ≡ ys
equal_lists [] [] same = refl
equal_lists [] (y ∷ ys) same = let no : None ≡ Some y = same 0 in cc
equal_lists (x ∷ xs) [] same = let no : Some x ≡ None = same 0 in cc
equal_lists (x ∷ xs) (y ∷ ys) same =
    let head : Some x ≡ Some y = same 0 in
    let here : x ≡ y = cc in
    ap (λ (t : Task). t ∷ xs) here ∙ ap (λ (ts : List Task). y ∷ ts) (equal_lists xs ys (λ j. same (suc j)))

module _ (first m : MachineState) (n : ℕ) (cpus : (c : ℕ) → has_cpu m.store c ≡ nat_lt c n)
    (inside : (j : ℕ) (task : Task) → slice_get m.jobs j ≡ Some task → task.cpu < n) where
  pub passed : (old new : List Headway) (k : ℕ) → ((c : ℕ) → c < n → HasSoMany k (headway_at old c) ×
      (headway_at new c ≡ spent k (headway_at old c))) → ((c : ℕ) → n ≤ c → headway_at new c ≡ headway_at old c)
      → RoundsSoFar first old m → RoundsSoFar first new m
  passed old new k spends above far = record {
    runs = λ w shows.
        let r = far.runs w shows in
        let idle = above_idle m n old inside r.0 r.1 r.4 r.3 in
        let count : r.0.store.shape.cpus ≡ n = cpus_shown m r.0 n cpus r.4 in
        let many : (c : ℕ) → HasSoMany k (headway_at old c) = λ c. elim (cases_lt c n) [
          | inl l ↦ (spends c l).0
          | inr past ↦ subst (λ (h : Headway). HasSoMany k h) (sym (idle c past)) tt
        ] in
        let same : (c : ℕ) → spent k (headway_at old c) ≡ headway_at new c = λ c. elim (cases_lt c n) [
          | inl l ↦ sym (spends c l).1
          | inr past ↦ ap (spent k) (idle c past) ∙ (sym (idle c past) ∙ sym (above c past))
        ] in
        let t = rounds_passed (headway_at old) r.0 r.1 k r.3 many (λ d past. idle d (omega arith)) in (
          r.0,
          t.0,
          (k + r.2.0, rounds_join r.2.0 k w (with_jobs r.0 r.1) (with_jobs r.0 t.0) r.2.1 t.1),
          same_headways Everywhere
              (λ c. spent k (headway_at old c)) (headway_at new) t.0 r.0 same t.2,
          r.4,
        );
    falls = far.falls;
  }

  -- no CPU is ahead of the rounds
  pub caught_up : (headways : List Headway) → ((c : ℕ) → c < n → turns_in (headway_at headways c) ≡ 0) → RoundsSoFar first headways m → SoMany first m
  caught_up headways none far w shows =
      let r = far.runs w shows in
      let idle = above_idle m n headways inside r.0 r.1 r.4 r.3 in
      let zero_all : (c : ℕ) → turns_in (headway_at headways c) ≡ 0 = λ c. elim (cases_lt c n) [
        | inl l ↦ none c l
        | inr past ↦ ap turns_in (idle c past)
      ] in
      let same : r.1 ≡ r.0.jobs = equal_lists r.1 r.0.jobs (λ j. one r.0.programs (λ c. turns_in (headway_at headways c)) zero_all
      (slice_get r.1 j) (slice_get r.0.jobs j) (r.3.each j)) in
      (r.0, (r.2.0, subst (λ (ts : List Task). RunsRounds r.2.0 w (with_jobs r.0 ts)) same r.2.1), r.4)
    where
      one : (programs : List Loaded) (turns : ℕ → ℕ) → ((c : ℕ) → turns c ≡ 0) → (o p : Option Task) → BothPrecede programs turns o p → o ≡ p
      one programs turns none None None both = refl
      one programs turns none None (Some new) both = absurd both
      one programs turns none (Some old) None both = absurd both
      one programs turns none (Some old) (Some new) both = ap Some (sym (not_ahead programs turns (turns old.cpu) old new (none old.cpu) both))

pub made_round : (first m m' : MachineState) (old new : List Headway) → RoundsSoFar first old m
    → ((w : World) (jobs : List Task) → Shows m w → IsAheadOf Everywhere (headway_at old) jobs w
    → (z : World) × (later : List Task) × RunsRound (with_jobs w jobs) (with_jobs z later) × IsAheadOf Everywhere (headway_at new) later z × Shows m' z)
    → turns_left m'.jobs < turns_left m.jobs → RoundsSoFar first new m'
made_round first m m' old new far round less = record {
  runs = λ w shows.
      let r = far.runs w shows in
      let t = round r.0 r.1 r.4 r.3 in
      (t.0, t.1, (suc r.2.0, (with_jobs r.0 r.1, r.2.1, t.2)), t.3, t.4);
  falls = let l = far.falls in omega arith;
}

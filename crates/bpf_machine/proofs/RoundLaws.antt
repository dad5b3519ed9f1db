-- Rounds of turns.
use Rattle.std.proofs.Common.{◌≡◌, ◌≢◌, ℕ, zero, suc, ◌+◌, ◌<◌, ◌≤◌, true, false, List, length, Option, Some, None, inl, inr, refl, sym, subst, ◌∙◌, arith}
use Rattle.std.specs.Prelude.{nat_lt, slice_get}
use Rattle.std.proofs.lemmas.Bool.{cases_lt, cases_order, le-ltb, lt-ltb}
use Rattle.bpf_plain.specs.PlainStore.{has_cpu}
use Rattle.bpf_cpu.specs.declared.cpu.Cpu.{Cpu}
use Rattle.bpf_cpu.specs.declared.outcome.Outcome.{Outcome}
use Rattle.bpf_machine.specs.declared.machine.Turn.{Turn}
use Rattle.bpf_machine.specs.declared.machine.Turn.TheVariants as turn
use Rattle.bpf_cpu.specs.Task.{Stage, Task, InHand, Waiting, Ended}
use Rattle.bpf_machine.specs.Hands.{IsFree, NoneWaits}
use Rattle.bpf_machine.specs.Questions.{turns_left, Falls}
use Rattle.bpf_machine.proofs.FallLaws.{turns_fall}
use Rattle.bpf_machine.specs.Schedule.{World, Settles, TakesTurn, RunsSchedule}
use Rattle.bpf_machine.specs.Rounds.{below, HaveEnded, RunsRound, RunsRounds, RunsToEnd}
use Rattle.bpf_machine.specs.Machine.{MachineState, Shows}
use Rattle.bpf_machine.specs.declared.machine.rounds.Worked.{Worked}
use Rattle.bpf_machine.specs.declared.machine.rounds.Worked.TheVariants.{Nobody, One, More}
use Rattle.bpf_machine.specs.Private.Turns.{IsAlone, with_worked}
use Rattle.bpf_machine.proofs.AloneLaws.{IsIdle, turn_idles}
use Rattle.bpf_machine.proofs.TurnLaws.{runs_more}

-- numbers that have the same numbers below them are one
same_count : (a b : ℕ) → ((c : ℕ) → nat_lt c a ≡ nat_lt c b) → a ≡ b
same_count a b same = elim (cases_order a b) [
  | inl e ↦ e
  | inr rest ↦ elim rest [
    | inl less ↦ let no : false ≡ true = sym (le-ltb a a (omega arith)) ∙ (same a ∙ lt-ltb a b less) in cc
    | inr more ↦ let no : false ≡ true = sym (le-ltb b b (omega arith)) ∙ (sym (same b) ∙ lt-ltb b a more) in cc
  ]
]

pub cpus_shown : (m : MachineState) (w : World) (n : ℕ) → ((c : ℕ) → has_cpu m.store c ≡ nat_lt c n) → Shows m w → w.store.shape.cpus ≡ n
cpus_shown m w n same shows = shows.store.maps.cpus ∙ same_count (length m.store.maps.runs) n same

-- ---- turns without work
settles_worked : (w : World) (c j : ℕ) (task : Task) (new : Cpu) (left : ℕ) (end : Option Outcome) (answer : Turn) (z : World) → Settles w c
    j task new left end answer z → answer ≡ turn.Idle → ⊥
settles_worked w c j task new left None answer z settles idle = let no : turn.Ran ≡ turn.Idle = sym settles.0 ∙ idle in cc
settles_worked w c j task new left (Some end) answer z settles idle = let no : turn.Ended j end ≡ turn.Idle = sym settles.2 ∙ idle in cc

pub idle_turn : (w : World) (c : ℕ) (answer : Turn) (z : World) → TakesTurn w c answer z → answer ≡ turn.Idle → IsFree w.jobs c × NoneWaits w.jobs c
idle_turn w c answer z (inl a) idle = absurd (settles_worked _ c a.0 a.1 a.5.3 a.5.4 a.5.1 answer z a.5.7 idle)
idle_turn w c answer z (inr (inl (free, a))) idle = absurd (settles_worked _ c a.0 a.1 a.7.3 a.7.4 a.7.1 answer z a.7.7 idle)
idle_turn w c answer z (inr (inr a)) idle = (a.0, a.1)

pub all_ended : (jobs : List Task) (n : ℕ) → ((j : ℕ) (task : Task) → slice_get jobs j ≡ Some task → task.cpu < n) →
    ((c : ℕ) → c < n → IsFree jobs c × NoneWaits jobs c) → HaveEnded jobs
all_ended jobs n inside idle j task listed = at_stage task.stage refl
  where
    at_stage : (stage : Stage) → task.stage ≡ stage → (outcome : Outcome) × (task.stage ≡ Ended outcome)
    at_stage (Waiting input) e = absurd ((idle task.cpu (inside j task listed)).1 j task input (record { listed = listed; of = refl; at = e }))
    at_stage (InHand state left) e = absurd ((idle task.cpu (inside j task listed)).0 j task state left (record { listed = listed; of = refl; at = e }))
    at_stage (Ended outcome) e = (outcome, e)

-- ---- a round, as far as the CPUs below a number
pub record SoFar (old : MachineState) (c : ℕ) (worked : Worked) (new : MachineState) : Type 0 where
  pub runs : (w : World) → Shows old w → (z : World) × RunsSchedule w (below c) z × Shows new z
  pub falls : (worked ≡ Nobody → ⊥) → turns_left new.jobs < turns_left old.jobs
  pub idle : worked ≡ Nobody → (new ≡ old) × ((d : ℕ) → d < c → IsIdle old.jobs d)
  pub kept : (d : ℕ) → c ≤ d → IsIdle old.jobs d → IsIdle new.jobs d
  pub alone : (e : ℕ) → worked ≡ One e → (d : ℕ) → d < c → (d ≡ e → ⊥) → IsIdle new.jobs d

pub none_yet : (old : MachineState) → SoFar old 0 Nobody old
none_yet old = record {
  runs = λ w shows. (w, refl, shows);
  falls = λ some. absurd (some refl);
  idle = λ e. (refl, λ d less. absurd (omega arith));
  kept = λ d past idle. idle;
  alone = λ e one. cc;
}

abbrev pub Turns : MachineState → ℕ → Turn → MachineState → Type 0
Turns mid c answer new = (w : World) → Shows mid w → (z : World) × TakesTurn w c answer z × Shows new z

one_more : (old mid new : MachineState) (c : ℕ) (worked : Worked) (answer : Turn) → SoFar old c worked mid → Turns mid c answer new
    → (w : World) → Shows old w → (z : World) × RunsSchedule w (below (c + 1)) z × Shows new z
one_more old mid new c worked answer far progress w shows =
    let r = far.runs w shows in
    let t = progress r.0 r.2 in
    let more : suc c ≡ c + 1 = omega arith in
    (t.0, subst (λ (n : ℕ). RunsSchedule w (below n) t.0) more (runs_more w (below c) c r.0 answer t.0 r.1 t.1), t.2)

pub next_idle : (old mid new : MachineState) (c : ℕ) (worked : Worked) (answer : Turn) → SoFar old c worked mid → (w : World) → Shows old w
    → Turns mid c answer new → answer ≡ turn.Idle → new ≡ mid → SoFar old (c + 1) worked new
next_idle old mid new c worked answer far w shows progress idle stays = record {
  runs = one_more old mid new c worked answer far progress;
  falls = λ some. subst (λ (m : MachineState). turns_left m.jobs < turns_left old.jobs) (sym stays) (far.falls some);
  idle = λ e. (
    stays ∙ (far.idle e).0,
    λ d less. elim (cases_lt d c) [
      | inl before ↦ (far.idle e).1 d before
      | inr past ↦ subst (λ (m : MachineState). IsIdle m.jobs d) (far.idle e).0 (here d (omega arith))
    ],
  );
  kept = λ d past none. subst (λ (m : MachineState). IsIdle m.jobs d) (sym stays) (far.kept d (omega arith) none);
  alone = λ e one d less ne. subst (λ (m : MachineState). IsIdle m.jobs d) (sym stays) (elim (cases_lt d c) [
    | inl before ↦ far.alone e one d before ne
    | inr past ↦ here d (omega arith)
  ]);
}
  where
    here : (d : ℕ) → c ≡ d → IsIdle mid.jobs d
    here d e =
        let r = far.runs w shows in
        let t = progress r.0 r.2 in
        let P : List Task → Type 0 = λ jobs. IsIdle jobs d in
        let Q : ℕ → Type 0 = λ d. IsIdle r.0.jobs d in
        subst P r.2.jobs (subst Q e (idle_turn r.0 c answer t.0 t.1 idle))

pub fell : (answer : Turn) (old new : List Task) → (answer ≡ turn.Idle → ⊥) → Falls answer old new → turns_left new < turns_left old
fell turn.Idle old new works falls = absurd (works refl)
fell turn.Ran old new works falls = falls.0
fell (turn.Ended j end) old new works falls = falls.0

pub next_worked : (old mid new : MachineState) (c : ℕ) (worked : Worked) (answer : Turn) → SoFar old c worked mid → (w : World) → Shows old
    w → Turns mid c answer new → (answer ≡ turn.Idle → ⊥) → SoFar old (c + 1) (with_worked worked c) new
next_worked old mid new c worked answer far w shows progress works = record {
  runs = one_more old mid new c worked answer far progress;
  falls = λ some. at_most worked refl;
  idle = λ e. absurd (nobody worked e);
  kept = λ d past none. after d (λ e. absurd (omega arith)) (far.kept d (omega arith) none);
  alone = λ e one d less ne. one_alone worked refl e one d less ne;
}
  where
    after : (d : ℕ) → d ≢ c → IsIdle mid.jobs d → IsIdle new.jobs d
    after d ne idle =
        let r = far.runs w shows in
        let t = progress r.0 r.2 in
        let P : List Task → Type 0 = λ jobs. IsIdle jobs d in
        subst P t.2.jobs (turn_idles r.0 c d answer t.0 t.1 ne (subst P (sym r.2.jobs) idle))

    nobody : (b : Worked) → with_worked b c ≡ Nobody → ⊥
    nobody Nobody e = cc
    nobody (One d) e = cc
    nobody More e = cc

    lower : turns_left new.jobs < turns_left mid.jobs
    lower =
        let r = far.runs w shows in
        let t = progress r.0 r.2 in
        let less = fell answer r.0.jobs t.0.jobs works (turns_fall r.0 t.0 c answer t.1).0 in
        let P : List Task → Type 0 = λ jobs. turns_left jobs < turns_left mid.jobs in
        let Q : List Task → Type 0 = λ jobs. turns_left t.0.jobs < turns_left jobs in
        subst P t.2.jobs (subst Q r.2.jobs less)

    at_most : (b : Worked) → worked ≡ b → turns_left new.jobs < turns_left old.jobs
    at_most Nobody e = subst (λ (m : MachineState). turns_left new.jobs < turns_left m.jobs) (far.idle e).0 lower
    at_most (One d) e = let less = far.falls (λ none. cc) in let last = lower in omega arith
    at_most More e = let less = far.falls (λ none. cc) in let last = lower in omega arith

    below_it : (d : ℕ) → d < c + 1 → d ≢ c → d < c
    below_it d less ne = elim (cases_order d c) [
      | inl e ↦ absurd (ne e)
      | inr rest ↦ elim rest [ inl l ↦ l | inr g ↦ absurd (omega arith) ]
    ]

    one_alone : (b : Worked) → worked ≡ b → (e : ℕ) → with_worked b c ≡ One e → (d : ℕ) → d < c + 1 → (d ≡ e → ⊥) → IsIdle new.jobs d
    one_alone Nobody was e one d less ne =
        let same : c ≡ e = cc one in
        let other : d ≢ c = λ q. ne (q ∙ same) in
        after d other (subst (λ (m : MachineState). IsIdle m.jobs d) (sym (far.idle was).0) ((far.idle was).1 d (below_it d less other)))
    one_alone (One k) was e one d less ne = cc
    one_alone More was e one d less ne = cc

pub whole_round : (old new : MachineState) (n : ℕ) (worked : Worked) → ((c : ℕ) → has_cpu old.store c ≡ nat_lt c n) → SoFar old n worked new
    → (w : World) → Shows old w → (z : World) × RunsRound w z × Shows new z
whole_round old new n worked same far w shows =
    let r = far.runs w shows in
    (r.0, subst (λ (k : ℕ). RunsSchedule w (below k) r.0) (sym (cpus_shown old w n same shows)) r.1, r.2)

pub idle_round : (old new : MachineState) (n : ℕ) (worked : Worked) →
    ((j : ℕ) (task : Task) → slice_get old.jobs j ≡ Some task → task.cpu < n) → SoFar old n worked new → worked ≡ Nobody → HaveEnded new.jobs
idle_round old new n worked inside far e =
    let idle = far.idle e in
    subst (λ (m : MachineState). HaveEnded m.jobs) (sym idle.0) (all_ended old.jobs n inside idle.1)

-- a CPU that the store hasn't has no work
pub alone_round : (old new : MachineState) (n : ℕ) (worked : Worked) →
    ((j : ℕ) (task : Task) → slice_get old.jobs j ≡ Some task → task.cpu < n) → SoFar old n worked new → (e : ℕ) → worked ≡ One e → IsAlone new.jobs e
alone_round old new n worked inside far e one d ne = elim (cases_lt d n) [
  | inl less ↦ far.alone e one d less ne
  | inr past ↦ far.kept d past (
    λ j task state left at. absurd (let l = inside j task at.listed in let k : task.cpu ≡ d = at.of in omega arith),
    λ j task input at. absurd (let l = inside j task at.listed in let k : task.cpu ≡ d = at.of in omega arith),
  )
]

-- ---- rounds
abbrev pub SoMany : MachineState → MachineState → Type 0
SoMany old new = (w : World) → Shows old w → (z : World) × ((n : ℕ) × RunsRounds n w z) × Shows new z

pub no_rounds : (old : MachineState) → SoMany old old
no_rounds old w shows = (w, (0, refl), shows)

pub rounds_join : (n k : ℕ) (w m z : World) → RunsRounds n w m → RunsRounds k m z → RunsRounds (k + n) w z
rounds_join n zero w m z before after =
    let e : n ≡ 0 + n = omega arith in
    let P : ℕ → Type 0 = λ i. RunsRounds i w z in
    subst P e (subst (λ (x : World). RunsRounds n w x) (sym after) before)
rounds_join n (suc k) w m z before after =
    let e : suc (k + n) ≡ suc k + n = omega arith in
    let P : ℕ → Type 0 = λ i. RunsRounds i w z in
    subst P e (after.0, rounds_join n k w m after.0 before after.1, after.2)

pub next_rounds : (old mid new : MachineState) → SoMany old mid → SoMany mid new → SoMany old new
next_rounds old mid new many more w shows =
    let r = many w shows in
    let t = more r.0 r.2 in
    (t.0, (t.1.0 + r.1.0, rounds_join r.1.0 t.1.0 w r.0 t.0 r.1.1 t.1.1), t.2)

next_round : (old mid new : MachineState) → SoMany old mid → ((w : World) → Shows mid w → (z : World) × RunsRound w z × Shows new z) → SoMany old new
next_round old mid new many round w shows =
    let r = many w shows in
    let t = round r.0 r.2 in
    (t.0, (suc r.1.0, (r.0, r.1.1, t.1)), t.2)

pub one_round : (old new : MachineState) → ((w : World) → Shows old w → (z : World) × RunsRound w z × Shows new z) → SoMany old new
one_round old new round = next_round old old new (no_rounds old) round

pub to_end : (old new : MachineState) → SoMany old new → HaveEnded new.jobs → (w : World) → Shows old w → (z : World) × RunsToEnd w z × Shows new z
to_end old new many ended w shows =
    let r = many w shows in
    (r.0, (r.1.0, r.1.1, subst HaveEnded (sym r.2.jobs) ended), r.2)

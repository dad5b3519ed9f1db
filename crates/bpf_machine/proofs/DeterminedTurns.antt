-- A turn of a plain machine has one course, and so has a schedule.
use Rattle.std.proofs.Common.{◌≡◌, ◌≢◌, ℕ, zero, suc, ◌+◌, ◌-◌, List, [], ◌∷◌, Option, Some, None, inl, inr, refl, sym, ap, subst, ◌∙◌, arith}
use Rattle.std.specs.Prelude.{slice_get}
use Rattle.std.proofs.lemmas.Bool.{cases_lt, cases_order}
use Rattle.bpf_shared.specs.Laws.{CallsHaveOneReply}
use Rattle.bpf_shared.specs.declared.events.Event.TheVariants.{Begin, End}
use Rattle.bpf_shared.specs.Choice.{PlainlyAllowed}
use Rattle.bpf_shared.proofs.Puts.{equal_or_not}
use Rattle.bpf_shared.specs.Store.{Plain}
use Rattle.bpf_shared.specs.Sound.{IsSoundStore}
use Rattle.bpf_shared.proofs.Soundness.{allowed_sound}
use Rattle.bpf_loader.specs.Loaded.{Loaded}
use Rattle.bpf_loader.specs.Laws.{OneInstructionBegins}
use Rattle.bpf_mem.specs.Laws.{IsMemory, WritesAreDetermined}
use Rattle.bpf_cpu.specs.Input.{IsShort}
use Rattle.bpf_cpu.specs.declared.cpu.Cpu.{Cpu}
use Rattle.bpf_cpu.specs.declared.input.Input.{Input}
use Rattle.bpf_machine.specs.declared.machine.Turn.{Turn}
use Rattle.bpf_cpu.specs.declared.outcome.Progress.{Progress}
use Rattle.bpf_cpu.specs.declared.outcome.Outcome.{Outcome}
use Rattle.bpf_cpu.specs.State.{start}
use Rattle.bpf_cpu.specs.Task.{Stage, Task, Waiting, InHand, Ended}
use Rattle.bpf_machine.specs.Hands.{IsAt, IsFree, NoneWaitsBelow, with_stage}
use Rattle.bpf_machine.specs.Schedule.{World, outcome_after, Advances, Lists, Settles, GoesOn, TakesTurn, RunsSchedule}
use Rattle.bpf_machine.specs.Rounds.{below, HaveEnded, RunsRound, RunsRounds, RunsToEnd}
use Rattle.bpf_machine.specs.Laws.{IsFresh, SchedulesAreDetermined, RoundsAreDetermined, RunsByAreDetermined}
use Rattle.bpf_machine.proofs.ListLaws.{with_end, lists_jobs, lists_store, one_list}
use Rattle.bpf_cpu.proofs.DeterminedRuns.{start_memory, stays_sound, step_agrees, same_replies}
use Rattle.bpf_base.proofs.Lists.{slice_get-set_known, slice_get-set_other}

-- what is true of a plain machine between its turns
pub record IsWorld (w : World) : Type 0 where
  pub store : IsSoundStore w.store
  pub memory : (c j : ℕ) (task : Task) (state : Cpu) (left : ℕ) → IsAt w.jobs c j task (InHand state left) → IsMemory state.memory
  pub one : (c j k : ℕ) (task other : Task) (state now : Cpu) (left rest : ℕ) → IsAt w.jobs c j task (InHand state left) → IsAt w.jobs c k
      other (InHand now rest) → j ≡ k
  pub short : (c j : ℕ) (task : Task) (input : Input) → IsAt w.jobs c j task (Waiting input) → IsShort input

-- a job in two stages is in one
pub same_stage : (jobs : List Task) (c j : ℕ) (task other : Task) (stage now : Stage) → IsAt jobs c j task stage → IsAt jobs c j other now →
    (task ≡ other) × (stage ≡ now)
same_stage jobs c j task other stage now a b =
    let listed : Some task ≡ Some other = sym a.listed ∙ b.listed in
    let same : task ≡ other = cc in
    (same, sym a.at ∙ ap (λ (t : Task). t.stage) same ∙ b.at)

-- a job after another one's stage has changed
pub data Changed (jobs : List Task) (c j : ℕ) (stage : Stage) (d k : ℕ) (task : Task) (now : Stage) : Type 0 where
  Same : k ≡ j → d ≡ c → now ≡ stage → Changed jobs c j stage d k task now
  Other : k ≢ j → IsAt jobs d k task now → Changed jobs c j stage d k task now

pub changed : (jobs : List Task) (c j : ℕ) (was : Task) (before stage : Stage) (d k : ℕ) (task : Task) (now : Stage) → IsAt jobs c j was
    before → IsAt (with_stage jobs j was stage) d k task now → Changed jobs c j stage d k task now
changed jobs c j was before stage d k task now at new = elim (equal_or_not k j) [
  | inl e ↦
      let P : ℕ → Type 0 = λ k. slice_get (with_stage jobs j was stage) k ≡ Some task in
      let both : Some (changed_task was stage) ≡ Some task = sym (slice_get-set_known jobs j (changed_task was stage) was at.listed) ∙ subst P e new.listed in
      let same : changed_task was stage ≡ task = cc in
      Same e (sym new.of ∙ ap (λ (t : Task). t.cpu) (sym same) ∙ at.of) (sym new.at ∙ ap (λ (t : Task). t.stage) (sym same))
  | inr ne ↦ Other ne (record { listed = sym (slice_get-set_other jobs j k (changed_task was stage) ne) ∙ new.listed; of = new.of; at = new.at })
]
  where
    changed_task : Task → Stage → Task
    changed_task t stage = record t { stage = stage }

module _ (law : WritesAreDetermined) (begins : OneInstructionBegins) (replies : CallsHaveOneReply) where
  -- ---- one step of a job in hand
  pub record OneAdvance (end last : Option Outcome) (t u : Plain) (new other : Cpu) (left rest : ℕ) : Type 0 where
    pub ends : end ≡ last
    pub stores : t ≡ u
    pub states : new ≡ other
    pub lefts : left ≡ rest
    pub store : IsSoundStore t
    pub memory : IsMemory new.memory

  one_advance : (program : Loaded) (c : ℕ) (s : Plain) (old : Cpu) (n : ℕ) (end last : Option Outcome) (t u : Plain) (new other : Cpu)
      (left rest : ℕ) → IsSoundStore s → IsMemory old.memory
      → Advances program c s old n end t new left → Advances program c s old n last u other rest → OneAdvance end last t u new other left rest
  one_advance program c s old zero end last t u new other left rest store sound a b =
      let P : Plain → Type 0 = IsSoundStore in
      let Q : Cpu → Type 0 = λ c. IsMemory c.memory in
      record {
        ends = a.0 ∙ sym b.0;
        stores = a.1 ∙ sym b.1;
        states = a.2 ∙ sym b.2;
        lefts = a.3 ∙ sym b.3;
        store = subst P (sym a.1) store;
        memory = subst Q (sym a.2) sound;
      }
  one_advance program c s old (suc n) end last t u new other left rest store sound a b =
      let agrees = step_agrees law begins s.shape program old new other a.1 b.1 a.0 b.0 sound a.2 b.2 in
      let one = same_replies law begins s.shape program replies c a.0 b.0 s t u store a.3 b.3 agrees.asks in
      let same = agrees.replied one.0 in
      record {
        ends = a.4 ∙ ap (λ (progress : Progress). outcome_after progress n new) same.turns ∙ ap (outcome_after b.1 n) same.states ∙ sym b.4;
        stores = one.1;
        states = same.states;
        lefts = a.5 ∙ sym b.5;
        store = stays_sound law begins s.shape program replies c a.0 s t store a.3;
        memory = same.sound;
      }

  -- ---- it stays in hand, or ends
  -- the stage after that
  after : Option Outcome → Cpu → ℕ → Stage
  after None new left = InHand new left
  after (Some end) new left = Ended end

  pub record OneSettled (w : World) (c j : ℕ) (task : Task) (answer other : Turn) (y z : World) : Type 0 where
    pub answers : answer ≡ other
    pub worlds : y ≡ z
    pub store : IsSoundStore y.store
    pub stage : Stage
    pub kept : (state : Cpu) (left : ℕ) → stage ≡ InHand state left → IsMemory state.memory
    pub waits_not : (input : Input) → stage ≡ Waiting input → ⊥
    pub jobs : y.jobs ≡ with_stage w.jobs j task stage

  one_settled : (w : World) (c j : ℕ) (task : Task) (new : Cpu) (left : ℕ) (end : Option Outcome) (answer other : Turn) (y z : World) →
      IsSoundStore w.store → IsMemory new.memory
      → Settles w c j task new left end answer y → Settles w c j task new left end other z → OneSettled w c j task answer other y z
  one_settled w c j task new left None answer other y z store memory a b =
      let Q : World → Type 0 = λ w. IsSoundStore w.store in
      record {
        answers = a.0 ∙ sym b.0;
        worlds = a.1 ∙ sym b.1;
        store = subst Q (sym a.1) store;
        stage = InHand new left;
        kept = λ state left e. let same : new ≡ state = cc in subst (λ (c : Cpu). IsMemory c.memory) same memory;
        waits_not = λ input e. cc;
        jobs = ap (λ (w : World). w.jobs) a.1;
      }
  one_settled w c j task new left (Some end) answer other y z store memory a b =
      let one = replies w.store a.0 b.0 c End End store a.1 b.1 refl in
      let m : World = with_end w j task end a.0 in
      let there : Lists m c z = subst (λ (s : Plain). Lists (with_end w j task end s) c z) (sym one.1) b.3 in
      record {
        answers = a.2 ∙ sym b.2;
        worlds = one_list m c y z a.3 there;
        store = subst IsSoundStore (sym (lists_store m c y a.3)) (allowed_sound w.store a.0 c End store a.1.0);
        stage = Ended end;
        kept = λ state left e. cc;
        waits_not = λ input e. cc;
        jobs = lists_jobs m c y a.3;
      }

  one_going : (w : World) (c j : ℕ) (task : Task) (old : Cpu) (left : ℕ) (answer other : Turn) (y z : World) → IsSoundStore w.store → IsMemory old.memory
      → GoesOn w c j task old left answer y → GoesOn w c j task old left other z → OneSettled w c j task answer other y z
  one_going w c j task old left answer other y z store memory a b =
      let listed : Some a.0 ≡ Some b.0 = sym a.5 ∙ b.5 in
      let program : b.0 ≡ a.0 = cc in
      let P : Loaded → Type 0 = λ p. Advances p c w.store old left b.1 b.2 b.3 b.4 in
      let one = one_advance a.0 c w.store old left a.1 b.1 a.2 b.2 a.3 b.3 a.4 b.4 store memory a.6 (subst P program b.6) in
      let Q : Option Outcome → Type 0 = λ end. Settles (record w { store = b.2 }) c j task b.3 b.4 end other z in
      let R : Plain → Type 0 = λ s. Settles (record w { store = s }) c j task b.3 b.4 a.1 other z in
      let S : Cpu → Type 0 = λ new. Settles (record w { store = a.2 }) c j task new b.4 a.1 other z in
      let T : ℕ → Type 0 = λ rest. Settles (record w { store = a.2 }) c j task a.3 rest a.1 other z in
      let settles = subst T (sym one.lefts) (subst S (sym one.states) (subst R (sym one.stores) (subst Q (sym one.ends) b.7))) in
      let settled = one_settled (record w { store = a.2 }) c j task a.3 a.4 a.1 answer other y z one.store one.memory a.7 settles in
      record {
        answers = settled.answers;
        worlds = settled.worlds;
        store = settled.store;
        stage = settled.stage;
        kept = settled.kept;
        waits_not = settled.waits_not;
        jobs = settled.jobs;
      }

  -- ---- a world after a turn of a CPU on its job: it has no other in hand
  goes_on_world : (w : World) (c j : ℕ) (task : Task) (before : Stage) (answer other : Turn) (y z : World) → IsWorld w → IsAt w.jobs c j task before
      → ((k : ℕ) (t : Task) (state : Cpu) (left : ℕ) → k ≢ j → IsAt w.jobs c k t (InHand state left) → ⊥)
      → OneSettled w c j task answer other y z → IsWorld y
  goes_on_world w c j task before answer other y z world at alone settled = record {
    store = settled.store;
    memory = λ d k t state left h. memory d k t state left (seen d k t (InHand state left) h);
    one = λ d k l t u state now left rest g h. one d k l t u state now left rest (seen d k t (InHand state left) g) (seen d l u (InHand now rest) h);
    short = λ d k t input h. short d k t input (seen d k t (Waiting input) h);
  }
    where
      seen : (d k : ℕ) (t : Task) (now : Stage) → IsAt y.jobs d k t now → Changed w.jobs c j settled.stage d k t now
      seen d k t now h =
          let P : List Task → Type 0 = λ jobs. IsAt jobs d k t now in
          changed w.jobs c j task before settled.stage d k t now at (subst P settled.jobs h)

      memory : (d k : ℕ) (t : Task) (state : Cpu) (left : ℕ) → Changed w.jobs c j settled.stage d k t (InHand state left) → IsMemory state.memory
      memory d k t state left (Same e of now) = settled.kept state left (sym now)
      memory d k t state left (Other ne h) = world.memory d k t state left h

      short : (d k : ℕ) (t : Task) (input : Input) → Changed w.jobs c j settled.stage d k t (Waiting input) → IsShort input
      short d k t input (Same e of now) = absurd (settled.waits_not input (sym now))
      short d k t input (Other ne h) = world.short d k t input h

      -- the job that has changed is the only one in hand of its CPU
      only : (d l : ℕ) (u : Task) (now : Cpu) (rest : ℕ) → d ≡ c → l ≢ j → IsAt w.jobs d l u (InHand now rest) → ⊥
      only d l u now rest of ne h = let P : ℕ → Type 0 = λ n. IsAt w.jobs n l u (InHand now rest) in alone l u now rest ne (subst P of h)

      one : (d k l : ℕ) (t u : Task) (state now : Cpu) (left rest : ℕ) → Changed w.jobs c j settled.stage d k t (InHand state left) →
          Changed w.jobs c j settled.stage d l u (InHand now rest) → k ≡ l
      one d k l t u state now left rest (Same e of is) (Same f at is') = e ∙ sym f
      one d k l t u state now left rest (Same e of is) (Other ne h) = absurd (only d l u now rest of ne h)
      one d k l t u state now left rest (Other ne h) (Same f of is) = absurd (only d k t state left of ne h)
      one d k l t u state now left rest (Other ne h) (Other apart i) = world.one d k l t u state now left rest h i

  -- ---- one turn
  pub record OneTurn (answer other : Turn) (y z : World) : Type 0 where
    pub answers : answer ≡ other
    pub worlds : y ≡ z
    pub world : IsWorld y

  settled_turn : (w : World) (c j : ℕ) (task : Task) (before : Stage) (answer other : Turn) (y z : World) → IsWorld w → IsAt w.jobs c j task before
      → ((k : ℕ) (t : Task) (state : Cpu) (left : ℕ) → k ≢ j → IsAt w.jobs c k t (InHand state left) → ⊥)
      → OneSettled w c j task answer other y z → OneTurn answer other y z
  settled_turn w c j task before answer other y z world at alone settled =
      record { answers = settled.answers; worlds = settled.worlds; world = goes_on_world w c j task before answer other y z world at alone settled }

  -- its job in hand
  in_hand_turn : (w : World) (c : ℕ) (answer other : Turn) (y z : World) (j : ℕ) (task t : Task) (state now : Cpu) (left rest : ℕ) → IsWorld w
      → IsAt w.jobs c j task (InHand state left) → GoesOn w c j task state left answer y → IsAt w.jobs c j t (InHand now rest) → GoesOn w c
      j t now rest other z → OneTurn answer other y z
  in_hand_turn w c answer other y z j task t state now left rest world at goes at' goes' =
      let same = same_stage w.jobs c j t task (InHand now rest) (InHand state left) at' at in
      let stages : InHand now rest ≡ InHand state left = same.1 in
      let states : now ≡ state = cc in
      let lefts : rest ≡ left = cc in
      let P : Task → Type 0 = λ t. GoesOn w c j t now rest other z in
      let Q : Cpu → Type 0 = λ now. GoesOn w c j task now rest other z in
      let R : ℕ → Type 0 = λ rest. GoesOn w c j task state rest other z in
      let settled = one_going w c j task state left answer other y z world.store (world.memory c j task state left at) goes
      (subst R lefts (subst Q states (subst P same.0 goes'))) in
      settled_turn w c j task (InHand state left) answer other y z world at (λ k u s l ne h. ne (world.one c k j u task s state l left h at)) settled

  -- its lowest job that waits
  waiting_turn : (w : World) (c : ℕ) (answer other : Turn) (y z : World) (j : ℕ) (task t : Task) (input second : Input) (s u : Plain) →
      IsWorld w → IsFree w.jobs c
      → IsAt w.jobs c j task (Waiting input) → PlainlyAllowed w.store c Begin s → GoesOn (record w { store = s }) c j task (start c input) task.budget answer y
      → IsAt w.jobs c j t (Waiting second) → PlainlyAllowed w.store c Begin u → GoesOn (record w { store = u }) c j t (start c second)
      t.budget other z → OneTurn answer other y z
  waiting_turn w c answer other y z j task t input second s u world free at begun goes at' begun' goes' =
      let same = same_stage w.jobs c j t task (Waiting second) (Waiting input) at' at in
      let stages : Waiting second ≡ Waiting input = same.1 in
      let inputs : second ≡ input = cc in
      let stores = (replies w.store u s c Begin Begin world.store begun' begun refl).1 in
      let P : Task → Type 0 = λ t. GoesOn (record w { store = u }) c j t (start c second) t.budget other z in
      let Q : Input → Type 0 = λ second. GoesOn (record w { store = u }) c j task (start c second) task.budget other z in
      let R : Plain → Type 0 = λ u. GoesOn (record w { store = u }) c j task (start c input) task.budget other z in
      let sound = allowed_sound w.store s c Begin world.store begun.0 in
      let settled = one_going (record w { store = s }) c j task (start c input) task.budget answer other y z sound
      (start_memory c input (world.short c j task input at)) goes (subst R stores (subst Q inputs (subst P same.0 goes'))) in
      let here : IsWorld (record w { store = s }) = record { store = sound; memory = world.memory; one = world.one; short = world.short } in
      settled_turn (record w { store = s }) c j task (Waiting input) answer other y z here at (λ k v now l ne h. free k v now l h) settled

  pub same_lowest : (jobs : List Task) (c j k : ℕ) (task t : Task) (input second : Input) → IsAt jobs c j task (Waiting input) →
      NoneWaitsBelow jobs c j → IsAt jobs c k t (Waiting second) → NoneWaitsBelow jobs c k → k ≡ j
  same_lowest jobs c j k task t input second at lowest at' lowest' = elim (cases_order k j) [
    | inl e ↦ e
    | inr rest ↦ elim rest [
      | inl below ↦ absurd (lowest k t second below at')
      | inr above ↦ absurd (lowest' j task input above at)
    ]
  ]

  pub one_turn : (w : World) (c : ℕ) (answer other : Turn) (y z : World) → IsWorld w → TakesTurn w c answer y → TakesTurn w c other z → OneTurn answer other y z
  one_turn w c answer other y z world (inl a) (inl b) =
      let same = world.one c b.0 a.0 b.1 a.1 b.2 a.2 b.3 a.3 b.4 a.4 in
      let P : ℕ → Type 0 = λ k. IsAt w.jobs c k b.1 (InHand b.2 b.3) in
      let Q : ℕ → Type 0 = λ k. GoesOn w c k b.1 b.2 b.3 other z in
      in_hand_turn w c answer other y z a.0 a.1 b.1 a.2 b.2 a.3 b.3 world a.4 a.5 (subst P same b.4) (subst Q same b.5)
  one_turn w c answer other y z world (inl a) (inr (inl b)) = absurd (b.0 a.0 a.1 a.2 a.3 a.4)
  one_turn w c answer other y z world (inl a) (inr (inr b)) = absurd (b.0 a.0 a.1 a.2 a.3 a.4)
  one_turn w c answer other y z world (inr (inl a)) (inl b) = absurd (a.0 b.0 b.1 b.2 b.3 b.4)
  one_turn w c answer other y z world (inr (inl (free, a))) (inr (inl (free', b))) =
      let same = same_lowest w.jobs c a.0 b.0 a.1 b.1 a.2 b.2 a.4 a.5 b.4 b.5 in
      let P : ℕ → Type 0 = λ k. IsAt w.jobs c k b.1 (Waiting b.2) in
      let Q : ℕ → Type 0 = λ k. GoesOn (record w { store = b.3 }) c k b.1 (start c b.2) b.1.budget other z in
      waiting_turn w c answer other y z a.0 a.1 b.1 a.2 b.2 a.3 b.3 world free a.4 a.6 a.7 (subst P same b.4) b.6 (subst Q same b.7)
  one_turn w c answer other y z world (inr (inl (free, a))) (inr (inr b)) = absurd (b.1 a.0 a.1 a.2 a.4)
  one_turn w c answer other y z world (inr (inr a)) (inl b) = absurd (a.0 b.0 b.1 b.2 b.3 b.4)
  one_turn w c answer other y z world (inr (inr a)) (inr (inl (free, b))) = absurd (a.1 b.0 b.1 b.2 b.4)
  one_turn w c answer other y z world (inr (inr a)) (inr (inr b)) = record
      { answers = a.2 ∙ sym b.2; worlds = a.3 ∙ sym b.3; world = subst IsWorld (sym a.3) world }

  -- ---- a schedule
  pub one_run : (cs : List ℕ) (w y z : World) → IsWorld w → RunsSchedule w cs y → RunsSchedule w cs z → y ≡ z
  one_run [] w y z world a b = a ∙ sym b
  one_run (c ∷ cs) w y z world a b =
      let progress = one_turn w c a.0 b.0 a.1 b.1 world a.2 b.2 in
      let P : World → Type 0 = λ m. RunsSchedule m cs z in
      one_run cs a.1 y z progress.world a.3 (subst P (sym progress.worlds) b.3)

  pub runs_world : (cs : List ℕ) (w z : World) → IsWorld w → RunsSchedule w cs z → IsWorld z
  runs_world [] w z world runs = subst IsWorld (sym runs) world
  runs_world (c ∷ cs) w z world runs = runs_world cs runs.1 z (one_turn w c runs.0 runs.0 runs.1 runs.1 world runs.2 runs.2).world runs.3

  -- ---- rounds
  one_of_rounds : (n : ℕ) (w y z : World) → IsWorld w → RunsRounds n w y → RunsRounds n w z → (y ≡ z) × IsWorld y
  one_of_rounds zero w y z world a b = (a ∙ sym b, subst IsWorld (sym a) world)
  one_of_rounds (suc n) w y z world a b =
      let before = one_of_rounds n w a.0 b.0 world a.1 b.1 in
      let P : World → Type 0 = λ m. RunsRound m z in
      (one_run (below a.0.store.shape.cpus) a.0 y z before.1 a.2 (subst P (sym before.0) b.2), runs_world (below a.0.store.shape.cpus) a.0 y before.1 a.2)

  -- where all jobs have ended, nothing changes
  pub stays_ended : (w : World) (c : ℕ) (answer : Turn) (z : World) → HaveEnded w.jobs → TakesTurn w c answer z → z ≡ w
  stays_ended w c answer z ended (inl a) = let end = ended a.0 a.1 a.4.listed in let no : InHand a.2 a.3 ≡ Ended end.0 = sym a.4.at ∙ end.1 in cc
  stays_ended w c answer z ended (inr (inl (free, a))) = let end = ended a.0 a.1 a.4.listed in let no : Waiting a.2 ≡ Ended end.0 = sym a.4.at ∙ end.1 in cc
  stays_ended w c answer z ended (inr (inr a)) = a.3

  all_stays_ended : (cs : List ℕ) (w z : World) → HaveEnded w.jobs → RunsSchedule w cs z → z ≡ w
  all_stays_ended [] w z ended runs = runs
  all_stays_ended (c ∷ cs) w z ended runs =
      let same : runs.1 ≡ w = stays_ended w c runs.0 runs.1 ended runs.2 in
      let P : World → Type 0 = λ m. HaveEnded m.jobs in
      all_stays_ended cs runs.1 z (subst P (sym same) ended) runs.3 ∙ same

  more_rounds : (k n m : ℕ) (w y z : World) → m ≡ n + k → IsWorld w → HaveEnded y.jobs → RunsRounds n w y → RunsRounds m w z → y ≡ z
  more_rounds zero n m w y z sum world ended a b =
      let same : m ≡ n = omega arith in
      (one_of_rounds n w y z world a (subst (λ (i : ℕ). RunsRounds i w z) same b)).0
  more_rounds (suc k) n m w y z sum world ended a rounds =
      let more : m ≡ suc (n + k) = omega arith in
      let b : RunsRounds (suc (n + k)) w z = subst (λ (i : ℕ). RunsRounds i w z) more rounds in
      let same : y ≡ b.0 = more_rounds k n (n + k) w y b.0 refl world ended a b.1 in
      let P : World → Type 0 = λ m. HaveEnded m.jobs in
      same ∙ sym (all_stays_ended (below b.0.store.shape.cpus) b.0 z (subst P same ended) b.2)

  -- a job that waits isn't in hand
  none_in_hand : (w : World) → IsFresh w → (c j : ℕ) (task : Task) (state : Cpu) (left : ℕ) → IsAt w.jobs c j task (InHand state left) → ⊥
  none_in_hand w fresh c j task state left at =
      let waits = fresh.waits j task at.listed in let both : InHand state left ≡ Waiting waits.0 = sym at.at ∙ waits.1 in cc

  pub fresh_world : (w : World) → IsFresh w → IsWorld w
  fresh_world w fresh = record {
    store = fresh.store;
    memory = λ c j task state left h. absurd (none_in_hand w fresh c j task state left h);
    one = λ c j k task t state now left rest h i. absurd (none_in_hand w fresh c j task state left h);
    short = λ c j task input h.
        let waits = fresh.waits j task h.listed in
        let both : Waiting waits.0 ≡ Waiting input = sym waits.1 ∙ h.at in
        let same : waits.0 ≡ input = cc in
        subst (λ (i : Input). IsShort i) same waits.2;
  }

  pub schedules_are_determined : SchedulesAreDetermined
  schedules_are_determined w y z schedule fresh a b = one_run schedule w y z (fresh_world w fresh) a b

  one_end : (w y z : World) → IsWorld w → RunsToEnd w y → RunsToEnd w z → y ≡ z
  one_end w y z world (n, a, ended) (m, b, over) = elim (cases_lt n m) [
    | inl less ↦ more_rounds (m - n) n m w y z (omega arith) world ended a b
    | inr least ↦ sym (more_rounds (n - m) m n w z y (omega arith) world over b a)
  ]

  pub rounds_are_determined : RoundsAreDetermined
  rounds_are_determined w y z fresh a b = one_end w y z (fresh_world w fresh) a b

  pub runs_by_are_determined : RunsByAreDetermined
  runs_by_are_determined w y z schedule fresh (m, a, ended) (n, b, over) =
      let world = fresh_world w fresh in
      let same : m ≡ n = one_run schedule w m n world a b in
      let P : World → Type 0 = λ x. RunsToEnd x z in
      one_end m y z (runs_world schedule w m world a) ended (subst P (sym same) over)

-- What happens in the turns of a plain machine has one course.
use Rattle.std.proofs.Common.{◌≡◌, ℕ, zero, suc, ◌+◌, ◌-◌, List, [], ◌∷◌, ◌++◌, append-nil, Some, map, inl, inr, refl, sym, ap, subst, ◌∙◌, arith}
use Rattle.std.proofs.lemmas.Bool.{cases_lt}
use Rattle.bpf_shared.specs.Laws.{CallsHaveOneReply}
use Rattle.bpf_shared.specs.declared.events.Event.{Event}
use Rattle.bpf_shared.specs.declared.events.Event.TheVariants.{Begin}
use Rattle.bpf_shared.specs.Choice.{PlainlyAllowed}
use Rattle.bpf_shared.specs.Store.{Plain}
use Rattle.bpf_shared.specs.Sound.{IsSoundStore}
use Rattle.bpf_shared.proofs.Soundness.{allowed_sound}
use Rattle.bpf_loader.specs.Loaded.{Loaded}
use Rattle.bpf_loader.specs.Laws.{OneInstructionBegins}
use Rattle.bpf_mem.specs.Laws.{IsMemory, WritesAreDetermined}
use Rattle.bpf_cpu.specs.declared.cpu.Cpu.{Cpu}
use Rattle.bpf_cpu.specs.declared.input.Input.{Input}
use Rattle.bpf_cpu.specs.State.{start}
use Rattle.bpf_cpu.specs.Task.{Task, Waiting, InHand, Ended}
use Rattle.bpf_cpu.proofs.DeterminedRuns.{start_memory, step_agrees, same_replies}
use Rattle.bpf_machine.specs.declared.machine.Turn.{Turn}
use Rattle.bpf_machine.specs.Hands.{IsAt}
use Rattle.bpf_machine.specs.Schedule.{World, RunsSchedule}
use Rattle.bpf_machine.specs.Rounds.{below, HaveEnded, RunsRounds}
use Rattle.bpf_machine.specs.Happenings.{Happening, happening, end_events, HasEvents, HappensOn, Happens, RunsWith, RunsRoundsWith, HappeningsAreOfRuns}
use Rattle.bpf_machine.specs.Laws.{HappeningsAreDetermined}
use Rattle.bpf_machine.proofs.DeterminedTurns.{IsWorld, same_stage, same_lowest, one_turn, stays_ended, fresh_world}

-- ---- runs without what happens in them
pub runs_only : (cs : List ℕ) (w z : World) (log : List Happening) → RunsWith w cs log z → RunsSchedule w cs z
runs_only [] w z log runs = runs.0
runs_only (c ∷ cs) w z log runs = (runs.0, runs.1, runs.4, runs_only cs runs.1 z runs.3 runs.6)

pub rounds_only : (n : ℕ) (w z : World) (log : List Happening) → RunsRoundsWith n w log z → RunsRounds n w z
rounds_only zero w z log runs = runs.0
rounds_only (suc n) w z log runs = (runs.0, rounds_only n w runs.0 runs.1 runs.3, runs_only (below runs.0.store.shape.cpus) runs.0 z runs.2 runs.4)

pub happenings_are_of_runs : HappeningsAreOfRuns
happenings_are_of_runs w z schedule log (y, first, n, rest, turned, rounds, ended, all) =
    (y, runs_only schedule w y first turned, (n, rounds_only n y z rest rounds, ended))

-- ---- a turn where all jobs have ended
nothing_happens : (w : World) (c : ℕ) (answer : Turn) (log : List Happening) → HaveEnded w.jobs → Happens w c answer log → log ≡ []
nothing_happens w c answer log ended (inl a) = let end = ended a.0 a.1 a.4.listed in let no : InHand a.2 a.3 ≡ Ended end.0 = sym a.4.at ∙ end.1 in cc
nothing_happens w c answer log ended (inr (inl (free, a))) = let end = ended a.0 a.1 a.4.listed in let no : Waiting a.2 ≡ Ended end.0 = sym a.4.at ∙ end.1 in cc
nothing_happens w c answer log ended (inr (inr a)) = a.2

module _ (law : WritesAreDetermined) (begins : OneInstructionBegins) (replies : CallsHaveOneReply) where
  -- ---- a step
  one_events : (program : Loaded) (c : ℕ) (s : Plain) (old : Cpu) (n : ℕ) (events others : List Event) → IsSoundStore s → IsMemory old.memory
      → HasEvents program c s old n events → HasEvents program c s old n others → events ≡ others
  one_events program c s old zero events others store sound a b = a ∙ sym b
  one_events program c s old (suc n) events others store sound a b =
      let agrees = step_agrees law begins s.shape program old a.1 b.1 a.0 b.0 events others sound a.3 b.3 in
      (same_replies law begins s.shape program replies c events others s a.2 b.2 store a.4 b.4 agrees.asks).0

  -- ---- a turn
  one_going : (w : World) (c j : ℕ) (task : Task) (old : Cpu) (left : ℕ) (answer : Turn) (before : List Event) (log other : List Happening)
      → IsSoundStore w.store → IsMemory old.memory
      → HappensOn w c j task old left answer before log → HappensOn w c j task old left answer before other → log ≡ other
  one_going w c j task old left answer before log other store memory a b =
      let listed : Some a.0 ≡ Some b.0 = sym a.2 ∙ b.2 in
      let program : b.0 ≡ a.0 = cc in
      let P : Loaded → Type 0 = λ p. HasEvents p c w.store old left b.1 in
      let one = one_events a.0 c w.store old left a.1 b.1 store memory a.3 (subst P program b.3) in
      a.4 ∙ (ap (λ (es : List Event). map (happening c j old.pc) (before ++ (es ++ end_events answer))) one ∙ sym b.4)

  in_hand : (w : World) (c : ℕ) (answer : Turn) (log other : List Happening) (j : ℕ) (task t : Task) (state now : Cpu) (left rest : ℕ) → IsWorld w
      → IsAt w.jobs c j task (InHand state left) → HappensOn w c j task state left answer [] log
      → IsAt w.jobs c j t (InHand now rest) → HappensOn w c j t now rest answer [] other → log ≡ other
  in_hand w c answer log other j task t state now left rest world at on at' on' =
      let same = same_stage w.jobs c j t task (InHand now rest) (InHand state left) at' at in
      let stages : InHand now rest ≡ InHand state left = same.1 in
      let states : now ≡ state = cc in
      let lefts : rest ≡ left = cc in
      let P : Task → Type 0 = λ t. HappensOn w c j t now rest answer [] other in
      let Q : Cpu → Type 0 = λ now. HappensOn w c j task now rest answer [] other in
      let R : ℕ → Type 0 = λ rest. HappensOn w c j task state rest answer [] other in
      one_going w c j task state left answer [] log other world.store (world.memory c j task state left at) on
      (subst R lefts (subst Q states (subst P same.0 on')))

  waiting : (w : World) (c : ℕ) (answer : Turn) (log other : List Happening) (j : ℕ) (task t : Task) (input second : Input) (s u : Plain) → IsWorld w
      → IsAt w.jobs c j task (Waiting input) → PlainlyAllowed w.store c Begin s → HappensOn (record w { store = s }) c j task
      (start c input) task.budget answer (Begin ∷ []) log
      → IsAt w.jobs c j t (Waiting second) → PlainlyAllowed w.store c Begin u → HappensOn (record w { store = u }) c j t (start c second)
      t.budget answer (Begin ∷ []) other → log ≡ other
  waiting w c answer log other j task t input second s u world at begun on at' begun' on' =
      let same = same_stage w.jobs c j t task (Waiting second) (Waiting input) at' at in
      let stages : Waiting second ≡ Waiting input = same.1 in
      let inputs : second ≡ input = cc in
      let stores = (replies w.store u s c Begin Begin world.store begun' begun refl).1 in
      let P : Task → Type 0 = λ t. HappensOn (record w { store = u }) c j t (start c second) t.budget answer (Begin ∷ []) other in
      let Q : Input → Type 0 = λ second. HappensOn (record w { store = u }) c j task (start c second) task.budget answer (Begin ∷ []) other in
      let R : Plain → Type 0 = λ u. HappensOn (record w { store = u }) c j task (start c input) task.budget answer (Begin ∷ []) other in
      let sound = allowed_sound w.store s c Begin world.store begun.0 in
      one_going (record w { store = s }) c j task (start c input) task.budget answer (Begin ∷ []) log other sound
      (start_memory c input (world.short c j task input at)) on
      (subst R stores (subst Q inputs (subst P same.0 on')))

  one_happens : (w : World) (c : ℕ) (answer : Turn) (log other : List Happening) → IsWorld w → Happens w c answer log → Happens w c answer other → log ≡ other
  one_happens w c answer log other world (inl a) (inl b) =
      let same = world.one c b.0 a.0 b.1 a.1 b.2 a.2 b.3 a.3 b.4 a.4 in
      let P : ℕ → Type 0 = λ k. IsAt w.jobs c k b.1 (InHand b.2 b.3) in
      let Q : ℕ → Type 0 = λ k. HappensOn w c k b.1 b.2 b.3 answer [] other in
      in_hand w c answer log other a.0 a.1 b.1 a.2 b.2 a.3 b.3 world a.4 a.5 (subst P same b.4) (subst Q same b.5)
  one_happens w c answer log other world (inl a) (inr (inl b)) = absurd (b.0 a.0 a.1 a.2 a.3 a.4)
  one_happens w c answer log other world (inl a) (inr (inr b)) = absurd (b.0 a.0 a.1 a.2 a.3 a.4)
  one_happens w c answer log other world (inr (inl a)) (inl b) = absurd (a.0 b.0 b.1 b.2 b.3 b.4)
  one_happens w c answer log other world (inr (inl (free, a))) (inr (inl (free', b))) =
      let same = same_lowest law begins replies w.jobs c a.0 b.0 a.1 b.1 a.2 b.2 a.4 a.5 b.4 b.5 in
      let P : ℕ → Type 0 = λ k. IsAt w.jobs c k b.1 (Waiting b.2) in
      let Q : ℕ → Type 0 = λ k. HappensOn (record w { store = b.3 }) c k b.1 (start c b.2) b.1.budget answer (Begin ∷ []) other in
      waiting w c answer log other a.0 a.1 b.1 a.2 b.2 a.3 b.3 world a.4 a.6 a.7 (subst P same b.4) b.6 (subst Q same b.7)
  one_happens w c answer log other world (inr (inl (free, a))) (inr (inr b)) = absurd (b.1 a.0 a.1 a.2 a.4)
  one_happens w c answer log other world (inr (inr a)) (inl b) = absurd (a.0 b.0 b.1 b.2 b.3 b.4)
  one_happens w c answer log other world (inr (inr a)) (inr (inl (free, b))) = absurd (a.1 b.0 b.1 b.2 b.4)
  one_happens w c answer log other world (inr (inr a)) (inr (inr b)) = a.2 ∙ sym b.2

  -- ---- a schedule
  both : (xs ys us vs : List Happening) → xs ≡ us → ys ≡ vs → xs ++ ys ≡ us ++ vs
  both xs ys us vs first second = ap (λ (zs : List Happening). zs ++ ys) first ∙ ap (λ (zs : List Happening). us ++ zs) second

  one_run : (cs : List ℕ) (w y z : World) (log other : List Happening) → IsWorld w → RunsWith w cs log y → RunsWith w cs other z →
      (log ≡ other) × (y ≡ z) × IsWorld y
  one_run [] w y z log other world a b = (a.1 ∙ sym b.1, a.0 ∙ sym b.0, subst IsWorld (sym a.0) world)
  one_run (c ∷ cs) w y z log other world a b =
      let progress = one_turn law begins replies w c a.0 b.0 a.1 b.1 world a.4 b.4 in
      let A : Turn → Type 0 = λ answer. Happens w c answer b.2 in
      let here = one_happens w c a.0 a.2 b.2 world a.5 (subst A (sym progress.answers) b.5) in
      let P : World → Type 0 = λ m. RunsWith m cs b.3 z in
      let later = one_run cs a.1 y z a.3 b.3 progress.world a.6 (subst P (sym progress.worlds) b.6) in
      (a.7 ∙ (both a.2 a.3 b.2 b.3 here later.0 ∙ sym b.7), later.1, later.2)

  -- ---- rounds
  one_of_rounds : (n : ℕ) (w y z : World) (log other : List Happening) → IsWorld w → RunsRoundsWith n w log y → RunsRoundsWith n w other z →
      (log ≡ other) × (y ≡ z) × IsWorld y
  one_of_rounds zero w y z log other world a b = (a.1 ∙ sym b.1, a.0 ∙ sym b.0, subst IsWorld (sym a.0) world)
  one_of_rounds (suc n) w y z log other world a b =
      let before = one_of_rounds n w a.0 b.0 a.1 b.1 world a.3 b.3 in
      let P : World → Type 0 = λ m. RunsWith m (below m.store.shape.cpus) b.2 z in
      let last = one_run (below a.0.store.shape.cpus) a.0 y z a.2 b.2 before.2 a.4 (subst P (sym before.1) b.4) in
      (a.5 ∙ (both a.1 a.2 b.1 b.2 before.0 last.0 ∙ sym b.5), last.1, last.2)

  -- where all jobs have ended, nothing happens
  all_ended : (cs : List ℕ) (w z : World) (log : List Happening) → HaveEnded w.jobs → RunsWith w cs log z → (log ≡ []) × (z ≡ w)
  all_ended [] w z log ended runs = (runs.1, runs.0)
  all_ended (c ∷ cs) w z log ended runs =
      let same : runs.1 ≡ w = stays_ended law begins replies w c runs.0 runs.1 ended runs.4 in
      let P : World → Type 0 = λ m. HaveEnded m.jobs in
      let rest = all_ended cs runs.1 z runs.3 (subst P (sym same) ended) runs.6 in
      (runs.7 ∙ both runs.2 runs.3 [] [] (nothing_happens w c runs.0 runs.2 ended runs.5) rest.0, rest.1 ∙ same)

  more_rounds : (k n m : ℕ) (w y z : World) (log other : List Happening) → m ≡ n + k → IsWorld w → HaveEnded y.jobs → RunsRoundsWith n w log
      y → RunsRoundsWith m w other z → (log ≡ other) × (y ≡ z)
  more_rounds zero n m w y z log other sum world ended a b =
      let same : m ≡ n = omega arith in
      let one = one_of_rounds n w y z log other world a (subst (λ (i : ℕ). RunsRoundsWith i w other z) same b) in
      (one.0, one.1)
  more_rounds (suc k) n m w y z log other sum world ended a rounds =
      let more : m ≡ suc (n + k) = omega arith in
      let b : RunsRoundsWith (suc (n + k)) w other z = subst (λ (i : ℕ). RunsRoundsWith i w other z) more rounds in
      let before = more_rounds k n (n + k) w y b.0 log b.1 refl world ended a b.3 in
      let P : World → Type 0 = λ m. HaveEnded m.jobs in
      let rest = all_ended (below b.0.store.shape.cpus) b.0 z b.2 (subst P before.1 ended) b.4 in
      let none : b.1 ++ b.2 ≡ b.1 = ap (λ (xs : List Happening). b.1 ++ xs) rest.0 ∙ append-nil b.1 in
      (before.0 ∙ (sym none ∙ sym b.5), before.1 ∙ sym rest.1)

  pub happenings_are_determined : HappeningsAreDetermined
  happenings_are_determined w y z schedule log other fresh (m, first, n, rest, turned, rounds, ended, all) (o, once, k, later, turned', rounds', over, whole) =
      let one = one_run schedule w m o first once (fresh_world law begins replies w fresh) turned turned' in
      let P : World → Type 0 = λ x. RunsRoundsWith k x later z in
      let there : RunsRoundsWith k m later z = subst P (sym one.1) rounds' in
      let ends : (rest ≡ later) × (y ≡ z) = elim (cases_lt n k) [
        | inl less ↦ more_rounds (k - n) n k m y z rest later (omega arith) one.2 ended rounds there
        | inr least ↦ let back = more_rounds (n - k) k n m z y later rest (omega arith) one.2 over there rounds in (sym back.0, sym back.1)
      ] in
      (all ∙ (both first rest once later one.0 ends.0 ∙ sym whole), ends.1)

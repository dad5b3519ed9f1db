-- What happens on the x86 machine is one history.
use Rattle.std.proofs.Common.{◌≡◌, ◌∙◌, ℕ, zero, suc, Bool, List, [], ◌∷◌, ◌++◌, Some, length, map, inl, inr, refl, sym, ap, subst}
use Rattle.bpf_shared.specs.declared.events.Event.{Event}
use Rattle.bpf_shared.specs.declared.events.Event.TheVariants.{Begin}
use Rattle.bpf_shared.specs.Laws.{CallsHaveOneReply}
use Rattle.bpf_shared.specs.Sound.{IsSoundStore}
use Rattle.bpf_names.specs.Names.{Names}
use Rattle.bpf_loader.specs.Loaded.{Loaded}
use Rattle.bpf_loader.specs.Laws.{OneInstructionBegins}
use Rattle.bpf_mem.specs.Laws.{IsMemory, WritesAreDetermined}
use Rattle.bpf_cpu.specs.declared.cpu.Cpu.{Cpu}
use Rattle.bpf_cpu.specs.declared.input.Input.{Input}
use Rattle.bpf_cpu.specs.State.{start}
use Rattle.bpf_cpu.specs.Step.{Step}
use Rattle.bpf_cpu.specs.Task.{Task, Waiting, InHand}
use Rattle.bpf_cpu.proofs.DeterminedRuns.{start_memory, step_agrees}
use Rattle.bpf_machine.specs.declared.machine.Turn.{Turn}
use Rattle.bpf_machine.specs.Hands.{IsAt}
use Rattle.bpf_machine.specs.Happenings.{happening, end_events}
use Rattle.bpf_machine.specs.Schedule.{unrolled}
use Rattle.bpf_machine.proofs.DeterminedTurns.{IsWorld, same_stage, same_lowest, fresh_world}
use Rattle.bpf_x86.specs.Buffers.{Buffered}
use Rattle.bpf_x86.specs.Machine.{X86, Move, TurnOf, FlushOf, buffered, with_buffered, drained}
use Rattle.bpf_jobs.specs.Printed.{Tells, job_lines}
use Rattle.bpf_jobs.proofs.OneListing.{one_asked}
use Rattle.bpf_buffering.specs.Search.{move_of}
use Rattle.bpf_buffering.proofs.Determined.{one_call, one_calls, call_sound, one_turn, one_move}
use Rattle.bpf_flushes.specs.Moves.{Makes, round_below}
use Rattle.bpf_buffer_events.specs.Happenings.{Item, Happens, HasCalls, items, MakesWith, MakesAllWith, MakesRoundsWith}
use Rattle.bpf_buffer_events.specs.Printed.{item_lines, HistoriesWithBuffersAreDetermined}

module _ (law : WritesAreDetermined) (begins : OneInstructionBegins) (replies : CallsHaveOneReply) where
  one_step : (x : X86) (c number : ℕ) (old : Cpu) (left : ℕ) (es fs : List Event) → IsSoundStore x.world.store → IsMemory old.memory
      → HasCalls x c number old left es → HasCalls x c number old left fs → es ≡ fs
  one_step x c number old zero es fs so memory p q = p ∙ sym q
  one_step x c number old (suc n) es fs so memory (program, answer, new, t, loaded, step, calls) (other, reply, now, u, listed, made, called) =
      let both : Some other ≡ Some program = sym listed ∙ loaded in
      let one : other ≡ program = cc in
      let agrees = step_agrees law begins x.world.store.shape program old new now answer reply es fs memory step
      (subst (λ (p : Loaded). Step x.world.store.shape p old fs reply now) one made) in
      (one_calls law begins replies c es fs (buffered x) t u so agrees.asks calls called).0

  one_happening : (x : X86) (c : ℕ) (answer : Turn) (log rest : List Item) → IsWorld x.world → Happens x c answer log → Happens x c answer rest
      → log ≡ rest
  one_happening x c answer log rest world (inl (j, task, state, left, es, at, calls, is)) (inl (k, t, now, more, fs, at', calls', is')) =
      let jobs : k ≡ j = world.one c k j t task now state more left at' at in
      let there : IsAt x.world.jobs c j t (InHand now more) = subst (λ (n : ℕ). IsAt x.world.jobs c n t (InHand now more)) jobs at' in
      let same = same_stage x.world.jobs c j t task (InHand now more) (InHand state left) there at in
      let stages : InHand now more ≡ InHand state left = same.1 in
      let states : now ≡ state = cc in
      let lefts : more ≡ left = cc in
      let called =
      subst (λ (n : ℕ). HasCalls x c task.program state n fs) lefts
      (subst (λ (s : Cpu). HasCalls x c task.program s more fs) states
      (subst (λ (u : Task). HasCalls x c u.program now more fs) same.0 calls')) in
      let one : es ≡ fs = one_step x c task.program state left es fs world.store (world.memory c j task state left at) calls called in
      is
      ∙ ap (λ (events : List Event). items c (happening c j state.pc) (x.buffers c) (events ++ end_events answer)) one
      ∙ ap (λ (s : Cpu). items c (happening c j s.pc) (x.buffers c) (fs ++ end_events answer)) (sym states)
      ∙ ap (λ (n : ℕ). items c (happening c n now.pc) (x.buffers c) (fs ++ end_events answer)) (sym jobs)
      ∙ sym is'
  one_happening x c answer log rest world (inl a) (inr (inl (free, b))) = absurd (free a.0 a.1 a.2 a.3 a.5)
  one_happening x c answer log rest world (inl a) (inr (inr b)) = absurd (b.0 a.0 a.1 a.2 a.3 a.5)
  one_happening x c answer log rest world (inr (inl (free, a))) (inl b) = absurd (free b.0 b.1 b.2 b.3 b.5)
  one_happening x c answer log rest world (inr (inl (free, (j, task, input, b, es, at, lowest, begun, calls, is))))
      (inr (inl (free', (k, t, more, d, fs, at', lowest', begun', calls', is')))) =
      let jobs : k ≡ j = same_lowest law begins replies x.world.jobs c j k task t input more at lowest at' lowest' in
      let there : IsAt x.world.jobs c j t (Waiting more) = subst (λ (n : ℕ). IsAt x.world.jobs c n t (Waiting more)) jobs at' in
      let same = same_stage x.world.jobs c j t task (Waiting more) (Waiting input) there at in
      let stages : Waiting more ≡ Waiting input = same.1 in
      let inputs : more ≡ input = cc in
      let stores : d ≡ b = (one_call law begins replies (buffered x) d b c Begin Begin world.store refl begun' begun).1 in
      let called =
      subst (λ (m : Buffered). HasCalls (with_buffered x m) c task.program (start c input) task.budget fs) stores
      (subst (λ (i : Input). HasCalls (with_buffered x d) c task.program (start c i) task.budget fs) inputs
      (subst (λ (u : Task). HasCalls (with_buffered x d) c u.program (start c more) u.budget fs) same.0 calls')) in
      let sound : IsSoundStore b.memory = call_sound law begins replies (buffered x) b c Begin world.store begun in
      let one : es ≡ fs = one_step (with_buffered x b) c task.program (start c input) task.budget es fs sound
      (start_memory c input (world.short c j task input at)) calls called in
      is
      ∙ ap (λ (events : List Event). items c (happening c j 0) (x.buffers c) (Begin ∷ (events ++ end_events answer))) one
      ∙ ap (λ (n : ℕ). items c (happening c n 0) (x.buffers c) (Begin ∷ (fs ++ end_events answer))) (sym jobs)
      ∙ sym is'
  one_happening x c answer log rest world (inr (inl (free, a))) (inr (inr b)) = absurd (b.1 a.0 a.1 a.2 a.5)
  one_happening x c answer log rest world (inr (inr a)) (inl b) = absurd (a.0 b.0 b.1 b.2 b.3 b.5)
  one_happening x c answer log rest world (inr (inr a)) (inr (inl (free, b))) = absurd (a.1 b.0 b.1 b.2 b.5)
  one_happening x c answer log rest world (inr (inr a)) (inr (inr b)) = a.2 ∙ sym b.2

  -- ---- moves
  abbrev OneWith : List Item → List Item → X86 → X86 → Type 0
  OneWith log rest y z = (log ≡ rest) × (y ≡ z) × IsWorld y.world

  one_make : (x : X86) (c : ℕ) (y z : X86) → IsWorld x.world → Makes x (FlushOf c) y → Makes x (FlushOf c) z → (y ≡ z) × IsWorld y.world
  one_make x c y z world (inl p) (inl q) = one_move law begins replies x (FlushOf c) y z world p q
  one_make x c y z world (inl (b, (oldest, rest, s, is, allowed, same), moved)) (inr q) = let no : oldest ∷ rest ≡ [] = sym is ∙ q.0 in cc
  one_make x c y z world (inr p) (inl (b, (oldest, rest, s, is, allowed, same), moved)) = let no : oldest ∷ rest ≡ [] = sym is ∙ p.0 in cc
  one_make x c y z world (inr p) (inr q) = (p.1 ∙ sym q.1, subst (λ (v : X86). IsWorld v.world) (sym p.1) world)

  one_with : (x : X86) (move : Move) (log rest : List Item) (y z : X86) → IsWorld x.world → MakesWith x move log y → MakesWith x move rest z
      → OneWith log rest y z
  one_with x (TurnOf c) log rest y z world p q =
      let one = one_turn law begins replies x c p.0 q.0 y z world p.1 q.1 in
      let there : Happens x c p.0 rest = subst (λ (answer : Turn). Happens x c answer rest) (sym one.0) q.2 in
      (one_happening x c p.0 log rest world p.2 there, one.1.0, one.1.1)
  one_with x (FlushOf c) log rest y z world p q =
      let one = one_make x c y z world p.0 q.0 in
      (p.1 ∙ sym q.1, one.0, one.1)

  one_all : (moves : List Move) (x : X86) (log rest : List Item) (y z : X86) → IsWorld x.world → MakesAllWith x moves log y
      → MakesAllWith x moves rest z → OneWith log rest y z
  one_all [] x log rest y z world p q = (p.1 ∙ sym q.1, p.0 ∙ sym q.0, subst (λ (v : X86). IsWorld v.world) (sym p.0) world)
  one_all (move ∷ moves) x log rest y z world p q =
      let one = one_with x move p.1 q.1 p.0 q.0 world p.3 q.3 in
      let more = one_all moves p.0 p.2 q.2 y z one.2 p.4 (subst (λ (v : X86). MakesAllWith v moves q.2 z) (sym one.1) q.4) in (
        p.5 ∙ (ap (λ (first : List Item). first ++ p.2) one.0 ∙ (ap (λ (last : List Item). q.1 ++ last) more.0 ∙ sym q.5)),
        more.1,
        more.2,
      )

  one_rounds : (n k : ℕ) (x : X86) (log rest : List Item) (y z : X86) → IsWorld x.world → MakesRoundsWith n x log y → MakesRoundsWith k x rest z
      → (log ≡ rest) × (y ≡ z)
  one_rounds zero zero x log rest y z world p q = (p.2 ∙ sym q.2, p.1 ∙ sym q.1)
  one_rounds zero (suc k) x log rest y z world p q = absurd (q.0 p.0)
  one_rounds (suc n) zero x log rest y z world p q = absurd (p.0 q.0)
  one_rounds (suc n) (suc k) x log rest y z world (works, (m, first, last, round, rounds, is)) (works', (m', first', last', round', rounds', is')) =
      let one = one_all (round_below x.world.store.shape.cpus) x first first' m m' world round round' in
      let more = one_rounds n k m last last' y z one.2 rounds (subst (λ (v : X86). MakesRoundsWith k v last' z) (sym one.1) rounds') in (
        is ∙ (ap (λ (l : List Item). l ++ last) one.0 ∙ (ap (λ (l : List Item). first' ++ l) more.0 ∙ sym is')),
        more.1,
      )

  -- ---- what is printed
  one_told : (z y : X86) (names : Names) (maps : Bool) (text other : List ℕ) (stopped halted : Bool) → z ≡ y → Tells z.world.store
      z.world.jobs names maps text stopped → Tells y.world.store y.world.jobs names maps other halted
      → (text ≡ other) × (stopped ≡ halted)
  one_told z y names maps text other stopped halted same a b =
      let there : Tells z.world.store z.world.jobs names maps other halted = subst
      (λ (s : X86). Tells s.world.store s.world.jobs names maps other halted) (sym same) b in
      let lines = one_asked maps z.world.store names a.0 there.0 a.1 there.1 in
      (a.2 ∙ ap (λ (x : List ℕ). job_lines (length z.world.jobs) z.world.jobs ++ ([] ++ x)) lines ∙ sym there.2, a.3 ∙ sym there.3)

  pub histories_are_determined : HistoriesWithBuffersAreDetermined
  histories_are_determined w runs names maps text other stopped halted fresh (z, log, told, (y, first, n, rest, made, rounds, all), tells, is)
      (z', log', told', (y', first', k, rest', made', rounds', all'), tells', is') =
      let moves = map move_of (unrolled runs) in
      let one = one_all moves (drained w) first first' y y' (fresh_world law begins replies w fresh) made made' in
      let more = one_rounds n k y rest rest' z z' one.2 rounds (subst (λ (v : X86). MakesRoundsWith k v rest' z') (sym one.1) rounds') in
      let logs : log ≡ log' = all ∙ (ap (λ (l : List Item). l ++ rest) one.0 ∙ (ap (λ (l : List Item). first' ++ l) more.0 ∙ sym all')) in
      let same = one_told z z' names maps told told' stopped halted more.1 tells tells' in (
        is ∙ (ap (λ (l : List Item). item_lines names.maps l ++ told) logs
            ∙ (ap (λ (t : List ℕ). item_lines names.maps log' ++ t) same.0 ∙ sym is')),
        same.1,
      )

-- Packets have one course.
use Rattle.std.proofs.Common.{◌≡◌, ◌∙◌, Bool, ℕ, zero, suc, ◌+◌, ◌-◌, List, [], ◌∷◌, ◌++◌, length, inl, inr, refl, sym, ap, subst, arith}
use Rattle.std.proofs.lemmas.Bool.{cases_lt}
use Rattle.std.specs.Prelude.{slice_set}
use Rattle.bpf_shared.specs.Laws.{CallsHaveOneReply}
use Rattle.bpf_loader.specs.Laws.{OneInstructionBegins}
use Rattle.bpf_mem.specs.Laws.{WritesAreDetermined}
use Rattle.bpf_names.specs.Names.{Names}
use Rattle.bpf_cpu.specs.declared.cpu.Cpu.{Cpu}
use Rattle.bpf_cpu.specs.Task.{Task, InHand, Ended}
use Rattle.bpf_machine.specs.declared.machine.Turn.{Turn}
use Rattle.bpf_machine.specs.Hands.{IsAt}
use Rattle.bpf_machine.specs.Laws.{IsFresh}
use Rattle.bpf_machine.specs.Rounds.{below, HaveEnded, RunsBy, RunsRounds}
use Rattle.bpf_machine.specs.Schedule.{World, RunsSchedule, unrolled}
use Rattle.bpf_machine.proofs.DeterminedTurns.{IsWorld, same_stage, one_turn, stays_ended, fresh_world}
use Rattle.bpf_jobs.specs.Laws.{ReportsByAreDetermined}
use Rattle.bpf_packets.specs.Packets.{Keeps, RunsKeeping, RunsRoundsKeeping, RunsByKeeping, given_packets, packet_lines}
use Rattle.bpf_packets.specs.Reports.{ReportsWithPacketsAreDetermined}

abbrev Bytes : Type 0
Bytes = List (List ℕ)

-- ---- runs without packets
runs_only : (cs : List ℕ) (w z : World) (old new : Bytes) → RunsKeeping w cs old new z → RunsSchedule w cs z
runs_only [] w z old new runs = runs.0
runs_only (c ∷ cs) w z old new runs = (runs.0, runs.1, runs.3, runs_only cs runs.1 z runs.2 new runs.5)

rounds_only : (n : ℕ) (w z : World) (old new : Bytes) → RunsRoundsKeeping n w old new z → RunsRounds n w z
rounds_only zero w z old new runs = runs.0
rounds_only (suc n) w z old new runs = (runs.0, rounds_only n w runs.0 old runs.1 runs.2, runs_only (below runs.0.store.shape.cpus) runs.0 z runs.1 new runs.3)

by_only : (w z : World) (schedule : List ℕ) (packets : Bytes) → RunsByKeeping w schedule packets z → RunsBy w schedule z
by_only w z schedule packets (y, mid, n, turned, rounds, ended) =
    (y, runs_only schedule w y (given_packets w.jobs) mid turned, (n, rounds_only n y z mid packets rounds, ended))

-- ---- a turn where all jobs have ended
nothing_kept : (w : World) (c : ℕ) (old new : Bytes) → HaveEnded w.jobs → Keeps w.jobs c old new → new ≡ old
nothing_kept w c old new ended (inl a) = let end = ended a.0 a.1 a.4.listed in let no : InHand a.2 a.3 ≡ Ended end.0 = sym a.4.at ∙ end.1 in cc
nothing_kept w c old new ended (inr a) = a.1

-- ---- a turn
same_hand : (w : World) (c : ℕ) (old new other : Bytes) (j : ℕ) (task t : Task) (state now : Cpu) (left rest : ℕ)
    → IsAt w.jobs c j task (InHand state left) → new ≡ slice_set old j state.memory.packet
    → IsAt w.jobs c j t (InHand now rest) → other ≡ slice_set old j now.memory.packet → new ≡ other
same_hand w c old new other j task t state now left rest at is at' is' =
    let same = same_stage w.jobs c j t task (InHand now rest) (InHand state left) at' at in
    let stages : InHand now rest ≡ InHand state left = same.1 in
    let states : now ≡ state = cc in
    is ∙ (ap (λ (s : Cpu). slice_set old j s.memory.packet) (sym states) ∙ sym is')

one_keeps : (w : World) (c : ℕ) (old new other : Bytes) → IsWorld w → Keeps w.jobs c old new → Keeps w.jobs c old other → new ≡ other
one_keeps w c old new other world (inl a) (inl b) =
    let same = world.one c b.0 a.0 b.1 a.1 b.2 a.2 b.3 a.3 b.4 a.4 in
    let P : ℕ → Type 0 = λ k. IsAt w.jobs c k b.1 (InHand b.2 b.3) in
    let Q : ℕ → Type 0 = λ k. other ≡ slice_set old k b.2.memory.packet in
    same_hand w c old new other a.0 a.1 b.1 a.2 b.2 a.3 b.3 a.4 a.5 (subst P same b.4) (subst Q same b.5)
one_keeps w c old new other world (inl a) (inr b) = absurd (b.0 a.0 a.1 a.2 a.3 a.4)
one_keeps w c old new other world (inr a) (inl b) = absurd (a.0 b.0 b.1 b.2 b.3 b.4)
one_keeps w c old new other world (inr a) (inr b) = a.1 ∙ sym b.1

module _ (law : WritesAreDetermined) (begins : OneInstructionBegins) (replies : CallsHaveOneReply) where
  -- ---- a schedule
  one_run : (cs : List ℕ) (w y z : World) (old new other : Bytes) → IsWorld w → RunsKeeping w cs old new y → RunsKeeping w cs old other z
      → (new ≡ other) × (y ≡ z) × IsWorld y
  one_run [] w y z old new other world a b = (a.1 ∙ sym b.1, a.0 ∙ sym b.0, subst IsWorld (sym a.0) world)
  one_run (c ∷ cs) w y z old new other world a b =
      let progress = one_turn law begins replies w c a.0 b.0 a.1 b.1 world a.3 b.3 in
      let here : a.2 ≡ b.2 = one_keeps w c old a.2 b.2 world a.4 b.4 in
      let P : World → Type 0 = λ m. RunsKeeping m cs b.2 other z in
      let Q : Bytes → Type 0 = λ mid. RunsKeeping a.1 cs mid other z in
      one_run cs a.1 y z a.2 new other progress.world a.5 (subst Q (sym here) (subst P (sym progress.worlds) b.5))

  -- ---- rounds
  one_of_rounds : (n : ℕ) (w y z : World) (old new other : Bytes) → IsWorld w → RunsRoundsKeeping n w old new y → RunsRoundsKeeping n w old other z
      → (new ≡ other) × (y ≡ z) × IsWorld y
  one_of_rounds zero w y z old new other world a b = (a.1 ∙ sym b.1, a.0 ∙ sym b.0, subst IsWorld (sym a.0) world)
  one_of_rounds (suc n) w y z old new other world a b =
      let before = one_of_rounds n w a.0 b.0 old a.1 b.1 world a.2 b.2 in
      let P : World → Type 0 = λ m. RunsKeeping m (below m.store.shape.cpus) b.1 other z in
      let Q : Bytes → Type 0 = λ mid. RunsKeeping a.0 (below a.0.store.shape.cpus) mid other z in
      one_run (below a.0.store.shape.cpus) a.0 y z a.1 new other before.2 a.3 (subst Q (sym before.0) (subst P (sym before.1) b.3))

  -- where all jobs have ended, packets stay
  all_ended : (cs : List ℕ) (w z : World) (old new : Bytes) → HaveEnded w.jobs → RunsKeeping w cs old new z → (new ≡ old) × (z ≡ w)
  all_ended [] w z old new ended runs = (runs.1, runs.0)
  all_ended (c ∷ cs) w z old new ended runs =
      let same : runs.1 ≡ w = stays_ended law begins replies w c runs.0 runs.1 ended runs.3 in
      let P : World → Type 0 = λ m. HaveEnded m.jobs in
      let rest = all_ended cs runs.1 z runs.2 new (subst P (sym same) ended) runs.5 in
      (rest.0 ∙ nothing_kept w c old runs.2 ended runs.4, rest.1 ∙ same)

  more_rounds : (k n m : ℕ) (w y z : World) (old new other : Bytes) → m ≡ n + k → IsWorld w → HaveEnded y.jobs → RunsRoundsKeeping n w old new y
      → RunsRoundsKeeping m w old other z → (new ≡ other) × (y ≡ z)
  more_rounds zero n m w y z old new other sum world ended a b =
      let same : m ≡ n = omega arith in
      let one = one_of_rounds n w y z old new other world a (subst (λ (i : ℕ). RunsRoundsKeeping i w old other z) same b) in
      (one.0, one.1)
  more_rounds (suc k) n m w y z old new other sum world ended a rounds =
      let more : m ≡ suc (n + k) = omega arith in
      let b : RunsRoundsKeeping (suc (n + k)) w old other z = subst (λ (i : ℕ). RunsRoundsKeeping i w old other z) more rounds in
      let before = more_rounds k n (n + k) w y b.0 old new b.1 refl world ended a b.2 in
      let P : World → Type 0 = λ m. HaveEnded m.jobs in
      let rest = all_ended (below b.0.store.shape.cpus) b.0 z b.1 other (subst P before.1 ended) b.3 in
      (before.0 ∙ sym rest.0, before.1 ∙ sym rest.1)

  pub one_course : (w y z : World) (schedule : List ℕ) (packets other : Bytes) → IsFresh w → RunsByKeeping w schedule packets y
      → RunsByKeeping w schedule other z → (packets ≡ other) × (y ≡ z)
  one_course w y z schedule packets other fresh (m, mid, n, turned, rounds, ended) (o, between, k, turned', rounds', over) =
      let one = one_run schedule w m o (given_packets w.jobs) mid between (fresh_world law begins replies w fresh) turned turned' in
      let P : World → Type 0 = λ x. RunsRoundsKeeping k x between other z in
      let Q : Bytes → Type 0 = λ x. RunsRoundsKeeping k m x other z in
      let there : RunsRoundsKeeping k m mid other z = subst Q (sym one.0) (subst P (sym one.1) rounds') in
      elim (cases_lt n k) [
        | inl less ↦ more_rounds (k - n) n k m y z mid packets other (omega arith) one.2 ended rounds there
        | inr least ↦ let back = more_rounds (n - k) k n m z y mid other packets (omega arith) one.2 over there rounds in (sym back.0, sym back.1)
      ]

  pub determined : ReportsByAreDetermined → ReportsWithPacketsAreDetermined
  determined reports w runs names maps text other stopped halted fresh (z, packets, told, keeping, tells, is) (y, rest, said, keeping', tells', is') =
      let one = one_course w z y (unrolled runs) packets rest fresh keeping keeping' in
      let same = reports w runs names maps told said stopped halted fresh (z, by_only w z (unrolled runs) packets keeping, tells)
      (y, by_only w y (unrolled runs) rest keeping', tells') in (
        is ∙ (ap (λ (x : Bytes). told ++ packet_lines (length z.jobs) z.jobs x) one.0
            ∙ (ap (λ (v : World). told ++ packet_lines (length v.jobs) v.jobs rest) one.1
            ∙ (ap (λ (x : List ℕ). x ++ packet_lines (length y.jobs) y.jobs rest) same.0 ∙ sym is'))),
        same.1,
      )

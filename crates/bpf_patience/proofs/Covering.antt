-- A list of machines that is closed but for dead registers and budgets shows each machine without work
-- that moves lead to while no job runs out of budget.
use Rattle.std.proofs.Common.{◌≡◌, ℕ, zero, suc, ◌≤◌, List, [], ◌∷◌, length, inl, inr, sym, subst, arith}
use Rattle.bpf_shared.specs.Laws.{CallsHaveOneReply}
use Rattle.bpf_loader.specs.Laws.{OneInstructionBegins}
use Rattle.bpf_mem.specs.Laws.{WritesAreDetermined}
use Rattle.bpf_cpu.specs.Task.{Task}
use Rattle.bpf_live.specs.Laws.{AlikeIsAnEquivalence, StepsAreAlike}
use Rattle.bpf_machine.specs.Patient.{NoneRanOut}
use Rattle.bpf_machine.specs.Rounds.{HaveEnded}
use Rattle.bpf_machine.proofs.DeterminedTurns.{IsWorld, fresh_world}
use Rattle.bpf_machine.proofs.PatientLaws.{rich_ended, rich_world}
use Rattle.bpf_x86.specs.Machine.{X86, Move, RunsMoves, drained}
use Rattle.bpf_buffering.specs.Search.{BufferedState, IsShownX86}
use Rattle.bpf_buffering.proofs.AlikeMoves.{alike_world, end_alike}
use Rattle.bpf_buffering.proofs.Covering.{all_first}
use Rattle.bpf_buffering.proofs.Determined.{one_move}
use Rattle.bpf_buffering.specs.Alike.{with_x86_jobs}
use Rattle.bpf_patience.specs.Patience.{IsClosedRichlyX86, PatientSetsCoverX86}
use Rattle.bpf_patience.proofs.Richer.{rich_moves}

module _ (equal : AlikeIsAnEquivalence) (steps : StepsAreAlike) (law : WritesAreDetermined) (begins : OneInstructionBegins)
    (replies : CallsHaveOneReply) where
  covered : (kept : List BufferedState) → IsClosedRichlyX86 kept → (n : ℕ) (moves : List Move) (x z : X86) → length moves ≤ n → IsWorld x.world →
      IsShownX86 kept x → RunsMoves x moves z → HaveEnded z.world.jobs → NoneRanOut z.world.jobs → IsShownX86 kept z
  covered kept closed n [] x z few world shown runs ended none = subst (IsShownX86 kept) (sym runs) shown
  covered kept closed zero (move ∷ moves) x z few world shown runs ended none = absurd (omega arith)
  covered kept closed (suc n) (move ∷ moves) x z few world shown (m, first, runs) ended none = elim (closed shown.0 shown.1 shown.2 move) [
    | inl made ↦
        (let there = made.1 x shown.3 in
        let one = one_move law begins replies x move m there.0 world first there.4 in
        let r = all_first law begins replies there.3 moves there.0 there.1 z there.2 (subst (λ (v : X86). IsWorld v.world) one.0 one.1) ended
        (subst (λ (v : X86). RunsMoves v moves z) one.0 runs) there.5 in
        let less = r.2 in
        let rich = made.2 there.1 there.6 in
        let on = rich_moves r.0 there.1 z rich.0 rich.1 r.1 none in
        let same : on.0 ≡ z.world.jobs = rich_ended z.world.jobs on.0 on.2 ended in
        let runs_on : RunsMoves (with_x86_jobs there.1 rich.0) r.0 z = subst
        (λ (ts : List Task). RunsMoves (with_x86_jobs there.1 rich.0) r.0 (with_x86_jobs z ts)) same on.1 in
        let mid : X86 = with_x86_jobs there.1 rich.0 in
        let dead = rich.2 in
        covered kept closed n r.0 (with_x86_jobs mid dead.0) z (omega arith)
        (alike_world equal mid.world dead.0 dead.1 (rich_world there.1.world rich.0 rich.1 r.3)) dead.2
        (end_alike equal steps r.0 mid z dead.0 dead.1 runs_on ended) ended none)
    | inr never ↦ absurd (never x m shown.3 first)
  ]

  pub patient_sets_cover : PatientSetsCoverX86
  patient_sets_cover kept w moves z closed fresh shown runs ended none = covered kept closed (length moves) moves (drained w) z (omega arith)
      (fresh_world law begins replies w fresh) shown runs ended none

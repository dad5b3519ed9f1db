-- The same moves, with the budgets that jobs have and where jobs are given steps, lead to the same but
-- for richer jobs.
use Rattle.std.proofs.Common.{◌≡◌, ◌∙◌, List, [], ◌∷◌, inl, inr, sym, ap, subst}
use Rattle.bpf_shared.specs.declared.events.Event.{Event}
use Rattle.bpf_shared.specs.Laws.{CallsHaveOneReply}
use Rattle.bpf_loader.specs.Laws.{OneInstructionBegins}
use Rattle.bpf_mem.specs.Laws.{WritesAreDetermined}
use Rattle.bpf_cpu.specs.declared.outcome.Outcome.TheVariants.{OutOfBudget}
use Rattle.bpf_cpu.specs.Task.{Task}
use Rattle.bpf_machine.specs.Patient.{AsRich, NoneRanOut}
use Rattle.bpf_machine.proofs.DeterminedTurns.{IsWorld, fresh_world}
use Rattle.bpf_machine.proofs.PatientLaws.{all_same, rich_again, rich_world}
use Rattle.bpf_x86.specs.Machine.{X86, Move, TurnOf, FlushOf, Moves, RunsMoves, drained}
use Rattle.bpf_buffering.proofs.Determined.{one_move}
use Rattle.bpf_flushes.specs.Moves.{IsForNothing, MakesAll}
use Rattle.bpf_buffering.specs.Alike.{with_x86_jobs}
use Rattle.bpf_patience.specs.Patience.{RunsFreelyX86, FreeMovesAgree}
use Rattle.bpf_patience.proofs.Richer.{rich_move, stays_ended}

-- what has ended stays so, where flushes are passed over too
none_before : (moves : List Move) (x z : X86) → MakesAll x moves z → NoneRanOut z.world.jobs → NoneRanOut x.world.jobs
none_before [] x z made none = subst (λ (v : X86). NoneRanOut v.world.jobs) made none
none_before (move ∷ moves) x z (y, inl first, made) none = λ j task pc at ended.
    none_before moves y z made none j task pc (stays_ended x move y j task (OutOfBudget pc) first at ended) ended
none_before (move ∷ moves) x z (y, inr (nothing, same), made) none =
    subst (λ (v : X86). NoneRanOut v.world.jobs) same (none_before moves y z made none)

-- a flush for nothing can't be made, whatever steps jobs have left
not_made : (x : X86) (jobs : List Task) (move : Move) (v : X86) → IsForNothing x move → Moves (with_x86_jobs x jobs) move v → ⊥
not_made x jobs (TurnOf c) v nothing made = nothing
not_made x jobs (FlushOf c) v nothing (b, (oldest, rest, s, waits, reaches, after), is) =
    let none : List Event = [] in
    let no : none ≡ oldest ∷ rest = sym nothing ∙ waits in
    cc

module _ (law : WritesAreDetermined) (begins : OneInstructionBegins) (replies : CallsHaveOneReply) where
  abbrev Agree : List Move → X86 → X86 → X86 → Type 0
  Agree moves x z y = RunsMoves x moves z × AsRich z.world.jobs y.world.jobs × (with_x86_jobs z y.world.jobs ≡ y)

  agree : (moves : List Move) (x z y : X86) (jobs : List Task) → IsWorld x.world → MakesAll x moves z → NoneRanOut z.world.jobs → AsRich
      x.world.jobs jobs → RunsFreelyX86 (with_x86_jobs x jobs) moves y → Agree moves x z y
  agree [] x z y jobs world made none rich (more, richer, same) =
      let jobs_are : y.world.jobs ≡ more = ap (λ (v : X86). v.world.jobs) same in
      let all : AsRich x.world.jobs more = rich_again x.world.jobs jobs more rich richer in (
        made,
        subst (AsRich z.world.jobs) (sym jobs_are) (subst (λ (v : X86). AsRich v.world.jobs more) (sym made) all),
        ap (with_x86_jobs z) jobs_are ∙ ap (λ (v : X86). with_x86_jobs v more) made ∙ sym same,
      )
  agree (move ∷ moves) x z y jobs world (m, inl first, made) none rich (more, v, richer, freely, rest) =
      let all : AsRich x.world.jobs more = rich_again x.world.jobs jobs more rich richer in
      let r = rich_move x more move m all first (none_before moves m z made none) in
      let one = one_move law begins replies (with_x86_jobs x more) move v (with_x86_jobs m r.0) (rich_world x.world more all world) freely r.1 in
      let next : IsWorld m.world = (one_move law begins replies x move m m world first first).1 in
      let a = agree moves m z y r.0 next made none r.2 (subst (λ (u : X86). RunsFreelyX86 u moves y) one.0 rest) in
      ((m, first, a.0), a.1, a.2)
  agree (move ∷ moves) x z y jobs world (m, inr (nothing, same), made) none rich (more, v, richer, freely, rest) =
      absurd (not_made x more move v nothing freely)

  pub free_moves_agree : FreeMovesAgree
  free_moves_agree w moves z y fresh made none freely =
      agree moves (drained w) z y w.jobs (fresh_world law begins replies w fresh) made none (all_same w.jobs) freely

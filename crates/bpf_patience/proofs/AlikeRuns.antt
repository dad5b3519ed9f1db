-- Moves where jobs are given steps on the way, from machines that differ in dead registers.
use Rattle.std.proofs.Common.{◌≡◌, ◌∙◌, List, [], ◌∷◌, ap, refl, subst, sym}
use Rattle.bpf_loader.specs.Loaded.{Loaded}
use Rattle.bpf_cpu.specs.Task.{Task}
use Rattle.bpf_live.specs.Laws.{AlikeIsAnEquivalence, StepsAreAlike}
use Rattle.bpf_alike.specs.Worlds.{AllAlike}
use Rattle.bpf_alike.proofs.AlikeJobs.{all_back, alike_ended}
use Rattle.bpf_alike.proofs.AlikeRicher.{rich_under}
use Rattle.bpf_machine.specs.Rounds.{HaveEnded}
use Rattle.bpf_x86.specs.Machine.{X86, Move}
use Rattle.bpf_buffering.specs.Alike.{with_x86_jobs, ButForDeadX86}
use Rattle.bpf_buffering.proofs.AlikeMoves.{dead_again, move_alike}
use Rattle.bpf_patience.specs.Patience.{RunsFreelyX86}
use Rattle.bpf_patience.specs.Ends.{CanEndX86}

module _ (equal : AlikeIsAnEquivalence) (steps : StepsAreAlike) where
  module _ (programs : List Loaded) where
    abbrev RunsAlike : List Move → X86 → List Task → X86 → Type 0
    RunsAlike moves x jobs z = (later : List Task) × RunsFreelyX86 (with_x86_jobs x jobs) moves (with_x86_jobs z later)
        × AllAlike programs z.world.jobs later × (z.world.programs ≡ programs)

    pub freely_alike : (moves : List Move) (x z : X86) (jobs : List Task) → x.world.programs ≡ programs → AllAlike programs x.world.jobs jobs
        → RunsFreelyX86 x moves z → RunsAlike moves x jobs z
    freely_alike [] x z jobs known all (more, rich, same) =
        let under = rich_under programs jobs x.world.jobs more (all_back equal programs x.world.jobs jobs all) rich in (
          under.0,
          (under.0, under.1, ap (λ (v : X86). with_x86_jobs v under.0) same),
          subst (λ (v : X86). AllAlike programs v.world.jobs under.0) (sym same) (all_back equal programs under.0 more under.2),
          ap (λ (v : X86). v.world.programs) same ∙ known,
        )
    freely_alike (move ∷ moves) x z jobs known all (more, y, rich, first, runs) =
        let under = rich_under programs jobs x.world.jobs more (all_back equal programs x.world.jobs jobs all) rich in
        let one = move_alike equal steps programs (with_x86_jobs x more) under.0 move y known (all_back equal programs under.0 more under.2) first in
        let r = freely_alike moves y z one.0 one.3 one.2 runs in
        (r.0, (under.0, with_x86_jobs y one.0, under.1, one.1, r.1), r.2, r.3)

  -- from what is alike they lead to the same, where no work is left there
  pub freely_to_end : (moves : List Move) (x z : X86) (jobs : List Task) → AllAlike x.world.programs x.world.jobs jobs → RunsFreelyX86 x moves z
      → HaveEnded z.world.jobs → RunsFreelyX86 (with_x86_jobs x jobs) moves z
  freely_to_end moves x z jobs all runs ended =
      let r = freely_alike x.world.programs moves x z jobs refl all runs in
      let same : r.0 ≡ z.world.jobs = alike_ended equal x.world.programs z.world.jobs r.0 r.2 ended in
      subst (λ (ts : List Task). RunsFreelyX86 (with_x86_jobs x jobs) moves (with_x86_jobs z ts)) same r.1

  -- and elsewhere to what is alike
  pub freely_back : (P : X86 → Type 0) (moves : List Move) (x z : X86) (jobs : List Task) → AllAlike x.world.programs x.world.jobs jobs
      → RunsFreelyX86 (with_x86_jobs x jobs) moves z → ButForDeadX86 P z
      → (y : X86) × RunsFreelyX86 x moves y × ButForDeadX86 P y
  freely_back P moves x z jobs all runs dead =
      let programs = x.world.programs in
      let r = freely_alike programs moves (with_x86_jobs x jobs) z x.world.jobs refl (all_back equal programs x.world.jobs jobs all) runs in
      let y : X86 = with_x86_jobs z r.0 in
      let back : AllAlike y.world.programs y.world.jobs z.world.jobs = subst (λ (ps : List Loaded). AllAlike ps r.0 z.world.jobs) (sym r.3)
      (all_back equal programs z.world.jobs r.0 r.2) in
      (y, r.1, dead_again equal P y z.world.jobs back dead)

  pub end_back : (x : X86) (jobs : List Task) → AllAlike x.world.programs x.world.jobs jobs → CanEndX86 (with_x86_jobs x jobs) → CanEndX86 x
  end_back x jobs all (moves, z, runs, ended, none) = (
    moves,
    z,
    freely_to_end moves (with_x86_jobs x jobs) z x.world.jobs (all_back equal x.world.programs x.world.jobs jobs all) runs ended,
    ended,
    none,
  )

-- Moves where jobs are given steps on the way, one after the other.
use Rattle.std.proofs.Common.{List, [], ◌∷◌, ◌++◌, refl, ap, subst}
use Rattle.bpf_cpu.specs.Task.{Task}
use Rattle.bpf_machine.specs.Patient.{AsRich}
use Rattle.bpf_machine.proofs.PatientLaws.{all_same, rich_again}
use Rattle.bpf_x86.specs.Machine.{X86, Move, RunsMoves}
use Rattle.bpf_buffering.specs.Alike.{with_x86_jobs}
use Rattle.bpf_patience.specs.Patience.{RunsFreelyX86}

pub free_nowhere : (x : X86) → RunsFreelyX86 x [] x
free_nowhere x = (x.world.jobs, all_same x.world.jobs, refl)

-- steps that are given before the first move
pub gift_first : (moves : List Move) (x z : X86) (jobs : List Task) → AsRich x.world.jobs jobs → RunsFreelyX86 (with_x86_jobs x jobs) moves z →
    RunsFreelyX86 x moves z
gift_first [] x z jobs rich (more, richer, same) = (more, rich_again x.world.jobs jobs more rich richer, same)
gift_first (move ∷ moves) x z jobs rich (more, y, richer, first, runs) = (more, y, rich_again x.world.jobs jobs more rich richer, first, runs)

pub free_both : (moves others : List Move) (x m z : X86) → RunsFreelyX86 x moves m → RunsFreelyX86 m others z → RunsFreelyX86 x (moves ++ others) z
free_both [] others x m z (jobs, rich, same) free =
    gift_first others x z jobs rich (subst (λ (v : X86). RunsFreelyX86 v others z) same free)
free_both (move ∷ moves) others x m z (jobs, y, rich, first, runs) free = (jobs, y, rich, first, free_both moves others y m z runs free)

-- and steps that are given at last
pub gift_last : (moves : List Move) (x z : X86) (jobs : List Task) → RunsMoves x moves z → AsRich z.world.jobs jobs → RunsFreelyX86 x moves
    (with_x86_jobs z jobs)
gift_last [] x z jobs runs rich =
    (jobs, subst (λ (v : X86). AsRich v.world.jobs jobs) runs rich, ap (λ (v : X86). with_x86_jobs v jobs) runs)
gift_last (move ∷ moves) x z jobs (y, first, runs) rich = (x.world.jobs, y, all_same x.world.jobs, first, gift_last moves y z jobs runs rich)

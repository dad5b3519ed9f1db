-- A machine can be made of a file.
use Rattle.std.proofs.Common.{◌≡◌, ℕ, ◌<◌, ◌≤◌, zero, suc, List, [], ◌∷◌, length, map, get_or, vec_len, refl, sym, subst, arith}
use Rattle.std.specs.Prelude.{All}
use Rattle.std.proofs.lemmas.List.{length-map}
use Rattle.bpf_shared.specs.declared.shapes.ArrayShape.{ArrayShape}
use Rattle.bpf_shared.specs.declared.shapes.MapShape.{MapShape}
use Rattle.bpf_pairs.specs.Pairs.{ArePairs, pair_of}
use Rattle.bpf_cpu.specs.declared.job.Job.{Job}
use Rattle.bpf_cpu.specs.Input.{IsShort}
use Rattle.bpf_cpu.specs.Task.{Task, waiting}
use Rattle.bpf_loader.specs.Loaded.{Loaded}
use Rattle.bpf_cpu.specs.declared.setup.Setup.{Setup}
use Rattle.bpf_cpu.specs.Setup.{IsRunnable, named_in}
use Rattle.bpf_file.specs.File.{File}
use Rattle.bpf_file.specs.Runnable.{IsJobFor, CanRun}

at_job : (jobs : List Job) (k : ℕ) (d : Job) → get_or (map waiting jobs) k (waiting d) ≡ waiting (get_or jobs k d)
at_job [] k d = refl
at_job (job ∷ jobs) zero d = refl
at_job (job ∷ jobs) (suc k) d = at_job jobs k d

-- what holds of each task of jobs that wait
mapped : (P : Task → Type 0) (Q : Job → Type 0) → ((job : Job) → P (waiting job) → Q job) → (jobs : List Job) → All P (map waiting jobs) → All Q jobs
mapped P Q f jobs all = λ k d h. f (get_or jobs k d) (subst P (at_job jobs k d) (all k (waiting d) (omega (arith, length-map jobs waiting, h))))

pub runnable : (f : Setup) (g : File) → f.shape.cpus ≡ g.cpus → f.shape.maps ≡ g.maps → f.shape.arrays ≡ g.arrays → f.programs.items ≡
    g.programs → map waiting f.jobs.items ≡ g.jobs → map pair_of f.pairs.items ≡ g.pairs → CanRun g → IsRunnable f
runnable f g ec em ea ep ej eq can =
    let n = length f.programs.items in
    let C : ℕ → Type 0 = λ c. All (IsJobFor c (length g.programs)) g.jobs in
    let N : List Loaded → Type 0 = λ ps. All (IsJobFor f.shape.cpus (length ps)) g.jobs in
    let J : List Task → Type 0 = λ ts. All (IsJobFor f.shape.cpus n) ts in
    let P : Task → Type 0 = IsJobFor f.shape.cpus n in
    let jobs : All P (map waiting f.jobs.items) = subst J (sym ej) (subst N (sym ep) (subst C (sym ec) can.jobs)) in
    let M : List MapShape → Type 0 = λ ms. All (λ program. program.named ≡ record { maps = length ms; arrays = length g.arrays }) g.programs in
    let A : List ArrayShape → Type 0 = λ gs. All (λ program. program.named ≡ record { maps = length f.shape.maps; arrays = length gs }) g.programs in
    let O : List Loaded → Type 0 = λ ps. All (λ program. program.named ≡ named_in f.shape) ps in
    record {
      cpus = mapped P (λ job. job.cpu < f.shape.cpus) (λ (job : Job) (t : P (waiting job)). t.cpu) f.jobs.items jobs;
      programs = mapped P (λ job. job.program < vec_len f.programs) (λ (job : Job) (t : P (waiting job)). below f job t.program) f.jobs.items jobs;
      inputs = mapped P (λ job. IsShort job.input) (λ (job : Job) (t : P (waiting job)). t.stage) f.jobs.items jobs;
      named = subst O (sym ep) (subst A (sym ea) (subst M (sym em) can.named));
      pairs = subst (λ (ms : List MapShape). ArePairs ms (map pair_of f.pairs.items)) (sym em) (subst (ArePairs g.maps) (sym eq) can.pairs);
    }
  where
    below : (f : Setup) (job : Job) → job.program < length f.programs.items → job.program < vec_len f.programs
    below f job h = let n = f.programs.ok.0 in omega (arith, n, h)

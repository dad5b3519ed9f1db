-- What is printed of a file's jobs, put together.
use Rattle.std.proofs.Common.{◌≡◌, ℕ, List, map, sym, ap, subst, ◌∙◌, string_bytes, Global}
use Rattle.std.specs.Prelude.{Vec}
use Rattle.bpf_shared.specs.KeyOrder.{Listed}
use Rattle.bpf_shared.specs.Shape.{Shape}
use Rattle.bpf_shared.specs.Store.{Plain}
use Rattle.bpf_names.specs.declared.names.Names.{Names as Given}
use Rattle.bpf_names.specs.Names.{names_of}
use Rattle.bpf_pairs.specs.Pairs.{Pair, pair_of}
use Rattle.bpf_pairs.specs.Putting.{first_history}
use Rattle.bpf_loader.specs.Loaded.{Loaded}
use Rattle.bpf_cpu.specs.declared.job.Job.{Job}
use Rattle.bpf_cpu.specs.declared.outcome.Outcome.{Outcome}
use Rattle.bpf_cpu.specs.Task.{waiting}
use Rattle.bpf_file.specs.declared.file.RunFile.{RunFile}
use Rattle.bpf_file.specs.File.{file_of}
use Rattle.bpf_jobs.specs.declared.rounds.Report.{Report}
use Rattle.bpf_jobs.specs.Printed.{list_lines, TellsWith}
use Rattle.bpf_sched.specs.Explained.{IsExplained, LeadsTo}
use Rattle.bpf_sched.specs.Worked.{listed_by}
use Rattle.hop_layout.specs.declared.about.About.{About}
use Rattle.hop_words.specs.Closing.{Ending}
use Rattle.hop_map.specs.Dumping.{IsLast}
use Rattle.hop_map.proofs.Arrays.{last_shape}
use Rattle.bpf_workers.specs.Printed.{as_ended, Asked, IsWorkersReport}
use Rattle.bpf_workers.specs.Stats.{AreStatsAsked}

pub reported : (file : RunFile) (asked : Asked) (r : Report) (counts : List ℕ) (a : About) (ends : List Outcome)
    (lists : List (Vec Listed Global)) (closed : Ending)
    (pairs : List Pair) (programs : List Loaded) (jobs told_jobs : List Job) (told_ends : List Outcome)
    (told_lists : List (Vec Listed Global)) (copy : Shape) (names : Given)
    → a ≡ record { shape = file.setup.shape; seed = file.seed; version = 0; count = 0 } → closed.about ≡ a
    → ((last : Plain) × IsLast closed last × LeadsTo closed.about.shape closed.about.version closed.history last)
    → IsExplained a.shape a.count (first_history pairs) programs (map waiting jobs) asked.keys ends (listed_by lists) closed.history
    → ((last : Plain) → IsLast closed last → last.shape ≡ copy → TellsWith
    (list_lines (listed_by told_lists) (names_of names).maps copy.cpus) last (as_ended (map waiting told_jobs) told_ends)
    (names_of names) asked.maps (string_bytes r.text) r.stopped)
    → AreStatsAsked asked.stats closed (names_of names).maps counts
    → pairs ≡ map pair_of file.setup.pairs.items → programs ≡ file.setup.programs.items → jobs ≡ file.setup.jobs.items → told_jobs ≡
    file.setup.jobs.items → told_ends ≡ ends → told_lists ≡ lists → copy ≡ file.setup.shape
    → names ≡ file.names → IsWorkersReport (file_of file) asked (record { text = string_bytes r.text; stopped = r.stopped; counts = counts })
reported file asked r counts a ends lists closed pairs programs jobs told_jobs told_ends told_lists copy names made about
    (last, known, leads) explains tells counted q p j tj te tl cs n =
    let E : Shape → ℕ → List Loaded → List Job → Type 0 = λ h k ps js. IsExplained h k (first_history pairs) ps (map waiting js) asked.keys
    ends (listed_by lists) closed.history in
    let T : List (Vec Listed Global) → ℕ → List Outcome → List Job → Given → Type 0 = λ ls c os js ns.
    TellsWith (list_lines (listed_by ls) (names_of ns).maps c) last (as_ended (map waiting js) os) (names_of ns) asked.maps (string_bytes r.text) r.stopped in
    let shape : a.shape ≡ file.setup.shape = ap (λ (b : About). b.shape) made in
    let count : a.count ≡ 0 = ap (λ (b : About). b.count) made in
    let version : a.version ≡ 0 = ap (λ (b : About). b.version) made in
    let of_shape = subst (λ (h : Shape). E h a.count programs jobs) shape explains in
    let of_count = subst (λ (k : ℕ). E file.setup.shape k programs jobs) count of_shape in
    let of_programs = subst (λ (ps : List Loaded). E file.setup.shape 0 ps jobs) p of_count in
    let came : closed.about.version ≡ 0 = ap (λ (b : About). b.version) about ∙ version in
    let way : closed.about.shape ≡ file.setup.shape = ap (λ (b : About). b.shape) about ∙ shape in
    let left : last.shape ≡ copy = ap (λ (s : Plain). s.shape) known.1 ∙ last_shape closed known.0 ∙ way ∙ sym cs in
    let of_ends = subst (λ (os : List Outcome). T told_lists copy.cpus os told_jobs names) te (tells last known left) in
    let of_jobs = subst (λ (js : List Job). T told_lists copy.cpus ends js names) tj of_ends in
    let of_lists = subst (λ (ls : List (Vec Listed Global)). T ls copy.cpus ends file.setup.jobs.items names) tl of_jobs in
    let of_cpus = subst (λ (c : ℕ). T lists c ends file.setup.jobs.items names) (ap (λ (h : Shape). h.cpus) cs) of_lists in
    record {
      ends = ends;
      lists = listed_by lists;
      closed = closed;
      last = last;
      shape = way;
      is_last = known;
      counts = subst (λ (ns : Given). AreStatsAsked asked.stats closed (names_of ns).maps counts) n counted;
      explained = subst (λ (ps : List Pair). IsExplained file.setup.shape 0 (first_history ps) file.setup.programs.items
          (map waiting file.setup.jobs.items) asked.keys ends (listed_by lists) closed.history) q
          (subst (λ (js : List Job). E file.setup.shape 0 file.setup.programs.items js) j of_programs);
      leads = subst (λ (v : ℕ). LeadsTo file.setup.shape v closed.history last) came
          (subst (λ (h : Shape). LeadsTo h closed.about.version closed.history last) way leads);
      tells = subst (λ (ns : Given). T lists file.setup.shape.cpus ends file.setup.jobs.items ns) n of_cpus;
    }

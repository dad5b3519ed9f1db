-- The workers of a store as a vector shows them between the calls that change them.
use Rattle.std.proofs.Common.{◌≡◌, ℕ, ◌<◌, ◌≤◌, Bool, List, ◌++◌, Some, IsSome, All, length, map, get_or, take, drop, ap, sym, subst, ◌∙◌, arith}
use Rattle.std.specs.Prelude.{Vec}
use Rattle.std.specs.declared.alloc.Global.{Global}
use Rattle.bpf_base.proofs.Lists.{filled}
use Rattle.bpf_shared.specs.KeyOrder.{Listed}
use Rattle.bpf_shared.specs.declared.events.Entry.{Entry}
use Rattle.bpf_shared.specs.History.{IsLegal}
use Rattle.bpf_loader.specs.Loaded.{Loaded}
use Rattle.bpf_cpu.specs.declared.job.Job.{Job}
use Rattle.bpf_cpu.specs.declared.outcome.Outcome.{Outcome}
use Rattle.bpf_cpu.specs.Task.{waiting}
use Rattle.hop_words.specs.Inside.{Shown}
use Rattle.hop_map.specs.Port.{Port, IsAllOf, IsPartOf}
use Rattle.hop_map.specs.Stores.{HaveSeen, seen_by}
use Rattle.bpf_sched.specs.declared.worker.Worker.{Worker}
use Rattle.bpf_sched.specs.Explained.{IsExplained, jobs_of, ends_of}
use Rattle.bpf_sched.specs.Working.{outcome_of}
use Rattle.bpf_sched.specs.Worked.{AreFor, IsReadyWorker, Worked, listed_by}
use Rattle.bpf_sched.proofs.Crews.{all_ready, all_run, all_have_ports, is_all, all_explained}

module _ {keys : Bool} (t : Shown) (jobs : List Job) (programs : List Loaded) (ports : List Port) (are : HaveSeen t (seen_by ports) ports)
    (ws : List Worker) (for_jobs : AreFor keys t.about.shape.maps (map waiting jobs) t.about.shape.cpus ws)
    (good : All (λ (job : Job). job.program < length programs) jobs)
    (first equipped : List Worker) (n : ℕ) (was : first ≡ ws) (long : length first ≡ n) (size : length equipped ≡ length first)
    (ported : (c : ℕ) (d : Worker) (p : Port) → c < length first → (get_or equipped c d).port ≡ Some (get_or ports c p))
    (kept : (c : ℕ) (d : Worker) → c < length first → (get_or equipped c d).workload ≡ (get_or first c d).workload) where
  abbrev pub second : List Worker
  second = take n (equipped ++ drop (length equipped) ws)

  same_second : second ≡ equipped
  same_second = filled n equipped ws (size ∙ long)

  same_size : length equipped ≡ length ws
  same_size = size ∙ ap length was

  has_port : (c : ℕ) (d : Worker) (p : Port) → c < length ws → (get_or equipped c d).port ≡ Some (get_or ports c p)
  has_port c d p inside = ported c d p (omega (arith, ap length was))

  has_jobs : (c : ℕ) (d : Worker) → c < length ws → (get_or equipped c d).workload ≡ (get_or ws c d).workload
  has_jobs c d inside = kept c d (omega (arith, ap length was)) ∙ ap (λ (l : List Worker). (get_or l c d).workload) was

  pub ready : length t.about.shape.maps ≤ 16 → (shown : List Worker) → shown ≡ second → All (IsReadyWorker t (length programs)) shown
  ready few shown is = subst (All (IsReadyWorker t (length programs))) (sym (is ∙ same_second))
      (all_ready t jobs programs ports are ws for_jobs good equipped same_size has_port has_jobs few)

  module _ (shown : List Worker) (is : shown ≡ second) (done : List Worker) (still : length done ≡ length shown)
      (each : (i : ℕ) (d : Worker) → i < length shown → Worked t programs (get_or shown i d) (get_or done i d)) where
    abbrev pub third : List Worker
    third = take n (done ++ drop (length done) second)

    shown_is : shown ≡ equipped
    shown_is = is ∙ same_second

    as_many : length done ≡ length equipped
    as_many = still ∙ ap length shown_is

    same_third : third ≡ done
    same_third = filled n done second (as_many ∙ (size ∙ long))

    did : (i : ℕ) (d : Worker) → i < length equipped → Worked t programs (get_or equipped i d) (get_or done i d)
    did i d inside = subst (λ (l : List Worker). Worked t programs (get_or l i d) (get_or done i d)) shown_is (each i d (omega (arith, ap length shown_is)))

    pub run : (seen : List Worker) → seen ≡ third → (i : ℕ) (d : Worker) → i < length seen → length (get_or seen i d).workload.jobs.items ≡
        length (jobs_of i (map waiting jobs))
    run seen at = subst (λ (l : List Worker). (i : ℕ) (d : Worker) → i < length l → length (get_or l i d).workload.jobs.items ≡ length
        (jobs_of i (map waiting jobs))) (sym (at ∙ same_third))
        (all_run t jobs programs ports are ws for_jobs good equipped same_size has_port has_jobs done as_many did)

    pub have_ports : All (λ (w : Worker). IsSome w.port) third
    have_ports = subst (All (λ (w : Worker). IsSome w.port)) (sym same_third)
        (all_have_ports t jobs programs ports are ws for_jobs good equipped same_size has_port has_jobs done as_many did)

    module _ (back : List Port) (returned : map Some back ≡ map (λ (w : Worker). w.port) third) where
      came : map Some back ≡ map (λ (w : Worker). w.port) done
      came = returned ∙ ap (map (λ (w : Worker). w.port)) same_third

      pub all_of : IsAllOf t back
      all_of = is_all t jobs programs ports are ws for_jobs good equipped same_size has_port has_jobs done as_many did back came

      pub explained : (lists : List (Vec Listed Global)) → lists ≡ map (λ (w : Worker). w.workload.lists) third → (history : List Entry) →
          IsLegal t.about.shape history → All (IsPartOf history) back → (ends told : List Outcome) → told ≡ ends → length ends ≡ length jobs
          → (seen : List Worker) → seen ≡ third → ((c : ℕ) (d : Worker) → c < length seen → ends_of c (map waiting jobs) ends ≡ map
          outcome_of (get_or seen c d).workload.jobs.items)
          → All (λ (job : Job). job.cpu < t.about.shape.cpus) jobs
          → IsExplained t.about.shape t.about.count (seen_by ports) programs (map waiting jobs) keys told (listed_by lists) history
      explained lists listed history legal parts ends told same full seen at noted here =
          subst (λ (l : List (Vec Listed Global)). IsExplained t.about.shape t.about.count (seen_by ports) programs (map waiting jobs) keys
          told (listed_by l) history) (sym (listed ∙ ap (map (λ (w : Worker). w.workload.lists)) same_third))
          (subst (λ (l : List Outcome). IsExplained t.about.shape t.about.count (seen_by ports) programs (map waiting jobs) keys l
          (listed_by (map (λ (w : Worker). w.workload.lists) done)) history) (sym same)
          (all_explained t jobs programs ports are ws for_jobs good equipped same_size has_port has_jobs done as_many did back came history
          legal parts ends full
          (subst (λ (l : List Worker). (c : ℕ) (d : Worker) → c < length l → ends_of c (map waiting jobs) ends ≡ map outcome_of
          (get_or l c d).workload.jobs.items) (at ∙ same_third) noted) here))

-- What all workers of a store did, in the store's one history.
use Rattle.std.proofs.Common.{◌≡◌, ℕ, zero, suc, ◌<◌, ◌≤◌, ◌==◌, Bool, true, false, List, [], ◌∷◌, ◌++◌, None, Some, Option, IsSome}
use Rattle.std.proofs.Common.{slice_get, inl, inr, All, cond, length, map, get_or, refl, ap, sym, subst, ◌∙◌, arith}
use Rattle.std.specs.Prelude.{option_map}
use Rattle.std.proofs.lemmas.List.{get_or-map, get_or_default, length-map, append_assoc, append_cancel_left}
use Rattle.std.proofs.lemmas.Option.{slice_get-map, slice_get-get_or}
use Rattle.std.proofs.lemmas.List.Elements.{All-nil, All-cons}
use Rattle.std.proofs.lemmas.Bool.Decides.{nat_tests}
use mathlib.Core.Option.{some}
use lib.ListN.{get_elem?}
use Rattle.bpf_shared.specs.declared.events.Event.{Event}
use Rattle.bpf_shared.specs.declared.events.Entry.{Entry}
use Rattle.bpf_shared.specs.declared.shapes.MapShape.{MapShape}
use Rattle.bpf_shared.specs.KeyOrder.{Listed}
use Rattle.bpf_shared.specs.History.{events_of, IsLegal}
use Rattle.bpf_loader.specs.Loaded.{Loaded}
use Rattle.bpf_cpu.specs.declared.job.Job.{Job}
use Rattle.bpf_cpu.specs.declared.outcome.Outcome.{Outcome}
use Rattle.bpf_cpu.specs.State.{start}
use Rattle.bpf_cpu.specs.Task.{Task, waiting}
use Rattle.hop_words.specs.Inside.{Shown}
use Rattle.hop_words.specs.Opens.{new_lane}
use Rattle.hop_map.specs.Port.{Port, IsAllOf, IsPartOf, own_events}
use Rattle.hop_map.specs.Stores.{HaveSeen, seen_by}
use Rattle.bpf_shared.proofs.Chains.{events_of-append}
use Rattle.bpf_shared.proofs.Puts.{equal_or_not}
use Rattle.bpf_sched.specs.declared.assignment.Assignment.{Assignment}
use Rattle.bpf_sched.specs.declared.worker.Worker.{Worker}
use Rattle.bpf_sched.specs.Explained.{ExplainsJobs, IsExplained, IsWorn, waiting_input, jobs_of, ends_of, keys_events, listed_maps}
use Rattle.bpf_sched.specs.Working.{AreListsFor, IsNew, RunsAndLists, assigned, outcome_of}
use Rattle.bpf_sched.specs.Worked.{AreFor, IsReadyWorker, Worked, extends, found_in, listed_by}
use Rattle.bpf_sched.proofs.Told.{explains_lists, ran_all}

some_same : {A : Type 0} (x y : A) → Some x ≡ Some y → x ≡ y
some_same x y e = cc

new_one : (cpu m : ℕ) (task : Task) (us : List Task) → task.program < m → (b : Bool) → (task.cpu == cpu) ≡ b → All (IsNew cpu m)
    (map assigned us) → All (IsNew cpu m) (map assigned (cond b (task ∷ us) us))
new_one cpu m task us below true same all =
    let number : task.cpu ≡ cpu = grind (arith, nat_tests) in
    All-cons (IsNew cpu m) (assigned task) (map assigned us) (record
    { input = waiting_input task.stage; fresh = ap (λ (c : ℕ). start c (waiting_input task.stage)) number; program = below }) all
new_one cpu m task us below false same all = all

-- a CPU's jobs are its own, and new
new_all : (cpu m : ℕ) (jobs : List Job) → All (λ (job : Job). job.program < m) jobs → All (IsNew cpu m) (map assigned (jobs_of cpu (map waiting jobs)))
new_all cpu m [] all = All-nil (IsNew cpu m)
new_all cpu m (job ∷ jobs) all =
    new_one cpu m (waiting job) (jobs_of cpu (map waiting jobs)) (all 0 job (omega arith)) (job.cpu == cpu) refl
    (new_all cpu m jobs (λ i d inside. all (suc i) d (omega arith)))

elem_at : {A : Type 0} (xs : List A) (i : ℕ) (d : A) → i < length xs → get_elem? xs i ≡ some (get_or xs i d)
elem_at [] i d inside = absurd (omega arith)
elem_at (x ∷ xs) zero d inside = refl
elem_at (x ∷ xs) (suc i) d inside = elem_at xs i d (omega arith)

cpu_below : (n : ℕ) (jobs : List Job) → All (λ (job : Job). job.cpu < n) jobs → (task : Task) (j : ℕ) → slice_get (map waiting jobs) j ≡
    Some task → task.cpu < n
cpu_below n [] all task j is = absurd (nothing task is)
  where
    nothing : (x : Task) → None ≡ Some x → ⊥
    nothing x e = cc
cpu_below n (job ∷ jobs) all task zero is = subst (λ (x : Task). x.cpu < n) (some_same (waiting job) task is) (all 0 job (omega arith))
cpu_below n (job ∷ jobs) all task (suc j) is = cpu_below n jobs (λ i d inside. all (suc i) d (omega arith)) task j is

-- lists of as many maps as are listed are few, and each was made for the map of its number
fit_lists : (keys : Bool) (maps : List MapShape) (tasks : List Task) (lists : List Listed) → length maps ≤ 16 → map
    (λ (l : Listed). l.shape) lists ≡ listed_maps keys maps tasks → AreListsFor maps lists
fit_lists keys maps tasks lists few same = record {
  few = omega (arith, length-map lists (λ (l : Listed). l.shape), ap length same, most keys tasks);
  each = λ m l at. there keys tasks m l.shape (ap (λ (hs : List MapShape). slice_get hs m) (sym same) ∙
      (slice_get-map (λ (l : Listed). l.shape) lists m ∙ ap (option_map (λ (l : Listed). l.shape)) at));
}
  where
    most : (keys : Bool) (tasks : List Task) → length (listed_maps keys maps tasks) ≤ length maps
    most false tasks = omega arith
    most true [] = omega arith
    most true (task ∷ tasks) = omega arith

    there : (keys : Bool) (tasks : List Task) (m : ℕ) (h : MapShape) → slice_get (listed_maps keys maps tasks) m ≡ Some h → slice_get maps m ≡ Some h
    there false tasks m h e = cc
    there true [] m h e = cc
    there true (task ∷ tasks) m h e = e

module _ {keys : Bool} (t : Shown) (jobs : List Job) (programs : List Loaded) (ports : List Port) (are : HaveSeen t (seen_by ports) ports)
    (ws : List Worker) (for_jobs : AreFor keys t.about.shape.maps (map waiting jobs) t.about.shape.cpus ws)
    (good : All (λ (job : Job). job.program < length programs) jobs) where
  abbrev tasks : List Task
  tasks = map waiting jobs

  abbrev cpus : ℕ
  cpus = t.about.shape.cpus

  abbrev no_port : Port
  no_port = record { table = t.id; known = new_lane t.about 0; arenas = []; batches = []; spilled = None }

  pub many : length ports ≡ cpus
  many = are.ports.count

  number_of : (i : ℕ) → i < cpus → (get_or ports i no_port).known.cpu ≡ i
  number_of i inside = are.ports.numbered i (get_or ports i no_port) (slice_get-get_or ports i no_port (omega (arith, many)))

  seen_at : (i : ℕ) → i < cpus → (get_or ports i no_port).known.seen ≡ seen_by ports
  seen_at i inside = are.seen i no_port (omega (arith, many))

  first_own : (i : ℕ) → i < cpus → own_events (get_or ports i no_port) ≡ events_of i (seen_by ports)
  first_own i inside = ap (λ (c : ℕ). events_of c (get_or ports i no_port).known.seen) (number_of i inside) ∙ ap (events_of i) (seen_at i inside)

  none_seen : (ps : List Port) → length ps ≡ 0 → seen_by ps ≡ []
  none_seen [] e = refl
  none_seen (p ∷ ps) e = absurd (omega arith)

  module _ (equipped : List Worker) (size : length equipped ≡ length ws)
      (has_port : (c : ℕ) (d : Worker) (p : Port) → c < length ws → (get_or equipped c d).port ≡ Some (get_or ports c p))
      (has_jobs : (c : ℕ) (d : Worker) → c < length ws → (get_or equipped c d).workload ≡ (get_or ws c d).workload) where
    given_at : (i : ℕ) (d : Worker) → i < cpus → (get_or equipped i d).workload.jobs.items ≡ map assigned (jobs_of i tasks)
    given_at i d inside = ap (λ w. w.jobs.items) (has_jobs i d (omega (arith, for_jobs.size))) ∙ (for_jobs.each i d inside).jobs

    lists_at : (i : ℕ) (d : Worker) → i < cpus → map (λ list. list.shape) (get_or equipped i d).workload.lists.items ≡ listed_maps keys
        t.about.shape.maps (jobs_of i tasks)
    lists_at i d inside = ap (λ w. map (λ list. list.shape) w.lists.items) (has_jobs i d (omega (arith, for_jobs.size))) ∙ (for_jobs.each i d inside).lists

    number_at : (i : ℕ) (d : Worker) → i < cpus → (get_or equipped i d).workload.cpu ≡ i
    number_at i d inside = ap (λ w. w.cpu) (has_jobs i d (omega (arith, for_jobs.size))) ∙ (for_jobs.each i d inside).number

    ready_at : length t.about.shape.maps ≤ 16 → (i : ℕ) (d : Worker) → i < cpus → IsReadyWorker t (length programs) (get_or equipped i d)
    ready_at few i d inside = record {
      port = get_or ports i no_port;
      has = has_port i d no_port (omega (arith, for_jobs.size));
      fits = are.ports.each i no_port (omega (arith, many));
      idle = are.ports.idle i no_port (omega (arith, many));
      cpu = number_of i inside ∙ sym (number_at i d inside);
      new = subst (λ c. All (IsNew c (length programs)) (get_or equipped i d).workload.jobs.items) (sym (number_at i d inside))
          (subst (All (IsNew i (length programs))) (sym (given_at i d inside)) (new_all i (length programs) jobs good));
      lists = fit_lists keys t.about.shape.maps (jobs_of i tasks) (get_or equipped i d).workload.lists.items few (lists_at i d inside);
    }

    pub all_ready : length t.about.shape.maps ≤ 16 → All (IsReadyWorker t (length programs)) equipped
    all_ready few = λ i d inside. ready_at few i d (omega (arith, size, for_jobs.size))

    module _ (vs : List Worker) (long : length vs ≡ length equipped)
        (each : (i : ℕ) (d : Worker) → i < length equipped → Worked t programs (get_or equipped i d) (get_or vs i d)) where
      did : (i : ℕ) (d : Worker) → i < cpus → Worked t programs (get_or equipped i d) (get_or vs i d)
      did i d inside = each i d (omega (arith, size, for_jobs.size))

      pub all_run : (i : ℕ) (d : Worker) → i < length vs → length (get_or vs i d).workload.jobs.items ≡ length (jobs_of i tasks)
      all_run i d inside =
          let at : i < cpus = omega (arith, long, size, for_jobs.size) in
          let w = did i d at in
          ran_all extends (IsWorn t.about.count) t.about.shape programs (own_events w.before) w.ran.last
          (get_or equipped i d).workload.jobs.items (get_or vs i d).workload.jobs.items w.ran.ran w.ran.runs
          ∙ (ap length (given_at i d at) ∙ length-map (jobs_of i tasks) assigned)

      pub all_have_ports : All (λ (w : Worker). IsSome w.port) vs
      all_have_ports = λ i d inside. subst IsSome (sym (did i d (omega (arith, long, size, for_jobs.size))).is) refl

      module _ (back : List Port) (same : map Some back ≡ map (λ (w : Worker). w.port) vs) where
        all_back : length back ≡ cpus
        all_back = sym (length-map back Some) ∙ (ap length same ∙ (length-map vs (λ (w : Worker). w.port) ∙ (long ∙ (size ∙ for_jobs.size))))

        back_at : (c : ℕ) (d : Worker) (inside : c < cpus) → get_or back c no_port ≡ (did c d inside).after
        back_at c d inside = some_same _ _ (
            sym (get_or-map Some back c no_port (Some no_port) (omega (arith, all_back)))
            ∙ (ap (λ (l : List (Option Port)). get_or l c (Some no_port)) same
            ∙ (get_or-map (λ (w : Worker). w.port) vs c d (Some no_port) (omega (arith, long, size, for_jobs.size)) ∙ (did c d inside).is)))

        was_at : (c : ℕ) (d : Worker) (inside : c < cpus) → (did c d inside).before ≡ get_or ports c no_port
        was_at c d inside = some_same _ _ (sym (did c d inside).was ∙ has_port c d no_port (omega (arith, for_jobs.size)))

        -- some worker, where there is one
        one_of : (xs : List Worker) (i : ℕ) → i < length xs → Worker
        one_of [] i inside = absurd (omega arith)
        one_of (x ∷ xs) i inside = x

        worker_at : (c : ℕ) → c < cpus → Worker
        worker_at c inside = one_of vs c (omega (arith, long, size, for_jobs.size))

        cpu_at : (c : ℕ) (inside : c < cpus) → (get_or back c no_port).known.cpu ≡ c
        cpu_at c inside =
            let d = worker_at c inside in
            ap (λ (p : Port). p.known.cpu) (back_at c d inside)
            ∙ ((did c d inside).cpu ∙ (ap (λ (p : Port). p.known.cpu) (was_at c d inside) ∙ number_of c inside))

        same_table : All (λ (p : Port). p.table ≡ t.id) back
        same_table = λ i e inside.
            let at : i < cpus = omega (arith, all_back) in
            let d = worker_at i at in
            ap (λ (p : Port). p.table) (get_or_default back i e no_port inside ∙ back_at i d at) ∙ (did i d at).fits.table

        pub is_all : IsAllOf t back
        is_all = record {
          table = same_table;
          each = λ c inside. (c, get_or back c no_port, elem_at back c no_port (omega (arith, all_back)), cpu_at c inside);
        }

        module _ (history : List Entry) (legal : IsLegal t.about.shape history) (parts : All (IsPartOf history) back) (ends : List Outcome)
            (full : length ends ≡ length jobs)
            (noted : (c : ℕ) (d : Worker) → c < length vs → ends_of c tasks ends ≡ map outcome_of (get_or vs c d).workload.jobs.items)
            (here : All (λ (job : Job). job.cpu < cpus) jobs) where
          own_at : (c : ℕ) (d : Worker) (inside : c < cpus) → events_of c history ≡ events_of c (seen_by ports) ++ (did c d inside).events
          own_at c d inside =
              let p = get_or back c no_port in
              let w = did c d inside in
              subst (λ (k : ℕ). events_of k history ≡ own_events p) (cpu_at c inside) (sym (parts c no_port (omega (arith, all_back))).1)
              ∙ (ap own_events (back_at c d inside)
              ∙ (w.more ∙ ap (λ (l : List Event). l ++ w.events) (ap own_events (was_at c d inside) ∙ first_own c inside)))

          -- the history goes on from what all had seen
          goes_on : (rest : List Entry) × (history ≡ seen_by ports ++ rest)
          goes_on = elim (equal_or_not cpus 0) [
            | inl none ↦ (history, ap (λ (l : List Entry). l ++ history) (sym (none_seen ports (many ∙ none))))
            | inr more ↦
                let inside : 0 < cpus = omega arith in
                let d = worker_at 0 inside in
                let w = did 0 d inside in
                let prefix = (parts 0 no_port (omega (arith, all_back))).0 in
                let saw : (get_or back 0 no_port).known.seen ≡ seen_by ports ++ w.seen.0 = ap (λ (p : Port). p.known.seen)
                (back_at 0 d inside) ∙ (w.seen.1 ∙ ap (λ (l : List Entry). l ++ w.seen.0)
                (ap (λ (p : Port). p.known.seen) (was_at 0 d inside) ∙ seen_at 0 inside)) in
                (w.seen.0 ++ prefix.0, sym prefix.1 ∙ (ap (λ (l : List Entry). l ++ prefix.0) saw ∙ append_assoc (seen_by ports) w.seen.0 prefix.0))
          ]

          rest_at : (c : ℕ) (d : Worker) (inside : c < cpus) → events_of c goes_on.0 ≡ (did c d inside).events
          rest_at c d inside = append_cancel_left (events_of c (seen_by ports)) (events_of c goes_on.0) (did c d inside).events
              (sym (events_of-append c (seen_by ports) goes_on.0) ∙ (ap (events_of c) (sym goes_on.1) ∙ own_at c d inside))

          -- what a CPU has listed, as its worker has it
          found_at : (c : ℕ) (d : Worker) → c < cpus → listed_by (map (λ (w : Worker). w.workload.lists) vs) c ≡ map (λ list. list.keys)
              (get_or vs c d).workload.lists.items
          found_at c d inside =
              ap found_in (slice_get-map (λ (w : Worker). w.workload.lists) vs c ∙ ap (option_map (λ (w : Worker). w.workload.lists))
              (slice_get-get_or vs c d (omega (arith, long, size, for_jobs.size))))

          listed_at : (c : ℕ) → c < cpus → length (listed_by (map (λ (w : Worker). w.workload.lists) vs) c) ≡ length
              (listed_maps keys t.about.shape.maps (jobs_of c tasks))
          listed_at c inside =
              let d = worker_at c inside in
              let v = (get_or vs c d).workload.lists.items in
              ap length (found_at c d inside)
              ∙ (length-map v (λ (l : Listed). l.keys)
              ∙ (sym (length-map v (λ (l : Listed). l.shape)) ∙ ap length ((did c d inside).same ∙ lists_at c d inside)))

          explained_at : (c : ℕ) → c < cpus → ExplainsJobs t.about.shape t.about.count programs (events_of c (seen_by ports))
              (jobs_of c tasks) (ends_of c tasks ends) (keys_events 0 (listed_by (map (λ (w : Worker). w.workload.lists) vs) c))
              (events_of c goes_on.0)
          explained_at c inside =
              let d = worker_at c inside in
              let w = did c d inside in
              let news = (get_or vs c d).workload.jobs.items in
              let found = map (λ list. list.keys) (get_or vs c d).workload.lists.items in
              let from_first : RunsAndLists extends (IsWorn t.about.count) t.about.shape programs (events_of c (seen_by ports))
              (map assigned (jobs_of c tasks)) news found w.events (own_events w.after) =
              subst (λ (l : List Assignment). RunsAndLists extends (IsWorn t.about.count) t.about.shape programs
              (events_of c (seen_by ports)) l news found w.events (own_events w.after)) (given_at c d inside)
              (subst (λ (l : List Event). RunsAndLists extends (IsWorn t.about.count) t.about.shape programs l
              (get_or equipped c d).workload.jobs.items news found w.events (own_events w.after))
              (ap own_events (was_at c d inside) ∙ first_own c inside) w.ran) in
              subst (λ (l : List Event). ExplainsJobs t.about.shape t.about.count programs (events_of c (seen_by ports)) (jobs_of c tasks)
              (ends_of c tasks ends) (keys_events 0 (listed_by (map (λ (w : Worker). w.workload.lists) vs) c)) l) (sym (rest_at c d inside))
              (subst (λ (l : List (List (List ℕ))). ExplainsJobs t.about.shape t.about.count programs (events_of c (seen_by ports))
              (jobs_of c tasks) (ends_of c tasks ends) (keys_events 0 l) w.events) (sym (found_at c d inside))
              (subst (λ (l : List Outcome). ExplainsJobs t.about.shape t.about.count programs (events_of c (seen_by ports))
              (jobs_of c tasks) l (keys_events 0 found) w.events) (sym (noted c d (omega (arith, long, size, for_jobs.size))))
              (explains_lists t.about.shape t.about.count programs (events_of c (seen_by ports)) (own_events w.after) (jobs_of c tasks) news
              found w.events from_first)))

          pub all_explained : IsExplained t.about.shape t.about.count (seen_by ports) programs tasks keys ends
              (listed_by (map (λ (w : Worker). w.workload.lists) vs)) history
          all_explained = record {
            legal = legal;
            rest = goes_on.0;
            begins = goes_on.1;
            each_ended = full ∙ sym (length-map jobs waiting);
            each_has_cpu = λ task j is. cpu_below cpus jobs here task j is;
            each_listed = listed_at;
            explained = explained_at;
          }

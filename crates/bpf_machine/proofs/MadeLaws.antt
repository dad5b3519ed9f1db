-- A machine as made.
use Rattle.std.proofs.Common.{◌≡◌, ℕ, ◌<◌, ◌≤◌, Bool, true, false, List, [], ◌∷◌, Option, Some, None, is_some, inl, inr, length, refl, sym}
use Rattle.std.proofs.Common.{ap, subst, ◌∙◌, arith}
use Rattle.std.specs.Prelude.{map, All, slice_get, option_map}
use Rattle.std.proofs.lemmas.Bool.{cases_lt}
use Rattle.std.proofs.lemmas.List.Elements.{All-get_or}
use Rattle.std.proofs.lemmas.Option.{slice_get-map, slice_get_within, get_or_from_slice_get}
use Rattle.bpf_shared.specs.declared.events.Span.{Span}
use Rattle.bpf_loader.specs.Loaded.{Loaded}
use Rattle.bpf_cpu.specs.Input.{IsShort}
use Rattle.bpf_cpu.specs.declared.input.Input.{Input}
use Rattle.bpf_cpu.specs.declared.job.Job.{Job}
use Rattle.bpf_machine.specs.declared.machine.lane.Listed.{Listed}
use Rattle.bpf_machine.specs.declared.machine.lane.Phase.TheVariants as phase
use Rattle.bpf_machine.specs.declared.machine.lane.Hand.{Hand}
use Rattle.bpf_machine.specs.declared.machine.lane.Lane.{Lane}
use Rattle.bpf_cpu.specs.Task.{Task, waiting}
use Rattle.bpf_machine.specs.Private.Lanes.{IsFirstJob, first_entry, lane_of, tasks_of, IsListed, IsLane, IsBoard}

-- what is true of each job is true of the one at a place
pub all_at : {A : Type 0} (P : A → Type 0) (xs : List A) (k : ℕ) (x : A) → All P xs → slice_get xs k ≡ Some x → P x
all_at P xs k x all at = subst P (get_or_from_slice_get xs k x x at) (All-get_or P xs k x (slice_get_within xs k x at) all)

-- the job that a listed one was made of
pub listed_at : (jobs : List Job) (k : ℕ) (x : Listed) → slice_get (map first_entry jobs) k ≡ Some x → (job : Job) ×
    (slice_get jobs k ≡ Some job) × (x ≡ first_entry job)
listed_at jobs k x at = go (slice_get jobs k) refl
  where
    shown : option_map first_entry (slice_get jobs k) ≡ Some x
    shown = sym (slice_get-map first_entry jobs k) ∙ at

    go : (o : Option Job) → slice_get jobs k ≡ o → (job : Job) × (slice_get jobs k ≡ Some job) × (x ≡ first_entry job)
    go None e = let no : None ≡ Some x = sym (ap (λ (o : Option Job). option_map first_entry o) e) ∙ shown in cc
    go (Some job) e = let is : Some (first_entry job) ≡ Some x = sym (ap (λ (o : Option Job). option_map first_entry o) e) ∙ shown in (job, e, cc)

made_tasks_of : (lanes : List Lane) (jobs : List Job) → tasks_of lanes (map first_entry jobs) ≡ map waiting jobs
made_tasks_of lanes [] = refl
made_tasks_of lanes (job ∷ jobs) = ap (λ (ts : List Task). waiting job ∷ ts) (made_tasks_of lanes jobs)

module _ (serves running : ℕ → Bool) (reach : ℕ → Span → Bool) (programs : List Loaded) (jobs : List Job) (list : List Listed)
    (lanes : List Lane) (is : list ≡ map first_entry jobs) where
  pub made_tasks : tasks_of lanes list ≡ map waiting jobs
  made_tasks = ap (λ (xs : List Listed). tasks_of lanes xs) is ∙ made_tasks_of lanes jobs

  module _ (cpus : ℕ) (count : length lanes ≡ cpus) (none : (c : ℕ) → c < cpus → (lane_of lanes c).hand ≡ None)
      (first : (c : ℕ) → c < cpus → IsFirstJob list c 0 (lane_of lanes c).next)
      (idle : (c : ℕ) → running c ≡ false) (below : All (λ job. job.cpu < cpus) jobs) (served : All (λ job. serves job.cpu ≡ true) jobs)
      (loaded : All (λ job. job.program < length programs) jobs) (short : All (λ job. IsShort job.input) jobs) where
    each_job : (k : ℕ) (x : Listed) → slice_get list k ≡ Some x → IsListed serves programs lanes k x
    each_job k x at =
        let j = listed_at jobs k x (subst (λ (xs : List Listed). slice_get xs k ≡ Some x) is at) in
        let job = j.0 in
        let within : job.cpu < cpus = all_at (λ (y : Job). y.cpu < cpus) jobs k job below j.1 in
        let own : x.cpu ≡ job.cpu = ap (λ (y : Listed). y.cpu) j.2 in
        let start = first job.cpu within in
        let next : (lane_of lanes job.cpu).next ≤ k =
        elim (cases_lt k (lane_of lanes job.cpu).next) [ inl low ↦ absurd (start.none k x (omega arith) low at own) | inr past ↦ past ] in
        let P : Listed → Type 0 = IsListed serves programs lanes k in
        subst P (sym j.2) (record {
          program = all_at (λ (y : Job). y.program < length programs) jobs k job loaded j.1;
          served = all_at (λ (y : Job). serves y.cpu ≡ true) jobs k job served j.1;
          within = subst (λ (n : ℕ). job.cpu < n) (sym count) within;
          fits = next;
          short = λ v waits. (
              let two : phase.Waiting job.input ≡ phase.Waiting v = waits in
              let one : job.input ≡ v = cc in
              subst (λ (u : Input). IsShort u) one (all_at (λ (y : Job). IsShort y.input) jobs k job short j.1));
        })

    each_lane : (c : ℕ) → c < length lanes → IsLane running reach programs list c (lane_of lanes c)
    each_lane c inside =
        let within : c < cpus = subst (λ (n : ℕ). c < n) count inside in
        let start = first c within in
        record {
          runs = idle c ∙ ap (λ (o : Option Hand). is_some o) (sym (none c within));
          hand = λ h held. (let no : None ≡ Some h = sym (none c within) ∙ held in cc);
          held = λ h has. (let no : None ≡ Some h = sym (none c within) ∙ has in absurd cc);
          next = start.found;
          within = start.within;
        }

    pub made_board : IsBoard serves running reach programs list lanes
    made_board = record { each_job = each_job; each_lane = each_lane; idle = λ c past. idle c }

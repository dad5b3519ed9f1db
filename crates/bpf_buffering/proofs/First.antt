-- A machine before its first move.
use Rattle.std.proofs.Common.{◌≡◌, ℕ, zero, suc, ◌<◌, true, false, List, [], ◌∷◌, ◌++◌, length, Option, Some, None, refl, sym, ap, subst, ◌∙◌}
use Rattle.std.specs.Prelude.{All, Vec, map, nat_lt, slice_get, option_map}
use Rattle.std.specs.declared.alloc.Global.{Global}
use Rattle.std.proofs.lemmas.Option.{slice_get-map, slice_get_within, get_or_from_slice_get}
use Rattle.bpf_plain.specs.PlainStore.{has_cpu, is_running}
use Rattle.bpf_loader.specs.Loaded.{Loaded}
use Rattle.bpf_cpu.specs.declared.job.Job.{Job}
use Rattle.bpf_cpu.specs.declared.cpu.Cpu.{Cpu}
use Rattle.bpf_cpu.specs.Task.{Task, Waiting, InHand, waiting}
use Rattle.bpf_machine.specs.Hands.{IsAt}
use Rattle.bpf_buffering.specs.declared.waiting.Stored.{Stored}
use Rattle.bpf_buffering.specs.declared.jobs.Listed.{Listed}
use Rattle.bpf_buffering.specs.Search.{buffer_at}
use Rattle.bpf_buffering.specs.Waiting.{WaitingContents, event_of}
use Rattle.bpf_buffering.specs.Jobs.{first_entry, tasks_of}
use Rattle.bpf_buffering.specs.Buffering.{stored_at, events_of_all, state_of, Stands, IsBuffering}
use Rattle.bpf_buffering.proofs.Waits.{events_at, nothing_waits}

pub all_wait : (jobs : List Job) → tasks_of (map first_entry jobs) ≡ map waiting jobs
all_wait [] = refl
all_wait (job ∷ jobs) = ap (λ (ts : List Task). waiting job ∷ ts) (all_wait jobs)

-- one more buffer
pub one_empty : (buffers : List (Vec Stored Global)) (v : Vec Stored Global) → v.items ≡ [] → ((c : ℕ) → stored_at buffers c ≡ []) → (c : ℕ)
    → stored_at (buffers ++ v ∷ []) c ≡ []
one_empty [] v none all zero = none
one_empty [] v none all (suc c) = refl
one_empty (b ∷ bs) v none all zero = all zero
one_empty (b ∷ bs) v none all (suc c) = one_empty bs v none (λ d. all (suc d)) c

pub nothing_at : (buffers : List (Vec Stored Global)) → ((c : ℕ) → stored_at buffers c ≡ []) → (c : ℕ) → buffer_at (events_of_all buffers) c ≡ []
nothing_at buffers all c = events_at buffers c ∙ ap (map event_of) (all c)

module _ (jobs : List Job) where
  at_first : (j : ℕ) (task : Task) → slice_get (map waiting jobs) j ≡ Some task → (job : Job) × (slice_get jobs j ≡ Some job) × (waiting job ≡ task)
  at_first j task is = from (slice_get jobs j) refl (sym (slice_get-map waiting jobs j) ∙ is)
    where
      from : (o : Option Job) → slice_get jobs j ≡ o → option_map waiting o ≡ Some task → (job : Job) × (slice_get jobs j ≡ Some job) × (waiting job ≡ task)
      from (Some job) e shown = (job, e, (let two : Some (waiting job) ≡ Some task = shown in cc))
      from None e shown = let none : None ≡ Some task = shown in cc

  none_held : (c j : ℕ) (task : Task) (state : Cpu) (left : ℕ) → IsAt (map waiting jobs) c j task (InHand state left) → ⊥
  none_held c j task state left at =
      let job = at_first j task at.listed in
      let two : Waiting job.0.input ≡ InHand state left = ap (λ (t : Task). t.stage) job.2 ∙ at.at in cc

  each_is : (P : Job → Type 0) → All P jobs → (j : ℕ) (job : Job) → slice_get jobs j ≡ Some job → P job
  each_is P all j job at = subst P (get_or_from_slice_get jobs j job job at) (all j job (slice_get_within jobs j job at))

  pub first_board : (w : WaitingContents) (programs : List Loaded) (listed : List Listed) (buffers : List (Vec Stored Global)) (cpus : ℕ) →
      w.waiting ≡ [] → ((c : ℕ) → is_running w.store c ≡ false) → All (λ (job : Job). has_cpu w.store job.cpu ≡ true) jobs → All
      (λ (job : Job). job.program < length programs) jobs
      → listed ≡ map first_entry jobs → ((c : ℕ) → has_cpu w.store c ≡ nat_lt c cpus) → length buffers ≡ cpus →
      ((c : ℕ) → stored_at buffers c ≡ []) → IsBuffering w programs listed buffers
  first_board w programs listed buffers cpus none idle served loaded same has count empty = record {
    stands = subst (λ (ls : List Listed). Stands (state_of w programs ls buffers).machine) (sym same)
        (subst (λ (ts : List Task). Stands (record { store = w.store; programs = programs; jobs = ts; lists = None })) (sym (all_wait jobs)) (record {
          served = λ j task is.
              (let job = at_first j task is in subst (λ (t : Task). has_cpu w.store t.cpu ≡ true) job.2
              (each_is (λ (x : Job). has_cpu w.store x.cpu ≡ true) served j job.0 job.1));
          loaded = λ j task is.
              (let job = at_first j task is in subst (λ (t : Task). t.program < length programs) job.2
              (each_is (λ (x : Job). x.program < length programs) loaded j job.0 job.1));
          hand = λ c j task state left at. absurd (none_held c j task state left at);
          one = λ c j k has other. absurd (none_held c j has.0 has.1 has.2 has.3);
          idle = λ c free. idle c;
        }));
    put_back = none;
    cpus = λ c. has c ∙ ap (nat_lt c) (sym count);
    each = λ c. nothing_waits w.store c (stored_at buffers c) (empty c);
  }

-- Workers that get their ports one after the other.
use Rattle.std.proofs.Common.{◌≡◌, ℕ, ◌+◌, ◌<◌, List, [], ◌∷◌, ◌++◌, Some, ap, sym, ◌∙◌, length, get_or, set, arith}
use Rattle.std.proofs.lemmas.List.{length-append, length-set, get_or-set_same, get_or-set_other, get_or_at, get_or_append_left, get_or_default}
use native.Mathlib.Decide.{ℕ_discrete}
use Rattle.hop_map.specs.Port.{Port}
use Rattle.bpf_sched.specs.declared.worker.Worker.{Worker}

module _ (first : List Worker) where
  -- the first workers have these ports, and each has its jobs
  pub record AreEquipped (given : List Port) (workers : List Worker) : Type 0 where
    pub size : length workers ≡ length first
    pub ports : (c : ℕ) (d : Worker) (p : Port) → c < length given → (get_or workers c d).port ≡ Some (get_or given c p)
    pub workloads : (c : ℕ) (d : Worker) → (get_or workers c d).workload ≡ (get_or first c d).workload

  abbrev with_port : Worker → Port → Worker
  with_port w p = record { port = Some p; workload = w.workload }

  module _ (given : List Port) (workers : List Worker) (are : AreEquipped given workers) (k : ℕ) (here : k ≡ length given)
      (inside : k < length workers) (q : Port) (e : Worker) where
    abbrev now : List Worker
    now = set workers k (with_port (get_or workers k e) q)

    port_at : (c : ℕ) (d : Worker) (p : Port) → c < length given + 1 → Dec (c ≡ k) → (get_or now c d).port ≡ Some (get_or (given ++ q ∷ []) c p)
    port_at c d p below (yes same) =
        ap (λ (i : ℕ). (get_or now i d).port) same
        ∙ (ap (λ (w : Worker). w.port) (get_or-set_same workers k (with_port (get_or workers k e) q) d inside)
        ∙ sym (ap Some (get_or_at given q [] p c (sym here ∙ sym same))))
    port_at c d p below (no other) =
        ap (λ (w : Worker). w.port) (get_or-set_other workers k c (with_port (get_or workers k e) q) d other)
        ∙ (are.ports c d p (omega arith) ∙ sym (ap Some (get_or_append_left given (q ∷ []) p c (omega arith))))

    work_at : (c : ℕ) (d : Worker) → Dec (c ≡ k) → (get_or now c d).workload ≡ (get_or first c d).workload
    work_at c d (yes same) =
        ap (λ (i : ℕ). (get_or now i d).workload) same
        ∙ (ap (λ (w : Worker). w.workload) (get_or-set_same workers k (with_port (get_or workers k e) q) d inside)
        ∙ (are.workloads k e ∙ ap (λ (w : Worker). w.workload) (get_or_default first k e d (omega (arith, are.size))) ∙ ap
        (λ (i : ℕ). (get_or first i d).workload) (sym same)))
    work_at c d (no other) =
        ap (λ (w : Worker). w.workload) (get_or-set_other workers k c (with_port (get_or workers k e) q) d other) ∙ are.workloads c d

    pub one_more_port : AreEquipped (given ++ q ∷ []) now
    one_more_port = record {
      size = length-set workers k (with_port (get_or workers k e) q) ∙ are.size;
      ports = λ c d p below. port_at c d p (omega (arith, length-append given (q ∷ []))) (ℕ_discrete c k);
      workloads = λ c d. work_at c d (ℕ_discrete c k);
    }

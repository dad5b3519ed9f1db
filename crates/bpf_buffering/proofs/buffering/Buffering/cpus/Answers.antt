use Rattle.std.proofs.Common.{◌≡◌, ◌<◌, Some, ℕ, inl, inr, sym, ap, subst, ◌∙◌, arith}
use Rattle.std.specs.Prelude.{slice_get}
use Rattle.std.proofs.lemmas.Bool.{cases_lt, ltb-true, lt-ltb}
use Rattle.bpf_plain.specs.PlainStore.{Contents, has_cpu}
use Rattle.bpf_cpu.specs.Task.{Task}
use Rattle.bpf_buffering.specs.Search.{BufferedState}
use Rattle.bpf_buffering.proofs.buffering.Buffering.cpus.Goals as goal

pub returns-clause-jobs : goal.returns-clause-jobs
returns-clause-jobs c =
    let P : BufferedState → Type 0 = λ s. (j : ℕ) (task : Task) → slice_get s.machine.jobs j ≡ Some task → task.cpu < c.cpus-2.result in
    subst P c.self.view_is (λ j task listed. ltb-true _ _ (sym (c.cpus-2.ensures task.cpu) ∙ ap (λ (p : Contents). has_cpu p task.cpu)
    c.store-store.ensures ∙ c.self.invariant.stands.served j task listed))

pub returns-clause-few : goal.returns-clause-few
returns-clause-few c = elim (cases_lt 16 c.cpus-2.result) [
  | inl more ↦
      let less = c.cpus.ensures.served 16 (c.cpus-2.ensures 16 ∙ lt-ltb 16 c.cpus-2.result more) in
      let few = c.cpus.ensures.in_range.1 in
      absurd (omega (arith, less, few))
  | inr few ↦ few
]

use Rattle.std.proofs.Common.{◌≡◌, ◌∙◌, ◌<◌, ℕ, [], List, inl, inr, length, map, subst, sym, arith}
use Rattle.std.specs.Prelude.{slice_index_or}
use Rattle.std.proofs.lemmas.Bool.{cases_lt, false≢true}
use Rattle.std.proofs.lemmas.List.{length-map}
use Rattle.bpf_buffering.specs.declared.waiting.Stored.{Stored}
use Rattle.bpf_buffering.specs.Jobs.{tasks_of}
use Rattle.bpf_buffering.proofs.Waits.{items_of}
use Rattle.bpf_buffer_expand.specs.Private.Fits.{FitsCpu}
use Rattle.bpf_buffer_expand.proofs.Looking.{not_true, buffer_at_cpu}
use Rattle.bpf_buffer_expand.proofs.fits.fit_all.Goals as goal

pub returns-then-not-fits_cpu : goal.returns-then-not-fits_cpu
returns-then-not-fits_cpu c = (
  λ no. absurd (false≢true no),
  λ all. absurd (
      let cpu = c.loop-cpu.cpu in
      let inside : cpu < length (map items_of c.args.buffers.now) = subst (λ (n : ℕ). cpu < n) (sym (length-map c.args.buffers.now items_of))
      c.loop-cpu-test.true in
      let own : slice_index_or (map items_of c.args.buffers.now) cpu [] ≡ c.deref.result.now =
      buffer_at_cpu c.args.buffers.now cpu c.index-buffers-cpu.result c.loop-cpu-test.true c.index-buffers-cpu.is ∙ sym c.deref.ensures.value in
      not_true c.fits_cpu.result c.if-not-fits_cpu.true
      (c.fits_cpu.ensures.1 (subst (λ (es : List Stored). FitsCpu c.args.shape.now (tasks_of c.args.jobs.now) cpu es) own (all cpu inside)))),
)

pub loop-cpu-preserved : goal.loop-cpu-preserved
loop-cpu-preserved c = λ k less. elim (cases_lt k c.loop-cpu.cpu) [
  | inl before ↦ c.loop-cpu.invariant k before
  | inr here ↦
      let cpu = c.loop-cpu.cpu in
      let same : k ≡ cpu = omega (arith, here, less) in
      let own : slice_index_or (map items_of c.args.buffers.now) cpu [] ≡ c.deref.result.now =
      buffer_at_cpu c.args.buffers.now cpu c.index-buffers-cpu.result c.loop-cpu-test.true c.index-buffers-cpu.is ∙ sym c.deref.ensures.value in
      let fits = c.fits_cpu.ensures.0 (c.if-not-fits_cpu.false) in
      subst (λ (i : ℕ). FitsCpu c.args.shape.now (tasks_of c.args.jobs.now) i (slice_index_or (map items_of c.args.buffers.now) i [])) (sym same)
      (subst (λ (es : List Stored). FitsCpu c.args.shape.now (tasks_of c.args.jobs.now) cpu es) (sym own) fits)
]

use Rattle.std.proofs.Common.{◌≡◌, ◌<◌, ℕ, [], inl, inr, length, refl, sym, subst, arith}
use Rattle.std.specs.Prelude.{slice_index_or}
use Rattle.std.proofs.lemmas.Bool.{cases_lt}
use Rattle.std.proofs.lemmas.List.{get_or_default}
use Rattle.bpf_mem.specs.declared.frames.Caller.{Caller}
use Rattle.bpf_loader.specs.Places.{IsStart}
use Rattle.bpf_cpu.proofs.ready.return_to_starts.Goals as goal

pub loop-caller-preserved : goal.loop-caller-preserved
loop-caller-preserved c k d l =
    let here = c.loop-caller.caller-index in
    let inside : here < length c.args.callers.now = omega arith in
    elim (cases_lt k here) [
      | inl below ↦ c.loop-caller.invariant k d below
      | inr past ↦
          let same : k ≡ here = omega arith in
          subst (λ (n : ℕ). IsStart c.args.program.now.instructions (slice_index_or c.args.callers.now n d).return_pc) (sym same)
          (subst (λ (caller : Caller). IsStart c.args.program.now.instructions caller.return_pc)
          (get_or_default c.args.callers.now here (record { return_pc = 0; saved = [] }) d inside) (c.if-not-is_start.ensures.0 refl))
    ]

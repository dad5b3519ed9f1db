use Rattle.std.proofs.Common.{◌≡◌, true, ℕ, sym, ◌∙◌}
use Rattle.std.proofs.lemmas.Bool.{false≢true}
use Rattle.bpf_live.specs.Live.{is_live}
use Rattle.bpf_live.specs.Private.Needs.{needs}
use Rattle.bpf_live.proofs.Needed.{one_further}
use Rattle.bpf_live.proofs.finding.has_needed.Goals as goal
use Rattle.bpf_live.proofs.finding.has_needed.Goals.{else-needs-via-then-needs+else-not-is_live, else-needs-via-else-needs}

pub loop-register-preserved : goal.loop-register-preserved
loop-register-preserved c =
    let P : ℕ → Type 0 = λ r. needs c.args.sets.now c.args.calls c.args.pc c.args.insn.now r ≡ true → is_live c.args.sets.now c.args.pc r ≡ true in
    one_further P c.loop-register.register c.loop-register.invariant
    (elim c.else-needs.branch [
      | else-needs-via-then-needs+else-not-is_live w ↦ λ need. sym w.is_live.ensures ∙ w.if-not-is_live.false
      | else-needs-via-else-needs w ↦ λ need. absurd (false≢true (sym w.if-needs.false ∙ (c.needs.ensures ∙ need)))
    ])

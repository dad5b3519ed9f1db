use Rattle.std.proofs.Common.{sym, ap, subst, ◌∙◌}
use Rattle.bpf_live.specs.Live.{IsLiveTable, Table}
use Rattle.bpf_live.proofs.Needed.{all_are_live}
use Rattle.bpf_live.proofs.finding.checked.Goals as goal
use Rattle.bpf_live.proofs.finding.checked.Goals.{then-not-is_right, else-not-is_right}

pub returns : goal.returns
returns c =
    let is = c.args.program.now.instructions in
    let P : Table → Type 0 = IsLiveTable is in
    elim c.if-not-is_right.branch [
      | then-not-is_right w ↦ subst P (sym (c.new.ensures ∙ (ap (λ v. v.items) w.sets-is ∙ w.clear.ensures.items))) (λ pc i begins. all_are_live is pc i)
      | else-not-is_right w ↦ subst P (sym (c.new.ensures ∙ (ap (λ v. v.items) w.sets-is ∙ sym c.deref.ensures.value)))
          (c.is_right.ensures w.if-not-is_right.false)
    ]

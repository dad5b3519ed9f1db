use Rattle.std.proofs.Common.{◌≡◌, ◌∙◌, ℕ, ap, subst, arith}
use Rattle.bpf_machine.specs.Hashes.{task_hash}
use Rattle.bpf_explore.specs.Private.Slots.{IsPut}
use Rattle.bpf_explore.specs.Private.Kept.{part_at}
use Rattle.bpf_explore.proofs.KeptLaws.{more_parts_put, widened_parts, read_part}
use Rattle.bpf_explore.proofs.parts.Parts.widen.Goals as goal

pub loop-number-preserved : goal.loop-number-preserved
loop-number-preserved c =
    let m = c.self.inside in
    let hash : c.hash.result ≡ task_hash (part_at m.kept.items c.loop-number.number) = c.hash.ensures ∙ ap task_hash
    (read_part m.kept.items c.loop-number.number c.index.result.now (omega arith) c.index.ensures) in
    more_parts_put m.kept.items c.loop-number.slots.items c.note.new.slots.items c.loop-number.number c.note.ensures.keeps c.loop-number.invariant
    (subst (λ (h : ℕ). IsPut c.note.new.slots.items h c.loop-number.number) hash c.in_ok-note.ensures.put)

pub invariant_of-self : goal.invariant_of-self
invariant_of-self c =
    let m = c.self.inside in
    widened_parts m.kept.items m.slots.items c.loop-number.slots.items c.loop-number.number c.self.invariant (omega arith) c.loop-number.invariant

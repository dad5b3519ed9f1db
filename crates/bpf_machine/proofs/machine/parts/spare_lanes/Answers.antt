use Rattle.std.proofs.Common.{◌≡◌, ◌++◌, ◌+◌, ◌∷◌, [], length, ap, ◌∙◌, length-append, ℕ, ◌<◌, subst, sym, List, Option, None, Box, Global, arith}
use Rattle.bpf_machine.specs.declared.machine.lane.Lane.{Lane}
use Rattle.bpf_machine.specs.Private.Lanes.{lane_of}
use Rattle.bpf_machine.specs.Private.Parts.{IsSpareFor, spare_of}
use Rattle.bpf_machine.proofs.OneMore.{one_more}
use Rattle.bpf_machine.proofs.WorkLaws.{lane_read}
use Rattle.bpf_machine.proofs.machine.parts.spare_lanes.Goals as goal

pub loop-cpu-preserved : goal.loop-cpu-preserved
loop-cpu-preserved c =
    let old = c.loop-cpu.spares.items in
    let new = c.push.new.self.items in
    let spare = c.in_ok-spare.spare in
    let lanes = c.args.lanes.now in
    let cpu = c.loop-cpu.cpu in
    let items : new ≡ old ++ spare ∷ [] = c.in_ok-push.ensures.items in
    let P : ℕ → Option (Box Lane Global) → Type 0 = λ k o. IsSpareFor c.args.parts.now c.args.numbers.now k (lane_of lanes k) o in
    let within : cpu < length lanes = omega arith in
    let here : P cpu spare = subst (λ (l : Lane). IsSpareFor c.args.parts.now c.args.numbers.now cpu l spare)
    (sym (lane_read lanes cpu c.index-lanes-cpu.result within c.index-lanes-cpu.is)) c.in_ok-spare.ensures in
    record {
      count = ap (length {A = Option (Box Lane Global)}) items ∙ (length-append old (spare ∷ []) ∙ ap (λ (n : ℕ). n + 1) c.loop-cpu.invariant.count);
      each = subst (λ (ss : List (Option (Box Lane Global))). (k : ℕ) → k < cpu + 1 → P k (spare_of ss k)) (sym items)
          (one_more P None old spare cpu c.loop-cpu.invariant.count c.loop-cpu.invariant.each here);
    }

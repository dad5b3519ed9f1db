use Rattle.std.proofs.Common.{◌≡◌, ◌++◌, ◌+◌, ◌∷◌, [], length, ap, ◌∙◌, length-append, ℕ, ◌<◌, subst, sym, List}
use Rattle.bpf_machine.specs.declared.machine.lane.Lane.{Lane}
use Rattle.bpf_machine.specs.Private.Lanes.{lane_of, no_lane}
use Rattle.bpf_machine.specs.Private.Parts.{IsLaneOf}
use Rattle.bpf_machine.proofs.OneMore.{one_more}
use Rattle.bpf_machine.proofs.machine.parts.lanes_of_kept.Goals as goal

pub loop-cpu-preserved : goal.loop-cpu-preserved
loop-cpu-preserved c =
    let old = c.loop-cpu.lanes.items in
    let new = c.push.new.self.items in
    let items : new ≡ old ++ c.in_ok-lane.lane ∷ [] = c.in_ok-push.ensures.items in
    let P : ℕ → Lane → Type 0 = IsLaneOf c.args.parts.now c.args.numbers.now in
    record {
      count = ap (length {A = Lane}) items ∙ (length-append old (c.in_ok-lane.lane ∷ []) ∙ ap (λ (n : ℕ). n + 1) c.loop-cpu.invariant.count);
      each = subst (λ (ls : List Lane). (k : ℕ) → k < c.loop-cpu.cpu + 1 → P k (lane_of ls k)) (sym items)
          (one_more P no_lane old c.in_ok-lane.lane c.loop-cpu.cpu c.loop-cpu.invariant.count c.loop-cpu.invariant.each c.in_ok-lane.ensures);
    }

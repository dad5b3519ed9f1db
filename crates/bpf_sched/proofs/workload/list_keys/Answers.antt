use Rattle.std.proofs.Common.{List, ◌<◌, length, sym, subst, ◌∙◌, arith}
use Rattle.std.proofs.Math.Seq.{map-set_same}
use Rattle.bpf_shared.specs.declared.events.Event.{Event}
use Rattle.bpf_shared.specs.declared.events.Event.TheVariants.{Keys}
use Rattle.bpf_shared.specs.Chain.{Chain}
use Rattle.bpf_shared.specs.KeyOrder.{Listed}
use Rattle.bpf_shared.proofs.Chains.{chain_call}
use Rattle.bpf_sched.proofs.Listing.{next_keys, still_for}
use Rattle.bpf_sched.proofs.workload.list_keys.Goals as goal

pub loop-map-preserved : goal.loop-map-preserved
loop-map-preserved g c =
    let S = g.S.Shared in
    let here = c.loop-map.invariant in
    let lists = c.loop-map.lists in
    let m = c.loop-map.map in
    let new = c.keys.new.list in
    let x = c.args.shared.now in
    let inside : m < length lists = omega arith in
    record {
      served = c.keys.ensures.same.1 ∙ here.served;
      shaped = c.keys.ensures.same.0 ∙ here.shaped;
      runs = c.keys.ensures.same.2 ∙ here.runs;
      fit = still_for (S.shapes x).maps lists m new c.index-lists-map.result inside c.keys.ensures.list here.fit;
      same = map-set_same (λ (list : Listed). list.shape) lists m new c.index-lists-map.result c.keys.ensures.list ∙ here.same;
      chain = subst (λ (es : List Event). Chain S.passes S.serves c.args.cpu x c.keys.new.self es) (sym (next_keys lists m new inside))
          (chain_call S.passes S.serves c.args.cpu g.met.S.Shared.follows x c.loop-map.shared c.keys.new.self _ (Keys m new.keys)
          c.requires.serves here.chain c.keys.ensures.listed c.keys.ensures.same.1);
    }

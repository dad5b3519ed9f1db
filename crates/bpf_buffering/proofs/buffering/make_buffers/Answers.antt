use Rattle.std.proofs.Common.{◌≡◌, List, [], ◌∷◌, ◌++◌, length, ap, ◌∙◌, arith}
use Rattle.std.specs.Prelude.{Vec}
use Rattle.std.specs.declared.alloc.Global.{Global}
use Rattle.std.proofs.lemmas.List.{length-append}
use Rattle.bpf_buffering.specs.declared.waiting.Stored.{Stored}
use Rattle.bpf_buffering.specs.Buffering.{stored_at}
use Rattle.bpf_buffering.proofs.First.{one_empty}
use Rattle.bpf_buffering.proofs.buffering.make_buffers.Goals as goal

pub loop-cpu-preserved : goal.loop-cpu-preserved
loop-cpu-preserved c =
    let before = c.loop-cpu.buffers.items in
    let items : c.push.new.self.items ≡ before ++ c.new.result ∷ [] = c.in_ok-push.ensures.items in
    let same : length c.push.new.self.items ≡ length (before ++ c.new.result ∷ []) = ap (length {A = Vec Stored Global}) items in
    let longer = length-append before (c.new.result ∷ []) in
    let was = c.loop-cpu.invariant.0 in (
      omega (arith, same, longer, was),
      λ k. ap (λ (bs : List (Vec Stored Global)). stored_at bs k) items ∙ one_empty before c.new.result c.new.ensures.items c.loop-cpu.invariant.1 k,
    )

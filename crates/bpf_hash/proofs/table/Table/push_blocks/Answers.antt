use Rattle.std.proofs.Common.{◌≡◌, ◌∙◌, ◌+◌, suc, List, ℕ, ◌++◌, append_assoc, ap, arith}
use Rattle.bpf_hash.specs.Private.Saved.{all_below, block_of}
use Rattle.bpf_hash.proofs.Fronts.{still_starts}
use Rattle.bpf_hash.proofs.table.Table.push_blocks.Goals as goal

pub loop-element-preserved : goal.loop-element-preserved
loop-element-preserved c =
    let f : ℕ → List ℕ = block_of c.args.runs.now c.args.self.now in
    let i = c.loop-element.element in
    let more : suc i ≡ i + 1 = omega arith in
    c.in_ok-push_block.ensures.ok
    ∙ (ap (λ (bs : List ℕ). bs ++ f i) c.loop-element.invariant
    ∙ (append_assoc c.args.out.now.items (all_below f i) (f i) ∙ ap (λ (n : ℕ). c.args.out.now.items ++ all_below f n) more))

pub returns-in_err-push_block-clause-err : goal.returns-in_err-push_block-clause-err
returns-in_err-push_block-clause-err c =
    let before = all_below (block_of c.args.runs.now c.args.self.now) c.loop-element.element in
    still_starts c.from_residual.result c.args.out.now.items c.loop-element.out.items c.push_block.new.out.items before
    c.loop-element.invariant c.in_err-push_block.ensures.err

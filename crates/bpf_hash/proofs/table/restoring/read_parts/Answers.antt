use Rattle.std.proofs.Common.{◌<◌, ◌≤◌, List, ℕ, length, length-drop, ap, arith}
use Rattle.bpf_shared.specs.Shape.{elements}
use Rattle.bpf_hash.proofs.Filling.{within, block_here, more_read}
use Rattle.bpf_hash.proofs.Options.{at_some, at_none}
use Rattle.bpf_hash.proofs.table.restoring.read_parts.Goals as goal

pub loop-element-preserved : goal.loop-element-preserved
loop-element-preserved c =
    let i = c.loop-element.element in
    let below : i < elements c.args.shape = omega arith in record {
      read = λ runs t more saved.
          (let far = c.loop-element.invariant.read runs t more saved in
          let b = block_here c.args.shape c.args.cpus c.args.bytes.now runs t more saved i c.loop-element.at below far.at_is c.past.result.now c.past.ensures in
          let inside = within c.args.shape c.args.cpus c.args.bytes.now runs t more saved i c.loop-element.at below far.at_is in
          more_read runs t i c.loop-element.at c.in-Some.count _ _ _ _ _ _ _ _ _ _ saved.table inside far
          (at_some _ _ _ c.in-Some.is c.in_ok-count.ensures.read runs t i _ b));
      inside =
          (let most : c.in-Some.count ≤ length c.past.result.now = at_some _ _ _ c.in-Some.is c.in_ok-count.ensures.inside in
          let rest = ap (λ (bs : List ℕ). length bs) c.past.ensures in
          let size = length-drop c.loop-element.at c.args.bytes.now in
          let before = c.loop-element.invariant.inside in
          omega (arith, most, rest, size, before));
      sized = at_some _ _ _ c.in-Some.is c.in_ok-count.ensures.sized i c.loop-element.invariant.sized;
    }

pub returns-in_default-clause-none : goal.returns-in_default-clause-none
returns-in_default-clause-none c runs t more saved =
    let i = c.loop-element.element in
    let below : i < elements c.args.shape = omega arith in
    let far = c.loop-element.invariant.read runs t more saved in
    let b = block_here c.args.shape c.args.cpus c.args.bytes.now runs t more saved i c.loop-element.at below far.at_is c.past.result.now c.past.ensures in
    at_none _ _ c.in_default.is c.in_ok-count.ensures.none runs t i _ b

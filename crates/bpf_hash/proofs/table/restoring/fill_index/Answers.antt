use Rattle.std.proofs.Common.{false, slice_index_or, refl, arith}
use Rattle.bpf_hash.proofs.Filling.{none_filled, one_filled, one_apart, not_apart}
use Rattle.bpf_hash.proofs.table.restoring.fill_index.Goals as goal

pub loop-element-init : goal.loop-element-init
loop-element-init c = record {
  filled = none_filled c.args.homes c.args.size c.args.linked.now c.args.keys.now c.args.index.now c.requires.homes c.requires.elements c.requires.none;
  apart = λ i j l. absurd (omega arith);
}

pub insert_where-requires-clause-new : goal.insert_where-requires-clause-new
insert_where-requires-clause-new c b at = let w = c.loop-element.invariant.filled.was b c.loop-element.element at in let less = w.0 in absurd (omega arith)

pub loop-element-preserved : goal.loop-element-preserved
loop-element-preserved c = record {
  filled = one_filled c.args.homes c.args.size c.args.linked.now c.args.keys.now c.loop-element.element c.loop-element.index
      c.insert_where.new.index (slice_index_or c.args.linked.now c.loop-element.element false) c.key_in-key.result.now refl
      c.key_in-key.ensures c.loop-element.invariant.filled (c.if-not-insert_where.ensures.comes refl) c.if-not-insert_where.ensures.stays;
  apart = one_apart c.args.homes c.args.size c.args.linked.now c.args.keys.now c.loop-element.element c.loop-element.index
      (slice_index_or c.args.linked.now c.loop-element.element false) c.key_in-key.result.now refl c.key_in-key.ensures
      c.loop-element.invariant.filled c.loop-element.invariant.apart (c.if-not-insert_where.ensures.alone refl);
}

pub returns-then-not-insert_where-clause-twice : goal.returns-then-not-insert_where-clause-twice
returns-then-not-insert_where-clause-twice c is apart =
    let t = c.if-not-insert_where.ensures.twice refl in
    not_apart c.args.homes c.args.size c.args.linked.now c.args.keys.now c.loop-element.element c.loop-element.index
    (slice_index_or c.args.linked.now c.loop-element.element false) c.key_in-key.result.now refl c.key_in-key.ensures
    c.loop-element.invariant.filled (omega arith) t.0 t.1 t.2 t.3 t.4 apart

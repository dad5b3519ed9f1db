use Rattle.std.proofs.Common.{◌≡◌, ◌+◌, ◌*◌, vec_len, sym, arith}
use Rattle.bpf_hash.proofs.Making.{none_marked, count-none, new_blank, new_table}
use Rattle.bpf_hash.proofs.table.Table.new.Goals as goal

pub returns-clause-table : goal.returns-clause-table
returns-clause-table c = new_table c.args.shape c.args.cpus c.in_ok-vec.field-0.items c.in_ok-vec-3.field-0.items
    c.in_ok-vec-4.field-0.items c.in_ok-vec-5.field-0.items c.in_ok-vec-6.field-0.items
    (c.in_ok-vec.ensures.items_if_clones_equal (λ y e. e)) c.requires.shape c.requires.cpus
    (omega (arith, c.in_ok-vec-3.ensures.len, c.in_ok-vec-3.field-0.ok.0))
    (omega (arith, c.in_ok-vec-4.ensures.len, c.in_ok-vec-4.field-0.ok.0)) c.from.result c.from.ensures
    (let l : vec_len c.in_ok-vec-5.field-0 ≡ (c.args.shape.max + c.args.shape.spare) * c.from.result = c.in_ok-vec-5.ensures.len in omega
    (arith, l, c.in_ok-vec-5.field-0.ok.0))
    (let l : vec_len c.in_ok-vec-6.field-0 ≡ (c.args.shape.max + c.args.shape.spare) * c.from.result = c.in_ok-vec-6.ensures.len in omega
    (arith, l, c.in_ok-vec-6.field-0.ok.0))

pub returns-clause-blank : goal.returns-clause-blank
returns-clause-blank c = new_blank c.args.shape c.args.cpus c.in_ok-vec.field-0.items c.in_ok-vec-3.field-0.items
    c.in_ok-vec-4.field-0.items c.in_ok-vec-5.field-0.items c.in_ok-vec-6.field-0.items
    (c.in_ok-vec.ensures.items_if_clones_equal (λ y e. e)) _ (c.in_ok-vec-5.ensures.items_if_clones_equal (λ y e. e))
    (c.in_ok-vec-6.ensures.items_if_clones_equal (λ y e. e))

pub invariant_of-result : goal.invariant_of-result
invariant_of-result c =
    let marks = c.in_ok-vec.ensures.items_if_clones_equal (λ y e. e) in (
      new_table c.args.shape c.args.cpus c.in_ok-vec.field-0.items c.in_ok-vec-3.field-0.items c.in_ok-vec-4.field-0.items
          c.in_ok-vec-5.field-0.items c.in_ok-vec-6.field-0.items (c.in_ok-vec.ensures.items_if_clones_equal (λ y e. e)) c.requires.shape
          c.requires.cpus (omega (arith, c.in_ok-vec-3.ensures.len, c.in_ok-vec-3.field-0.ok.0))
          (omega (arith, c.in_ok-vec-4.ensures.len, c.in_ok-vec-4.field-0.ok.0)) c.from.result c.from.ensures
          (let l : vec_len c.in_ok-vec-5.field-0 ≡ (c.args.shape.max + c.args.shape.spare) * c.from.result = c.in_ok-vec-5.ensures.len in
          omega (arith, l, c.in_ok-vec-5.field-0.ok.0))
          (let l : vec_len c.in_ok-vec-6.field-0 ≡ (c.args.shape.max + c.args.shape.spare) * c.from.result = c.in_ok-vec-6.ensures.len in
          omega (arith, l, c.in_ok-vec-6.field-0.ok.0)),
      (
        record {
          homes = c.in_ok-new.ensures.homes;
          elements = c.in_ok-new.ensures.elements;
          found = λ i l. absurd (none_marked c.in_ok-vec.field-0.items (c.args.shape.max + c.args.shape.spare) marks i l);
          linked = λ b i at. absurd (c.in_ok-new.ensures.none b i at);
        },
        sym (count-none c.in_ok-vec.field-0.items (c.args.shape.max + c.args.shape.spare) marks),
      ),
      λ i l. absurd (omega arith),
      omega (arith, c.in_ok-vec-2.ensures.len, c.in_ok-vec-2.field-0.ok.0),
      λ i l. absurd (omega arith),
    )

use Rattle.std.proofs.Common.{◌∙◌, ◌*◌}
use Rattle.bpf_plain.proofs.Filling.{room, one_size, one_more_of, none_after_of}
use Rattle.bpf_plain.proofs.bytes.fill.Goals as goal

pub put_part-requires : goal.put_part-requires
put_part-requires c = room c.args.stride c.loop-copy.copy c.args.copies c.args.first.now c.loop-copy.bytes c.loop-copy.invariant.size
    c.requires.fits c.loop-copy-test.true

pub loop-copy-preserved : goal.loop-copy-preserved
loop-copy-preserved c =
    let fits = room c.args.stride c.loop-copy.copy c.args.copies c.args.first.now c.loop-copy.bytes c.loop-copy.invariant.size
    c.requires.fits c.loop-copy-test.true in
    record {
      size = one_size c.args.first.now c.loop-copy.bytes c.put_part.new.bytes (c.loop-copy.copy * c.args.stride) c.put_part.ensures fits ∙
          c.loop-copy.invariant.size;
      front = one_more_of c.args.stride c.loop-copy.copy c.args.copies c.args.first.now c.loop-copy.bytes c.loop-copy.invariant.size
          c.requires.fits c.loop-copy-test.true c.put_part.new.bytes c.put_part.ensures c.loop-copy.invariant.front c.loop-copy.invariant.blank;
      blank = none_after_of c.args.stride c.loop-copy.copy c.args.copies c.args.first.now c.loop-copy.bytes c.loop-copy.invariant.size
          c.requires.fits c.loop-copy-test.true c.put_part.new.bytes c.put_part.ensures c.loop-copy.invariant.blank;
    }

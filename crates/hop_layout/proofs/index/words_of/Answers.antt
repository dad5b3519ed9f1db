use Rattle.hop_layout.proofs.Maps.{words_few}
use Rattle.std.proofs.Common.{arith}
use Rattle.hop_layout.proofs.index.words_of.Goals as goal

pub overflow_cast-result : goal.overflow_cast-result
overflow_cast-result c =
    let z = words_few c.args.cpus c.copies.result c.copy_stride.result c.args.array.now c.requires.cpus c.requires.shape c.copies.ensures
    c.copy_stride.ensures in omega arith

pub returns-clause-most : goal.returns-clause-most
returns-clause-most c = words_few c.args.cpus c.copies.result c.copy_stride.result c.args.array.now c.requires.cpus c.requires.shape
    c.copies.ensures c.copy_stride.ensures

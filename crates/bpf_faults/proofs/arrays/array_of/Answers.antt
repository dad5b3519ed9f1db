use Rattle.bpf_faults.proofs.ArrayPlaces.{found_facts}
use Rattle.bpf_faults.proofs.arrays.array_of.Goals as goal

pub returns-clause-sized : goal.returns-clause-sized
returns-clause-sized c = (found_facts c.args.shape.now c.args.number c.find_array.result c.find_array.ensures.in_range c.find_array.ensures.there).0

pub returns-clause-value : goal.returns-clause-value
returns-clause-value c = (found_facts c.args.shape.now c.args.number c.find_array.result c.find_array.ensures.in_range c.find_array.ensures.there).1

pub returns-clause-max : goal.returns-clause-max
returns-clause-max c = (found_facts c.args.shape.now c.args.number c.find_array.result c.find_array.ensures.in_range c.find_array.ensures.there).2

pub returns-clause-strides : goal.returns-clause-strides
returns-clause-strides c = (found_facts c.args.shape.now c.args.number c.find_array.result c.find_array.ensures.in_range c.find_array.ensures.there).3

use Rattle.std.proofs.Common.{rules, map}
use Rattle.bpf_file.proofs.Names.{array_named, per_cpu_named, frozen_named, frozen_per_cpu_named, data_named, variable_named, array_of_named, put_named}
use Rattle.bpf_file.proofs.statement.arrays.Goals as goal

pub array-requires : goal.array-requires
array-requires c = array_named (map (λ f. f.now) c.args.fields.now) (search rules)

pub array-requires-then-has_form-2 : goal.array-requires-then-has_form-2
array-requires-then-has_form-2 c = per_cpu_named (map (λ f. f.now) c.args.fields.now) (search rules)

pub array-requires-then-has_form-3 : goal.array-requires-then-has_form-3
array-requires-then-has_form-3 c = frozen_named (map (λ f. f.now) c.args.fields.now) (search rules)

pub array-requires-then-has_form-4 : goal.array-requires-then-has_form-4
array-requires-then-has_form-4 c = frozen_per_cpu_named (map (λ f. f.now) c.args.fields.now) (search rules)

pub data-requires : goal.data-requires
data-requires c = data_named (map (λ f. f.now) c.args.fields.now) (search rules)

pub variable-requires-clause-name : goal.variable-requires-clause-name
variable-requires-clause-name c = variable_named (map (λ f. f.now) c.args.fields.now) (search rules)

pub variable-requires-clause-array : goal.variable-requires-clause-array
variable-requires-clause-array c = array_of_named (map (λ f. f.now) c.args.fields.now) (search rules)

pub put-requires : goal.put-requires
put-requires c = put_named (map (λ f. f.now) c.args.fields.now) (search rules)

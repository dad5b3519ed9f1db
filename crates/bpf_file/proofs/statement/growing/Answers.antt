use Rattle.std.proofs.Common.{rules, map}
use Rattle.bpf_file.proofs.Names.{growing_map_named, growing_masked_map_named}
use Rattle.bpf_file.proofs.statement.growing.Goals as goal

pub map-requires : goal.map-requires
map-requires c = growing_map_named (map (λ f. f.now) c.args.fields.now) (search rules)

pub masked_map-requires : goal.masked_map-requires
masked_map-requires c = growing_masked_map_named (map (λ f. f.now) c.args.fields.now) (search rules)

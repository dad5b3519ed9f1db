use Rattle.std.proofs.Common.{map, arith}
use Rattle.std.specs.Prelude.{string_bytes}
use Rattle.std.proofs.lemmas.List.{length-map}
use Rattle.bpf_races.proofs.Syncs.{none_at_all}
use Rattle.bpf_races.proofs.sync.map_part.Goals as goal

pub returns-clause-none : goal.returns-clause-none
returns-clause-none c =
    let count = length-map c.args.names.now string_bytes in
    none_at_all (map string_bytes c.args.names.now) c.args.shape.now.maps c.args.text.now c.loop-number.number
    (let past = c.loop-number-test.false in omega arith) c.loop-number.invariant

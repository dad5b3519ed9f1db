use Rattle.std.proofs.Common.{[], subst, arith}
use Rattle.std.proofs.lemmas.List.{get_or_read}
use Rattle.bpf_live.specs.Alike.{AreAlike}
use Rattle.bpf_live.specs.Live.{Table}
use Rattle.bpf_alike.proofs.jobs.are_states_alike.Goals as goal

pub returns-then-program-tables : goal.returns-then-program-tables
returns-then-program-tables c is loaded =
    let i = c.index-tables-program in
    subst (λ (t : Table). AreAlike loaded t c.args.cpu.now c.args.other.now)
    (get_or_read c.args.tables.now c.args.program i.result (omega arith) i.is []) (c.is_alike.ensures is loaded)

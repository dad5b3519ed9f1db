use Rattle.std.proofs.Common.{[], subst, arith}
use Rattle.std.proofs.lemmas.List.{get_or_read}
use Rattle.bpf_live.specs.Alike.{AreAlike, marked_as}
use Rattle.bpf_live.specs.Live.{Table}
use Rattle.bpf_equal.proofs.unmarked.are_states_unmarked.Goals as goal

pub returns-then-program-tables : goal.returns-then-program-tables
returns-then-program-tables c is loaded =
    let i = c.index-tables-program in
    subst (λ (t : Table). AreAlike loaded t (marked_as c.args.other.now c.args.cpu.now) c.args.other.now)
    (get_or_read c.args.tables.now c.args.program i.result (omega arith) i.is []) (c.is_alike_but_for_marks.ensures is loaded)

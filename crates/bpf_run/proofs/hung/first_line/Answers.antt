use Rattle.std.proofs.Common.{arith}
use Rattle.bpf_run.proofs.PrintedPlaces.{is_cut, is_one}
use Rattle.bpf_run.proofs.hung.first_line.Goals as goal

pub returns-in-Some-clause-lines : goal.returns-in-Some-clause-lines
returns-in-Some-clause-lines c =
    let cut = c.in-Some.ensures.byte (omega arith) (λ w o found. found) in
    is_cut c.args.text.now c.in-Some.line.now c.in-Some.behind.now cut.2 cut.0 cut.1

pub returns-in-None-clause-lines : goal.returns-in-None-clause-lines
returns-in-None-clause-lines c = is_one c.args.text.now (c.in-None.ensures.byte (omega arith) (λ w o found. found))

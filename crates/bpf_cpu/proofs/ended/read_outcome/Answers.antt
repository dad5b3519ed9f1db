use Rattle.std.proofs.Common.{◌≡◌, length, arith}
use Rattle.bpf_mem.proofs.Fronts.{if_none}
use Rattle.bpf_cpu.proofs.SavedEnds.{outcome_read, no_words, no_outcome}
use Rattle.bpf_cpu.proofs.ended.read_outcome.Goals as goal

pub returns-in_err-rest-clause-none : goal.returns-in_err-rest-clause-none
returns-in_err-rest-clause-none c = if_none c.from_residual.result (no_words c.args.bytes.now c.in_err-rest.ensures.none)

pub returns-in_err-outcome-clause-none : goal.returns-in_err-outcome-clause-none
returns-in_err-outcome-clause-none c =
    let size : length c.read_words.new.words ≡ 2 = omega (arith, c.read_words.auto.words) in
    if_none c.from_residual-in_err-outcome.result (no_outcome c.args.bytes.now c.read_words.new.words c.in_ok-rest.rest.now size
    c.in_ok-rest.ensures.fit c.in_ok-rest.ensures.some c.in_err-outcome.ensures.none)

pub returns-clause-some : goal.returns-clause-some
returns-clause-some c =
    let size : length c.read_words.new.words ≡ 2 = omega (arith, c.read_words.auto.words) in
    outcome_read c.args.bytes.now c.read_words.new.words c.in_ok-rest.rest.now c.in_ok-outcome.outcome size c.in_ok-outcome.ensures.some
    c.in_ok-rest.ensures.some

use Rattle.std.proofs.Common.{◌≡◌, length, arith}
use Rattle.bpf_mem.proofs.FrameLemmas.{caller_read, caller_is, caller_none, caller_far}
use Rattle.bpf_mem.proofs.Fronts.{if_none}
use Rattle.bpf_mem.proofs.frames.saving.read_caller.Goals as goal

pub returns-in_err-rest-clause-none : goal.returns-in_err-rest-clause-none
returns-in_err-rest-clause-none c = if_none c.from_residual.result (caller_none c.args.bytes.now c.in_err-rest.ensures.none)

pub returns-clause-some : goal.returns-clause-some
returns-clause-some c =
    let size : length c.read_words.new.words ≡ 5 = omega (arith, c.read_words.auto.words) in
    caller_read c.args.bytes.now c.read_words.new.words c.in_ok-rest.rest.now size c.in_ok-rest.ensures.some

pub returns-clause-is_caller : goal.returns-clause-is_caller
returns-clause-is_caller c =
    let size : length c.read_words.new.words ≡ 5 = omega (arith, c.read_words.auto.words) in
    caller_is c.read_words.new.words size c.in_ok-rest.ensures.fit (omega arith)

pub returns-then-words-from-clause-none : goal.returns-then-words-from-clause-none
returns-then-words-from-clause-none c =
    let size : length c.read_words.new.words ≡ 5 = omega (arith, c.read_words.auto.words) in
    caller_far c.args.bytes.now c.read_words.new.words c.in_ok-rest.rest.now size c.in_ok-rest.ensures.fit c.in_ok-rest.ensures.some (omega arith)

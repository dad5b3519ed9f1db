use Rattle.std.proofs.Common.{◌≡◌, ◌∙◌, sym, length, arith, rules}
use Rattle.bpf_mem.proofs.Fronts.{if_none}
use Rattle.bpf_helpers.specs.Saved.{MayBeHeld}
use Rattle.bpf_cpu.proofs.SavedStates.{none_then, some_then, none_short, none_registers, none_drawn, none_frames, none_held, none_context}
use Rattle.bpf_cpu.proofs.SavedStates.{none_packet, all_read}
use Rattle.bpf_cpu.proofs.cpu.Cpu.restore.Goals as goal

pub returns-in_err-pc-clause-none : goal.returns-in_err-pc-clause-none
returns-in_err-pc-clause-none c = if_none c.from_residual.result
    (λ other more is may job e. none_short c.args.bytes.now other more is e c.in_err-pc.ensures.none)

pub returns-in_err-rest-clause-none : goal.returns-in_err-rest-clause-none
returns-in_err-rest-clause-none c =
    let size : length c.args.self.now.registers ≡ 11 = search rules in
    if_none c.from_residual-in_err-rest.result (λ other more is may job e.
    none_registers c.args.bytes.now other more is e c.in_ok-pc.pc c.in_ok-pc.rest.now c.in_ok-pc.ensures.near c.in_ok-pc.ensures.some
    (λ others rest n h f. c.in_err-rest.ensures.none others rest (n ∙ sym size) h f))

pub returns-in_err-drawn-clause-none : goal.returns-in_err-drawn-clause-none
returns-in_err-drawn-clause-none c =
    let size : length c.read_words.new.words ≡ 11 = search rules in
    if_none c.from_residual-in_err-drawn.result (λ other more is may job e.
    none_drawn c.args.bytes.now other more is e c.in_ok-pc.pc c.in_ok-pc.rest.now c.in_ok-pc.ensures.near c.in_ok-pc.ensures.some
    c.read_words.new.words c.in_ok-rest.rest.now size c.in_ok-rest.ensures.fit c.in_ok-rest.ensures.some c.in_err-drawn.ensures.none)

pub returns-in_err-rest-2-clause-none : goal.returns-in_err-rest-2-clause-none
returns-in_err-rest-2-clause-none c =
    let size : length c.read_words.new.words ≡ 11 = search rules in
    if_none c.from_residual-in_err-rest-2.result (λ other more is may job e.
    none_frames c.args.bytes.now other more is e c.in_ok-pc.pc c.in_ok-pc.rest.now c.in_ok-pc.ensures.near c.in_ok-pc.ensures.some
    c.read_words.new.words c.in_ok-rest.rest.now size c.in_ok-rest.ensures.fit c.in_ok-rest.ensures.some
    c.in_ok-drawn.drawn c.in_ok-drawn.rest.now c.in_ok-drawn.ensures.word c.in_ok-drawn.ensures.some c.in_err-rest-2.ensures.none)

pub returns-in_err-rest-3-clause-none : goal.returns-in_err-rest-3-clause-none
returns-in_err-rest-3-clause-none c =
    let size : length c.read_words.new.words ≡ 11 = search rules in
    if_none c.from_residual-in_err-rest-3.result (λ other more is may job e.
    none_held c.args.bytes.now other more is e c.in_ok-pc.pc c.in_ok-pc.rest.now c.in_ok-pc.ensures.near c.in_ok-pc.ensures.some
    c.read_words.new.words c.in_ok-rest.rest.now size c.in_ok-rest.ensures.fit c.in_ok-rest.ensures.some
    c.in_ok-drawn.drawn c.in_ok-drawn.rest.now c.in_ok-drawn.ensures.word c.in_ok-drawn.ensures.some
    c.restore.new.self c.in_ok-rest-2.rest.now c.in_ok-rest-2.ensures.savable c.in_ok-rest-2.ensures.some {P = MayBeHeld} may c.in_err-rest-3.ensures.none)

pub returns-in_err-rest-4-clause-none : goal.returns-in_err-rest-4-clause-none
returns-in_err-rest-4-clause-none c =
    let size : length c.read_words.new.words ≡ 11 = search rules in
    let short = c.in_err-rest-4.ensures.none in
    if_none c.from_residual-in_err-rest-4.result (λ other more is may job e.
    none_context c.args.bytes.now other more is e c.in_ok-pc.pc c.in_ok-pc.rest.now c.in_ok-pc.ensures.near c.in_ok-pc.ensures.some
    c.read_words.new.words c.in_ok-rest.rest.now size c.in_ok-rest.ensures.fit c.in_ok-rest.ensures.some
    c.in_ok-drawn.drawn c.in_ok-drawn.rest.now c.in_ok-drawn.ensures.word c.in_ok-drawn.ensures.some
    c.restore.new.self c.in_ok-rest-2.rest.now c.in_ok-rest-2.ensures.savable c.in_ok-rest-2.ensures.some
    c.restore-2.new.self c.in_ok-rest-3.rest.now c.in_ok-rest-3.ensures.savable c.in_ok-rest-3.ensures.some (omega (arith, short, job.1)))

pub returns-clause-none : goal.returns-clause-none
returns-clause-none c =
    let size : length c.read_words.new.words ≡ 11 = search rules in
    none_then c.restore-4.result c.restore-4.ensures.none (λ short other more is may job e.
    none_packet c.args.bytes.now other more is e c.in_ok-pc.pc c.in_ok-pc.rest.now c.in_ok-pc.ensures.near c.in_ok-pc.ensures.some
    c.read_words.new.words c.in_ok-rest.rest.now size c.in_ok-rest.ensures.fit c.in_ok-rest.ensures.some
    c.in_ok-drawn.drawn c.in_ok-drawn.rest.now c.in_ok-drawn.ensures.word c.in_ok-drawn.ensures.some
    c.restore.new.self c.in_ok-rest-2.rest.now c.in_ok-rest-2.ensures.savable c.in_ok-rest-2.ensures.some
    c.restore-2.new.self c.in_ok-rest-3.rest.now c.in_ok-rest-3.ensures.savable c.in_ok-rest-3.ensures.some
    c.restore-3.new.self c.in_ok-rest-4.rest.now (omega (arith, c.restore-3.ensures.long, job.1)) c.in_ok-rest-4.ensures.some (omega (arith, short, job.3)))

pub returns-clause-some : goal.returns-clause-some
returns-clause-some c =
    some_then _ _ c.restore-4.result c.restore-4.ensures.some (λ rest read.
    all_read _ c.args.bytes.now c.in_ok-pc.rest.now c.in_ok-rest.rest.now c.in_ok-drawn.rest.now c.in_ok-rest-2.rest.now
    c.in_ok-rest-3.rest.now c.in_ok-rest-4.rest.now rest.now
    c.in_ok-pc.ensures.some c.in_ok-rest.ensures.some c.in_ok-drawn.ensures.some c.in_ok-rest-2.ensures.some c.in_ok-rest-3.ensures.some
    c.in_ok-rest-4.ensures.some read)

use Rattle.std.proofs.Common.{◌≡◌, ◌<◌, ◌-◌, ℕ, ◌∷◌, ◌∙◌, length, take, drop, ap, sym, arith}
use Rattle.std.proofs.lemmas.List.{length-take-le}
use Rattle.std.proofs.lemmas.Bool.Decides.{nat_tests}
use Rattle.bpf_mem.proofs.FrameLemmas.{first_and_rest, no_callers}
use Rattle.bpf_mem.proofs.Fronts.{if_none}
use Rattle.bpf_mem.proofs.frames.Frames.restore.Goals as goal

pub returns-in_err-rest-2-clause-none : goal.returns-in_err-rest-2-clause-none
returns-in_err-rest-2-clause-none c =
    let bytes = c.args.bytes.now in
    let rest = take (length bytes - 1) (drop 1 bytes) in
    let live = c.from-live.result in
    let some : 0 < length bytes = grind (arith, nat_tests) in
    let begins : bytes ≡ live ∷ rest = first_and_rest bytes some ∙ ap (λ (n : ℕ). n ∷ rest) (sym c.from-live.ensures) in
    let known = c.self.invariant.frames in
    let size : length (take live c.read_frames.new.frames) ≡ live = length-take-le live c.read_frames.new.frames
    (omega (arith, c.read_frames.auto.frames, known)) in
    if_none c.from_residual-in_err-rest-2.result (no_callers bytes rest live begins (take live c.read_frames.new.frames)
    c.in_ok-rest.rest.now size c.in_ok-rest.ensures.are_frames c.in_ok-rest.ensures.some c.in_err-rest-2.ensures.none)

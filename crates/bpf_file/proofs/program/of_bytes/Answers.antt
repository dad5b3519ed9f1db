use Rattle.std.proofs.Common.{rules, Ok, Err, refl}
use Rattle.bpf_file.specs.Programs.{LoadsProgram, OfBytes}
use Rattle.bpf_file.proofs.Answering.{or_memory}
use Rattle.bpf_file.proofs.program.of_bytes.Goals as goal

pub returns-in-Ok : goal.returns-in-Ok
returns-in-Ok c =
    or_memory (LoadsProgram c.args.line c.args.named c.in-Ok.insns.items)
    (OfBytes c.args.line c.args.named c.args.bytes.now)
    (λ r l. (Ok c.in-Ok.insns.items, c.in-Ok.ensures.found, l)) c.loaded.result c.loaded.ensures

pub returns-in-Err : goal.returns-in-Err
returns-in-Err c = (Err c.in-Err.error, (c.in-Err.ensures.refused, search rules), refl)

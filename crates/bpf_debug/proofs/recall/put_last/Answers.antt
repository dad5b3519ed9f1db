use Rattle.std.specs.Prelude.{string_bytes}
use Rattle.bpf_debug.proofs.RecallLaws.{recalled_told}
use Rattle.bpf_debug.proofs.recall.put_last.Goals as goal

pub returns-in-Some : goal.returns-in-Some
returns-in-Some c =
    recalled_told c.args.recall c.in-Some.kept c.args.cpu (string_bytes c.args.out.now) (string_bytes c.put_ended.new.out)
    (string_bytes c.put_stand.new.out) c.args.machine.now.jobs
    c.in-Some.is c.put_ended.ensures.text c.put_stand.ensures

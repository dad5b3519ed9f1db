use Rattle.std.proofs.Common.{length, map, refl}
use Rattle.std.specs.Prelude.{string_bytes}
use Rattle.bpf_jobs.proofs.ListLines.{one_cpu_more}
use Rattle.bpf_sched.specs.Worked.{listed_by}
use Rattle.bpf_workers.proofs.telling.list_keys.Goals as goal

pub loop-cpu-preserved : goal.loop-cpu-preserved
loop-cpu-preserved c =
    let lists = listed_by c.args.lists.now in
    let cpu = c.loop-cpu.cpu in
    one_cpu_more lists (map string_bytes c.args.names.now) cpu (length (lists cpu)) (lists cpu) (string_bytes c.loop-cpu.text)
    (string_bytes c.push_listed.new.text)
    refl refl c.loop-cpu.invariant c.in_ok-push_listed.ensures

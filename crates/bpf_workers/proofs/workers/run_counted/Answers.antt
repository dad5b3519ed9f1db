use Rattle.std.proofs.Common.{ap, map, refl}
use Rattle.bpf_pairs.specs.Pairs.{pair_of}
use Rattle.std.specs.Prelude.{string_bytes}
use Rattle.bpf_workers.proofs.Reports.{reported}
use Rattle.bpf_workers.proofs.workers.run_counted.Goals as goal

pub returns-in-Ok-tell_counted : goal.returns-in-Ok-tell_counted
returns-in-Ok-tell_counted g c =
    let done = c.in-Ok-run_filled.done in
    let e = c.in-Ok-run_filled.ensures in
    let counted = c.in-Ok-tell_counted.counted in
    reported c.args.file (record { keys = c.args.extras.keys; maps = c.args.extras.maps; stats = c.args.extras.stats }) counted.report
    (string_bytes counted.stats) c.in-Ok-new.store.table.about done.outcomes.items done.lists.items done.closed
    _ _ _ _ _ _ _ _
    c.in-Ok-new.ensures.made e.about e.last e.explained c.in-Ok-tell_counted.ensures.told c.in-Ok-tell_counted.ensures.stats
    (ap (map pair_of) c.deref-3.ensures.value) c.deref.ensures.value c.deref-2.ensures.value c.deref-4.ensures.value c.deref-5.ensures.value
    c.deref-6.ensures.value c.in-Ok.ensures refl

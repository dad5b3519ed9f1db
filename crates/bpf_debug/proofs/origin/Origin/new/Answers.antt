use Rattle.std.proofs.Common.{◌≡◌, ◌∙◌}
use Rattle.bpf_debug.specs.Origin.{OriginState}
use Rattle.bpf_debug.proofs.OriginLaws.{can_again}
use Rattle.bpf_debug.proofs.origin.Origin.new.Goals as goal

pub returns-clause-can : goal.returns-clause-can
returns-clause-can c =
    let o : OriginState = record { store = c.in_ok-store.store; jobs = c.in_ok-jobs.jobs.items; numbers = c.in_ok-jobs.numbers.items } in
    let m = c.args.machine.now in
    let stored : o.store ≡ m.store = c.in_ok-store.ensures ∙ c.store.ensures in
    can_again c.args.shape o m c.requires.shown c.requires.shape c.stands.ensures c.in_ok-jobs.ensures.within stored c.in_ok-jobs.ensures.jobs c.requires.lists

use Rattle.std.proofs.Common.{subst}
use Rattle.std.specs.Prelude.{option_map}
use Rattle.bpf_plain.specs.PlainStore.{Contents}
use Rattle.bpf_debug.specs.Watch.{ShowsOther, ShowsWatched, kept_values, watched}
use Rattle.bpf_buffer_debug.proofs.going.differs.Goals as goal

pub returns-clause-changed : goal.returns-clause-changed
returns-clause-changed c is =
    let watch = option_map watched c.args.watching.watch.now in
    let values = kept_values c.args.watching.before.now in
    subst (λ (p : Contents). ShowsOther p watch values) c.store.ensures (c.has_changed.ensures.changed is)

pub returns-clause-same : goal.returns-clause-same
returns-clause-same c is =
    let watch = option_map watched c.args.watching.watch.now in
    let values = kept_values c.args.watching.before.now in
    subst (λ (p : Contents). ShowsWatched p watch values) c.store.ensures (c.has_changed.ensures.same is)

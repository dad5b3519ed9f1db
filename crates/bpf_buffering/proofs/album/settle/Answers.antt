use Rattle.std.proofs.Common.{Some, sym, ap, ◌∙◌}
use Rattle.std.proofs.lemmas.Option.{slice_get-get_or}
use Rattle.bpf_plain.specs.PlainStore.{Contents}
use Rattle.bpf_buffering.specs.Search.{BufferedState}
use Rattle.bpf_buffering.specs.Private.Kept.{no_store}
use Rattle.bpf_buffering.proofs.album.settle.Goals as goal

pub returns-in-Some-clause-at : goal.returns-in-Some-clause-at
returns-in-Some-clause-at c =
    slice_get-get_or c.args.stores.now c.in-Some.number no_store c.in-Some.ensures.within
    ∙ ap (λ (s : Contents). Some s) (sym (ap (λ (s : BufferedState). s.machine.store) c.take_store.ensures.state ∙ c.store-in-Some.ensures))

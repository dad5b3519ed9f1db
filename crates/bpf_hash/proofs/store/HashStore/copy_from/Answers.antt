use Rattle.std.proofs.Common.{◌≡◌, ◌∙◌, List, length, sym, ap, slice_index_or, arith}
use Rattle.bpf_hash.specs.declared.runs.Runs.{Runs}
use Rattle.bpf_hash.specs.Private.Rows.{Rows, no_rows}
use Rattle.bpf_hash.specs.Private.Contents.{Contents, rows}
use Rattle.bpf_hash.proofs.Alike.{shapes_alike}
use Rattle.bpf_hash.proofs.SavedAlike.{same_cpus}
use Rattle.bpf_hash.proofs.store.HashStore.copy_from.Goals as goal

pub copy_from_slice-requires : goal.copy_from_slice-requires
copy_from_slice-requires c =
    let many : length c.self.inside.runs.items ≡ length c.deref.result.now =
    ap (λ (p : Contents). length p.runs) c.self.view_is
    ∙ (same_cpus c.args.other.now c.args.self.now c.requires
    ∙ (ap (λ (p : Contents). length p.runs) (sym c.other.view_is) ∙ ap (λ (rs : List Runs). length rs) (sym c.deref.ensures.value)))
    in
    omega (arith, c.self.inside.runs.ok.0, many)

pub copy_tables-requires-clause-shapes : goal.copy_tables-requires-clause-shapes
copy_tables-requires-clause-shapes c m l =
    ap (λ (ts : List Rows). (slice_index_or ts m no_rows).shape) c.deref-2.ensures.value
    ∙ (ap (λ (p : Contents). (rows p m).shape) c.other.view_is
    ∙ (sym (shapes_alike c.args.other.now c.args.self.now c.requires.1 m)
    ∙ (ap (λ (p : Contents). (rows p m).shape) (sym c.self.view_is) ∙ ap (λ (ts : List Rows). (slice_index_or ts m no_rows).shape)
    (sym c.deref_mut.ensures.value))))

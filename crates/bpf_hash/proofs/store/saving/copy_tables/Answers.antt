use Rattle.std.proofs.Common.{◌≡◌, ◌∙◌, length, sym, arith}
use Rattle.std.proofs.lemmas.List.{ext_get_or}
use Rattle.bpf_hash.specs.Private.Rows.{no_rows}
use Rattle.bpf_hash.proofs.store.saving.copy_tables.Goals as goal

pub returns : goal.returns
returns c =
    let i = c.loop-map.invariant in
    let size : length c.loop-map.tables ≡ length c.args.others.now = i.count ∙ sym c.requires.count in
    ext_get_or no_rows c.loop-map.tables c.args.others.now size (λ m l. i.done m (let many = i.count in omega arith))

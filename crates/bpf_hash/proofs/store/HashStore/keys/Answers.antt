use Rattle.std.proofs.Common.{◌≡◌, subst}
use Rattle.bpf_hash.specs.Private.Rows.{Rows}
use Rattle.bpf_hash.specs.Private.Contents.{rows}
use Rattle.bpf_hash.specs.Private.Pairs.{AreRowKeys}
use Rattle.bpf_hash.proofs.Changing.{map_there, read_row}
use Rattle.bpf_hash.proofs.KeyRows.{keys_calls}
use Rattle.bpf_hash.proofs.store.HashStore.keys.Goals as goal

pub returns-clause-listed : goal.returns-clause-listed
returns-clause-listed c =
    let p = c.args.self.now in
    let m = c.args.map in
    let mi = map_there p m c.args.list.now.shape c.requires.list in
    let row : c.index.result.now ≡ rows p m = read_row p m c.self.inside.runs.items c.self.inside.tables.items c.index.result.now
    c.self.view_is mi c.index.ensures in
    keys_calls p c.args._cpu m c.list_keys.new.list.keys c.requires.serves mi
    (subst (λ (t : Rows). AreRowKeys t c.list_keys.new.list.keys) row c.list_keys.ensures.keys)

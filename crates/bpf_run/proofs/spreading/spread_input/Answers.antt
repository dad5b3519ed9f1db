use Rattle.std.proofs.Common.{List, ℕ, Some, string_bytes, subst}
use Rattle.bpf_run.specs.Spreading.{IsSpreadOf}
use Rattle.bpf_run.proofs.FilesRead.{stop_is}
use Rattle.bpf_run.proofs.spreading.spread_input.Goals as goal

pub returns-in-Ok-spread_text : goal.returns-in-Ok-spread_text
returns-in-Ok-spread_text g c =
    let has_made = g.T.Shelf.has_made c.args.rt.now in
    let files = g.R.Source.file c.args.source.now in
    subst (λ (text : List ℕ). IsSpreadOf has_made files c.args.spread.now (Some text) (string_bytes c.in-Ok-spread_text.text)) c.in-Ok.ensures.cases.0
    c.in-Ok-spread_text.ensures

pub returns-in-Err : goal.returns-in-Err
returns-in-Err g c = stop_is (g.T.Shelf.has_made c.args.rt.now) (g.R.Source.file c.args.source.now) c.args.spread.now
    (Some c.args.input.now) c.stop_reply.result c.stop_reply.ensures

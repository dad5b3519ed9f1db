use Rattle.std.proofs.Common.{List, ℕ, Option, Some, option_map, string_bytes, subst}
use Rattle.clap.specs.Words.{Text}
use Rattle.bpf_run.specs.Program.{input_of}
use Rattle.bpf_run.specs.Spreading.{IsSpread}
use Rattle.bpf_run.proofs.FilesRead.{input_is}
use Rattle.bpf_run.proofs.spreading.spread_reply.Goals as goal

pub returns-in-Ok : goal.returns-in-Ok
returns-in-Ok g c =
    let has_made = g.T.Shelf.has_made c.args.rt.now in
    let files = g.R.Source.file c.args.source.now in
    let errand = c.args.errand.now in
    let input = input_of (g.R.Source.remaining c.args.source.now) files (option_map string_bytes errand.file) in
    let here = subst (λ (f : Text → Option (List ℕ)). IsSpread has_made f errand.spread (Some c.deref.result.now) c.spread_input.result)
    c.input_of.ensures.files c.spread_input.ensures in
    input_is has_made files errand.spread input c.in-Ok.input.items c.spread_input.result c.in-Ok.ensures.whole
    (subst (λ (b : List ℕ). IsSpread has_made files errand.spread (Some b) c.spread_input.result) c.deref.ensures.value here)

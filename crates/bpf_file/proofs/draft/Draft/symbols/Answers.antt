use Rattle.std.proofs.Common.{sym, ◌∙◌}
use Rattle.bpf_text.specs.Symbols.{table_of}
use Rattle.bpf_file.specs.Private.Drafts.{part_of}
use Rattle.bpf_file.proofs.Tables.{table_made}
use Rattle.bpf_file.proofs.draft.Draft.symbols.Goals as goal

pub returns-in-Ok-clause-named : goal.returns-in-Ok-clause-named
returns-in-Ok-clause-named c =
    table_made (part_of c.args.self.now) (table_of c.in-Ok.symbols) c.len.result c.deref.result.now (sym c.has_arrays.ensures ∙ c.if-not-has_arrays.false)
    (c.len.ensures ∙ c.args.self.now.maps.ok.0) c.deref.ensures.value c.in-Ok.ensures.named

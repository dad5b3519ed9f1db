use Rattle.std.proofs.Common.{◌≡◌, true, false, is_some, ◌∙◌}
use Rattle.std.proofs.lemmas.Map.Text.{hash_map_updates_str}
use Rattle.bpf_text.specs.Symbols.{table_of}
use Rattle.bpf_text.proofs.LabelLemmas.{kept, added}
use Rattle.bpf_text.proofs.symbols.name_symbol.Goals as goal

pub returns-then-is_some-clause-named : goal.returns-then-is_some-clause-named
returns-then-is_some-clause-named c = λ q.
    let there : is_some (table_of c.args.symbols.now c.args.name.now) ≡ true = cc in
    kept (table_of c.args.symbols.now) c.args.name.now q c.args.symbol there

pub returns-in-Ok-clause-named : goal.returns-in-Ok-clause-named
returns-in-Ok-clause-named c = λ q.
    let absent : is_some (table_of c.args.symbols.now c.args.name.now) ≡ false = cc in
    hash_map_updates_str c.args.name.now c.args.symbols.now c.insert.new.self _ c.in-Ok.ensures.updates q
    ∙ added (table_of c.args.symbols.now) c.args.name.now q c.args.symbol absent

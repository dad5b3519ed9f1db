use Rattle.std.proofs.Common.{◌<◌, [], length, sym, ap, ◌∙◌}
use Rattle.std.specs.Prelude.{string_bytes}
use Rattle.std.proofs.lemmas.Bool.{ltb-true}
use Rattle.std.proofs.lemmas.List.{get_or-map}
use Rattle.bpf_workers.proofs.names.name_at.Goals as goal

pub returns-in-Some : goal.returns-in-Some
returns-in-Some c =
    let names = c.args.names.now in
    let inside : c.args.number < length names = ltb-true _ _ (sym c.in-Some.ensures.lookup.0) in
    c.as_str.ensures.value ∙ (ap string_bytes c.in-Some.ensures.lookup.1 ∙ sym (get_or-map string_bytes names c.args.number c.in-Some.name.now [] inside))

use Rattle.std.proofs.Common.{◌∙◌, ◌++◌, ℕ, List, String, Global, ap, length, map, subst}
use Rattle.std.specs.Prelude.{string_bytes}
use Rattle.bpf_names.specs.Names.{names_of}
use Rattle.bpf_jobs.specs.Printed.{AreMapLines}
use Rattle.bpf_jobs.proofs.Asked.{maps_told}
use Rattle.bpf_workers.proofs.left.asked_lines.Goals as goal

pub returns-in_ok-push_str : goal.returns-in_ok-push_str
returns-in_ok-push_str c = λ last known same.
    let lines = string_bytes c.in_ok-text.text in
    let are = subst (λ (ns : List (String Global)). AreMapLines last (map string_bytes ns) (length last.shape.maps) lines)
    c.deref.ensures.value (c.in_ok-text.ensures last known same) in
    maps_told c.args.maps last (names_of c.args.names.now) lines (string_bytes c.push_str.new.self) c.if-maps.true are
    (c.in_ok-push_str.ensures.bytes ∙ ap (λ (t : List ℕ). lines ++ t) (c.as_str.ensures.value ∙ c.in_ok-fixed.ensures last known same))

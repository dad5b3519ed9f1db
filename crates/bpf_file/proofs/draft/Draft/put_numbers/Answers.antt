use Rattle.std.proofs.Common.{List, String, Global, ap, map, ◌∙◌}
use Rattle.std.specs.Prelude.{string_bytes}
use Rattle.bpf_file.specs.Parts.{place_of}
use Rattle.bpf_file.specs.Private.Drafts.{part_of}
use Rattle.bpf_file.proofs.Puts.{is_answered, numbers_of_map, numbers_of_array}
use Rattle.bpf_file.proofs.draft.Draft.put_numbers.Goals as goal

pub returns-then-place-maps : goal.returns-then-place-maps
returns-then-place-maps c =
    is_answered c.args.line (part_of c.add_numbered_pair.new.self) _ _ c.add_numbered_pair.result
    (numbers_of_map c.args.line (part_of c.args.self.now) _ c.in-Some.place c.len-maps.result
    (c.in-Some.ensures.value ∙ ap (λ (ns : List (String Global)). place_of c.args.said.name.now (map string_bytes ns))
    c.deref.ensures.value) (c.len-maps.ensures ∙ c.args.self.now.maps.ok.0)
    c.args.said.key c.args.bytes.items c.if-place-maps.true)
    c.add_numbered_pair.ensures

pub returns-else-place-maps : goal.returns-else-place-maps
returns-else-place-maps c =
    is_answered c.args.line (part_of c.add_numbered_element.new.self) _ _ c.add_numbered_element.result
    (numbers_of_array c.args.line (part_of c.args.self.now) _ c.in-Some.place c.len-maps.result
    (c.in-Some.ensures.value ∙ ap (λ (ns : List (String Global)). place_of c.args.said.name.now (map string_bytes ns))
    c.deref.ensures.value) (c.len-maps.ensures ∙ c.args.self.now.maps.ok.0)
    c.args.said.key c.args.bytes.items c.if-place-maps.false)
    c.add_numbered_element.ensures

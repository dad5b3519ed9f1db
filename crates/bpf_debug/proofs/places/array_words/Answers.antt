use Rattle.std.proofs.Common.{◌≡◌, ℕ, List, [], Some, ◌+◌, length, map, sym, ap, subst, ◌∙◌, String, Global}
use Rattle.std.specs.Prelude.{IfOk, slice_get, slice_index_or, string_bytes}
use Rattle.std.proofs.lemmas.Result.{IfOk-weaker}
use Rattle.bpf_shared.specs.declared.shapes.MapShape.{MapShape}
use Rattle.bpf_shared.specs.Shape.{IsArrayShape}
use Rattle.bpf_names.specs.Names.{names_of}
use Rattle.bpf_debug.specs.Show.{array_words, element_words}
use Rattle.bpf_debug.proofs.places.array_words.Goals as goal

pub element_words-requires-clause-shape : goal.element_words-requires-clause-shape
element_words-requires-clause-shape c =
    let g = c.in-Some.sizes in
    subst (λ (n : ℕ). IsArrayShape n g) (sym c.cpus.ensures.cpus) (c.cpus.ensures.in_range.arrays c.args.array g (sym c.in-Some.ensures.found)).0

pub returns : goal.returns
returns c =
    let h = c.args.shape.now in
    let g = c.in-Some.sizes in
    let names = names_of c.args.names.now in
    let offset = c.args.offset in
    let at : slice_get h.arrays c.args.array ≡ Some g = sym c.in-Some.ensures.found in
    let name : c.name_at-name.result.now ≡ slice_index_or names.maps (length h.maps + c.args.array) [] = c.name_at-name.ensures
    ∙ ap (λ (l : List (String Global)). slice_index_or (map string_bytes l) (length c.maps.result.now + c.args.array) []) c.deref.ensures.value
    ∙ ap (λ (l : List MapShape). slice_index_or names.maps (length l + c.args.array) []) c.maps.ensures.maps in
    IfOk-weaker c.element_words.result (λ (t : String Global). string_bytes t ≡ element_words c.cpus.result c.name_at-name.result.now g offset)
    (λ (t : String Global). string_bytes t ≡ array_words names h c.args.array offset (slice_get h.arrays c.args.array))
    (λ text e. e ∙ ap (λ (n : ℕ). element_words n c.name_at-name.result.now g offset) c.cpus.ensures.cpus
    ∙ ap (λ (n : List ℕ). element_words h.cpus n g offset) name
    ∙ ap (array_words names h c.args.array offset) (sym at)) c.element_words.ensures

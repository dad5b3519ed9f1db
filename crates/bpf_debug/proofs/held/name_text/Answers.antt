use Rattle.std.proofs.Common.{◌≡◌, ℕ, List, [], ◌++◌, append_assoc, map, ap, sym, subst, ◌∙◌, String, Global}
use Rattle.std.specs.Prelude.{IfOk, codes, slice_index_or, string_bytes}
use Rattle.std.proofs.lemmas.Result.{IfOk-weaker}
use Rattle.bpf_debug.specs.Held.{map_at, value_name}
use Rattle.bpf_debug.proofs.held.name_text.Goals as goal

pub returns : goal.returns
returns c =
    let names : List (List ℕ) = map string_bytes c.args.names.now in
    let name : List ℕ = slice_index_or names (map_at c.args.at) [] in
    let place = c.args.place.now in
    let first : List ℕ = codes "[" in
    let last : List ℕ = codes "]" in
    let named : c.name_at-name.result.now ≡ name = c.name_at-name.ensures ∙ ap (λ (k : ℕ). slice_index_or names k []) c.map_at.ensures in
    let P : List ℕ → Type 0 = λ n. IfOk c.bracketed.result (λ text. string_bytes text ≡ n ++ (first ++ (place ++ last))) in
    let flat : name ++ (first ++ (place ++ last)) ≡ ((name ++ first) ++ place) ++ last = sym
    (append_assoc (name ++ first) place last ∙ append_assoc name first (place ++ last)) in
    IfOk-weaker c.bracketed.result (λ (t : String Global). string_bytes t ≡ name ++ (first ++ (place ++ last)))
    (λ (t : String Global). string_bytes t ≡ value_name names c.args.at place)
    (λ text e. e ∙ flat) (subst P named c.bracketed.ensures)

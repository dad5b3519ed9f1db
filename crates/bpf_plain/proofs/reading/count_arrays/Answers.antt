use Rattle.std.proofs.Common.{◌≡◌, ◌∙◌, ◌++◌, true, false, List, ℕ, sym, ap}
use Rattle.std.proofs.lemmas.Bool.Decides.{Decides-eqb}
use Rattle.std.proofs.lemmas.Slice.Eq.{starts_is}
use Rattle.bpf_shared.specs.Contents.{bytes_of_all}
use Rattle.bpf_plain.specs.Private.Saved.{saved_arrays}
use Rattle.bpf_plain.proofs.reading.count_arrays.Goals as goal

pub returns-clause-none : goal.returns-clause-none
returns-clause-none c more e =
    let saved = saved_arrays c.args.shape.now (bytes_of_all c.args.arrays.now) in
    let all : c.deref.result.now ≡ saved = c.deref.ensures.value ∙
    (c.in_ok-push_arrays.ensures.ok ∙ ap (λ (bs : List ℕ). bs ++ saved) c.new-saved.ensures.items) in
    let no : false ≡ true =
    sym c.if-starts_with.false ∙ (starts_is Decides-eqb c.args.bytes.now c.deref.result.now c.starts_with.result
    c.starts_with.ensures.value).1 more (e ∙ ap (λ (bs : List ℕ). bs ++ more) (sym all)) in
    cc

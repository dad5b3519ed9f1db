use Rattle.std.proofs.Common.{◌≡◌, ℕ, List, ◌/◌, ◌%◌, ◌<◌, ◌++◌, sym, ap, subst, ◌∙◌, String, Global, arith}
use Rattle.std.specs.Prelude.{IfOk, codes, string_bytes}
use Rattle.std.proofs.lemmas.Result.{IfOk-weaker}
use Rattle.bpf_shared.specs.Shape.{array_stride, copies, copy_stride}
use Rattle.bpf_jobs.specs.Printed.{place_text}
use Rattle.bpf_debug.specs.Show.{copy_in, element_name, element_words, index_in, past_in, place_words}
use Rattle.bpf_debug.proofs.PlaceLaws.{named}
use Rattle.bpf_debug.proofs.places.element_words.Goals as goal

pub returns : goal.returns
returns c =
    let o = c.args.offset in
    let g = c.args.array.now in
    let cpus = c.args.cpus in
    let name = c.args.name.now in
    let block : o / c.copy_stride.result ≡ copy_in g o = ap (λ (x : ℕ). o / x) c.copy_stride.ensures in
    let row : o % c.copy_stride-2.result / c.stride.result ≡ index_in g o = ap (λ (x : ℕ). o % x / c.stride.result) c.copy_stride-2.ensures
    ∙ ap (λ (x : ℕ). o % copy_stride g / x) c.stride.ensures.stride in
    let rest : o % c.copy_stride-2.result % c.stride-2.result ≡ past_in g o = ap (λ (x : ℕ). o % x % c.stride-2.result)
    c.copy_stride-2.ensures ∙ ap (λ (x : ℕ). o % copy_stride g % x) c.stride-2.ensures.stride in
    let many : c.copies.result ≡ copies cpus g = c.copies.ensures in
    let copy : copy_in g o < copies cpus g = subst (λ (x : ℕ). x < copies cpus g) block
    (subst (λ (x : ℕ). o / c.copy_stride.result < x) many c.if-copy-copies.false) in
    let index : index_in g o < g.max = subst (λ (x : ℕ). x < g.max) row c.if-index-array.false in
    let past : past_in g o < g.value = subst (λ (x : ℕ). x < g.value) rest c.if-past-array.false in
    let words : ℕ → ℕ → ℕ → List ℕ = λ i k p. place_words (name ++ (codes "[" ++ (place_text g.per_cpu i k ++ codes "]"))) p in
    IfOk-weaker c.named_words.result
    (λ (t : String Global). string_bytes t ≡ words (o % c.copy_stride-2.result / c.stride.result) (o / c.copy_stride.result)
    (o % c.copy_stride-2.result % c.stride-2.result))
    (λ (t : String Global). string_bytes t ≡ element_words cpus name g o)
    (λ text e. named cpus name g o (string_bytes text) copy index past
    (e ∙ (ap (λ (i : ℕ). words i (o / c.copy_stride.result) (o % c.copy_stride-2.result % c.stride-2.result)) row
    ∙ (ap (λ (k : ℕ). words (index_in g o) k (o % c.copy_stride-2.result % c.stride-2.result)) block
    ∙ ap (words (index_in g o) (copy_in g o)) rest)))) c.named_words.ensures

use Rattle.std.proofs.Common.{◌≡◌, ◌∙◌, ◌+◌, ◌<◌, ◌++◌, ◌∷◌, [], List, ℕ, Some, Vec, Global, ap, get_or, length, map, slice_get, sym, take, arith}
use Rattle.std.proofs.lemmas.List.{length-map, length-take-le, map-append}
use Rattle.std.proofs.lemmas.Option.{slice_get-get_or}
use Rattle.bpf_expand.specs.Lines.{end_line}
use Rattle.bpf_expand.specs.Parts.{end_lines}
use Rattle.bpf_expand.proofs.PartLemmas.{take_more}
use Rattle.bpf_expand.proofs.Tracing.{ends_more}
use Rattle.bpf_expand.proofs.calls.end_lines.Goals as goal

pub loop-end-preserved : goal.loop-end-preserved
loop-end-preserved c =
    let ends = c.args.ends.now in
    let numbers = c.args.numbers.now in
    let n = c.loop-end.end in
    let e = c.index-ends-end.result in
    let x = get_or numbers n 0 in
    let less : n < length ends = omega (arith, c.loop-end-test.true, c.loop-end.auto.end-end) in
    let at : slice_get ends n ≡ Some e = slice_get-get_or ends n e less ∙ ap (λ (v : Vec ℕ Global). Some v) (sym c.index-ends-end.is) in
    let there : slice_get numbers n ≡ Some x = slice_get-get_or numbers n 0 (omega (arith, c.requires, less)) in
    let E = map (λ v. v.items) (take n ends) in
    let N = take n numbers in
    let long : length N ≡ length E = omega (
      arith,
      c.requires,
      less,
      length-map (take n ends) (λ v. v.items),
      length-take-le n ends (omega (arith, less)),
      length-take-le n numbers (omega (arith, c.requires, less)),
    ) in
    let more : map (λ v. v.items) (take (n + 1) ends) ≡ E ++ e.items ∷ [] =
    ap (λ (l : List _). map (λ v. v.items) l) (take_more ends n e at) ∙ map-append (λ v. v.items) (take n ends) (e ∷ []) in
    let all : end_lines (map (λ v. v.items) (take (n + 1) ends)) (take (n + 1) numbers) ≡ end_lines E N ++ end_line e.items x =
    ap (λ (l : List (List ℕ)). end_lines l (take (n + 1) numbers)) more
    ∙ (ap (end_lines (E ++ e.items ∷ [])) (take_more numbers n x there) ∙ ends_more E N e.items x long) in
    c.in_ok-push_str.ensures.bytes
    ∙ (ap (λ (l : List ℕ). l ++ c.as_str.result.now) c.loop-end.invariant
    ∙ (ap (λ (l : List ℕ). end_lines E N ++ l) (c.as_str.ensures.value
    ∙ (c.in_ok-line.ensures ∙ ap (λ (l : List ℕ). end_line l x) c.deref.ensures.value)) ∙ sym all))

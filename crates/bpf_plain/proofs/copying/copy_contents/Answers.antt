use Rattle.std.proofs.Common.{◌≡◌, ℕ, suc, ◌+◌, ◌<◌, List, [], ◌∷◌, ◌++◌, length, take, get_or, ap, sym, ◌∙◌, arith}
use Rattle.std.proofs.Math.Seq.{take-suc}
use Rattle.std.specs.Prelude.{Vec}
use Rattle.std.specs.declared.alloc.Global.{Global}
use Rattle.bpf_shared.specs.Contents.{bytes_of_all}
use Rattle.bpf_plain.proofs.Vectors.{bytes_at, count_all, push_bytes}
use Rattle.bpf_plain.proofs.copying.copy_contents.Goals as goal

pub loop-bytes-preserved : goal.loop-bytes-preserved
loop-bytes-preserved c =
    let i = c.loop-bytes.bytes-index in
    let all = c.args.contents.now in
    let one = c.in_ok-copy_bytes.field-0 in
    let item = c.bytes-item.result in
    let inside : i < length all = c.loop-bytes-test.true in
    let next : suc i ≡ i + 1 = omega arith in
    let same : one.items ≡ get_or (bytes_of_all all) i [] = c.in_ok-copy_bytes.ensures ∙
    (c.deref.ensures.value ∙ (ap (λ (v : Vec ℕ Global). v.items) c.bytes-item.is ∙ sym (bytes_at all i item inside))) in
    ap bytes_of_all c.in_ok-push.ensures.items ∙ (push_bytes c.loop-bytes.copy.items one
    ∙ (ap (λ (xs : List (List ℕ)). xs ++ one.items ∷ []) c.loop-bytes.invariant
    ∙ (ap (λ (x : List ℕ). take i (bytes_of_all all) ++ x ∷ []) same
    ∙ (sym (take-suc (bytes_of_all all) i [] (let n = count_all all in omega arith)) ∙ ap (λ (n : ℕ). take n (bytes_of_all all)) next))))

use Rattle.std.proofs.Common.{◌≡◌, ◌++◌, ℕ, subst}
use Rattle.std.specs.Int.{to_le_bytes, w64}
use Rattle.bpf_expand.proofs.Tracing.{three_more}
use Rattle.bpf_expand.proofs.origin.push_origin.Goals as goal

pub returns : goal.returns
returns c =
    let origin = c.args.origin.now in
    let part = c.args.part.now.items in
    let all = c.push_number-3.new.part.items in
    subst (λ (n : ℕ). all ≡ part ++ (to_le_bytes w64 origin.number ++ (to_le_bytes w64 n ++ to_le_bytes w64 origin.ahead))) c.from.ensures
    (three_more part (to_le_bytes w64 origin.number) (to_le_bytes w64 c.from.result) (to_le_bytes w64 origin.ahead)
    c.push_number.new.part.items c.push_number-2.new.part.items all c.in_ok-push_number.ensures
    c.in_ok-push_number-2.ensures c.in_ok-push_number-3.ensures)

use Rattle.std.proofs.Common.{◌≡◌, ℕ, List, length, ap, subst, ◌∙◌}
use Rattle.bpf_base.specs.Bytes.{low_bytes, with_part}
use Rattle.bpf_shared.specs.Access.{bytes_in}
use Rattle.hop_map.proofs.Spliced.{bytes_of, spliced}
use Rattle.hop_map.proofs.parts.with_number.Goals as goal

pub returns : goal.returns
returns c =
    let o = c.args.offset in
    let n : ℕ = bytes_in c.args.size in
    let first = c.to_le_bytes-bytes.ensures ∙ bytes_of c.args.word in
    spliced c.args.word o n c.args.number c.from_le_bytes.result c.store.new.bytes (c.store.auto.bytes ∙ ap length first)
    (subst (λ (bs : List ℕ). c.store.new.bytes ≡ with_part bs o (low_bytes n c.args.number)) first c.store.ensures) c.from_le_bytes.ensures

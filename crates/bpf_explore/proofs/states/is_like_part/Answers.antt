use Rattle.std.proofs.Common.{◌≡◌, ℕ, Some, inl, ap, sym, subst}
use Rattle.std.specs.Prelude.{slice_get, slice_index_or}
use Rattle.bpf_cpu.specs.Task.{Task}
use Rattle.bpf_alike.specs.Worlds.{IsAlike}
use Rattle.bpf_machine.specs.Parts.{no_task}
use Rattle.bpf_explore.proofs.StateLaws.{part_read}
use Rattle.bpf_explore.proofs.states.is_like_part.Goals as goal

pub returns-then-number-other-clause-like : goal.returns-then-number-other-clause-like
returns-then-number-other-clause-like c is programs program right loaded = inl
    (ap (λ (n : ℕ). slice_index_or c.args.parts.now n no_task) (sym c.if-number-other.true))

pub returns-clause-like : goal.returns-clause-like
returns-clause-like c is programs program right loaded =
    let parts = c.args.parts.now in
    let one : c.index-parts-number.result ≡ slice_index_or parts c.args.number no_task = part_read parts c.args.number
    c.index-parts-number.result c.requires.within c.index-parts-number.is in
    let two : c.index-parts-other.result ≡ slice_index_or parts c.args.other no_task = part_read parts c.args.other
    c.index-parts-other.result c.requires.other c.index-parts-other.is in
    let there : slice_get programs c.index-parts-number.result.program ≡ Some program = subst
    (λ (t : Task). slice_get programs t.program ≡ Some program) (sym one) loaded in
    subst (λ (t : Task). IsAlike programs t (slice_index_or parts c.args.other no_task)) one
    (subst (IsAlike programs c.index-parts-number.result) two (c.are_alike.ensures is programs program right there))

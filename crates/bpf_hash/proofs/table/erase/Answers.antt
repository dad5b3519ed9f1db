use Rattle.std.proofs.Common.{◌≡◌, ◌≢◌, ℕ, ◌+◌, ◌*◌, ◌<◌, length, slice_index, set, inl, inr, ap, ◌∙◌, arith}
use Rattle.std.proofs.lemmas.List.{get_or-set_same, get_or-set_other, length-set, get_or_past}
use Rattle.std.proofs.lemmas.Bool.{cases_lt}
use Rattle.bpf_shared.proofs.Puts.{equal_or_not}
use Rattle.bpf_hash.proofs.Blocks.{in_block, one_place, suc-block}
use Rattle.bpf_hash.proofs.table.erase.Goals as goal

pub loop-element-preserved : goal.loop-element-preserved
loop-element-preserved c =
    let w = c.args.cpus in
    let e = c.loop-element.element in
    let old = c.loop-element.notes in
    let i = c.loop-element.invariant in
    let at : e * w + c.args.cpu < length old = omega (
      arith,
      in_block e c.args.elements w c.args.cpu c.loop-element-test.true
          c.requires.cpu,
      i.count,
      c.requires.notes,
    ) in
    record {
      count = length-set old (e * w + c.args.cpu) 0 ∙ i.count;
      here = λ k l. elim (equal_or_not k e) [
        | inl q ↦ ap (λ (n : ℕ). slice_index (set old (e * w + c.args.cpu) 0) (n * w + c.args.cpu)) q ∙ get_or-set_same old (e * w + c.args.cpu) 0 0 at
        | inr ne ↦
            let apart : k * w + c.args.cpu ≢ e * w + c.args.cpu = λ q. ne
            (Rattle.bpf_hash.proofs.Blocks.one_block k e w c.args.cpu c.args.cpu c.requires.cpu c.requires.cpu q) in
            get_or-set_other old (e * w + c.args.cpu) (k * w + c.args.cpu) 0 0 apart ∙ i.here k
            (let z : k ≡ e → _ = ne in elim (cases_lt k e) [ inl y ↦ y | inr y ↦ absurd (ne (omega arith)) ])
      ];
      others = λ k d l ne.
          let apart : k * w + d ≢ e * w + c.args.cpu = λ q. ne (one_place k e w d c.args.cpu l c.requires.cpu q) in
          get_or-set_other old (e * w + c.args.cpu) (k * w + d) 0 0 apart ∙ i.others k d l ne;
    }

pub returns : goal.returns
returns c =
    let i = c.loop-element.invariant in
    let w = c.args.cpus in
    record {
      count = i.count;
      here = λ k. elim (cases_lt k c.loop-element.element) [
        | inl l ↦ i.here k l
        | inr l ↦ get_or_past c.loop-element.notes (k * w + c.args.cpu) 0
            (omega (arith, suc-block c.args.elements k w (omega arith), i.count, c.requires.notes))
      ];
      others = i.others;
    }

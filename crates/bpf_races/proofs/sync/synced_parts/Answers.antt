use Rattle.std.proofs.Common.{◌≡◌, ◌∙◌, ℕ, List, Some, sym, ap, map, arith}
use Rattle.std.specs.Prelude.{slice_get, string_bytes}
use Rattle.bpf_names.specs.Names.{names_of}
use Rattle.bpf_races.proofs.Syncs.{name_there, one_more, all_below}
use Rattle.bpf_races.proofs.sync.synced_parts.Goals as goal

pub returns-in_default-clause-unknown : goal.returns-in_default-clause-unknown
returns-in_default-clause-unknown c =
    let text = c.as_bytes.result.now in
    let n = c.loop-text.text-index in
    let at : slice_get (map string_bytes c.args.sync.now) n ≡ Some text =
    name_there c.args.sync.now c.text-item.result n c.loop-text-test.true c.text-item.is ∙ ap (λ (x : List ℕ). Some x) (sym c.as_bytes.ensures.value) in
    (text, (n, at), c.in_default.ensures.none)

pub loop-text-preserved : goal.loop-text-preserved
loop-text-preserved c =
    let names = names_of c.args.names.now in
    let sync = map string_bytes c.args.sync.now in
    let text = c.as_bytes.result.now in
    let n = c.loop-text.text-index in
    let at : slice_get sync n ≡ Some text =
    name_there c.args.sync.now c.text-item.result n c.loop-text-test.true c.text-item.is ∙ ap (λ (x : List ℕ). Some x) (sym c.as_bytes.ensures.value) in
    one_more names c.args.shape.now.maps sync n c.loop-text.parts.items c.push.new.self.items text c.in-Some.part c.loop-text.invariant at
    c.in-Some.ensures.said c.in_ok-push.ensures.items

pub returns-clause-parts : goal.returns-clause-parts
returns-clause-parts c =
    all_below (names_of c.args.names.now) c.args.shape.now.maps c.args.sync.now c.loop-text.text-index c.loop-text.parts.items
    (let past = c.loop-text-test.false in omega arith) c.loop-text.invariant

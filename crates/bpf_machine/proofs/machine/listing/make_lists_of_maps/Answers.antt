use Rattle.std.proofs.Common.{◌≡◌, Some, length, sym, ap, ◌∙◌, arith}
use Rattle.std.specs.Prelude.{slice_get}
use Rattle.bpf_plain.specs.PlainStore.{shapes_of}
use Rattle.bpf_machine.proofs.KeyListLaws.{one_more_map, all_maps}
use Rattle.bpf_machine.proofs.machine.listing.make_lists_of_maps.Goals as goal

pub maps-preserved : goal.maps-preserved
maps-preserved c =
    let lists = c.maps.lists.items in
    let n : c.len.result ≡ length lists = omega (arith, c.len.ensures, c.maps.lists.ok.0) in
    let at : slice_get (shapes_of c.args.store.now) (length lists) ≡ Some c.in-Some.shape =
    ap (slice_get (shapes_of c.args.store.now)) (sym n) ∙ (sym c.shape.ensures.shape ∙ c.in-Some.is) in
    one_more_map (shapes_of c.args.store.now) lists c.push.new.self.items c.in_ok-new.field-0 c.in-Some.shape c.maps.invariant at
    (omega (arith, c.in-Some.ensures.in_range.0)) c.in_ok-new.ensures.shape c.in_ok-push.ensures.items

pub returns : goal.returns
returns c =
    let lists = c.maps.lists.items in
    let n : c.len.result ≡ length lists = omega (arith, c.len.ensures, c.maps.lists.ok.0) in
    all_maps (shapes_of c.args.store.now) lists c.len.result n (sym c.shape.ensures.shape ∙ c.in_default.is) c.maps.invariant

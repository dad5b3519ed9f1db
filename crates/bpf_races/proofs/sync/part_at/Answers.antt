use Rattle.std.proofs.Common.{◌≡◌, ◌∙◌, ℕ, ◌<◌, List, Some, length, get_or, map, ap, sym, arith}
use Rattle.std.specs.Prelude.{slice_get, string_bytes}
use Rattle.std.specs.List.{before_first}
use Rattle.std.specs.Cmp.Lexicographic.{same_text, other_text}
use Rattle.bpf_races.specs.Sync.{is_mark}
use Rattle.bpf_races.proofs.Syncs.{all_said, name_there, no_sizes, none_left, none_named, sizes_there}
use Rattle.bpf_races.proofs.sync.part_at.Goals as goal

pub returns-then-eq-clause-said : goal.returns-then-eq-clause-said
returns-then-eq-clause-said c =
    let n = c.args.number in
    let own = c.maps-maps.result.now in
    let inside : n < length own = (let past = c.if-number-maps.false in omega arith) in
    let same = sym c.as_bytes.ensures.value ∙ (same_text c.as_bytes.result.now c.before_mark.result.now c.if-eq.ensures ∙ c.before_mark.ensures) in
    let named : slice_get (map string_bytes c.args.names.now) n ≡ Some (before_first (is_mark 43) c.args.text.now) =
    name_there c.args.names.now c.index-names-number.result n c.requires.named c.index-names-number.is ∙ ap (λ (x : List ℕ). Some x) same in
    all_said (map string_bytes c.args.names.now) c.args.shape.now.maps c.args.text.now n (get_or own n no_sizes)
    (sizes_there c.args.shape.now.maps own n c.maps-maps.ensures.maps inside) named c.range_part.result c.range_part.ensures.some

pub returns-then-eq-clause-none : goal.returns-then-eq-clause-none
returns-then-eq-clause-none c =
    let n = c.args.number in
    let own = c.maps-maps.result.now in
    let inside : n < length own = (let past = c.if-number-maps.false in omega arith) in
    none_left (map string_bytes c.args.names.now) c.args.shape.now.maps c.args.text.now n (get_or own n no_sizes)
    (sizes_there c.args.shape.now.maps own n c.maps-maps.ensures.maps inside) c.range_part.result c.range_part.ensures.none

pub returns-else-eq-clause-none : goal.returns-else-eq-clause-none
returns-else-eq-clause-none c =
    let n = c.args.number in
    none_named (map string_bytes c.args.names.now) c.args.shape.now.maps c.args.text.now n (string_bytes c.index-names-number.result)
    (name_there c.args.names.now c.index-names-number.result n c.requires.named c.index-names-number.is)
    (λ same. other_text c.as_bytes.result.now c.before_mark.result.now c.if-eq.ensures (c.as_bytes.ensures.value ∙ (same ∙ sym c.before_mark.ensures)))

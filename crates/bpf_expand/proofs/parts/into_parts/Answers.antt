use Rattle.std.proofs.Common.{◌∙◌, ◌≡◌, ◌+◌, ◌<◌, ◌++◌, ◌∷◌, [], List, ℕ, Some, Vec, Global, ap, length, map, option_map, set, slice_get}
use Rattle.std.proofs.Common.{subst, sym, take, arith}
use Rattle.std.proofs.lemmas.List.{length-map, map-append, map-set}
use Rattle.std.proofs.lemmas.Option.{slice_get-get_or, slice_get-map}
use Rattle.bpf_expand.specs.Parts.{AreParts, part_of, record_of}
use Rattle.bpf_expand.proofs.PartLemmas.{parts_more, take_more}
use Rattle.bpf_expand.proofs.parts.into_parts.Goals as goal

pub loop-state-preserved : goal.loop-state-preserved
loop-state-preserved c =
    let n = c.args.count in
    let p = c.part_of-part.result in
    let parts = c.loop-state.parts.items in
    let old = c.index_mut.result.now in
    let new = c.push_record.new.part in
    let state = c.state-item.result in
    let states = c.args.states.now in
    let here : slice_get states c.loop-state.state-index ≡ Some state =
    slice_get-get_or states c.loop-state.state-index state (omega (arith, c.loop-state-test.true, c.loop-state.auto.state-index-end))
    ∙ ap (λ (v : Vec ℕ Global). Some v) (sym c.state-item.is) in
    let many = length-map parts (λ v. v.items) in
    let less : p < length parts = omega (arith, many, c.loop-state.invariant.0, c.part_of-part.ensures.within) in
    let at : slice_get (map (λ v. v.items) parts) p ≡ Some old.items =
    slice_get-map (λ v. v.items) parts p ∙ ap (option_map (λ v. v.items))
    (slice_get-get_or parts p old less ∙ ap (λ (v : Vec ℕ Global). Some v) (sym c.index_mut.ensures.value)) in
    let is : p ≡ part_of n state.items = c.part_of-part.ensures.part ∙ ap (part_of n) c.deref.ensures.value in
    let grows : new.items ≡ old.items ++ record_of state.items =
    c.in_ok-push_record.ensures ∙ ap (λ (l : List ℕ). old.items ++ record_of l) c.deref-in-loop-state.ensures.value in
    let more : map (λ v. v.items) (take (c.loop-state.state-index + 1) states) ≡ map (λ v. v.items) (take c.loop-state.state-index states) ++ state.items ∷ [] =
    ap (λ (l : List _). map (λ v. v.items) l) (take_more states c.loop-state.state-index state here)
    ∙ map-append (λ v. v.items) (take c.loop-state.state-index states) (state ∷ []) in
    subst (λ (l : List (List ℕ)). AreParts n l (map (λ v. v.items) (set parts p new))) (sym more)
    (subst (λ (l : List (List ℕ)). AreParts n (map (λ v. v.items) (take c.loop-state.state-index states) ++ state.items ∷ []) l)
    (sym (map-set (λ v. v.items) parts p new))
    (parts_more n (map (λ v. v.items) (take c.loop-state.state-index states)) (map (λ v. v.items) parts) state.items old.items new.items p
    c.loop-state.invariant is
    c.part_of-part.ensures.within at grows))

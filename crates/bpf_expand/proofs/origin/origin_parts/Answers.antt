use Rattle.std.proofs.Common.{◌∙◌, ◌≡◌, ◌+◌, ◌<◌, ◌++◌, ◌∷◌, [], List, ℕ, Some, Vec, Global, ap, length, map, option_map, set, slice_get}
use Rattle.std.proofs.Common.{subst, sym, take, arith}
use Rattle.std.proofs.lemmas.List.{length-set, map-append, map-set}
use Rattle.std.proofs.Math.Seq.{take-length}
use Rattle.std.proofs.lemmas.Option.{slice_get-get_or, slice_get-map}
use Rattle.bpf_expand.specs.Parts.{AreOrigins, LeadsTo, origin_bytes, part_of}
use Rattle.bpf_expand.proofs.PartLemmas.{take_more}
use Rattle.bpf_expand.proofs.Tracing.{origins_more, paired_at}
use Rattle.bpf_expand.proofs.origin.origin_parts.Goals as goal

pub returns : goal.returns
returns c =
    let states = c.args.states.now in
    let all : take c.loop-number.number states ≡ states =
    (let e : c.loop-number.number ≡ length states = omega (arith, c.loop-number-test.false, c.loop-number.auto.number-end) in
    ap (λ (k : ℕ). take k states) e) ∙ take-length states in
    λ h read pairs.
    subst (λ (l : List (Vec ℕ Global)). AreOrigins h read c.args.count (map (λ v. v.items) l) (map (λ v. v.items) c.loop-number.parts.items)) all
    (c.loop-number.invariant.origins h read pairs)

pub loop-number-preserved : goal.loop-number-preserved
loop-number-preserved c =
    let n = c.args.count in
    let i = c.loop-number.number in
    let p = c.part_of-part.result in
    let parts = c.loop-number.parts.items in
    let old = c.index_mut.result.now in
    let new = c.push_origin.new.part in
    let state = c.index-states-number.result in
    let origin = c.origin_at-origin.result.now in
    let states = c.args.states.now in
    let origins = c.args.origins.now in
    let before = map (λ v. v.items) (take i states) in
    let within : i < length states = omega (arith, c.loop-number-test.true, c.loop-number.auto.number-end) in
    let here : slice_get states i ≡ Some state = slice_get-get_or states i state within
    ∙ ap (λ (v : Vec ℕ Global). Some v) (sym c.index-states-number.is) in
    let there : slice_get origins i ≡ Some origin = c.origin_at-origin.ensures in
    let less : p < length parts = omega (arith, c.loop-number.invariant.count, c.part_of-part.ensures.within) in
    let at : slice_get (map (λ v. v.items) parts) p ≡ Some old.items =
    slice_get-map (λ v. v.items) parts p ∙ ap (option_map (λ v. v.items))
    (slice_get-get_or parts p old less ∙ ap (λ (v : Vec ℕ Global). Some v) (sym c.index_mut.ensures.value)) in
    let is : p ≡ part_of n state.items = c.part_of-part.ensures.part ∙ ap (part_of n) c.deref.ensures.value in
    let grows : new.items ≡ old.items ++ origin_bytes origin = c.in_ok-push_origin.ensures in
    let more : map (λ v. v.items) (take (i + 1) states) ≡ before ++ state.items ∷ [] =
    ap (λ (l : List _). map (λ v. v.items) l) (take_more states i state here) ∙ map-append (λ v. v.items) (take i states) (state ∷ []) in
    record {
      count = length-set parts p new ∙ c.loop-number.invariant.count;
      origins = λ h read pairs.
          subst (λ (l : List (List ℕ)). AreOrigins h read n l (map (λ v. v.items) (set parts p new))) (sym more)
          (subst (λ (l : List (List ℕ)). AreOrigins h read n (before ++ state.items ∷ []) l) (sym (map-set (λ v. v.items) parts p new))
          (origins_more h read n before (map (λ v. v.items) parts) state.items old.items new.items origin p (c.loop-number.invariant.origins h read pairs)
          (paired_at (LeadsTo h read) origins (map (λ v. v.items) states) i origin state.items pairs there
          (slice_get-map (λ v. v.items) states i ∙ ap (option_map (λ v. v.items)) here))
          is
          c.part_of-part.ensures.within at grows));
    }

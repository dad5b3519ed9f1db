use denote.Enum.Bare.{same_true}
use Rattle.std.proofs.Common.{◌≡◌, ℕ, ◌+◌, ◌<◌, List, [], ◌∷◌, ◌++◌, length, map, take, get_or, ap, sym, subst, ◌∙◌, arith}
use Rattle.std.proofs.lemmas.List.{map-append, length-map, get_or-map}
use Rattle.bpf_shared.specs.declared.events.Event.TheVariants.{Update}
use Rattle.bpf_shared.specs.declared.events.MapAnswer.{MapAnswer}
use Rattle.bpf_shared.specs.declared.events.MapAnswer.TheVariants.{Done}
use Rattle.bpf_shared.specs.contracts.events.MapAnswer.{the_type}
use Rattle.bpf_shared.specs.Passage.{Calls}
use Rattle.bpf_shared.specs.Chain.{Chain}
use Rattle.bpf_shared.specs.Shape.{Shape, IsPairOf}
use Rattle.bpf_shared.proofs.Chains.{chain_call}
use Rattle.bpf_pairs.specs.declared.pairs.Pair.{Pair as Given}
use Rattle.bpf_pairs.specs.Pairs.{Pair, pair_of}
use Rattle.bpf_pairs.specs.Putting.{put_event, put_events}
use Rattle.bpf_pairs.proofs.Counting.{more}
use Rattle.bpf_pairs.proofs.putting.update_all.Goals as goal
use Rattle.bpf_pairs.proofs.putting.update_all.Goals.{then-done, else-done}

-- the pair that is at its place
its_pair : (ps : List Given) (k : ℕ) (r : Given) → k < length ps → r ≡ get_or ps k r → get_or (map pair_of ps) k (pair_of r) ≡ pair_of r
its_pair ps k r inside is = get_or-map pair_of ps k r (pair_of r) inside ∙ ap pair_of (sym is)

pub update-answer-requires-clause-pair : goal.update-answer-requires-clause-pair
update-answer-requires-clause-pair g c =
    let S = g.S.Shared in
    let ps = c.args.pairs.now in
    let k = c.loop-pair.pair-index in
    let r = c.pair-item.result in
    let long = length-map ps pair_of in
    let at = c.requires.pairs.sized k (pair_of r) (omega (arith, c.loop-pair-test.true, long)) in
    let its : IsPairOf (S.shapes c.args.shared.now).maps r.map r.key.items r.value.items =
    subst (λ (p : Pair). IsPairOf (S.shapes c.args.shared.now).maps p.map p.key p.value) (its_pair ps k r c.loop-pair-test.true c.pair-item.is) at in
    subst (λ (s : Shape). IsPairOf s.maps r.map c.deref.result.now c.deref-in-loop-pair.result.now) (sym c.loop-pair.invariant.shaped)
    (subst (λ (key : List ℕ). IsPairOf (S.shapes c.args.shared.now).maps r.map key c.deref-in-loop-pair.result.now) (sym c.deref.ensures.value)
    (subst (λ (value : List ℕ). IsPairOf (S.shapes c.args.shared.now).maps r.map r.key.items value) (sym c.deref-in-loop-pair.ensures.value) its))

-- one update more
next_events : (ps : List Given) (k : ℕ) (r : Given) → k < length ps → r ≡ get_or ps k r → put_events (map pair_of (take k ps)) ++ put_event
    (pair_of r) ∷ [] ≡ put_events (map pair_of (take (k + 1) ps))
next_events ps k r inside is =
    ap (λ (q : Given). put_events (map pair_of (take k ps)) ++ put_event (pair_of q) ∷ []) is
    ∙ sym (ap put_events (more ps k r inside) ∙ map-append put_event (map pair_of (take k ps)) (pair_of (get_or ps k r) ∷ []))

pub loop-pair-preserved : goal.loop-pair-preserved
loop-pair-preserved g c =
    let S = g.S.Shared in
    let ps = c.args.pairs.now in
    let k = c.loop-pair.pair-index in
    let r = c.pair-item.result in
    record {
      served = c.update-answer.ensures.same.1 ∙ c.loop-pair.invariant.served;
      shaped = c.update-answer.ensures.same.0 ∙ c.loop-pair.invariant.shaped;
      runs = c.update-answer.ensures.same.2 ∙ c.loop-pair.invariant.runs;
      chain = λ d. elim c.if-done.branch [
        | then-done w ↦
            let was : c.update-answer.result ≡ Done = same_true the_type tt c.update-answer.result Done (sym w.eq-done.ensures ∙ sym w.done-is ∙ d) in
            let x = c.args.shared.now in
            let y = c.loop-pair.shared in
            let z = c.update-answer.new.self in
            let call = subst (λ (v : List ℕ). Calls (S.passes y z) (S.serves y) c.args.cpu (Update r.map r.key.items v 0 Done))
            c.deref-in-loop-pair.ensures.value
            (subst (λ (key : List ℕ). Calls (S.passes y z) (S.serves y) c.args.cpu
            (Update r.map key c.deref-in-loop-pair.result.now 0 Done)) c.deref.ensures.value
            (subst (λ (a : MapAnswer). Calls (S.passes y z) (S.serves y) c.args.cpu
            (Update r.map c.deref.result.now c.deref-in-loop-pair.result.now 0 a)) was c.update-answer.ensures.answered)) in
            subst (Chain S.passes S.serves c.args.cpu x z) (next_events ps k r c.loop-pair-test.true c.pair-item.is)
            (chain_call S.passes S.serves c.args.cpu g.met.S.Shared.follows x y z (put_events (map pair_of (take k ps)))
            (put_event (pair_of r)) c.requires.serves
            (c.loop-pair.invariant.chain w.if-done.true) call c.update-answer.ensures.same.1)
        | else-done w ↦ cc (w.done-is, w.if-done.false, d)
      ];
    }

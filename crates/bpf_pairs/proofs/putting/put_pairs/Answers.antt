use Rattle.std.proofs.Common.{◌≡◌, false, List, [], ◌∷◌, ◌++◌, length, map, refl, sym, subst, ◌∙◌, eq-eqb}
use Rattle.std.proofs.lemmas.List.{length-map}
use Rattle.std.specs.Prelude.{Result, Ok, Err, is_err, OnOk}
use Rattle.bpf_shared.specs.declared.events.Event.TheVariants.{Begin, End}
use Rattle.bpf_shared.specs.Chain.{Chain}
use Rattle.bpf_shared.proofs.Chains.{chain_one, chain_join, chain_call}
use Rattle.bpf_pairs.specs.Pairs.{Pair, pair_of}
use Rattle.bpf_pairs.specs.Putting.{put_events, run_events}
use Rattle.bpf_pairs.proofs.putting.put_pairs.Goals as goal

on_ok : {E : Type 0} {U : Type 0} (r : Result U E) (P : Type 0) → false ≡ is_err r → OnOk r P → P
on_ok (Ok u) P e h = h
on_ok (Err d) P e h = cc

-- where there are pairs there is a run
some : (ps : List Pair) → (length ps ≡ 0 → ⊥) → ((Begin ∷ []) ++ put_events ps) ++ End ∷ [] ≡ run_events ps
some [] none = absurd (none refl)
some (p ∷ ps) none = refl

pub returns-clause-put : goal.returns-clause-put
returns-clause-put g c done =
    let S = g.S.Shared in
    let ps = map pair_of c.args.pairs.now in
    let x = c.args.shared.now in
    let a = c.begin.new.self in
    let b = c.update_all-done.new.shared in
    let begun : Chain S.passes S.serves c.args.cpu x a (Begin ∷ []) = chain_one S.passes S.serves c.args.cpu x a Begin c.requires.serves
    (on_ok c.begin.result _ (sym c.if-is_err.false ∙ c.is_err.ensures.value) c.begin.ensures.begun) c.begin.ensures.same.1 in
    let put : Chain S.passes S.serves c.args.cpu x b ((Begin ∷ []) ++ put_events ps) = chain_join S.passes S.serves c.args.cpu
    g.met.S.Shared.follows x a b (Begin ∷ []) (put_events ps) begun (c.update_all-done.ensures.put done) in
    let ended = chain_call S.passes S.serves c.args.cpu g.met.S.Shared.follows x b c.end.new.self ((Begin ∷ []) ++ put_events ps) End
    c.requires.serves put c.end.ensures.ended c.end.ensures.same.1 in
    subst (Chain S.passes S.serves c.args.cpu x c.end.new.self) (some ps
    (λ e. let z = eq-eqb (length c.args.pairs.now) 0 (sym (length-map c.args.pairs.now pair_of) ∙ e) in cc (c.is_empty.ensures, c.if-is_empty.false, z)))
    ended

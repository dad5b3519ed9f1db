use Rattle.std.proofs.Common.{◌∙◌, ◌≤◌, ◌<◌, ℕ, List, length, sym, subst, arith}
use Rattle.std.specs.Prelude.{All, drop}
use Rattle.bpf_live.specs.Live.{Table}
use Rattle.bpf_explore.specs.Tuples.{IsTuple, tuple_at}
use Rattle.bpf_explore.specs.Private.States.{AreOfParts, IsAlikeTuple, StateList}
use Rattle.bpf_explore.proofs.states.States.is_at.Goals as goal

pub is_like-requires : goal.is_like-requires
is_like-requires c =
    let t = c.tuple-tuple.ensures.tuple in
    let inside = subst (λ (v : StateList). AreOfParts c.args.parts.now v.tuples) (sym c.self.view_is) c.requires.states in
    let width = c.tuple-tuple.ensures.width in
    let some = c.tuple-tuple.ensures.some in
    let many : 1 ≤ length c.tuple-tuple.result.now = omega arith in
    record {
      some = (c.requires.some, many);
      within = c.requires.within;
      others = subst (λ (ns : List ℕ). All (λ n. n < length c.args.parts.now) (drop 1 ns)) t.1 (inside c.args.number t.0);
    }

pub returns-clause-alike : goal.returns-clause-alike
returns-clause-alike c is = let parts = c.args.parts.now in
    let numbers = c.args.numbers.now in
    let m = c.self.inside in
    let found : IsAlikeTuple m.tables.items parts numbers (tuple_at m.tuples c.args.number) = subst
    (λ (t : List ℕ). IsAlikeTuple m.tables.items parts numbers t) (sym c.tuple-tuple.ensures.tuple.1)
    (subst (λ (ts : List Table). IsAlikeTuple ts parts numbers c.tuple-tuple.result.now) c.deref.ensures.value (c.is_like.ensures.alike is)) in
    subst (λ (v : StateList). IsAlikeTuple v.tables parts numbers (tuple_at v.tuples c.args.number)) c.self.view_is found

pub returns-clause-differs : goal.returns-clause-differs
returns-clause-differs c is there = let here = subst (λ (v : StateList). IsTuple v.tuples c.args.number c.args.numbers.now) (sym c.self.view_is) there in
    c.is_like.ensures.differs is (sym here.1 ∙ c.tuple-tuple.ensures.tuple.1)

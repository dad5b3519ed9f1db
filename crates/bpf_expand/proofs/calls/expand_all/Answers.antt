use Rattle.std.proofs.Common.{◌≡◌, ◌∙◌, ◌<◌, ◌++◌, List, ℕ, Some, Vec, Global, ap, length, map, option_map, slice_get, subst, sym, arith}
use Rattle.std.proofs.lemmas.List.Sums.{fold-append}
use Rattle.std.proofs.lemmas.Option.{slice_get-get_or, slice_get-map}
use Rattle.bpf_names.specs.Names.{names_of}
use Rattle.bpf_expand.specs.Parts.{AreFound, put, put_all}
use Rattle.bpf_expand.specs.Private.Traced.{AreTraced}
use Rattle.bpf_expand.specs.State.{Host}
use Rattle.bpf_expand.proofs.Calling.{found_more}
use Rattle.bpf_expand.proofs.calls.expand_all.Goals as goal

pub loop-number-preserved : goal.loop-number-preserved
loop-number-preserved c =
    let read = c.args.read.now in
    let all = map (λ v. v.items) read in
    let n = c.loop-number.number in
    let one = c.index-read-number.result in
    let bytes = c.deref.result.now in
    let h : Host = c.expand.new.expander.host in
    let names = names_of c.args.names.now in
    let less : n < length read = omega (arith, c.loop-number-test.true, c.loop-number.auto.number-end) in
    let at : slice_get all n ≡ Some bytes =
    slice_get-map (λ v. v.items) read n
    ∙ (ap (option_map (λ v. v.items)) (slice_get-get_or read n one less ∙ ap (λ (v : Vec ℕ Global). Some v) (sym c.index-read-number.is))
    ∙ ap (λ (l : List ℕ). Some l) (sym c.deref.ensures.value)) in
    let was = c.loop-number.invariant.found in
    let more = c.in_ok-expand.ensures.found c.if-not-branch.false in
    let before = subst (λ (x : Host). AreFound x names all n was.0 was.1) (sym c.expand.ensures.same) was.2 in
    let found = found_more h names all n bytes was.0 more.0 was.1 more.1 at before more.2 in
    record {
      host = c.expand.ensures.same ∙ c.loop-number.invariant.host;
      found = (
        was.0 ++ more.0,
        was.1 ++ more.1,
        found,
        more.3 ∙ (ap (λ (l : List (List ℕ)). put_all l more.0) was.3 ∙ sym (fold-append put c.args.found.now.known was.0 more.0)),
        more.4 ∙ (ap (λ (l : List (List ℕ)). put_all l more.1) was.4 ∙ sym (fold-append put c.args.found.now.ends was.1 more.1)),
      );
      traced = λ first start.
          c.in_ok-expand.ensures.traced c.if-not-branch.false all first at
          (subst (λ (x : Host). AreTraced x names all first c.loop-number.found) (sym c.expand.ensures.same)
          (c.loop-number.invariant.traced first
          (subst (λ (x : Host). AreTraced x names all first c.args.found.now) c.expand.ensures.same start)));
    }

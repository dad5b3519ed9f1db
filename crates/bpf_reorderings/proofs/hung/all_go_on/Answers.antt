use Rattle.std.proofs.Common.{◌≡◌, ◌∙◌, List, inl, inr, length, refl, sym, ap, subst, arith}
use Rattle.std.proofs.lemmas.Bool.{cases_lt}
use Rattle.std.proofs.lemmas.Option.{slice_get_within}
use Rattle.bpf_machine.specs.Schedule.{World}
use Rattle.bpf_buffering.specs.Search.{BufferedState}
use Rattle.bpf_reorderings.specs.Private.Answers.{CanRunOut}
use Rattle.bpf_reorderings.specs.Private.Hung.{NoneRanOutAt}
use Rattle.bpf_reorderings.specs.Private.Searching.{BeginsAt}
use Rattle.bpf_reorderings.proofs.hung.all_go_on.Goals as goal

pub loop-place-init : goal.loop-place-init
loop-place-init c = record { same = refl; patient = refl; none = λ i less. absurd (omega arith) }

pub none_ran_out-requires : goal.none_ran_out-requires
none_ran_out-requires c =
    let size : length c.loop-place.explorer.kept ≡ length c.args.explorer.now.kept =
    ap (λ (ms : List BufferedState). length ms) c.loop-place.invariant.same in
    omega arith

pub show_run_out-requires : goal.show_run_out-requires
show_run_out-requires c =
    let same = c.none_ran_out.ensures.same ∙ c.loop-place.invariant.same in
    let size : length c.none_ran_out.new.explorer.kept ≡ length c.args.explorer.now.kept = ap (λ (ms : List BufferedState). length ms) same in
    record {
      patient = c.none_ran_out.ensures.patient ∙ c.loop-place.invariant.patient ∙ c.requires.patient;
      place = omega arith;
      begins = subst (λ (ms : List BufferedState). (w : World) × BeginsAt ms w) (sym same) c.requires.begins;
      out = λ none. c.in_ok-none_ran_out.ensures.out c.if-not-branch.true
          (subst (λ (ms : List BufferedState). NoneRanOutAt ms c.loop-place.place) c.none_ran_out.ensures.same none);
    }

pub returns-then-not-branch-clause-out : goal.returns-then-not-branch-clause-out
returns-then-not-branch-clause-out c is =
    subst CanRunOut (c.none_ran_out.ensures.same ∙ c.loop-place.invariant.same) c.in_ok-show_run_out.ensures.out

pub loop-place-preserved : goal.loop-place-preserved
loop-place-preserved c =
    let inv = c.loop-place.invariant in
    let kept = c.args.explorer.now.kept in
    let place = c.loop-place.place in
    let here : NoneRanOutAt kept place = subst (λ (ms : List BufferedState). NoneRanOutAt ms place) inv.same
    (c.in_ok-none_ran_out.ensures.none c.if-not-branch.false) in
    record {
      same = c.none_ran_out.ensures.same ∙ inv.same;
      patient = c.none_ran_out.ensures.patient ∙ inv.patient;
      none = λ i less. elim (cases_lt i place) [
        | inl below ↦ inv.none i below
        | inr past ↦ let e : place ≡ i = omega arith in subst (NoneRanOutAt kept) e here
      ];
    }

pub returns-clause-on : goal.returns-clause-on
returns-clause-on c is i m at =
    let inside = slice_get_within c.args.explorer.now.kept i m at in
    c.loop-place.invariant.none i (omega arith) m at

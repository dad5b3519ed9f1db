use Rattle.std.proofs.Common.{refl, sym, subst, arith}
use Rattle.std.proofs.lemmas.Option.{slice_get_within}
use Rattle.bpf_explore.specs.Private.Answers.{StartsFresh}
use Rattle.bpf_explore.specs.Private.Replays.{CanRunOut}
use Rattle.bpf_explore.proofs.hung.all_go_on.Goals as goal

pub show_run_out-requires-clause-fresh : goal.show_run_out-requires-clause-fresh
show_run_out-requires-clause-fresh c = subst StartsFresh (sym c.loop-place.invariant.0) c.requires

pub show_run_out-requires-clause-out : goal.show_run_out-requires-clause-out
show_run_out-requires-clause-out c none = c.if-not-none_ran_out.ensures.out refl none

pub returns-then-not-none_ran_out-clause-out : goal.returns-then-not-none_ran_out-clause-out
returns-then-not-none_ran_out-clause-out c is = subst CanRunOut c.loop-place.invariant.0 c.in_ok-show_run_out.ensures.out

pub returns-clause-on : goal.returns-clause-on
returns-clause-on c is i m at =
    let inside = slice_get_within c.args.explorer.now.kept i m at in
    c.loop-place.invariant.2 i (omega arith) m at

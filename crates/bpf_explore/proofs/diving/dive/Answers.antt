use Rattle.std.proofs.Common.{◌∙◌, ◌∷◌, ℕ, List, refl, replicate, sym, subst}
use Rattle.bpf_machine.specs.Schedule.{unrolled}
use Rattle.bpf_explore.proofs.DiveLaws.{RunsTo, no_turns, more_turns}
use Rattle.bpf_explore.proofs.diving.dive.Goals as goal

pub loop-init : goal.loop-init
loop-init c = record {
  runs = subst (λ (by : List (ℕ × ℕ)). RunsTo c.args.album.now.machine (unrolled by) c.args.album.now.machine) (sym c.new-by.ensures.items)
      (no_turns c.args.album.now.machine);
  same = refl;
  cpus = refl;
  stock = refl;
}

pub loop-preserved : goal.loop-preserved
loop-preserved c = record {
  runs = subst (λ (cs : List ℕ). RunsTo c.args.album.now.machine cs c.turn_ahead-ahead.new.self.machine) (sym c.in_ok-add_turns.ensures)
      (more_turns c.args.album.now.machine c.loop.album.machine c.turn_ahead-ahead.new.self.machine (unrolled c.loop.by.items)
      (c.in-Some.cpu ∷ replicate c.turn_ahead-ahead.result c.in-Some.cpu) c.loop.invariant.runs c.turn_ahead-ahead.ensures.runs);
  same = c.turn_ahead-ahead.ensures.same ∙ c.loop.invariant.same;
  cpus = c.turn_ahead-ahead.ensures.cpus ∙ c.loop.invariant.cpus;
  stock = c.turn_ahead-ahead.ensures.stock ∙ c.loop.invariant.stock;
}

pub returns-in_err-add_turns-clause-same : goal.returns-in_err-add_turns-clause-same
returns-in_err-add_turns-clause-same c = c.turn_ahead-ahead.ensures.same ∙ c.loop.invariant.same

pub returns-in_err-add_turns-clause-cpus : goal.returns-in_err-add_turns-clause-cpus
returns-in_err-add_turns-clause-cpus c = c.turn_ahead-ahead.ensures.cpus ∙ c.loop.invariant.cpus

pub returns-in_err-add_turns-clause-stock : goal.returns-in_err-add_turns-clause-stock
returns-in_err-add_turns-clause-stock c = c.turn_ahead-ahead.ensures.stock ∙ c.loop.invariant.stock

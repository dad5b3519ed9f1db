use Rattle.std.proofs.Common.{inr, subst, sym}
use Rattle.std.proofs.lemmas.Bool.{not-false}
use Rattle.bpf_threads.specs.Private.Charts.{AreCharts}
use Rattle.bpf_threads.proofs.threads.may_differ.Goals as goal

pub are_roomy-requires : goal.are_roomy-requires
are_roomy-requires c = subst (AreCharts c.args.programs.now) (sym c.deref.ensures.value) c.in_ok-charts.ensures

pub are_read_whole-whole-requires : goal.are_read_whole-whole-requires
are_read_whole-whole-requires c = subst (AreCharts c.args.programs.now) (sym c.deref-2.ensures.value) c.in_ok-charts.ensures

pub returns : goal.returns
returns c = record {
  elements = λ no. inr (c.in_ok-roomy.ensures (not-false c.in_ok-roomy.roomy no));
  parts = λ no. inr (c.are_read_whole-whole.ensures (not-false c.are_read_whole-whole.result no));
}

use Rattle.std.proofs.Common.{◌≡◌, ◌∙◌, ◌<◌, List, ◌∷◌, [], ◌++◌, Some, length, refl, sym, ap, subst, length-append, arith}
use Rattle.std.specs.Prelude.{slice_get}
use Rattle.bpf_buffering.specs.Search.{BufferedState}
use Rattle.bpf_reorderings.specs.declared.edges.Edge.{Edge}
use Rattle.bpf_reorderings.specs.Private.Edges.{IsEdge}
use Rattle.bpf_reorderings.proofs.Marking.{next_edge}
use Rattle.bpf_reorderings.proofs.edges.edges_from.Goals as goal

pub loop-cpu-init : goal.loop-cpu-init
loop-cpu-init c = record {
  same = refl;
  patient = refl;
  count = ap (λ (es : List Edge). length es) c.new-row.ensures.items;
  each = λ d e at. (let none : slice_get [] d ≡ Some e = ap (λ (es : List Edge). slice_get es d) (sym c.new-row.ensures.items) ∙ at in cc);
}

pub edge_from-requires-clause-patient : goal.edge_from-requires-clause-patient
edge_from-requires-clause-patient c = c.loop-cpu.invariant.patient ∙ c.requires.patient

pub edge_from-requires-clause-place : goal.edge_from-requires-clause-place
edge_from-requires-clause-place c = subst (λ (ms : List BufferedState). c.args.place < length ms) (sym c.loop-cpu.invariant.same) c.requires.place

pub loop-cpu-preserved : goal.loop-cpu-preserved
loop-cpu-preserved c =
    let inv = c.loop-cpu.invariant in
    let row = c.loop-cpu.row.items in
    let one = c.in_ok-edge.edge in
    let pushed : c.push.new.self.items ≡ row ++ one ∷ [] = c.in_ok-push.ensures.items in
    let count = inv.count in
    let both = length-append row (one ∷ []) in
    let size : length c.push.new.self.items ≡ length (row ++ one ∷ []) = ap (λ (es : List Edge). length es) pushed in
    record {
      same = c.in_ok-edge.ensures.same ∙ inv.same;
      patient = c.edge_from.ensures.patient ∙ inv.patient;
      count = omega arith;
      each = next_edge c.args.explorer.now.kept c.args.place c.loop-cpu.cpu row c.push.new.self.items one count pushed inv.each
          (subst (λ (ms : List BufferedState). IsEdge ms c.args.place c.loop-cpu.cpu one) inv.same c.in_ok-edge.ensures.edge);
    }

pub returns-clause-edges : goal.returns-clause-edges
returns-clause-edges c =
    let count = c.loop-cpu.invariant.count in
    record {
      each = c.loop-cpu.invariant.each;
      beyond = λ d past. c.cpus-cpu-end.ensures.beyond c.args.place d (omega arith);
    }

use Rattle.std.proofs.Common.{◌≡◌, ◌∙◌, List, ◌∷◌, [], ◌++◌, Some, length, refl, sym, ap, subst, length-append, arith}
use Rattle.std.specs.Prelude.{Vec, slice_get}
use Rattle.std.specs.declared.alloc.Global.{Global}
use Rattle.bpf_buffering.specs.Search.{BufferedState}
use Rattle.bpf_reorderings.specs.declared.edges.Edge.{Edge}
use Rattle.bpf_reorderings.specs.Private.Edges.{AreEdgesFrom}
use Rattle.bpf_reorderings.proofs.Marking.{next_row}
use Rattle.bpf_reorderings.proofs.edges.find_edges.Goals as goal

pub loop-place-init : goal.loop-place-init
loop-place-init c = record {
  same = refl;
  patient = refl;
  count = ap (λ (rs : List (Vec Edge Global)). length rs) c.new-rows.ensures.items;
  each = λ i row at. (let none : slice_get [] i ≡ Some row = ap (λ (rs : List (Vec Edge Global)). slice_get rs i) (sym c.new-rows.ensures.items) ∙ at in cc);
}

pub edges_from-requires-clause-patient : goal.edges_from-requires-clause-patient
edges_from-requires-clause-patient c = c.loop-place.invariant.patient ∙ c.requires

pub edges_from-requires-clause-place : goal.edges_from-requires-clause-place
edges_from-requires-clause-place c =
    let size : length c.loop-place.explorer.kept ≡ length c.args.explorer.now.kept =
    ap (λ (ms : List BufferedState). length ms) c.loop-place.invariant.same in
    omega arith

pub loop-place-preserved : goal.loop-place-preserved
loop-place-preserved c =
    let inv = c.loop-place.invariant in
    let rows = c.loop-place.rows.items in
    let one = c.in_ok-row.row in
    let pushed : c.push.new.self.items ≡ rows ++ one ∷ [] = c.in_ok-push.ensures.items in
    let count = inv.count in
    let both = length-append rows (one ∷ []) in
    let size : length c.push.new.self.items ≡ length (rows ++ one ∷ []) = ap (λ (rs : List (Vec Edge Global)). length rs) pushed in
    record {
      same = c.in_ok-row.ensures.same ∙ inv.same;
      patient = c.edges_from.ensures.patient ∙ inv.patient;
      count = omega arith;
      each = next_row c.args.explorer.now.kept c.loop-place.place rows c.push.new.self.items one count pushed inv.each
          (subst (λ (ms : List BufferedState). AreEdgesFrom ms c.loop-place.place one.items) inv.same c.in_ok-row.ensures.edges);
    }

pub returns-clause-edges : goal.returns-clause-edges
returns-clause-edges c =
    let count = c.loop-place.invariant.count in
    record { count = omega arith; each = c.loop-place.invariant.each }

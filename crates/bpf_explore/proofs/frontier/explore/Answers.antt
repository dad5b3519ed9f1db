use Rattle.std.proofs.Common.{◌≡◌, ◌∙◌, ◌++◌, ℕ, length, refl, sym, subst, arith}
use Rattle.bpf_explore.specs.Search.{row_of, rows_of}
use Rattle.bpf_explore.proofs.RowLaws.{one_more_row}
use Rattle.bpf_explore.proofs.SearchLaws.{none_expanded, next_expanded, all_expanded, covers_all}
use Rattle.bpf_explore.proofs.frontier.explore.Goals as goal

pub loop-next-init : goal.loop-next-init
loop-next-init g c =
    let frontier = c.args.frontier.now in record {
      far = none_expanded (g.F.Frontier.manner frontier) (g.F.Frontier.kept frontier);
      made = λ is. is;
      width = refl;
    }

pub loop-next-preserved : goal.loop-next-preserved
loop-next-preserved g c =
    let kept = g.F.Frontier.kept in
    let manner = g.F.Frontier.manner in
    let has_made = g.F.Frontier.has_made in
    let width = g.F.Frontier.width in
    let inv = c.loop-next.invariant in
    let first = c.args.frontier.now in
    let next = c.loop-next.next in
    let new = c.advance.new.frontier in record {
      far = next_expanded (manner first) (manner c.loop-next.frontier) (manner new) (kept first) (kept c.loop-next.frontier)
          (kept new) next inv.far (omega arith) c.advance.ensures.extends c.advance.ensures.same c.in-Ok.ensures.expanded;
      made = λ is. subst (has_made new) (one_more_row (width first) next)
          (subst (λ (n : ℕ). has_made new (rows_of (width first) next ++ row_of next n)) inv.width
          (c.in-Ok.ensures.made (rows_of (width first) next) (inv.made is)));
      width = c.advance.ensures.width ∙ inv.width;
    }

pub returns-clause-whole : goal.returns-clause-whole
returns-clause-whole g c all =
    let kept = g.F.Frontier.kept in
    let manner = g.F.Frontier.manner in
    all_expanded (manner c.args.frontier.now) (manner c.loop-next.frontier) (kept c.args.frontier.now) (kept c.loop-next.frontier)
    c.loop-next.next (omega arith) c.loop-next.invariant.far

pub returns-clause-covers : goal.returns-clause-covers
returns-clause-covers g c all =
    let kept = g.F.Frontier.kept in
    let manner = g.F.Frontier.manner in
    covers_all c.alike_sets_cover.ensures c.permuted_patient_sets_cover.ensures c.permuted_sets_cover.ensures (manner c.loop-next.frontier)
    (kept c.loop-next.frontier)
    (all_expanded (manner c.args.frontier.now) (manner c.loop-next.frontier) (kept c.args.frontier.now) (kept c.loop-next.frontier)
    c.loop-next.next (omega arith) c.loop-next.invariant.far)

pub returns-clause-made : goal.returns-clause-made
returns-clause-made g c all is =
    let has_made = g.F.Frontier.has_made in
    let width = g.F.Frontier.width in
    let inv = c.loop-next.invariant in
    let frontier = c.loop-next.frontier in
    let inside = inv.far.inside in
    let last : c.loop-next.next ≡ length (g.F.Frontier.kept frontier) = omega arith in
    subst (λ (n : ℕ). has_made frontier (rows_of (width frontier) n)) last
    (subst (λ (n : ℕ). has_made frontier (rows_of n c.loop-next.next)) (sym inv.width) (inv.made is))

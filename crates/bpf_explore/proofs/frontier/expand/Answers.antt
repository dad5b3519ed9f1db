use Rattle.std.proofs.Common.{◌≡◌, ◌∙◌, ◌++◌, ℕ, refl, sym, subst, append-nil, arith}
use Rattle.bpf_explore.specs.Search.{row_of}
use Rattle.bpf_explore.proofs.RowLaws.{one_more_turn}
use Rattle.bpf_explore.proofs.SearchLaws.{no_turn_yet, next_turned, all_turned}
use Rattle.bpf_explore.proofs.frontier.expand.Goals as goal

pub loop-cpu-init : goal.loop-cpu-init
loop-cpu-init g c =
    let frontier = c.args.frontier.now in record {
      far = no_turn_yet (g.F.Frontier.manner frontier) (g.F.Frontier.kept frontier) c.args.place;
      made = λ turns is. subst (g.F.Frontier.has_made frontier) (sym (append-nil turns)) is;
      width = refl;
    }

pub loop-cpu-preserved : goal.loop-cpu-preserved
loop-cpu-preserved g c =
    let kept = g.F.Frontier.kept in
    let manner = g.F.Frontier.manner in
    let inv = c.loop-cpu.invariant in
    let place = c.args.place in
    let cpu = c.loop-cpu.cpu in record {
      far = next_turned (manner c.args.frontier.now) (manner c.loop-cpu.frontier) (manner c.turn.new.self)
          (kept c.args.frontier.now) (kept c.loop-cpu.frontier) (kept c.turn.new.self) place cpu c.requires inv.far c.turn.ensures.extends
          c.turn.ensures.same c.in_ok-turn.ensures.turned;
      made = λ turns is. subst (g.F.Frontier.has_made c.turn.new.self) (one_more_turn turns place cpu)
          (c.in_ok-turn.ensures.made (turns ++ row_of place cpu) (inv.made turns is));
      width = c.turn.ensures.width ∙ inv.width;
    }

pub returns-clause-expanded : goal.returns-clause-expanded
returns-clause-expanded g c =
    let kept = g.F.Frontier.kept in
    let manner = g.F.Frontier.manner in
    all_turned (manner c.args.frontier.now) (manner c.loop-cpu.frontier) (kept c.args.frontier.now) (kept c.loop-cpu.frontier)
    c.args.place c.loop-cpu.cpu c.cpus-cpu-end.result c.requires c.cpus-cpu-end.ensures.idle (omega arith) c.loop-cpu.invariant.far

pub returns-clause-made : goal.returns-clause-made
returns-clause-made g c turns is =
    let last : c.loop-cpu.cpu ≡ c.cpus-cpu-end.result = omega arith in
    subst (λ (n : ℕ). g.F.Frontier.has_made c.loop-cpu.frontier (turns ++ row_of c.args.place n)) (last ∙ c.cpus-cpu-end.ensures.width)
    (c.loop-cpu.invariant.made turns is)

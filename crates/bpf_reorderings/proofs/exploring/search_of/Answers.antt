use Rattle.std.proofs.Common.{◌≡◌, ◌∷◌, [], map}
use Rattle.std.proofs.lemmas.Result.{IfOk-weaker}
use Rattle.bpf_pairs.specs.Pairs.{pair_of}
use Rattle.bpf_x86.specs.Machine.{drained}
use Rattle.bpf_jobs.specs.Printed.{first_of}
use Rattle.bpf_explore.proofs.ExploreLaws.{first_fresh}
use Rattle.bpf_reorderings.specs.Private.Searching.{Searched, BeginsAt}
use Rattle.bpf_reorderings.proofs.Reaching.{first_shown}
use Rattle.bpf_reorderings.proofs.exploring.search_of.Goals as goal

pub returns-clause-begins : goal.returns-clause-begins
returns-clause-begins c =
    let setup = c.args.setup in
    let m = c.in_ok-machine.machine in
    let shows = c.in_ok-machine.ensures in
    IfOk-weaker c.new.result (λ (e : Searched). e.kept ≡ m ∷ []) (λ (e : Searched). BeginsAt e.kept (first_of setup)) (λ e one. (
      first_fresh setup.shape m.machine (map pair_of setup.pairs.items) setup.programs.items setup.jobs.items c.requires.inputs shows.world,
      first_shown e.kept m (drained (first_of setup)) one shows,
    )) c.new.ensures.kept

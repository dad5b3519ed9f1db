use Rattle.std.proofs.Common.{map}
use Rattle.std.proofs.lemmas.Result.{IfOk-weaker}
use Rattle.bpf_jobs.specs.Printed.{first_of}
use Rattle.bpf_explore.specs.Album.{BeginsAt, PatientState, ShowsFirst}
use Rattle.bpf_explore.proofs.ExploreLaws.{first_fresh, first_shown}
use Rattle.bpf_pairs.specs.Pairs.{pair_of}
use Rattle.bpf_explore.proofs.opening.patient_search_of.Goals as goal

pub returns-clause-begins : goal.returns-clause-begins
returns-clause-begins c =
    let setup = c.args.setup in
    let m = c.in_ok-shape.machine in
    let shows = c.in_ok-shape.ensures.machine in
    IfOk-weaker c.new.result (λ (e : PatientState). ShowsFirst e.kept m) (λ (e : PatientState). BeginsAt e.kept (first_of setup)) (λ e one. (
      first_fresh setup.shape m (map pair_of setup.pairs.items) setup.programs.items setup.jobs.items c.requires.inputs shows,
      first_shown e.kept m (first_of setup) one shows,
    )) c.new.ensures.first

use Rattle.std.proofs.Common.{◌∙◌, Bool, false, ℕ, subst}
use Rattle.std.proofs.lemmas.Result.{IfOk-weaker}
use Rattle.bpf_names.specs.Names.{names_of}
use Rattle.bpf_machine.specs.Schedule.{World}
use Rattle.bpf_jobs.specs.Printed.{first_of}
use Rattle.bpf_explore.specs.declared.exploring.Explored.{Explored}
use Rattle.bpf_reorderings.specs.Outcomes.{IsExploredX86}
use Rattle.bpf_reorderings.specs.Private.Searching.{BeginsAt, CameTo, IsClosed}
use Rattle.bpf_reorderings.proofs.Reaching.{still_begins}
use Rattle.bpf_reorderings.proofs.exploring.explore_with_buffers.Goals as goal

pub conclude-requires : goal.conclude-requires
conclude-requires g c =
    let w = first_of c.args.setup in
    record {
      begins = (
        w,
        still_begins c.in_ok-explorer.explorer.kept c.explore-extent.new.self.kept w c.in_ok-explorer.ensures.begins
            c.explore-extent.ensures.extends,
      );
      patient = c.explore-extent.ensures.patient ∙ c.in_ok-explorer.ensures.patient;
    }

pub returns : goal.returns
returns g c =
    let w = first_of c.args.setup in
    let names = names_of c.args.names.now in
    let kept = c.explore-extent.new.self.kept in
    let extent = c.explore-extent.result in
    let begins : BeginsAt kept w = still_begins c.in_ok-explorer.explorer.kept kept w c.in_ok-explorer.ensures.begins c.explore-extent.ensures.extends in
    let came : CameTo false kept extent c.args.bounds.limit = record {
      whole = λ is. subst (λ (b : Bool). IsClosed b kept) c.in_ok-explorer.ensures.patient (c.explore-extent.ensures.whole is);
      met = c.explore-extent.ensures.met;
      short
          = c.explore-extent.ensures.short;
    } in
    IfOk-weaker c.conclude.result (λ (e : Explored). (v : World) (n : ℕ) → BeginsAt kept v → CameTo false kept extent n → IsExploredX86 v names
    c.args.maps n e) (λ (e : Explored). IsExploredX86 w names c.args.maps c.args.bounds.limit e)
    (λ e found. found w c.args.bounds.limit begins came) c.conclude.ensures

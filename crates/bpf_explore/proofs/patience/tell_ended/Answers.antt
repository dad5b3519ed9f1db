use Rattle.std.proofs.Common.{◌≡◌, ◌∙◌, ◌<◌, ℕ, List, Some, length, string_bytes, sym, ap, subst}
use Rattle.std.specs.Prelude.{slice_get, IfSome}
use Rattle.bpf_names.specs.Names.{names_of}
use Rattle.bpf_machine.specs.Machine.{MachineState, Shows}
use Rattle.bpf_machine.specs.Schedule.{World}
use Rattle.bpf_jobs.specs.Printed.{lines_of_lists, TellsWith}
use Rattle.bpf_explore.specs.Album.{HaveEndedAt}
use Rattle.bpf_explore.specs.Outcomes.{Found}
use Rattle.bpf_explore.specs.Patient.{EndsPatiently}
use Rattle.bpf_explore.specs.Private.Answers.{AreSorted, IsPlaceOf, StartsFresh}
use Rattle.bpf_explore.specs.Private.Patience.{LeadsInBudget}
use Rattle.bpf_explore.proofs.TellLaws.{answered_by, ends_in_budget, stopped_same_in_budget}
use Rattle.bpf_explore.proofs.patience.tell_ended.Goals as goal

pub place_of-requires : goal.place_of-requires
place_of-requires c = subst AreSorted (sym c.deref.ensures.value) c.requires.sorted

pub returns-in-Ok-clause-answered : goal.returns-in-Ok-clause-answered
returns-in-Ok-clause-answered c is =
    let names = names_of c.args.names.now in
    let maps = c.args.maps in
    let kept = c.args.spread.now.kept in
    let m = c.restore.new.self.machine in
    let text = string_bytes c.in_ok-text.field-0.text in
    let stopped = c.in_ok-text.field-0.stopped in
    let at = c.in_ok-restore.ensures.ok in
    let none = c.machine.ensures.lists in
    let told : (w : World) → Shows m w → TellsWith (lines_of_lists w names.maps) w.store w.jobs names maps text stopped = λ w shows.
    c.in_ok-text.ensures w (subst (λ (n : MachineState). Shows n w) (sym c.machine.ensures.machine) shows) in
    let found = c.in-Ok.ensures.found in
    let first = c.requires.fresh in
    let there : slice_get c.args.answers.now.items c.in-Ok.field-0 ≡ Some found.0 = ap (λ (xs : List Found). slice_get xs c.in-Ok.field-0)
    (sym c.deref.ensures.value) ∙ found.1 in
    let same : found.0.text ≡ text = found.2 ∙ c.as_str.ensures.value in
    let stop = stopped_same_in_budget kept m names maps c.args.place text stopped at none c.requires.ended told c.args.answers.now.items
    c.in-Ok.field-0 found.0 first.0 c.leads.ensures c.requires.place first.2 (c.requires.ends first.0 first.2) there same in
    answered_by kept m names maps c.args.answers.now.items c.args.place c.in-Ok.field-0 found.0 text stopped at none told there same stop

pub way_in_budget-requires : goal.way_in_budget-requires
way_in_budget-requires c =
    let same = sym c.restore.ensures.same in
    record {
      place = subst (λ (kept : List MachineState). c.args.place < length kept) same c.requires.place;
      fresh = subst StartsFresh same c.requires.fresh;
      ended = subst (λ (kept : List MachineState). HaveEndedAt kept c.args.place) same c.requires.ended;
    }

pub put_patiently-requires-clause-place : goal.put_patiently-requires-clause-place
put_patiently-requires-clause-place c =
    subst (λ (t : List ℕ). IsPlaceOf c.args.answers.now.items t c.in-Err.at) (c.as_str.ensures.value ∙ sym (ap (λ (f : Found). f.text) c.new.ensures))
    (subst (λ (xs : List Found). IsPlaceOf xs c.as_str.result.now c.in-Err.at) c.deref.ensures.value c.in-Err.ensures.between)

pub returns-in_ok-put_patiently-in-Err-clause-ends : goal.returns-in_ok-put_patiently-in-Err-clause-ends
returns-in_ok-put_patiently-in-Err-clause-ends c w first =
    let names = names_of c.args.names.now in
    let maps = c.args.maps in
    let kept = c.args.spread.now.kept in
    let m = c.restore.new.self.machine in
    let text = string_bytes c.in_ok-text.field-0.text in
    let stopped = c.in_ok-text.field-0.stopped in
    let at = c.in_ok-restore.ensures.ok in
    let none = c.machine.ensures.lists in
    let told : (w : World) → Shows m w → TellsWith (lines_of_lists w names.maps) w.store w.jobs names maps text stopped = λ w shows.
    c.in_ok-text.ensures w (subst (λ (n : MachineState). Shows n w) (sym c.machine.ensures.machine) shows) in
    let by = c.in-Some.by.items in
    let leads = subst (λ (ms : List MachineState). LeadsInBudget ms by c.args.place) c.restore.ensures.same
    (subst (λ o. IfSome o (λ v. LeadsInBudget c.restore.new.self.kept v.items c.args.place)) c.in-Some.is c.in_ok-by-in-Err.ensures.leads) in
    c.put_patiently.ensures.ends w names maps (subst (EndsPatiently w names maps) (sym c.new.ensures)
    (ends_in_budget kept m names maps c.args.place text stopped at none c.requires.ended told by leads w first)) (c.requires.ends w first)

pub returns-in_err-put_patiently-in-Err-clause-ends : goal.returns-in_err-put_patiently-in-Err-clause-ends
returns-in_err-put_patiently-in-Err-clause-ends c w first =
    let names = names_of c.args.names.now in
    let maps = c.args.maps in
    let kept = c.args.spread.now.kept in
    let m = c.restore.new.self.machine in
    let text = string_bytes c.in_ok-text.field-0.text in
    let stopped = c.in_ok-text.field-0.stopped in
    let at = c.in_ok-restore.ensures.ok in
    let none = c.machine.ensures.lists in
    let told : (w : World) → Shows m w → TellsWith (lines_of_lists w names.maps) w.store w.jobs names maps text stopped = λ w shows.
    c.in_ok-text.ensures w (subst (λ (n : MachineState). Shows n w) (sym c.machine.ensures.machine) shows) in
    let by = c.in-Some.by.items in
    let leads = subst (λ (ms : List MachineState). LeadsInBudget ms by c.args.place) c.restore.ensures.same
    (subst (λ o. IfSome o (λ v. LeadsInBudget c.restore.new.self.kept v.items c.args.place)) c.in-Some.is c.in_ok-by-in-Err.ensures.leads) in
    c.put_patiently.ensures.ends w names maps (subst (EndsPatiently w names maps) (sym c.new.ensures)
    (ends_in_budget kept m names maps c.args.place text stopped at none c.requires.ended told by leads w first)) (c.requires.ends w first)

pub returns-in_ok-put_patiently-in-Err-clause-answered : goal.returns-in_ok-put_patiently-in-Err-clause-answered
returns-in_ok-put_patiently-in-Err-clause-answered c is =
    let names = names_of c.args.names.now in
    let maps = c.args.maps in
    let kept = c.args.spread.now.kept in
    let m = c.restore.new.self.machine in
    let text = string_bytes c.in_ok-text.field-0.text in
    let stopped = c.in_ok-text.field-0.stopped in
    let at = c.in_ok-restore.ensures.ok in
    let none = c.machine.ensures.lists in
    let told : (w : World) → Shows m w → TellsWith (lines_of_lists w names.maps) w.store w.jobs names maps text stopped = λ w shows.
    c.in_ok-text.ensures w (subst (λ (n : MachineState). Shows n w) (sym c.machine.ensures.machine) shows) in
    let answer = c.new.result in
    answered_by kept m names maps c.put_patiently.new.answers.items c.args.place c.in-Err.at answer text stopped at none told
    c.in_ok-put_patiently-in-Err.ensures.put (ap (λ (f : Found). f.text) c.new.ensures) (ap (λ (f : Found). f.stopped) c.new.ensures)

pub returns-in_err-restore-clause-keeps : goal.returns-in_err-restore-clause-keeps
returns-in_err-restore-clause-keeps c i found at = (i, at)

pub returns-in_err-restore-clause-ends : goal.returns-in_err-restore-clause-ends
returns-in_err-restore-clause-ends c w first = c.requires.ends w first

pub returns-in_err-restore-clause-sorted : goal.returns-in_err-restore-clause-sorted
returns-in_err-restore-clause-sorted c = c.requires.sorted

pub returns-in_err-text-clause-keeps : goal.returns-in_err-text-clause-keeps
returns-in_err-text-clause-keeps c i found at = (i, at)

pub returns-in_err-text-clause-ends : goal.returns-in_err-text-clause-ends
returns-in_err-text-clause-ends c w first = c.requires.ends w first

pub returns-in_err-text-clause-sorted : goal.returns-in_err-text-clause-sorted
returns-in_err-text-clause-sorted c = c.requires.sorted

pub returns-in_err-by-in-Err-clause-keeps : goal.returns-in_err-by-in-Err-clause-keeps
returns-in_err-by-in-Err-clause-keeps c i found at = (i, at)

pub returns-in_err-by-in-Err-clause-ends : goal.returns-in_err-by-in-Err-clause-ends
returns-in_err-by-in-Err-clause-ends c w first = c.requires.ends w first

pub returns-in_err-by-in-Err-clause-sorted : goal.returns-in_err-by-in-Err-clause-sorted
returns-in_err-by-in-Err-clause-sorted c = c.requires.sorted

pub returns-in_default-clause-keeps : goal.returns-in_default-clause-keeps
returns-in_default-clause-keeps c i found at = (i, at)

pub returns-in_default-clause-ends : goal.returns-in_default-clause-ends
returns-in_default-clause-ends c w first = c.requires.ends w first

pub returns-in_default-clause-sorted : goal.returns-in_default-clause-sorted
returns-in_default-clause-sorted c = c.requires.sorted

pub returns-in-Ok-clause-keeps : goal.returns-in-Ok-clause-keeps
returns-in-Ok-clause-keeps c i found at = (i, at)

pub returns-in-Ok-clause-ends : goal.returns-in-Ok-clause-ends
returns-in-Ok-clause-ends c w first = c.requires.ends w first

pub returns-in-Ok-clause-sorted : goal.returns-in-Ok-clause-sorted
returns-in-Ok-clause-sorted c = c.requires.sorted

pub returns-in_err-restore-clause-same : goal.returns-in_err-restore-clause-same
returns-in_err-restore-clause-same c = c.restore.ensures.same

pub returns-in_err-text-clause-same : goal.returns-in_err-text-clause-same
returns-in_err-text-clause-same c = c.restore.ensures.same

pub returns-in-Ok-clause-same : goal.returns-in-Ok-clause-same
returns-in-Ok-clause-same c = c.restore.ensures.same

pub returns-in_err-by-in-Err-clause-same : goal.returns-in_err-by-in-Err-clause-same
returns-in_err-by-in-Err-clause-same c = c.way_in_budget.ensures.same ∙ c.restore.ensures.same

pub returns-in_default-clause-same : goal.returns-in_default-clause-same
returns-in_default-clause-same c = c.way_in_budget.ensures.same ∙ c.restore.ensures.same

pub returns-in_err-put_patiently-in-Err-clause-same : goal.returns-in_err-put_patiently-in-Err-clause-same
returns-in_err-put_patiently-in-Err-clause-same c = c.way_in_budget.ensures.same ∙ c.restore.ensures.same

pub returns-in_ok-put_patiently-in-Err-clause-same : goal.returns-in_ok-put_patiently-in-Err-clause-same
returns-in_ok-put_patiently-in-Err-clause-same c = c.way_in_budget.ensures.same ∙ c.restore.ensures.same

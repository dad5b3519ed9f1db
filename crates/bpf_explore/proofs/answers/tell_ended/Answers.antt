use Rattle.std.proofs.Common.{◌≡◌, ◌∙◌, ◌<◌, ℕ, List, Some, length, string_bytes, refl, sym, ap, subst}
use Rattle.std.specs.Prelude.{slice_get}
use Rattle.bpf_names.specs.Names.{names_of}
use Rattle.bpf_machine.specs.Machine.{MachineState, Shows}
use Rattle.bpf_machine.specs.Schedule.{World, unrolled}
use Rattle.bpf_jobs.specs.Printed.{lines_of_lists, TellsWith}
use Rattle.bpf_explore.specs.Album.{LeadsFrom}
use Rattle.bpf_explore.specs.Outcomes.{Found}
use Rattle.bpf_explore.specs.Private.Answers.{AreSorted, IsPlaceOf}
use Rattle.bpf_explore.proofs.TellLaws.{answered_by, ends_by, stopped_same}
use Rattle.bpf_explore.proofs.answers.tell_ended.Goals as goal

pub place_of-requires : goal.place_of-requires
place_of-requires c = subst AreSorted (sym c.deref.ensures.value) c.requires.sorted

pub returns-in-Ok-clause-answered : goal.returns-in-Ok-clause-answered
returns-in-Ok-clause-answered c =
    let names = names_of c.args.names.now in
    let maps = c.args.maps in
    let kept = c.args.spread.now.kept in
    let m = c.restore.new.self.machine in
    let text = string_bytes c.in_ok-text.field-0.text in
    let stopped = c.in_ok-text.field-0.stopped in
    let at = c.in_ok-restore.ensures.ok in
    let none = c.machine.ensures.lists in
    let told : (w : World) → Shows m w → TellsWith (lines_of_lists w names.maps) w.store w.jobs names maps text stopped = λ w shows.
    c.in_ok-text.ensures w (subst (λ (n : MachineState). Shows n w) (sym c.machine.ensures.machine) shows) in
    let found = c.in-Ok.ensures.found in
    let there : slice_get c.args.answers.now.items c.in-Ok.field-0 ≡ Some found.0 = ap (λ (xs : List Found). slice_get xs c.in-Ok.field-0)
    (sym c.deref.ensures.value) ∙ found.1 in
    let same : found.0.text ≡ text = found.2 ∙ c.as_str.ensures.value in
    let stop = stopped_same kept m names maps c.args.place text stopped at none c.requires.ended told c.args.answers.now.items
    c.in-Ok.field-0 found.0 c.leads.ensures c.requires.place c.requires.first c.requires.ends there same in
    answered_by kept m names maps c.args.answers.now.items c.args.place c.in-Ok.field-0 found.0 text stopped at none told there same stop

pub way-requires : goal.way-requires
way-requires c = subst (λ (kept : List MachineState). c.args.place < length kept) (sym c.restore.ensures.same) c.requires.place

pub put_answer-requires : goal.put_answer-requires
put_answer-requires c = record {
  sorted = c.requires.sorted;
  place = subst (λ (t : List ℕ). IsPlaceOf c.args.answers.now.items t c.in-Err.at) c.as_str.ensures.value
      (subst (λ (xs : List Found). IsPlaceOf xs c.as_str.result.now c.in-Err.at) c.deref.ensures.value c.in-Err.ensures.between);
}

pub returns-in_ok-put_answer-in-Err-clause-ends : goal.returns-in_ok-put_answer-in-Err-clause-ends
returns-in_ok-put_answer-in-Err-clause-ends c w first =
    let names = names_of c.args.names.now in
    let maps = c.args.maps in
    let kept = c.args.spread.now.kept in
    let m = c.restore.new.self.machine in
    let text = string_bytes c.in_ok-text.field-0.text in
    let stopped = c.in_ok-text.field-0.stopped in
    let at = c.in_ok-restore.ensures.ok in
    let none = c.machine.ensures.lists in
    let told : (w : World) → Shows m w → TellsWith (lines_of_lists w names.maps) w.store w.jobs names maps text stopped = λ w shows.
    c.in_ok-text.ensures w (subst (λ (n : MachineState). Shows n w) (sym c.machine.ensures.machine) shows) in
    let by = c.in_ok-by-in-Err.by.items in
    let leads = subst (λ (ms : List MachineState). LeadsFrom ms 0 (unrolled by) c.args.place) c.restore.ensures.same c.in_ok-by-in-Err.ensures in
    c.put_answer.ensures.ends w names maps (ends_by kept m names maps c.args.place text stopped at none c.requires.ended told by leads w
    first) (c.requires.ends w first)

pub returns-in_ok-put_answer-in-Err-clause-answered : goal.returns-in_ok-put_answer-in-Err-clause-answered
returns-in_ok-put_answer-in-Err-clause-answered c =
    let names = names_of c.args.names.now in
    let maps = c.args.maps in
    let kept = c.args.spread.now.kept in
    let m = c.restore.new.self.machine in
    let text = string_bytes c.in_ok-text.field-0.text in
    let stopped = c.in_ok-text.field-0.stopped in
    let at = c.in_ok-restore.ensures.ok in
    let none = c.machine.ensures.lists in
    let told : (w : World) → Shows m w → TellsWith (lines_of_lists w names.maps) w.store w.jobs names maps text stopped = λ w shows.
    c.in_ok-text.ensures w (subst (λ (n : MachineState). Shows n w) (sym c.machine.ensures.machine) shows) in
    let found : Found = record { text = text; stopped = stopped; by = c.in_ok-by-in-Err.by.items } in
    answered_by kept m names maps c.put_answer.new.answers.items c.args.place c.in-Err.at found text stopped at none told
    c.in_ok-put_answer-in-Err.ensures.put refl refl

pub returns-in_err-restore-clause-same : goal.returns-in_err-restore-clause-same
returns-in_err-restore-clause-same c = c.restore.ensures.same
